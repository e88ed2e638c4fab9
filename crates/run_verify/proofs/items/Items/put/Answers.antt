use Rattle.std.proofs.Common.{List, ℕ, ◌∙◌, ap}
use Rattle.std.specs.BTreeMap.{get}
use Rattle.std.specs.Cmp.Lexicographic.{slice_cmp}
use Rattle.std.specs.Ordering.{nat_cmp}
use Rattle.group_types.specs.Dimensions.{space_of}
use Rattle.run_verify.specs.Items.{filled, item_runs_of}
use Rattle.run_verify.proofs.Marking.{put_marked, some_inside}
use Rattle.run_verify.proofs.items.Items.put.Goals as goal

pub clear-requires : goal.clear-requires
clear-requires c = record {
  inside = some_inside (space_of c.args.self.now.shape) (item_runs_of c.args.self.now) c.args.self.now.marks.items
      c.requires.marked c.in_ok-clone.field-0 c.in_ok-old.old c.in_ok-old.ensures.old;
}

pub returns-clause-marked : goal.returns-clause-marked
returns-clause-marked c =
    put_marked (space_of c.args.self.now.shape) (item_runs_of c.args.self.now)
    (λ (key : List ℕ). get (slice_cmp nat_cmp) c.insert.new.self key) c.args.self.now.marks.items c.requires.marked
    c.in_ok-clone.field-0 c.in_ok-old.old c.in_ok-old.ensures.old c.fill.new.marks.items c.args.run c.requires.inside
    c.requires.off c.in_ok-old.ensures.updates.0
    (c.fill.ensures.marks ∙ ap (filled 1 c.args.run) c.clear.ensures.marks)
