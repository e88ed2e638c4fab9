use Rattle.std.proofs.Common.{List, ℕ}
use Rattle.std.specs.BTreeMap.{get}
use Rattle.std.specs.Cmp.Lexicographic.{slice_cmp}
use Rattle.std.specs.Ordering.{nat_cmp}
use Rattle.group_types.specs.Dimensions.{space_of}
use Rattle.run_verify.specs.Items.{item_runs_of}
use Rattle.run_verify.proofs.Marking.{remove_marked, some_inside}
use Rattle.run_verify.proofs.items.Items.remove.Goals as goal

pub clear-requires : goal.clear-requires
clear-requires c = record {
  inside = some_inside (space_of c.args.self.now.shape) (item_runs_of c.args.self.now) c.args.self.now.marks.items
      c.requires.marked c.args.key.now c.remove-old.result c.remove-old.ensures.value;
}

pub returns-clause-marked : goal.returns-clause-marked
returns-clause-marked c =
    remove_marked (space_of c.args.self.now.shape) (item_runs_of c.args.self.now)
    (λ (key : List ℕ). get (slice_cmp nat_cmp) c.remove-old.new.self key) c.args.self.now.marks.items
    c.requires.marked
    c.args.key.now c.remove-old.result c.remove-old.ensures.value c.clear.new.marks.items c.remove-old.ensures.updates.0 c.clear.ensures.marks
