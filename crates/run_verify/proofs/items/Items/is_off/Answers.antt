use Rattle.std.proofs.Common.{◌+◌, ◌-◌, List, ℕ, drop, subst, take}
use Rattle.group_types.specs.Dimensions.{space_of}
use Rattle.memchr.specs.Find.{IsFirstByte, is_byte}
use Rattle.run_verify.specs.Items.{item_runs_of}
use Rattle.run_verify.proofs.Marking.{off_asked}
use Rattle.run_verify.proofs.items.Items.is_off.Goals as goal

pub returns : goal.returns
returns c =
    let found = subst
    (λ (ms : List ℕ). IsFirstByte (is_byte 1)
    (take (c.args.run.at + c.args.run.len - c.args.run.at) (drop c.args.run.at ms)) c.memchr.result)
    c.deref.ensures.value c.memchr.ensures in
    off_asked (space_of c.args.self.now.shape) (item_runs_of c.args.self.now) c.args.self.now.marks.items c.requires.marked
    c.args.run c.requires.inside c.memchr.result c.is_none.result c.is_none.ensures found
