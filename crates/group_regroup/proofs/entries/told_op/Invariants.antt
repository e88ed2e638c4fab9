use Rattle.std.proofs.Common.{◌≡◌, drop}
use Rattle.group_calls.specs.Turns.{name_of}
use Rattle.group_regroup.specs.Kept.{op_asked}
use Rattle.group_regroup.proofs.entries.told_op.Given as goal

abbrev pub invariant-lowered : goal.invariant-lowered
invariant-lowered l = op_asked l.fn.lowered l.fn.place (name_of l.fn.entry) ≡ op_asked (drop l.asked-index l.fn.lowered) l.fn.place (name_of l.fn.entry)
