use Rattle.std.proofs.Common.{◌≡◌, replicate}
use Rattle.group_member.specs.Callers.{no_caller}
use Rattle.group_member.proofs.own_callers.OwnCallers.new.Given as goal

abbrev pub invariant-callers : goal.invariant-callers
invariant-callers l = l.states.items ≡ replicate l.counter no_caller
