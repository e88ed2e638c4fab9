use Rattle.std.proofs.Common.{◌-◌}
use Rattle.group_regroup.proofs.Tries.{Trying}
use Rattle.group_regroup.proofs.getting.ask.Given as goal

abbrev pub invariant-tries : goal.invariant-tries
invariant-tries l = Trying l.fn.world l.fn.event l.world l.value (l.fn.world.shape.blocks - l.counter)
