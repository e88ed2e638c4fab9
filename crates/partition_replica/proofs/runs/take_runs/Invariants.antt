use Rattle.std.specs.VecDeque.Iter.{deque_iter_rest}
use Rattle.partition_replica.proofs.Moving.{Taking}
use Rattle.partition_replica.proofs.runs.take_runs.Given as goal

abbrev pub invariant-updates : goal.invariant-updates
invariant-updates l = record {
  steps : (goal.iterator-updates).can_next l.update-iterator × (goal.iterator-updates).is_finite l.update-iterator;
  taking : Taking l.initial.runs l.runs l.log.updates (deque_iter_rest l.update-iterator);
}
