use Rattle.std.proofs.Common.{◌≡◌}
use Rattle.std.specs.VecDeque.Iter.{deque_iter_rest}
use Rattle.partition_replica.specs.Coming.{item_run_on}
use Rattle.partition_replica.proofs.Behind.{runs_to}
use Rattle.partition_replica.proofs.replica.Replica.run_once.Given as goal

abbrev pub invariant-updates : goal.invariant-updates
invariant-updates l = record {
  steps : (goal.iterator-updates).can_next l.update-iterator × (goal.iterator-updates).is_finite l.update-iterator;
  left : runs_to l.stable l.key (deque_iter_rest l.update-iterator) l.run ≡ runs_to l.stable l.key l.self.replica.log (item_run_on l.self.replica.items l.key);
}
