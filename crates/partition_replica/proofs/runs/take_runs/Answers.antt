use Rattle.partition_replica.proofs.Moving.{taking_start, taking_end}
use Rattle.partition_replica.proofs.runs.take_runs.Goals as goal

pub updates-init : goal.updates-init
updates-init c = record {
  steps = (tt, tt);
  taking = rw (c.into_iter-update-iterator.ensures.into_iter_gives, c.iter-update-items.ensures.rest) (taking_start _ _ c.requires.free);
}

pub returns : goal.returns
returns c = taking_end _ _ _ _ c.updates.invariant.taking c.in-None.ensures.steps.0
