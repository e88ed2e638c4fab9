use Rattle.std.proofs.Common.{ap, ◌∙◌}
use Rattle.group_types.specs.Dimensions.{space_of}
use Rattle.partition_replica.specs.Inside.{replica_in}
use Rattle.partition_replica.proofs.Behind.{run_lent, run_once_is, runs_end, runs_to}
use Rattle.partition_replica.proofs.Coming.{sound_applied}
use Rattle.partition_replica.proofs.Keys.{items_in-sorted}
use Rattle.partition_replica.proofs.replica.Replica.run_once.Goals as goal

pub updates-init : goal.updates-init
updates-init c = record {
  steps = (tt, tt);
  left = rw (c.into_iter-update-iterator.ensures.into_iter_gives, c.iter-update-items.ensures.rest, ← c.self.view_is)
      (ap (runs_to c.args.stable c.args.key.now c.self.inside.log.updates)
      (c.run_in-run.ensures ∙ run_lent c.self.inside.index c.args.key.now _ c.get.ensures));
}

pub returns-clause-run : goal.returns-clause-run
returns-clause-run c =
    let replica = replica_in c.self.inside.index c.self.inside.log c.self.inside.kept.items in
    let left = rw (← c.self.view_is) at c.updates.invariant.left in
    rw (← c.self.view_is)
    (runs_end c.args.stable c.args.key.now _ c.updates.run _ c.in-None.ensures.steps.0 left
    ∙ run_once_is c.args.stable replica c.args.key.now c.iter-update-items.ensures.numbered)

pub returns-clause-sound : goal.returns-clause-sound
returns-clause-sound c =
    let replica = replica_in c.self.inside.index c.self.inside.log c.self.inside.kept.items in
    rw (← c.self.view_is) (sound_applied (space_of c.self.inside.shape) c.args.stable replica (items_in-sorted c.self.inside.index) c.self.invariant.sound)
