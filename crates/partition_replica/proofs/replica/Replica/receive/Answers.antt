use Rattle.partition_replica.proofs.Owed.{tidy_received}
use Rattle.partition_replica.specs.Inside.{state_in}
use Rattle.partition_replica.proofs.Agree.{agrees_received}
use Rattle.partition_replica.proofs.replica.Replica.receive.Goals as goal

pub invariant_of-self : goal.invariant_of-self
invariant_of-self c =
    rw (c.push.ensures.applied, c.push.ensures.updates, c.push.ensures.spare)
    (agrees_received _ c.args.update c.self.inside.runs c.take_run.new.runs c.self.inside.log.spare c.self.invariant
    (rw (← c.self.view_is) at c.requires.fits) (rw (← c.self.view_is) at c.requires.room)
    (rw c.run_of.ensures at c.take_run.ensures))

pub returns-clause-owed : goal.returns-clause-owed
returns-clause-owed c owed tidy q is =
    let was = rw (← c.self.view_is) at tidy in
    rw c.push.ensures.updates
    (tidy_received (state_in c.self.inside.shape c.self.inside.index c.self.inside.log c.self.inside.kept.items
    c.self.inside.spare) c.args.update owed was q is)
