use Rattle.partition_replica.proofs.Owed.{tidy_tidied}
use Rattle.partition_replica.specs.Inside.{state_in}
use Rattle.partition_replica.proofs.Agree.{agrees_tidied}
use Rattle.partition_replica.proofs.replica.Replica.tidy.Goals as goal

pub invariant_of-self : goal.invariant_of-self
invariant_of-self c =
    rw c.tidy.ensures.items (agrees_tidied _ c.self.inside.runs c.self.inside.log.spare _ c.args.key.now
    c.self.invariant c.tidy.ensures.ready)

pub returns-clause-owed : goal.returns-clause-owed
returns-clause-owed c owed tidy q is =
    let was = rw (← c.self.view_is) at tidy in
    rw c.tidy.ensures.items
    (tidy_tidied (state_in c.self.inside.shape c.self.inside.index c.self.inside.log c.self.inside.kept.items
    c.self.inside.spare) _ c.args.key.now owed c.tidy.ensures.ready was q is)
