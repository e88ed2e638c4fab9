use Rattle.std.proofs.Common.{false}
use Rattle.group_run.specs.Replica.{up_to}
use Rattle.head_service.proofs.Seat.{stands-as}
use Rattle.follower_service.proofs.Following.{settled-owed}
use Rattle.follower_service.proofs.apply.apply.Goals as goal

pub returns-clause-seat : goal.returns-clause-seat
returns-clause-seat g c = record {
  stands = stands-as c.settle_to.ensures.stands c.tidy.ensures.shape c.tidy.ensures.replica;
  tidy = c.tidy.ensures.owed (λ _. false)
      (settled-owed c.settle_to.new.replica c.args.partition.0 (up_to c.args.number c.args.replica.now.replica)
      c.args.room.items c.settle_to.new.settled.items c.deref.result.now
      c.requires.room.empty c.settle_to.ensures.settled.settled c.deref.ensures.value (λ _. false)
      (c.settle_to.ensures.owed (λ _. false) c.requires.seat.tidy));
}
