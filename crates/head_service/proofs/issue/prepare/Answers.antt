use Rattle.std.proofs.Common.{false}
use Rattle.head_service.proofs.Seat.{stands-more}
use Rattle.head_service.proofs.issue.prepare.Goals as goal

pub returns-in_err-make_room-clause-seat : goal.returns-in_err-make_room-clause-seat
returns-in_err-make_room-clause-seat g c = record {
  stands = stands-more c.requires.seat.seat.stands c.make_room.ensures.shape c.make_room.ensures.same.replica
      c.make_room.ensures.makes c.make_room.ensures.same.process;
  tidy = c.make_room.ensures.owed (λ _. false) c.requires.seat.seat.tidy;
}

pub returns-clause-seat : goal.returns-clause-seat
returns-clause-seat g c = record {
  stands = stands-more c.requires.seat.seat.stands c.make_room.ensures.shape c.make_room.ensures.same.replica
      c.make_room.ensures.makes c.make_room.ensures.same.process;
  tidy = c.make_room.ensures.owed (λ _. false) c.requires.seat.seat.tidy;
}
