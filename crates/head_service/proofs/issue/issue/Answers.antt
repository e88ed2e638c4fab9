use Rattle.std.proofs.Common.{◌∷◌, [], false}
use Rattle.group_types.specs.Lists.{same_key}
use Rattle.partition_replica.specs.State.{is_needed, is_touched}
use Rattle.head_service.proofs.Seat.{stands-as}
use Rattle.head_service.proofs.Tidying.{tidied}
use Rattle.head_service.proofs.issue.issue.Goals as goal

pub returns-in-Err-clause-seat : goal.returns-in-Err-clause-seat
returns-in-Err-clause-seat g c = record {
  stands = stands-as c.prepare.ensures.seat.stands c.tidy.ensures.shape c.tidy.ensures.replica;
  tidy = λ q ready. tidied (is_needed c.tidy.new.self.replica.items c.tidy.new.self.replica.log q) false (same_key c.args.update.key q) false
      (c.tidy.ensures.owed (is_touched (c.args.update ∷ [])) c.prepare.ensures.seat.tidy q ready);
}
