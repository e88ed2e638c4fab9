use Rattle.std.proofs.Common.{◌||◌, [], ◌∷◌, false, List, sym, subst}
use Rattle.group_message.specs.declared.update.Update.{Update}
use Rattle.group_run.specs.Replica.{up_to}
use Rattle.partition_replica.specs.State.{IsTidyBut, is_touched}
use Rattle.head_service.proofs.Seat.{stands-as, stands-with}
use Rattle.follower_service.proofs.Following.{received-tidy, settled-owed}
use Rattle.follower_service.proofs.follow.follow.Goals as goal

pub returns-in-Ok-clause-seat : goal.returns-in-Ok-clause-seat
returns-in-Ok-clause-seat g c =
    let us : List Update = up_to c.args.stable c.for_update.new.replica.replica in
    let copy : Update = c.in-Ok.field-0.copy in
    record {
      stands = stands-as (stands-with {s = c.receive.new.self} c.settle_to.ensures.stands copy c.receive.ensures.shape c.receive.ensures.replica
          (c.settle_to.ensures.stays.kept c.args.partition.0 copy
          (subst ((g.B.Beneath.storage c.for_update.new.below).is_ready c.args.partition.0) (sym c.in-Ok.ensures.copy) c.in-Ok.ensures.ready.1)))
          c.tidy.ensures.shape c.tidy.ensures.replica;
      tidy = c.tidy.ensures.owed (λ _. false)
          (settled-owed c.receive.new.self c.args.partition.0 us c.in-Ok.field-0.room.items c.settle_to.new.settled.items c.deref.result.now
          c.in-Ok.ensures.room.empty c.settle_to.ensures.settled.settled c.deref.ensures.value (λ _. false)
          (received-tidy c.settle_to.new.replica c.receive.new.self copy (is_touched us) c.receive.ensures.replica
          (c.receive.ensures.owed (λ q. (false || is_touched (copy ∷ []) q) || is_touched us q)
          (c.settle_to.ensures.owed (λ q. false || is_touched (copy ∷ []) q)
          (subst (λ (u : Update). IsTidyBut c.for_update.new.replica (λ q. false || is_touched (u ∷ []) q)) (sym c.in-Ok.ensures.copy)
          c.for_update.ensures.seat.tidy)))));
    }

pub returns-in-Err-clause-seat : goal.returns-in-Err-clause-seat
returns-in-Err-clause-seat g c = record {
  stands = stands-as c.for_update.ensures.seat.stands c.tidy_all.ensures.shape c.tidy_all.ensures.replica;
  tidy = c.tidy_all.ensures.owed (λ _. false)
      (subst (λ (us : List Update). IsTidyBut c.for_update.new.replica (λ q. false || is_touched us q)) (sym c.from_ref.ensures.value)
      c.for_update.ensures.seat.tidy);
}
