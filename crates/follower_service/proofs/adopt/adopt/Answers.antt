use Rattle.std.proofs.Common.{ℕ, ◌||◌, false, List, ap, sym, subst, ◌∙◌}
use Rattle.group_message.specs.declared.update.Update.{Update}
use Rattle.group_run.specs.Replica.{applied_to, up_to}
use Rattle.partition_replica.specs.State.{IsTidyBut, is_touched}
use Rattle.request_log.specs.Logged.{IsNumbered}
use Rattle.head_service.proofs.Seat.{stands-as}
use Rattle.follower_service.proofs.Following.{numbered, settled-owed, stands-adopted}
use Rattle.follower_service.proofs.adopt.adopt.Goals as goal

pub adopt-requires-clause-numbers : goal.adopt-requires-clause-numbers
adopt-requires-clause-numbers g c =
    subst (IsNumbered (λ (u : Update). u.number) c.args.base) (sym c.in-Ok.ensures.copy) (numbered c.args.base c.args.list.now c.requires.fits.numbers)

pub returns-in-Ok-clause-seat : goal.returns-in-Ok-clause-seat
returns-in-Ok-clause-seat g c =
    let us : List Update = up_to c.args.base c.for_list.new.replica.replica in
    let owed = λ (q : List ℕ). false || is_touched c.args.list.now q in
    record {
      stands = stands-as
          (stands-as {s = c.tidy.new.replica} (stands-adopted {s = c.adopt.new.self} c.args.replica.now.replica
          c.args.base c.args.list.now c.in-Ok.field-0.copy c.settle_to.ensures.stands c.requires.fits.reached
          (c.settle_to.ensures.settled.applied.replica ∙ ap (applied_to c.args.base) c.for_list.ensures.same.replica) c.in-Ok.ensures.copy
          c.adopt.ensures.shape c.adopt.ensures.replica (λ k u lt. c.settle_to.ensures.stays.kept c.args.partition.0 _ (c.in-Ok.ensures.ready.1 k u lt)))
          c.tidy.ensures.shape c.tidy.ensures.replica) c.tidy_all.ensures.shape c.tidy_all.ensures.replica;
      tidy = c.tidy_all.ensures.owed (λ _. false)
          (subst (λ (vs : List Update). IsTidyBut c.tidy.new.replica (λ q. false || is_touched vs q)) (sym c.updates.ensures)
          (c.tidy.ensures.owed owed
          (settled-owed c.adopt.new.self c.args.partition.0 us c.in-Ok.field-0.room.items c.settle_to.new.settled.items c.deref.result.now
          c.in-Ok.ensures.room.empty c.settle_to.ensures.settled.settled c.deref.ensures.value owed
          (c.adopt.ensures.owed (λ q. owed q || is_touched us q) (c.settle_to.ensures.owed owed c.for_list.ensures.seat.tidy)))));
    }

pub returns-in-Err-clause-seat : goal.returns-in-Err-clause-seat
returns-in-Err-clause-seat g c = record {
  stands = stands-as c.for_list.ensures.seat.stands c.tidy_all-in-Err.ensures.shape c.tidy_all-in-Err.ensures.replica;
  tidy = c.tidy_all-in-Err.ensures.owed (λ _. false)
      (subst (λ (us : List Update). IsTidyBut c.for_list.new.replica (λ q. false || is_touched us q)) (sym c.updates-in-Err.ensures)
      c.for_list.ensures.seat.tidy);
}
