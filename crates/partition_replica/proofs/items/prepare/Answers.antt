use Rattle.std.proofs.Common.{◌≡◌, ℕ, true, slice_index_or, ◌||◌, ap, sym, ◌∙◌, take, subst, List, All, arith}
use Rattle.std.proofs.Math.Bool.{or-true}
use Rattle.std.proofs.lemmas.Bool.{or_left, true≢false}
use Rattle.std.proofs.lemmas.List.{take_all}
use Rattle.group_message.specs.declared.update.Update.{Update}
use Rattle.group_types.specs.Lists.{same_key}
use Rattle.partition_replica.specs.Inside.{ready_in}
use Rattle.partition_replica.specs.State.{is_among}
use Rattle.partition_replica.proofs.Keys.{itself, items_in-same, ready_in-is, ready_in-prepare}
use Rattle.partition_replica.proofs.Rooms.{ready_at}
use Rattle.partition_replica.proofs.Owed.{most_next, touched_at}
use Rattle.partition_replica.proofs.Indices.{all_next}
use Rattle.partition_replica.proofs.items.prepare.Goals as goal

pub updates-preserved : goal.updates-preserved
updates-preserved c =
    let ready = ready_in-prepare c.updates.index c.prepare.new.self c.update-item.result.key c.in_ok-prepare.ensures.ready in
    let stays : (q : List ℕ) → is_among (ready_in c.updates.index) q ≡ true → is_among (ready_in c.prepare.new.self) q
    ≡ true = λ q was. ready q ∙ ap (λ b. same_key c.update-item.result.key q || b) was
    ∙ or-true (same_key c.update-item.result.key q) in
    record {
      items = items_in-same _ _ c.prepare.ensures.slots ∙ c.updates.invariant.items;
      kept = λ q was. stays q (c.updates.invariant.kept q was);
      most = λ q now. most_next (same_key c.update-item.result.key q) _ _ _ _ (ready q) (c.updates.invariant.most q)
          (touched_at c.args.updates.now c.updates.update-index c.update-item.result q (omega arith) c.update-item.is) now;
      ready = all_next (λ u. is_among (ready_in c.prepare.new.self) u.key ≡ true) c.args.updates.now
          c.updates.update-index c.update-item.result (omega arith) c.update-item.is
          (λ k d lt. stays (slice_index_or (take c.updates.update-index c.args.updates.now) k d).key (c.updates.invariant.ready k d lt))
          (ready c.update-item.result.key ∙ or_left _ _ (itself c.update-item.result.key));
    }

pub returns-clause-ready : goal.returns-clause-ready
returns-clause-ready c =
    subst (λ (us : List Update). All (λ u. is_among (ready_in c.updates.index) u.key ≡ true) us)
    (take_all c.updates.update-index c.args.updates.now (omega arith)) c.updates.invariant.ready

pub returns-in_err-prepare-clause-succeeds : goal.returns-in_err-prepare-clause-succeeds
returns-in_err-prepare-clause-succeeds c all =
    let was = ready_at (ready_in c.args.index.now) c.args.updates.now c.updates.update-index c.update-item.result (omega arith) c.update-item.is all in
    let ready = sym (ready_in-is c.updates.index c.update-item.result.key) ∙ c.updates.invariant.kept c.update-item.result.key was in
    absurd (true≢false (sym (c.in_err-prepare.ensures.succeeds ready)))
