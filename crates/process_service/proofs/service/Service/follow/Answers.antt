use Rattle.std.proofs.Common.{◌≡◌, ◌<◌, nat_le, true, sym, ap, subst, ◌∙◌}
use Rattle.std.proofs.lemmas.Bool.{leb-true}
use Rattle.group_types.specs.Dimensions.{Dimensions}
use Rattle.group_types.specs.Lists.{at}
use Rattle.group_message.specs.declared.update.Update.{Update}
use Rattle.group_run.specs.Fitting.{UpdateFits}
use Rattle.group_run.specs.Process.{Process}
use Rattle.group_run.specs.Receiving.{ack_to, update_comes}
use Rattle.head_service.specs.Paging.{Misses}
use Rattle.head_service.specs.Serving.{Serving, serving}
use Rattle.process_service.proofs.Followed.{acknowledged-as, update-made}
use Rattle.process_service.proofs.Lent.{IsLent, applied-kept, grows-over, here, lends, put-back, put-same, seat-of, written}
use Rattle.process_service.specs.Standing.{GrowsOver}
use Rattle.process_service.proofs.Results.{on-err-any}
use Rattle.process_service.proofs.Standing.{same-as}
use Rattle.process_service.proofs.service.Service.follow.Given as given
use Rattle.process_service.proofs.service.Service.follow.Goals as goal

module _ (g : given.Over) (c : goal.After-follow-arg-2-1 g) where
  lent : IsLent c.self.inside c.args.self.now c.args.partition.0 c.index_mut-replica.result.now
  lent = record { place = record { view = c.self.view_is; kept = c.self.invariant; below = c.requires.partition }; entry = c.index_mut-replica.ensures.value }

  current : nat_le (at 0 c.args.self.now.ranks c.args.partition.0) c.args.rank.0 ≡ true
  current = sym c.is_current.ensures ∙ c.if-not-is_current.false

pub follow-requires-clause-fits : goal.follow-requires-clause-fits
follow-requires-clause-fits g c = lends (lent g c) (λ s r. UpdateFits s r c.args.update.now c.args.stable) (c.requires.fits (leb-true _ _ (current g c)))

pub follow-requires-clause-seat : goal.follow-requires-clause-seat
follow-requires-clause-seat g c = seat-of (lent g c) c.requires.beneath

pub returns-in_err-follow-clause-grows : goal.returns-in_err-follow-clause-grows
returns-in_err-follow-clause-grows g c =
    let f : goal.After-follow-arg-2-1 g = c.before.before.before.before.before.before in
    subst (λ (x : Dimensions). GrowsOver (Misses x.block c.args.update.now.body) c.args.self.now
    (written (lent g f) c.follow.new.replica) (g.B.Beneath.storage c.args.below.now)
    (g.B.Beneath.storage c.follow.new.below))
    c.requires.beneath.shape
    (grows-over (lent g f) c.requires.beneath c.follow.new.replica c.follow.ensures.seat
    (same-as _ _ c.in_err-follow.ensures.err.process) c.follow.ensures.makes)

pub returns-in_err-follow-clause-err : goal.returns-in_err-follow-clause-err
returns-in_err-follow-clause-err g c =
    let f : goal.After-follow-arg-2-1 g = c.before.before.before.before.before.before in
    on-err-any c.from_residual-in_err-follow.result (record {
      service = put-same (lent g f) c.follow.new.replica c.in_err-follow.ensures.err.replica;
      process = c.in_err-follow.ensures.err.process;
    })

pub returns-clause-grows : goal.returns-clause-grows
returns-clause-grows g c =
    let f : goal.After-follow-arg-2-1 g = c.before.before.before.before.before.before in
    subst (λ (x : Dimensions). GrowsOver (Misses x.block c.args.update.now.body) c.args.self.now
    (written (lent g f) c.follow.new.replica) (g.B.Beneath.storage c.args.below.now)
    (g.B.Beneath.storage c.follow.new.below))
    c.requires.beneath.shape
    (grows-over (lent g f) c.requires.beneath c.follow.new.replica c.follow.ensures.seat
    (applied-kept (lent g f) c.requires.beneath (g.B.Beneath.storage c.follow.new.below) c.args.stable
    c.in_ok-follow.ensures.bytes) c.follow.ensures.makes)

pub returns-clause-step : goal.returns-clause-step
returns-clause-step g c =
    let f : goal.After-follow-arg-2-1 g = c.before.before.before.before.before.before in
    let v : Serving = c.args.self.now in
    let u : Update = c.args.update.now in
    let b : Process = (g.B.Beneath.storage c.args.below.now).process in
    let b2 : Process = (g.B.Beneath.storage c.follow.new.below).process in
    ap (λ (x : Dimensions). update_comes x c.args.from c.args.rank.0 c.args.partition.0 u c.args.stable (serving v b)) (sym c.requires.beneath.shape)
    ∙ update-made (g.B.Beneath.storage c.args.below.now).shape c.args.partition.0 v b
    c.index_mut-replica.result.now.replica (here (lent g f)) c.args.from c.args.rank.0 u c.args.stable
    c.follow.new.replica.replica b2 (current g f) c.in_ok-follow.ensures.replica c.in_ok-follow.ensures.bytes
    ∙ ap (λ (w : Serving). ack_to c.args.from c.args.rank.0 c.args.partition.0 u.number (serving w b2)) (sym (put-back (lent g f) c.follow.new.replica))
    ∙ acknowledged-as c.args.from c.args.rank.0 c.args.partition.0 u.number
    (serving (written (lent g f) c.follow.new.replica) b2) c.sending.result.sent.items c.sending.result.settled.items
    (c.sending.ensures.sent ∙ c.in_ok-sent.ensures) c.sending.ensures.settled
