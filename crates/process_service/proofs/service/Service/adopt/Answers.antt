use Rattle.std.proofs.Common.{ℕ, ◌≡◌, ◌<◌, nat_le, true, List, map, sym, ap, subst, ◌∙◌}
use Rattle.std.specs.Prelude.{set}
use Rattle.std.proofs.lemmas.Bool.{leb-true}
use Rattle.group_types.specs.Dimensions.{Dimensions}
use Rattle.group_types.specs.Lists.{at, put}
use Rattle.group_run.specs.Fitting.{AdoptFits}
use Rattle.group_run.specs.Process.{Process}
use Rattle.group_run.specs.Receiving.{ack_to, adopt_comes}
use Rattle.group_run.specs.Replica.{Replica, empty_replica}
use Rattle.head_service.specs.Paging.{AllMiss}
use Rattle.head_service.specs.Serving.{Serving, serving}
use Rattle.process_service.proofs.Followed.{acknowledged-as, adoption-made}
use Rattle.process_service.proofs.Lent.{IsLent, applied-kept, grows-over, here, lends, other-ranks, put-back, put-same, ranks-put, seat-of, written}
use Rattle.process_service.specs.Standing.{GrowsOver}
use Rattle.process_service.proofs.Results.{on-err-any}
use Rattle.process_service.proofs.Standing.{same-as}
use Rattle.process_service.proofs.service.Service.adopt.Given as given
use Rattle.process_service.proofs.service.Service.adopt.Goals as goal

module _ (g : given.Over) (c : goal.After-adopt-arg-2-1 g) where
  lent : IsLent c.self.inside c.args.self.now c.args.partition.0 c.index_mut-replica.result.now
  lent = record { place = record { view = c.self.view_is; kept = c.self.invariant; below = c.requires.partition }; entry = c.index_mut-replica.ensures.value }

  current : nat_le (at 0 c.args.self.now.ranks c.args.partition.0) c.args.rank.0 ≡ true
  current = sym c.is_current.ensures ∙ c.if-not-is_current.false

pub adopt-requires-clause-fits : goal.adopt-requires-clause-fits
adopt-requires-clause-fits g c = lends (lent g c) (λ s r. AdoptFits s r c.args.base c.args.list.now) (c.requires.fits (leb-true _ _ (current g c)))

pub adopt-requires-clause-seat : goal.adopt-requires-clause-seat
adopt-requires-clause-seat g c = seat-of (lent g c) c.requires.beneath

pub returns-in_err-adopt-clause-grows : goal.returns-in_err-adopt-clause-grows
returns-in_err-adopt-clause-grows g c =
    let f : goal.After-adopt-arg-2-1 g = c.before.before.before.before.before.before in
    subst (λ (x : Dimensions). GrowsOver (AllMiss x.block c.args.list.now) c.args.self.now
    (written (lent g f) c.adopt.new.replica) (g.B.Beneath.storage c.args.below.now)
    (g.B.Beneath.storage c.adopt.new.below))
    c.requires.beneath.shape
    (grows-over (lent g f) c.requires.beneath c.adopt.new.replica c.adopt.ensures.seat (same-as _ _ c.in_err-adopt.ensures.err.process) c.adopt.ensures.makes)

pub returns-in_err-adopt-clause-err : goal.returns-in_err-adopt-clause-err
returns-in_err-adopt-clause-err g c =
    let f : goal.After-adopt-arg-2-1 g = c.before.before.before.before.before.before in
    on-err-any c.from_residual-in_err-adopt.result (record {
      service = put-same (lent g f) c.adopt.new.replica c.in_err-adopt.ensures.err.replica;
      process = c.in_err-adopt.ensures.err.process;
    })

pub returns-clause-grows : goal.returns-clause-grows
returns-clause-grows g c =
    let f : goal.After-adopt-arg-2-1 g = c.before.before.before.before.before.before.before.before.before.before in
    let ranks : List ℕ = map (λ x. x.0) (set c.self.inside.ranks.items c.args.partition.0 c.args.rank) in
    subst (λ (x : Dimensions). GrowsOver (AllMiss x.block c.args.list.now) c.args.self.now
    (record (written (lent g f) c.adopt.new.replica) { ranks = ranks }) (g.B.Beneath.storage c.args.below.now)
    (g.B.Beneath.storage c.adopt.new.below)) c.requires.beneath.shape
    (other-ranks ranks
    (grows-over (lent g f) c.requires.beneath c.adopt.new.replica c.adopt.ensures.seat
    (applied-kept (lent g f) c.requires.beneath (g.B.Beneath.storage c.adopt.new.below) c.args.base
    c.in_ok-adopt.ensures.bytes) c.adopt.ensures.makes))

pub returns-clause-step : goal.returns-clause-step
returns-clause-step g c =
    let f : goal.After-adopt-arg-2-1 g = c.before.before.before.before.before.before.before.before.before.before in
    let d : ℕ = c.args.partition.0 in
    let v : Serving = c.args.self.now in
    let r2 : Replica = c.adopt.new.replica.replica in
    let b : Process = (g.B.Beneath.storage c.args.below.now).process in
    let b2 : Process = (g.B.Beneath.storage c.adopt.new.below).process in
    let ranks : List ℕ = map (λ x. x.0) (set c.self.inside.ranks.items d c.args.rank) in
    ap (λ (x : Dimensions). adopt_comes x c.args.from c.args.rank.0 d c.args.base c.args.list.now (serving v b)) (sym c.requires.beneath.shape)
    ∙ adoption-made (g.B.Beneath.storage c.args.below.now).shape d v b c.index_mut-replica.result.now.replica
    (here (lent g f)) c.args.from c.args.rank.0 c.args.base c.args.list.now
    r2 b2 (current g f) c.in_ok-adopt.ensures.replica c.in_ok-adopt.ensures.bytes
    ∙ ap (λ (n : ℕ). ack_to c.args.from c.args.rank.0 d n
    (serving (record v { replicas = put empty_replica v.replicas d r2; ranks = put 0 v.ranks d c.args.rank.0 }) b2))
    (sym c.reach.ensures)
    ∙ ap (λ (xs : List ℕ). ack_to c.args.from c.args.rank.0 d c.reach.result
    (serving (record v { replicas = put empty_replica v.replicas d r2; ranks = xs }) b2))
    (sym (ranks-put (lent g f).place c.args.rank))
    ∙ ap (λ (w : Serving). ack_to c.args.from c.args.rank.0 d c.reach.result (serving (record w { ranks = ranks }) b2))
    (sym (put-back (lent g f) c.adopt.new.replica))
    ∙ acknowledged-as c.args.from c.args.rank.0 d c.reach.result (serving (record (written (lent g f) c.adopt.new.replica) { ranks = ranks }) b2)
    c.sending.result.sent.items c.sending.result.settled.items (c.sending.ensures.sent ∙ c.in_ok-sent.ensures) c.sending.ensures.settled
