use Rattle.std.proofs.Common.{ℕ, ◌≡◌, ◌==◌, true, List, [], map, Option, None, Some, sym, ap, ◌∙◌, arith}
use Rattle.std.specs.Prelude.{set}
use Rattle.group_types.specs.Dimensions.{Dimensions}
use Rattle.group_types.specs.Lists.{at, put}
use Rattle.group_run.specs.Applying.{head_at}
use Rattle.group_run.specs.Heading as machine
use Rattle.group_run.specs.Process.{Head, Process}
use Rattle.group_run.specs.Replica.{empty_replica, last_of}
use Rattle.head_service.specs.Laws.{HeadsPartition}
use Rattle.head_service.specs.Peers.{settles}
use Rattle.head_service.specs.Serving.{Serving, serving}
use Rattle.process_service.specs.Standing.{is_under}
use Rattle.process_service.specs.contracts.service.Service.{the_view}
use Rattle.process_service.proofs.Counted.{counted, passed-over, quietly}
use Rattle.process_service.proofs.Lent.{HasPlace, IsLent, counts, head-at, heads-as, heads-put, heads-same, other-heads}
use Rattle.process_service.proofs.Lent.{put-back, put-same, seat-of, stays-over}
use Rattle.process_service.proofs.Results.{on-err-one, on-ok-with}
use Rattle.process_service.proofs.Standing.{peers-are, settled-kept}
use Rattle.process_service.proofs.service.Service.acknowledge.Given as given
use Rattle.process_service.proofs.service.Service.acknowledge.Goals as goal

module _ (g : given.Over) (c : goal.After-acknowledge-arg-in-Some-1 g) where
  lent : IsLent c.self.inside c.args.self.now c.args.partition.0 c.index_mut-in-Some.result.now
  lent = record { place = record { view = c.self.view_is; kept = c.self.invariant; below = c.requires.partition }; entry = c.index_mut-in-Some.ensures.value }

  heads-are : HeadsPartition c.args.self.now c.args.partition.0 c.in-Some.head c.index_mut-in-Some.result.now.replica
  heads-are = heads-as lent c.in-Some.head (head-at lent.place c.index_mut.result.now c.index_mut.ensures.value ∙ c.in-Some.is)

  same-rank : (c.args.rank.0 == c.in-Some.head.rank) ≡ true
  same-rank = ap (is_under c.args.rank.0) (sym heads-are.head) ∙ sym c.heads_under.ensures ∙ c.if-not-heads_under.false

pub acknowledge-requires-clause-seat : goal.acknowledge-requires-clause-seat
acknowledge-requires-clause-seat g c = record {
  seat = seat-of (lent g c) c.requires.beneath;
  acks = counts (lent g c).place c.index_mut.result.now c.index_mut.ensures.value c.in-Some.head c.in-Some.is ∙ sym c.peers-peers.ensures.m;
}

pub returns-in-Some-clause-stays : goal.returns-in-Some-clause-stays
returns-in-Some-clause-stays g c =
    let f : goal.After-acknowledge-arg-in-Some-1 g = c.before.before.before in
    let n : ℕ = settles c.peers-peers.result (machine.acknowledged c.args.parity c.args.number c.in-Some.head)
    (last_of c.index_mut-in-Some.result.now.replica) in
    other-heads (map (λ x. x.0) c.self.inside.ranks.items) (set c.self.inside.heads.items c.args.partition.0 (Some c.acknowledge.new.head))
    (stays-over (lent g f) c.requires.beneath c.acknowledge.new.replica c.acknowledge.ensures.seat.seat
    (settled-kept c.args.partition.0 n c.index_mut-in-Some.result.now c.acknowledge.new.replica
    (g.B.Beneath.storage c.args.below.now) (g.B.Beneath.storage c.acknowledge.new.below)
    c.in-Some.head c.acknowledge.new.head (omega (arith, c.requires.partition, c.requires.beneath.blocks)) c.acknowledge.result (λ settled. settled.items)
    c.acknowledge.ensures.settled c.acknowledge.ensures.err) c.acknowledge.ensures.stays)

pub returns-in-Some-clause-settled : goal.returns-in-Some-clause-settled
returns-in-Some-clause-settled g c = on-ok-with c.acknowledge.result (λ settled head made.
    let f : goal.After-acknowledge-arg-in-Some-1 g = c.before.before.before in
    let d : ℕ = c.args.partition.0 in
    let v : Serving = c.args.self.now in
    let b : Process = (g.B.Beneath.storage c.args.below.now).process in
    let b2 : Process = (g.B.Beneath.storage c.acknowledge.new.below).process in
    let heads : List (Option Head) = set c.self.inside.heads.items d (Some c.acknowledge.new.head) in
    ap (λ (x : Dimensions). machine.acknowledge x c.args.parity c.args.rank.0 d c.args.number (head_at (serving v b) d)
    (serving v b)) (sym c.requires.beneath.shape)
    ∙ counted (g.B.Beneath.storage c.args.below.now).shape v b c.args.parity c.args.rank.0 d c.args.number
    c.peers-peers.result c.in-Some.head c.index_mut-in-Some.result.now.replica
    (peers-are c.requires.beneath c.peers-peers.result c.peers-peers.ensures.m c.peers-peers.ensures.name
    c.peers-peers.ensures.known) (heads-are g f) (same-rank g f)
    c.acknowledge.new.head c.acknowledge.new.replica.replica b2 settled.items head made.applied.replica made.applied.process made.settled
    ∙ ap (λ (hs : List (Option Head)).
    quietly (serving
    (record v { heads = hs; replicas = put empty_replica v.replicas d c.acknowledge.new.replica.replica }) b2)
    settled.items)
    (sym (heads-put (lent g f).place (Some c.acknowledge.new.head)))
    ∙ ap (λ (w : Serving). quietly (serving (record w { heads = heads }) b2) settled.items) (sym (put-back (lent g f) c.acknowledge.new.replica)))
    c.acknowledge.ensures.head c.acknowledge.ensures.settled

pub returns-in-Some-clause-err : goal.returns-in-Some-clause-err
returns-in-Some-clause-err g c = on-err-one c.acknowledge.result (λ same.
    let f : goal.After-acknowledge-arg-in-Some-1 g = c.before.before.before in
    let heads : List (Option Head) = set c.self.inside.heads.items c.args.partition.0 (Some c.acknowledge.new.head) in
    record {
      service = ap (λ (w : Serving). record w { heads = heads }) (put-same (lent g f) c.acknowledge.new.replica same.1.replica)
          ∙ ap (λ (hs : List (Option Head)). record c.args.self.now { heads = hs })
          (heads-same (lent g f).place (Some c.acknowledge.new.head) (ap (λ (h : Head). Some h) same.0 ∙ sym (heads-are g f).head));
      process = same.1.process;
    }) c.acknowledge.ensures.err

pub returns-then-not-heads_under-clause-settled : goal.returns-then-not-heads_under-clause-settled
returns-then-not-heads_under-clause-settled g c =
    passed-over c.args.self.now.shape c.args.self.now (g.B.Beneath.storage c.args.below.now).process c.args.parity
    c.args.rank.0 c.args.partition.0 c.args.number
    (sym c.heads_under.ensures ∙ c.if-not-heads_under.true)
    ∙ ap (quietly (serving c.args.self.now (g.B.Beneath.storage c.args.below.now).process)) (sym c.new.ensures.items)

pub returns-in-None-clause-settled : goal.returns-in-None-clause-settled
returns-in-None-clause-settled g c =
    let d : ℕ = c.args.partition.0 in
    let b : Process = (g.B.Beneath.storage c.args.below.now).process in
    let place : HasPlace c.self.inside c.args.self.now d = record { view = c.self.view_is; kept = c.self.invariant; below = c.requires.partition } in
    let here : at None c.args.self.now.heads d ≡ c.index_mut.result.now = head-at place c.index_mut.result.now c.index_mut.ensures.value in
    let same : record (the_view c.self.inside) { heads = set c.self.inside.heads.items d c.index_mut.result.now } ≡ c.args.self.now
    = ap (λ (hs : List (Option Head)). record (the_view c.self.inside) { heads = hs }) (heads-same place c.index_mut.result.now (sym here))
    ∙ ap (λ (w : Serving). record w { heads = c.args.self.now.heads }) c.self.view_is in
    passed-over c.args.self.now.shape c.args.self.now b c.args.parity c.args.rank.0 d c.args.number (ap (is_under c.args.rank.0) (here ∙ c.in-None.is))
    ∙ ap (λ (w : Serving). quietly (serving w b) []) (sym same)
    ∙ ap (quietly
    (serving (record (the_view c.self.inside) { heads = set c.self.inside.heads.items d c.index_mut.result.now }) b))
    (sym c.new-in-None.ensures.items)
