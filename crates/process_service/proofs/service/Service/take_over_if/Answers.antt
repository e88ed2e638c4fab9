use Rattle.std.proofs.Common.{ℕ, ◌≡◌, false, vec_len, vec_capacity, length, map, IfSome, Option, Some, sym, ap, subst, ◌∙◌, arith}
use Rattle.std.proofs.lemmas.List.Elements.{All-set}
use Rattle.std.specs.Prelude.{set}
use Rattle.group_types.specs.Dimensions.{Dimensions}
use Rattle.group_run.specs.Process.{Head, Process}
use Rattle.group_run.specs.Receiving.{take_over_if}
use Rattle.group_run.specs.Replica.{last_of}
use Rattle.partition_replica.specs.State.{IsTidyBut, ReplicaState}
use Rattle.head_service.specs.Peers.{settles}
use Rattle.head_service.specs.Serving.{Serving, serving}
use Rattle.process_service.specs.Noticing.{successor_at}
use Rattle.process_service.specs.Steps.{HasMade}
use Rattle.process_service.proofs.Lent.{IsLent, applied-kept, has-replica, headed, headed-is, here, other-heads}
use Rattle.process_service.proofs.Lent.{room-left, seat-of, shape-after, stays-over, up-in}
use Rattle.process_service.proofs.Lists.{long-set}
use Rattle.process_service.proofs.Standing.{peers-are}
use Rattle.process_service.proofs.Taken.{successor-long, taken-made}
use Rattle.process_service.proofs.service.Service.take_over_if.Given as given
use Rattle.process_service.proofs.service.Service.take_over_if.Goals as goal

module _ (g : given.Over) (c : goal.After-judge-arg-2-1 g) where
  lent : IsLent c.self.inside c.args.self.now c.args.partition.0 c.index_mut.result.now
  lent = record { place = record { view = c.self.view_is; kept = c.self.invariant; below = c.requires.partition }; entry = c.index_mut.ensures.value }

  abbrev number : ℕ
  number = settles c.peers-peers.result c.in-Some.head (last_of c.index_mut.result.now.replica)

  successor-is : Some c.in-Some.head ≡ successor_at c.args.self.now c.args.partition.0
  successor-is = sym c.in-Some.is ∙ c.requires.head

pub judge-requires-clause-seat : goal.judge-requires-clause-seat
judge-requires-clause-seat g c = record {
  seat = seat-of (lent g c) c.requires.beneath;
  acks = successor-long c.args.self.now c.args.partition.0 c.in-Some.head (successor-is g c) ∙ sym c.peers-peers.ensures.m;
}

pub judge-requires-clause-room : goal.judge-requires-clause-room
judge-requires-clause-room g c = omega (arith, c.requires.room, up-in (lent g c) (number g c))

pub invariant_of-self : goal.invariant_of-self
invariant_of-self g c =
    let f : goal.After-judge-arg-2-1 g = c.before.before.before.before.before.before.before.before.before.before.before in
    let d : ℕ = c.args.partition.0 in
    record {
      process = c.self.invariant.process;
      members = c.self.invariant.members;
      replicas_long = long-set c.self.inside.replicas.items d c.judge.new.replica ∙ c.self.invariant.replicas_long;
      ranks_long = long-set c.self.inside.ranks.items d c.rank.result ∙ c.self.invariant.ranks_long;
      heads_long = long-set c.self.inside.heads.items d (Some c.in-Some.head) ∙ c.self.invariant.heads_long;
      held_long = c.self.invariant.held_long;
      shapes = All-set (λ (x : ReplicaState). x.shape ≡ c.self.inside.shape) c.self.inside.replicas.items d c.judge.new.replica
          (shape-after (lent g f) c.requires.beneath c.judge.new.replica c.judge.ensures.seat
          c.judge.ensures.stays.shape) c.self.invariant.shapes;
      tidy = All-set (λ (x : ReplicaState). IsTidyBut x (λ _. false)) c.self.inside.replicas.items d c.judge.new.replica
          c.judge.ensures.seat.tidy c.self.invariant.tidy;
      acks = All-set (λ (x : Option Head). IfSome x (λ h. length h.acks ≡ c.self.inside.shape.m)) c.self.inside.heads.items d (Some c.in-Some.head)
          (successor-long c.args.self.now d c.in-Some.head (successor-is g f) ∙ sym (ap (λ (w : Serving). w.shape.m) c.self.view_is)) c.self.invariant.acks;
    }

pub returns-clause-stays : goal.returns-clause-stays
returns-clause-stays g c =
    let f : goal.After-judge-arg-2-1 g = c.before.before.before.before.before.before.before.before.before.before.before in
    other-heads (map (λ x. x.0) (set c.self.inside.ranks.items c.args.partition.0 c.rank.result))
    (set c.self.inside.heads.items c.args.partition.0 (Some c.in-Some.head))
    (stays-over (lent g f) c.requires.beneath c.judge.new.replica c.judge.ensures.seat
    (applied-kept (lent g f) c.requires.beneath (g.B.Beneath.storage c.judge.new.below) (number g f)
    c.judge.ensures.settled.applied.process) c.judge.ensures.stays)

pub returns-clause-room : goal.returns-clause-room
returns-clause-room g c =
    let f : goal.After-judge-arg-2-1 g = c.before.before.before.before.before.before.before.before.before.before.before in
    room-left (lent g f) (number g f) c.judge.new.replica
    (vec_len c.args.settled.now) (vec_len c.judge.new.settled) (vec_capacity c.args.settled.now) (vec_capacity c.judge.new.settled)
    c.args.settled.now.items c.judge.new.settled.items c.judge.ensures.settled.applied.replica c.judge.ensures.settled.settled
    c.args.settled.now.ok.0 c.judge.new.settled.ok.0 c.judge.ensures.capacity c.requires.room

pub returns-clause-made : goal.returns-clause-made
returns-clause-made g c =
    let f : goal.After-judge-arg-2-1 g = c.before.before.before.before.before.before.before.before.before.before.before in
    let d : ℕ = c.args.partition.0 in
    let v : Serving = c.args.self.now in
    let s : Dimensions = (g.B.Beneath.storage c.args.below.now).shape in
    let b : Process = (g.B.Beneath.storage c.args.below.now).process in
    let b2 : Process = (g.B.Beneath.storage c.judge.new.below).process in
    let next : Serving = headed (lent g f) c.judge.new.replica c.rank.result (Some c.in-Some.head) in
    subst (λ (x : Dimensions). HasMade (take_over_if x d (serving v b)) c.args.settled.now.items (serving next b2)
    c.judge.new.settled.items) c.requires.beneath.shape
    (subst (λ (w : Serving). HasMade (take_over_if s d (serving v b)) c.args.settled.now.items (serving w b2) c.judge.new.settled.items)
    (sym (headed-is (lent g f) c.judge.new.replica c.rank.result c.in-Some.head c.rank.ensures))
    (taken-made s v b c.requires.beneath.name c.requires.beneath.shape d c.peers-peers.result c.in-Some.head c.index_mut.result.now.replica
    (peers-are c.requires.beneath c.peers-peers.result c.peers-peers.ensures.m c.peers-peers.ensures.name c.peers-peers.ensures.known)
    (here (lent g f)) (has-replica (lent g f)) (successor-is g f) c.judge.new.replica.replica b2 c.args.settled.now.items c.judge.new.settled.items
    c.judge.ensures.settled.applied.replica c.judge.ensures.settled.applied.process c.judge.ensures.settled.settled))
