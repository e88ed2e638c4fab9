use Rattle.std.proofs.Common.{ℕ, vec_len, vec_capacity, sym, subst, ◌∙◌, arith}
use Rattle.group_types.specs.Dimensions.{Dimensions}
use Rattle.group_run.specs.Heading as machine
use Rattle.group_run.specs.Process.{Process}
use Rattle.group_run.specs.Replica.{last_of}
use Rattle.head_service.specs.Peers.{settles}
use Rattle.head_service.specs.Serving.{Serving, serving}
use Rattle.process_service.specs.Steps.{HasMade}
use Rattle.process_service.proofs.Judged.{judged-made, unjudged}
use Rattle.process_service.proofs.Lent.{HasPlace, IsLent, applied-kept, counts, head-at, heads-as, put-back, room-left, seat-of, stays-over, up-in, written}
use Rattle.process_service.proofs.Standing.{peers-are}
use Rattle.process_service.proofs.service.Service.judge_at.Given as given
use Rattle.process_service.proofs.service.Service.judge_at.Goals as goal

module _ (g : given.Over) (c : goal.After-judge-arg-in-Some-1 g) where
  lent : IsLent c.self.inside c.args.self.now c.args.partition.0 c.index_mut.result.now
  lent = record { place = record { view = c.self.view_is; kept = c.self.invariant; below = c.requires.partition }; entry = c.index_mut.ensures.value }

  abbrev number : ℕ
  number = settles c.peers-peers.result c.in-Some.head (last_of c.index_mut.result.now.replica)

pub judge-requires-clause-seat : goal.judge-requires-clause-seat
judge-requires-clause-seat g c = record {
  seat = seat-of (lent g c) c.requires.beneath;
  acks = counts (lent g c).place c.index.result.now c.index.ensures c.in-Some.head c.in-Some.is ∙ sym c.peers-peers.ensures.m;
}

pub judge-requires-clause-room : goal.judge-requires-clause-room
judge-requires-clause-room g c = omega (arith, c.requires.room, up-in (lent g c) (number g c))

pub returns-in-Some-clause-stays : goal.returns-in-Some-clause-stays
returns-in-Some-clause-stays g c =
    let f : goal.After-judge-arg-in-Some-1 g = c.before.before in
    stays-over (lent g f) c.requires.beneath c.judge.new.replica c.judge.ensures.seat
    (applied-kept (lent g f) c.requires.beneath (g.B.Beneath.storage c.judge.new.below) (number g f)
    c.judge.ensures.settled.applied.process) c.judge.ensures.stays

pub returns-in-Some-clause-room : goal.returns-in-Some-clause-room
returns-in-Some-clause-room g c = room-left (lent g c.before.before) (number g c.before.before) c.judge.new.replica
    (vec_len c.args.settled.now) (vec_len c.judge.new.settled) (vec_capacity c.args.settled.now) (vec_capacity c.judge.new.settled)
    c.args.settled.now.items c.judge.new.settled.items c.judge.ensures.settled.applied.replica c.judge.ensures.settled.settled
    c.args.settled.now.ok.0 c.judge.new.settled.ok.0 c.judge.ensures.capacity c.requires.room

pub returns-in-Some-clause-made : goal.returns-in-Some-clause-made
returns-in-Some-clause-made g c =
    let f : goal.After-judge-arg-in-Some-1 g = c.before.before in
    let d : ℕ = c.args.partition.0 in
    let v : Serving = c.args.self.now in
    let s : Dimensions = (g.B.Beneath.storage c.args.below.now).shape in
    let b : Process = (g.B.Beneath.storage c.args.below.now).process in
    let b2 : Process = (g.B.Beneath.storage c.judge.new.below).process in
    subst (λ (x : Dimensions). HasMade (machine.judge x d (serving v b)) c.args.settled.now.items
    (serving (written (lent g f) c.judge.new.replica) b2) c.judge.new.settled.items)
    c.requires.beneath.shape
    (subst (λ (w : Serving). HasMade (machine.judge s d (serving v b)) c.args.settled.now.items (serving w b2)
    c.judge.new.settled.items) (sym (put-back (lent g f) c.judge.new.replica))
    (judged-made s v b c.peers-peers.result d c.in-Some.head c.index_mut.result.now.replica
    (peers-are c.requires.beneath c.peers-peers.result c.peers-peers.ensures.m c.peers-peers.ensures.name c.peers-peers.ensures.known)
    (heads-as (lent g f) c.in-Some.head (head-at (lent g f).place c.index.result.now c.index.ensures ∙ c.in-Some.is))
    c.judge.new.replica.replica b2 c.args.settled.now.items c.judge.new.settled.items
    c.judge.ensures.settled.applied.replica c.judge.ensures.settled.applied.process c.judge.ensures.settled.settled))

pub returns-in-None-clause-made : goal.returns-in-None-clause-made
returns-in-None-clause-made g c =
    let place : HasPlace c.self.inside c.args.self.now c.args.partition.0 =
    record { view = c.self.view_is; kept = c.self.invariant; below = c.requires.partition } in
    unjudged c.args.self.now.shape c.args.partition.0 (serving c.args.self.now (g.B.Beneath.storage c.args.below.now).process) c.args.settled.now.items
    (head-at place c.index.result.now c.index.ensures ∙ c.in-None.is)
