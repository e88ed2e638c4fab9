use Rattle.std.proofs.Common.{ℕ, ◌≡◌, ◌<◌, false, List, [], length, map, None, Some, is_some, refl, sym, ap, subst, ◌∙◌, arith}
use Rattle.std.proofs.lemmas.List.Elements.{All-set}
use Rattle.std.specs.Prelude.{set}
use Rattle.group_types.specs.Dimensions.{Dimensions, space_of}
use Rattle.group_types.specs.Hash.{home_of}
use Rattle.memc_table.specs.Act.{key_of}
use Rattle.memc_table.specs.declared.act.Act.{Act}
use Rattle.group_types.specs.Lists.{at, put}
use Rattle.group_types.proofs.Lists.{put-at}
use Rattle.group_calls.specs.Turns.{CallName}
use Rattle.group_run.specs.Deciding.{decide}
use Rattle.group_run.specs.Process.{Head, Held, Process}
use Rattle.group_run.specs.Replica.{Replica, empty_replica, last_of}
use Rattle.partition_replica.specs.State.{IsTidyBut, ReplicaState}
use Rattle.head_service.specs.Acting.{IsMade, acts, decision_of, name_of_call}
use Rattle.head_service.specs.Beneath.{found_in}
use Rattle.head_service.specs.Laws.{HeadsPartition}
use Rattle.head_service.specs.Paging.{DecisionMisses, MakesNoneOf}
use Rattle.head_service.proofs.Paging.{makes-none}
use Rattle.head_service.specs.Serving.{Serving, serving}
use Rattle.head_service.specs.Wanting.{MayWant}
use Rattle.head_service.specs.declared.peers.Peers.{Peers}
use Rattle.process_service.specs.Paging.{CallMisses}
use Rattle.process_service.specs.Steps.{IsCallAsked}
use Rattle.process_service.specs.Wanting.{AskWants}
use Rattle.process_service.proofs.Asked.{asked-at, moved}
use Rattle.process_service.proofs.Lent.{HasPlace, IsLent, counts, grows-over, head-at, here, heads-as, lends, narrow}
use Rattle.process_service.proofs.Lent.{put-back, put-same, same-shape, seat-of, shape-after, written}
use Rattle.process_service.proofs.Paging.{pages-at}
use Rattle.process_service.proofs.Lists.{long-set, part-at, part-put}
use Rattle.process_service.proofs.Results.{on-err-one, on-ok}
use Rattle.process_service.proofs.Wanting.{wants-at}
use Rattle.process_service.proofs.Standing.{AreKept, made-kept, peers-are}
use Rattle.process_service.proofs.service.Service.ask.Given as given
use Rattle.process_service.proofs.service.Service.ask.Goals as goal

-- the home of the key that is asked
home-same : (key : List ℕ) (act other : Act) (k m : ℕ) → key ≡ key_of act → act ≡ other → k ≡ m → home_of key k ≡ home_of (key_of other) m
home-same key act other k m key-is act-is wide = ap (λ (x : List ℕ). home_of x k) (key-is ∙ ap key_of act-is) ∙ ap (home_of (key_of other)) wide

module _ (g : given.Over) (c : goal.After-ask-arg-1 g) where
  abbrev d : ℕ
  d = c.home-partition.result.0

  lent : IsLent c.self.inside c.args.self.now d c.index_mut.result.now
  lent = record {
    place = record {
      view = c.self.view_is;
      kept = c.self.invariant;
      below = omega (arith, ap (λ (w : Serving). w.shape.k) c.self.view_is, c.home-partition.ensures.within, c.k.ensures.value);
    };
    entry = c.index_mut.ensures.value;
  }

  heads-are : HeadsPartition c.args.self.now d c.in-Some.head c.index_mut.result.now.replica
  heads-are = heads-as lent c.in-Some.head (head-at lent.place c.index.result.now c.index.ensures ∙ c.in-Some.is)

  has_held : d < length c.self.inside.held.items
  has_held = omega (arith, narrow lent.place, c.self.invariant.held_long)

  held-is : at [] c.args.self.now.held d ≡ c.index_mut-in-Some.result.now.items
  held-is = ap (λ (w : Serving). at [] w.held d) (sym c.self.view_is)
      ∙ part-at (λ x. x.items) [] c.self.inside.held.items d c.index_mut-in-Some.result.now has_held c.index_mut-in-Some.ensures.value

pub ask-requires-clause-numbers : goal.ask-requires-clause-numbers
ask-requires-clause-numbers g c =
    let wide : c.self.inside.shape.k ≡ c.args.self.now.shape.k = ap (λ (w : Serving). w.shape.k) c.self.view_is in
    let home : c.home-partition.result.0 ≡ home_of (key_of c.args.op.now.act) c.args.self.now.shape.k
    = c.home-partition.ensures.value ∙ home-same c.key.result.now c.act.result.now c.args.op.now.act c.k.result
    c.args.self.now.shape.k c.key.ensures c.act.ensures (c.k.ensures.value ∙ wide) in
    lends (lent g c) (λ _ r. last_of r < 4611686018427387904)
    (subst (λ (d : ℕ). last_of (at empty_replica c.args.self.now.replicas d) < 4611686018427387904) (sym home) c.requires.numbers)

pub ask-requires-clause-seat : goal.ask-requires-clause-seat
ask-requires-clause-seat g c = record {
  seat = seat-of (lent g c) c.requires.beneath;
  acks = counts (lent g c).place c.index.result.now c.index.ensures c.in-Some.head c.in-Some.is ∙ sym c.peers-peers.ensures.m;
}

pub invariant_of-self : goal.invariant_of-self
invariant_of-self g c =
    let e : goal.After-ask-arg-1 g = c.before.before.before in
    record {
      process = c.self.invariant.process;
      members = c.self.invariant.members;
      replicas_long = long-set c.self.inside.replicas.items c.home-partition.result.0 c.ask.new.replica ∙ c.self.invariant.replicas_long;
      ranks_long = c.self.invariant.ranks_long;
      heads_long = c.self.invariant.heads_long;
      held_long = long-set c.self.inside.held.items c.home-partition.result.0 c.ask.new.held ∙ c.self.invariant.held_long;
      shapes = All-set (λ (x : ReplicaState). x.shape ≡ c.self.inside.shape) c.self.inside.replicas.items c.home-partition.result.0 c.ask.new.replica
          (shape-after (lent g e) c.requires.beneath c.ask.new.replica c.ask.ensures.seat c.ask.ensures.makes.shape) c.self.invariant.shapes;
      tidy = All-set (λ (x : ReplicaState). IsTidyBut x (λ _. false)) c.self.inside.replicas.items c.home-partition.result.0
          c.ask.new.replica c.ask.ensures.seat.tidy c.self.invariant.tidy;
      acks = c.self.invariant.acks;
    }

pub returns-in-None-clause-asked : goal.returns-in-None-clause-asked
returns-in-None-clause-asked g c =
    let wide : c.self.inside.shape.k ≡ c.args.self.now.shape.k = ap (λ (w : Serving). w.shape.k) c.self.view_is in
    let place : HasPlace c.self.inside c.args.self.now c.home-partition.result.0
    = record { view = c.self.view_is; kept = c.self.invariant; below = omega (arith, wide, c.home-partition.ensures.within, c.k.ensures.value) } in
    let home : c.home-partition.result.0 ≡ home_of (key_of c.args.op.now.act) c.args.self.now.shape.k
    = c.home-partition.ensures.value ∙ home-same c.key.result.now c.act.result.now c.args.op.now.act c.k.result
    c.args.self.now.shape.k c.key.ensures c.act.ensures (c.k.ensures.value ∙ wide) in
    moved c.args.self.now.shape (name_of_call c.args.call) c.args.op.now (serving c.args.self.now (g.B.Beneath.storage c.args.below.now).process) c.only.result
    (ap (at None c.args.self.now.heads) (sym home) ∙ head-at place c.index.result.now c.index.ensures ∙ c.in-None.is)
    c.only.ensures.answer c.only.ensures.sent c.only.ensures.settled

-- the calls that a process holds once the head's step is made, and the bytes beneath
module _ (g : given.Over) (c : goal.After-self-in-Some-1 g) where
  abbrev e : goal.After-ask-arg-1 g
  e = c.before.before.before

  abbrev held : List (List Held)
  held = map (λ x. x.items) (set c.self.inside.held.items (d g e) c.ask.new.held)

  held-put : held ≡ put [] c.args.self.now.held (d g e) c.ask.new.held.items
  held-put = part-put (λ x. x.items) [] c.self.inside.held.items (d g e) c.ask.new.held (has_held g e)
      ∙ ap (λ (w : Serving). put [] w.held (d g e) c.ask.new.held.items) c.self.view_is

  kept : AreKept (g.B.Beneath.storage c.args.below.now).process (g.B.Beneath.storage c.ask.new.below).process
  kept = made-kept c.index_mut.result.now.shape (d g e) c.peers-peers.result c.in-Some.head (name_of_call c.args.call) c.args.op.now c.index_mut.result.now
      c.index_mut-in-Some.result.now.items (g.B.Beneath.storage c.args.below.now) (g.B.Beneath.storage c.ask.new.below)
      (decision_of (d g e) c.in-Some.head c.args.op.now c.index_mut.result.now (g.B.Beneath.storage c.args.below.now))
      (omega (arith, (lent g e).place.below, c.requires.beneath.blocks)) c.ask.result c.ask.new.replica
      c.ask.new.held.items c.ask.ensures.made c.ask.ensures.err

pub returns-in-Some-clause-asked : goal.returns-in-Some-clause-asked
returns-in-Some-clause-asked g c = on-ok c.ask.result (λ asked made.
    let f : goal.After-ask-arg-1 g = c.before.before.before in
    let s : Dimensions = (g.B.Beneath.storage c.args.below.now).shape in
    let v : Serving = c.args.self.now in
    let r : Replica = c.index_mut.result.now.replica in
    let b : Process = (g.B.Beneath.storage c.args.below.now).process in
    let peers : Peers = c.peers-peers.result in
    let h : Head = c.in-Some.head in
    let name : CallName = name_of_call c.args.call in
    let b2 : Process = (g.B.Beneath.storage c.ask.new.below).process in
    let r2 : Replica = c.ask.new.replica.replica in
    let same : c.index_mut.result.now.shape ≡ s = same-shape (lent g f) ∙ ap (λ (x : Serving). x.shape) c.self.view_is ∙ sym c.requires.beneath.shape in
    let home : d g f ≡ home_of (key_of c.args.op.now.act) s.k
    = c.home-partition.ensures.value ∙ home-same c.key.result.now c.act.result.now c.args.op.now.act c.k.result s.k c.key.ensures c.act.ensures
    (c.k.ensures.value ∙ ap (λ (x : Serving). x.shape.k) c.self.view_is ∙ sym (ap (λ (x : Dimensions). x.k) c.requires.beneath.shape)) in
    subst (λ (x : Dimensions). IsCallAsked x name c.args.op.now (serving v b) asked
    (serving (record (written (lent g f) c.ask.new.replica) { held = held g c }) b2)) c.requires.beneath.shape
    (subst (λ (w : Serving). IsCallAsked s name c.args.op.now (serving v b) asked
    (serving (record w { held = held g c }) b2)) (sym (put-back (lent g f) c.ask.new.replica))
    (subst (λ (hs : List (List Held)). IsCallAsked s name c.args.op.now (serving v b) asked
    (serving (record v { replicas = put empty_replica v.replicas (d g f) r2; held = hs }) b2)) (sym (held-put g c))
    (asked-at s v b peers h r name c.args.op.now (d g f) home
    (peers-are c.requires.beneath peers c.peers-peers.ensures.m c.peers-peers.ensures.name c.peers-peers.ensures.known)
    (heads-are g f) asked r2 c.ask.new.held.items b2
    (subst (λ (x : Dimensions). IsMade x (decide (space_of x) h.inherited r c.args.op.now (found_in s (d g f) b))
    (acts s (d g f) peers h name c.args.op.now r (at [] v.held (d g f)) b (decide (space_of x) h.inherited r c.args.op.now (found_in s (d g f) b)))
    asked r2 c.ask.new.held.items b2) same
    (subst (λ (xs : List Held). IsMade c.index_mut.result.now.shape
    (decide (space_of c.index_mut.result.now.shape) h.inherited r c.args.op.now (found_in s (d g f) b))
    (acts s (d g f) peers h name c.args.op.now r xs b (decide (space_of c.index_mut.result.now.shape) h.inherited r c.args.op.now (found_in s (d g f) b)))
    asked r2 c.ask.new.held.items b2) (sym (held-is g f)) made)))))) c.ask.ensures.made

pub returns-in-None-clause-grows : goal.returns-in-None-clause-grows
returns-in-None-clause-grows g c = record {
  shape = refl;
  name = refl;
  beneath = c.requires.beneath;
  pages = makes-none
      (CallMisses c.args.self.now.shape c.args.op.now
      (serving c.args.self.now (g.B.Beneath.storage c.args.below.now).process))
      (g.B.Beneath.storage c.args.below.now).made;
}

pub returns-in-Some-clause-grows : goal.returns-in-Some-clause-grows
returns-in-Some-clause-grows g c =
    let f : goal.After-ask-arg-1 g = c.before.before.before in
    let s : Dimensions = (g.B.Beneath.storage c.args.below.now).shape in
    let v : Serving = c.args.self.now in
    let r : Replica = c.index_mut.result.now.replica in
    let b : Process = (g.B.Beneath.storage c.args.below.now).process in
    let h : Head = c.in-Some.head in
    let old : List ℕ = (g.B.Beneath.storage c.args.below.now).made in
    let new : List ℕ = (g.B.Beneath.storage c.ask.new.below).made in
    let same : c.index_mut.result.now.shape ≡ s = same-shape (lent g f) ∙ ap (λ (x : Serving). x.shape) c.self.view_is ∙ sym c.requires.beneath.shape in
    let home : d g f ≡ home_of (key_of c.args.op.now.act) s.k
    = c.home-partition.ensures.value ∙ home-same c.key.result.now c.act.result.now c.args.op.now.act c.k.result s.k c.key.ensures c.act.ensures
    (c.k.ensures.value ∙ ap (λ (x : Serving). x.shape.k) c.self.view_is ∙ sym (ap (λ (x : Dimensions). x.k) c.requires.beneath.shape)) in
    let is = grows-over (lent g f) c.requires.beneath c.ask.new.replica c.ask.ensures.seat (kept g c) c.ask.ensures.makes in
    record {
      shape = is.shape;
      name = is.name;
      beneath = record { shape = is.beneath.shape; name = is.beneath.name; blocks = is.beneath.blocks; ready = is.beneath.ready };
      pages = subst (λ (x : Dimensions). MakesNoneOf (CallMisses x c.args.op.now (serving v b)) old new) c.requires.beneath.shape
          (pages-at s v b h r c.args.op.now old new (d g f) home (heads-are g f).head (heads-are g f).replica
          (subst (λ (x : Dimensions).
          MakesNoneOf (DecisionMisses s.block
          (decide (space_of x) h.inherited r c.args.op.now (found_in s (d g f) b))) old new) same
          c.ask.ensures.makes.pages));
    }

pub returns-in-Some-clause-err : goal.returns-in-Some-clause-err
returns-in-Some-clause-err g c = on-err-one c.ask.result (λ same.
    let f : goal.After-ask-arg-1 g = c.before.before.before in
    let v : Serving = c.args.self.now in
    record {
      service = ap (λ (w : Serving). record w { held = held g c }) (put-same (lent g f) c.ask.new.replica same.1.replica)
          ∙ ap (λ (hs : List (List Held)). record v { held = hs }) (held-put g c
          ∙ ap (put [] v.held (d g f)) (same.0 ∙ sym (held-is g f)) ∙ put-at [] [] v.held (d g f) (heads-are g f).has_held);
      process = same.1.process;
    }) c.ask.ensures.err

pub returns-in-Some-clause-wanted : goal.returns-in-Some-clause-wanted
returns-in-Some-clause-wanted g c = on-err-one c.ask.result (λ wants.
    let f : goal.After-ask-arg-1 g = c.before.before.before in
    let s : Dimensions = (g.B.Beneath.storage c.args.below.now).shape in
    let b : Process = (g.B.Beneath.storage c.args.below.now).process in
    let r : Replica = c.index_mut.result.now.replica in
    let h : Head = c.in-Some.head in
    let same : c.index_mut.result.now.shape ≡ s = same-shape (lent g f) ∙ ap (λ (x : Serving). x.shape) c.self.view_is ∙ sym c.requires.beneath.shape in
    let home : d g f ≡ home_of (key_of c.args.op.now.act) s.k
    = c.home-partition.ensures.value ∙ home-same c.key.result.now c.act.result.now c.args.op.now.act c.k.result s.k c.key.ensures c.act.ensures
    (c.k.ensures.value ∙ ap (λ (x : Serving). x.shape.k) c.self.view_is ∙ sym (ap (λ (x : Dimensions). x.k) c.requires.beneath.shape)) in
    subst (λ (x : Dimensions). AskWants x c.args.op.now (serving c.args.self.now b)) c.requires.beneath.shape
    (wants-at s c.args.self.now b h r c.args.op.now (d g f) home
    (head-at (lent g f).place c.index.result.now c.index.ensures ∙ c.in-Some.is) (here (lent g f))
    (subst (λ (x : Dimensions). MayWant (space_of x) h.inherited r c.args.op.now (found_in s (d g f) b)) same wants))) c.ask.ensures.wanted
