-- What a process keeps of one partition, as its contracts see it, and what it keeps once the partition's part changed.
use Rattle.std.proofs.Common.{ℕ, ◌≡◌, ◌<◌, ◌≤◌, ◌+◌, ◌-◌, false, List, ◌++◌, Option, None, Some, length, map, take}
use Rattle.std.proofs.Common.{drop, slice_index_or, All, IfSome, refl, sym, ap, subst, ◌∙◌, arith}
use Rattle.std.proofs.lemmas.List.{length-append, take-append-drop}
use Rattle.std.specs.Prelude.{set}
use Rattle.group_types.specs.Dimensions.{Dimensions}
use Rattle.group_types.specs.Lists.{at, put}
use Rattle.group_types.proofs.Lists.{put-at, set_put}
use Rattle.group_types.specs.declared.process.Rank.{Rank}
use Rattle.group_message.specs.declared.update.Update.{Update}
use Rattle.group_run.specs.Applying.{Settlement, bytes_after}
use Rattle.group_run.specs.Heading.{settlements}
use Rattle.group_run.specs.Process.{Head}
use Rattle.group_run.specs.Replica.{Replica, applied_to, empty_replica, up_to}
use Rattle.partition_replica.specs.State.{IsTidyBut, ReplicaState}
use Rattle.head_service.specs.Laws.{HeadsPartition}
use Rattle.head_service.specs.Seat.{IsWholeSeat}
use Rattle.head_service.specs.Serving.{Serving}
use Rattle.head_service.specs.Storage.{MakesReady, StaysReady, Storage}
use Rattle.process_service.specs.Noticing.{waiting}
use Rattle.process_service.specs.Standing.{GrowsOver, IsBeneath, IsServingState, StaysOver}
use Rattle.process_service.specs.contracts.service.Service.{the_view}
use Rattle.process_service.specs.declared.service.Service.TheInside.{Inside}
use Rattle.process_service.proofs.Judged.{one-waits, room-kept, settled-long}
use Rattle.process_service.proofs.Lists.{entry-at, long-map, part-at, part-put}
use Rattle.process_service.proofs.Standing.{AreKept, after-as, standing-next}

-- each list that the process keeps has a place for the partition
pub record HasPlace (inside : Inside) (now : Serving) (d : ℕ) : Type 0 where
  pub view : the_view inside ≡ now
  pub kept : IsServingState inside.shape inside.name inside.known inside.replicas.items (length inside.ranks.items) inside.heads.items
      (length inside.held.items)
  pub below : d < now.shape.k

-- this is the replica at that place
pub record IsLent (inside : Inside) (now : Serving) (d : ℕ) (state : ReplicaState) : Type 0 where
  pub place : HasPlace inside now d
  pub entry : state ≡ slice_index_or inside.replicas.items d state

module _ {inside : Inside} {now : Serving} {d : ℕ} (place : HasPlace inside now d) where
  pub narrow : d < inside.shape.k
  narrow = omega (arith, place.below, ap (λ (w : Serving). w.shape.k) place.view)

  pub has-head : d < length inside.heads.items
  has-head = omega (arith, narrow, place.kept.heads_long)

  pub head-at : (x : Option Head) → x ≡ slice_index_or inside.heads.items d x → at None now.heads d ≡ x
  head-at x is = ap (λ (w : Serving). at None w.heads d) (sym place.view) ∙ entry-at None inside.heads.items d x has-head is

  -- the head that is there counts the acknowledgements of m parity processes
  pub counts : (x : Option Head) → x ≡ slice_index_or inside.heads.items d x → (h : Head) → x ≡ Some h → length h.acks ≡ now.shape.m
  counts x entry h is = subst (λ (o : Option Head). IfSome o (λ y. length y.acks ≡ inside.shape.m)) (sym entry ∙ is) (place.kept.acks d x has-head)
      ∙ ap (λ (w : Serving). w.shape.m) place.view

  pub heads-put : (x : Option Head) → set inside.heads.items d x ≡ put None now.heads d x
  heads-put x = set_put None inside.heads.items d x has-head ∙ ap (λ (w : Serving). put None w.heads d x) place.view

  pub heads-same : (x : Option Head) → x ≡ at None now.heads d → set inside.heads.items d x ≡ now.heads
  heads-same x is = heads-put x ∙ ap (put None now.heads d) is
      ∙ put-at None None now.heads d (omega (arith, has-head, ap (λ (w : Serving). length w.heads) place.view))

  pub ranks-put : (x : Rank) → map (λ (y : Rank). y.0) (set inside.ranks.items d x) ≡ put 0 now.ranks d x.0
  ranks-put x = part-put (λ (y : Rank). y.0) 0 inside.ranks.items d x (omega (arith, narrow, place.kept.ranks_long))
      ∙ ap (λ (w : Serving). put 0 w.ranks d x.0) place.view

module _ {inside : Inside} {now : Serving} {d : ℕ} {state : ReplicaState} (lent : IsLent inside now d state) where
  pub within : d < length inside.replicas.items
  within = omega (arith, narrow lent.place, lent.place.kept.replicas_long)

  pub here : at empty_replica now.replicas d ≡ state.replica
  here = ap (λ (w : Serving). at empty_replica w.replicas d) (sym lent.place.view)
      ∙ part-at (λ (x : ReplicaState). x.replica) empty_replica inside.replicas.items d state within lent.entry

  pub same-shape : state.shape ≡ inside.shape
  same-shape = ap (λ (x : ReplicaState). x.shape) lent.entry ∙ lent.place.kept.shapes d state within

  pub has-replica : d < length now.replicas
  has-replica = omega (arith, within, long-map (λ (x : ReplicaState). x.replica) inside.replicas.items, ap (λ (w : Serving). length w.replicas) lent.place.view)

  -- what holds of the shape and of the partition's replica holds of what is lent
  pub lends : (P : Dimensions → Replica → Type 0) → P now.shape (at empty_replica now.replicas d) → P state.shape state.replica
  lends P is = subst (λ (s : Dimensions). P s state.replica) (sym (same-shape ∙ ap (λ (w : Serving). w.shape) lent.place.view))
      (subst (P now.shape) here is)

  view-shape : inside.shape ≡ now.shape
  view-shape = ap (λ (w : Serving). w.shape) lent.place.view

  -- so it is a head's seat
  pub seat-of : {b : Storage} → IsBeneath now b → IsWholeSeat d state b
  seat-of {b} is = record {
    stands = record {
      partition = subst (λ (x : Dimensions). d < x.k) (sym is.shape) lent.place.below;
      shape = is.shape ∙ sym (same-shape ∙ view-shape);
      blocks = omega (arith, lent.place.below, is.blocks);
      ready = subst (λ (x : Replica). All (b.is_ready d) x.log) here (is.ready d lent.place.below);
    };
    tidy = subst (λ (x : ReplicaState). IsTidyBut x (λ _. false)) (sym lent.entry) (lent.place.kept.tidy d state within);
  }

  -- and what sits there after a step is of the shape that is kept
  pub shape-after : {b c : Storage} → IsBeneath now b → (t : ReplicaState) → IsWholeSeat d t c → c.shape ≡ b.shape → t.shape ≡ inside.shape
  shape-after is t seat same = sym seat.stands.shape ∙ same ∙ is.shape ∙ sym view-shape

  pub heads-as : (h : Head) → at None now.heads d ≡ Some h → HeadsPartition now d h state.replica
  heads-as h is = record {
    head = is;
    replica = here;
    has_replica = has-replica;
    has_held = omega (
      arith,
      narrow lent.place,
      lent.place.kept.held_long,
      long-map (λ x. x.items) inside.held.items,
      ap (λ (w : Serving). length w.held) lent.place.view,
    );
  }

  -- what the process keeps with another replica at that place
  abbrev pub written : ReplicaState → Serving
  written t = record (the_view inside) { replicas = map (λ (x : ReplicaState). x.replica) (set inside.replicas.items d t) }

  pub put-back : (t : ReplicaState) → written t ≡ record now { replicas = put empty_replica now.replicas d t.replica }
  put-back t = ap (λ (rs : List Replica). record (the_view inside) { replicas = rs })
      (part-put (λ (x : ReplicaState). x.replica) empty_replica inside.replicas.items d t within)
      ∙ ap (λ (w : Serving). record w { replicas = put empty_replica w.replicas d t.replica }) lent.place.view

  pub put-same : (t : ReplicaState) → t.replica ≡ state.replica → written t ≡ now
  put-same t same = put-back t ∙ ap (λ (rs : List Replica). record now { replicas = rs })
      (ap (put empty_replica now.replicas d) (same ∙ sym here) ∙ put-at empty_replica empty_replica now.replicas d has-replica)

  -- what the process keeps with another replica, rank and head at that place
  abbrev pub headed : ReplicaState → Rank → Option Head → Serving
  headed t rank head = record (written t) { ranks = map (λ (x : Rank). x.0) (set inside.ranks.items d rank); heads = set inside.heads.items d head }

  pub headed-is : (t : ReplicaState) (rank : Rank) (h : Head) → rank.0 ≡ h.rank
      → headed t rank (Some h) ≡ record now {
        replicas = put empty_replica now.replicas d t.replica;
        ranks = put 0 now.ranks d h.rank;
        heads = put None now.heads d (Some h);
      }
  headed-is t rank h same =
      ap (λ (ns : List ℕ). record (written t) { ranks = ns; heads = set inside.heads.items d (Some h) })
      (ranks-put lent.place rank ∙ ap (put 0 now.ranks d) same)
      ∙ ap (λ (hs : List (Option Head)). record (written t) { ranks = put 0 now.ranks d h.rank; heads = hs }) (heads-put lent.place (Some h))
      ∙ ap (λ (w : Serving). record w { ranks = put 0 now.ranks d h.rank; heads = put None now.heads d (Some h) }) (put-back t)

  pub stands : {b c : Storage} → IsBeneath now b → (t : ReplicaState) → c.shape ≡ b.shape → AreKept b.process c.process
      → All (c.is_ready d) t.replica.log → ((e : ℕ) (u : Update) → b.is_ready e u → c.is_ready e u) → IsBeneath (written t) c
  stands {b} {c} is t shape kept log others =
      subst (λ (w : Serving). IsBeneath w c) (sym (put-back t))
      (standing-next now b is (record now { replicas = put empty_replica now.replicas d t.replica }) c d t.replica refl refl refl shape kept log others)

  -- a step for the partition is one of the process
  pub stays-over : {b c : Storage} → IsBeneath now b → (t : ReplicaState) → IsWholeSeat d t c → AreKept b.process c.process → StaysReady b c
      → StaysOver now (written t) b c
  stays-over is t seat kept stays = record {
    shape = view-shape;
    name = ap (λ (w : Serving). w.name) lent.place.view;
    beneath = stands is t stays.shape kept seat.stands.ready stays.kept;
    pages = stays.pages;
  }

  pub grows-over : {IsMissed : ℕ → Type 0} {b c : Storage} → IsBeneath now b → (t : ReplicaState) → IsWholeSeat d t c
      → AreKept b.process c.process → MakesReady IsMissed b c
      → GrowsOver IsMissed now (written t) b c
  grows-over is t seat kept makes = record {
    shape = view-shape;
    name = ap (λ (w : Serving). w.name) lent.place.view;
    beneath = stands is t makes.shape kept seat.stands.ready makes.kept;
    pages = makes.pages;
  }

  -- the bytes, where the partition is applied up to a number
  pub applied-kept : {b : Storage} → IsBeneath now b → (c : Storage) (n : ℕ)
      → c.process ≡ bytes_after b.shape d (up_to n state.replica) b.process → AreKept b.process c.process
  applied-kept {b} is c n = after-as b.shape d (up_to n state.replica) b.process c.process (omega (arith, lent.place.below, is.blocks))

  -- the room of a list for what waits, before and after the partition's updates are settled into it
  pub waits-in : length state.replica.log ≤ waiting now.replicas
  waits-in = one-waits now.replicas d state.replica here has-replica

  -- and so what is settled up to a number
  pub up-in : (n : ℕ) → length (up_to n state.replica) ≤ waiting now.replicas
  up-in n =
      let behind : ℕ = n - state.replica.applied in
      let whole : length (take behind state.replica.log) + length (drop behind state.replica.log) ≡ length state.replica.log
      = sym (length-append (take behind state.replica.log) (drop behind state.replica.log)) ∙ ap length (take-append-drop behind state.replica.log) in
      omega (arith, waits-in, whole)

  pub room-left : (n : ℕ) (t : ReplicaState) (long long2 room room2 : ℕ) (before after : List Settlement) → t.replica ≡ applied_to n state.replica
      → after ≡ before ++ settlements d (up_to n state.replica) → long ≡ length before → long2 ≡ length after → room ≤ room2
      → long + waiting now.replicas ≤ room → long2 + waiting (written t).replicas ≤ room2
  room-left n t long long2 room room2 before after is settled was grown wider fits =
      subst (λ (w : Serving). long2 + waiting w.replicas ≤ room2) (sym (put-back t))
      (room-kept now.replicas d state.replica here has-replica n t.replica long long2 room room2 is
      (settled-long now.replicas d state.replica here has-replica n long long2 before after settled was grown) wider fits)

-- the ranks and heads don't count beneath
pub other-heads : {v w : Serving} {b c : Storage} (ranks : List ℕ) (heads : List (Option Head)) → StaysOver v w b c
    → StaysOver v (record w { ranks = ranks; heads = heads }) b c
other-heads ranks heads is = record {
  shape = is.shape;
  name = is.name;
  beneath = record { shape = is.beneath.shape; name = is.beneath.name; blocks = is.beneath.blocks; ready = is.beneath.ready };
  pages = is.pages;
}

pub other-ranks : {IsMissed : ℕ → Type 0} {v w : Serving} {b c : Storage} (ranks : List ℕ) → GrowsOver IsMissed v w b c
    → GrowsOver IsMissed v (record w { ranks = ranks }) b c
other-ranks ranks is = record {
  shape = is.shape;
  name = is.name;
  beneath = record { shape = is.beneath.shape; name = is.beneath.name; blocks = is.beneath.blocks; ready = is.beneath.ready };
  pages = is.pages;
}
