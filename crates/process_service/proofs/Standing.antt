-- What is beneath a process's partitions, after a step for one of them.
use Rattle.std.proofs.Common.{ℕ, Result, Ok, Err, IfOk, OnErr, OnOk, ◌≡◌, ◌≢◌, ◌<◌, ◌==◌, true, false, ◌⊎◌, inl, inr}
use Rattle.std.proofs.Common.{[], List, length, refl, sym, ap, subst, ◌∙◌}
use Rattle.std.proofs.lemmas.Bool.Decides.{eqb_tells}
use Rattle.std.specs.Prelude.{All}
use Rattle.group_types.specs.Dimensions.{Dimensions}
use Rattle.group_types.specs.Lists.{at, put}
use Rattle.group_types.proofs.Lists.{at-put, at-put-other}
use Rattle.group_calls.specs.Turns.{CallName}
use Rattle.group_calls.specs.declared.decision.Decision.{Decision}
use Rattle.group_calls.specs.declared.decision.Decision.TheVariants as decides
use Rattle.group_message.specs.declared.update.Update.{Update}
use Rattle.group_run.specs.Applying.{Settlement, bytes_after}
use Rattle.group_run.specs.Process.{Head, Held, Process}
use Rattle.group_run.specs.Replica.{Replica, empty_replica, up_to, with_update}
use Rattle.memc_table.specs.Asked.{Asked}
use Rattle.head_service.specs.Acting.{IsMade, acts, next_update}
use Rattle.head_service.specs.Laws.{ArePeers}
use Rattle.head_service.specs.Peers.{settles}
use Rattle.partition_replica.specs.State.{ReplicaState}
use Rattle.head_service.specs.Seat.{ChangesOnlyRoom}
use Rattle.head_service.specs.Serving.{Serving}
use Rattle.head_service.specs.Settling.{HasSettled}
use Rattle.head_service.specs.Storage.{Storage}
use Rattle.head_service.specs.declared.ask.Asking.{Asking}
use Rattle.head_service.specs.declared.ask.Asking.TheVariants.{Done, Need}
use Rattle.head_service.specs.declared.peers.Peers.{Peers}
use Rattle.head_service.proofs.Settling.{blocks-kept}
use Rattle.process_service.specs.Standing.{IsBeneath}

-- bytes of the same process, with rebuilt blocks of as many partitions
pub record AreKept (b b2 : Process) : Type 0 where
  pub name : b2.name ≡ b.name
  pub blocks : length b2.as_leader.rebuilt ≡ length b.as_leader.rebuilt

pub after-kept : (s : Dimensions) (d : ℕ) (us : List Update) (b : Process) → d < length b.as_leader.rebuilt → AreKept b (bytes_after s d us b)
after-kept s d us b within = record { name = refl; blocks = blocks-kept s d us b within }

pub after-as : (s : Dimensions) (d : ℕ) (us : List Update) (b b2 : Process) → d < length b.as_leader.rebuilt → b2 ≡ bytes_after s d us b → AreKept b b2
after-as s d us b b2 within is = subst (AreKept b) (sym is) (after-kept s d us b within)

pub same-as : (b b2 : Process) → b2 ≡ b → AreKept b b2
same-as b b2 is = subst (AreKept b) (sym is) (record { name = refl; blocks = refl })

pub acts-kept : (s : Dimensions) (d : ℕ) (peers : Peers) (h : Head) (name : CallName) (op : Asked) (r : Replica)
    (held : List Held) (b : Process) (decision : Decision)
    → d < length b.as_leader.rebuilt → AreKept b (acts s d peers h name op r held b decision).bytes
acts-kept s d peers h name op r held b (decides.Answer reply) within = record { name = refl; blocks = refl }
acts-kept s d peers h name op r held b (decides.Retry n) within = record { name = refl; blocks = refl }
acts-kept s d peers h name op r held b decides.NoSpace within = record { name = refl; blocks = refl }
acts-kept s d peers h name op r held b (decides.NeedBlock block) within = record { name = refl; blocks = refl }
acts-kept s d peers h name op r held b (decides.Issue body outcome) within =
    after-kept s d (up_to (settles peers h (next_update name op body outcome r).number) (with_update (next_update name op body outcome r) r)) b within

module _ (v : Serving) (b : Storage) (is : IsBeneath v b) where
  pub standing-next : (w : Serving) (c : Storage) (d : ℕ) (r : Replica)
      → w.shape ≡ v.shape → w.name ≡ v.name → w.replicas ≡ put empty_replica v.replicas d r → c.shape ≡ b.shape → AreKept b.process c.process
      → All (c.is_ready d) r.log → ((e : ℕ) (u : Update) → b.is_ready e u → c.is_ready e u) → IsBeneath w c
  standing-next w c d r shape name replicas same kept here others = record {
    shape = same ∙ is.shape ∙ sym shape;
    name = kept.name ∙ is.name ∙ sym name;
    blocks = kept.blocks ∙ is.blocks ∙ ap (λ (x : Dimensions). x.k) (sym shape);
    ready = λ e below. subst (λ (rs : List Replica). All (c.is_ready e) (at empty_replica rs e).log) (sym replicas)
        (by e (subst (λ (x : Dimensions). e < x.k) shape below) (eqb_tells e d));
  } where
    by : (e : ℕ) → e < v.shape.k → (((e == d) ≡ true) × (e ≡ d)) ⊎ (((e == d) ≡ false) × (e ≢ d))
        → All (c.is_ready e) (at empty_replica (put empty_replica v.replicas d r) e).log
    by e below (inl same) = subst (λ (x : Replica). All (c.is_ready e) x.log)
        (sym (ap (at empty_replica (put empty_replica v.replicas d r)) same.1 ∙ at-put empty_replica empty_replica
        v.replicas d r))
        (subst (λ (x : ℕ). All (c.is_ready x) r.log) (sym same.1) here)
    by e below (inr other) = subst (λ (x : Replica). All (c.is_ready e) x.log)
        (sym (at-put-other empty_replica v.replicas d e r other.1)) (λ k u lt. others e _ (is.ready e below k u lt))

-- the bytes of a head's step
pub made-kept : {E : Type 0} (s : Dimensions) (d : ℕ) (peers : Peers) (h : Head) (name : CallName) (op : Asked)
    (r : ReplicaState) (held : List Held) (b c : Storage) (decision : Decision)
    → d < length b.process.as_leader.rebuilt → (result : Result Asking E) (r2 : ReplicaState) (held2 : List Held)
    → IfOk result (λ asked. IsMade s decision (acts b.shape d peers h name op r.replica held b.process decision) asked r2.replica held2 c.process)
    → OnErr result ((held2 ≡ held) × ChangesOnlyRoom r r2 b c) → AreKept b.process c.process
made-kept s d peers h name op r held b c decision within (Ok (Done step)) r2 held2 made err =
    subst (AreKept b.process) (sym made.0.bytes) (acts-kept b.shape d peers h name op r.replica held b.process decision within)
made-kept s d peers h name op r held b c decision within (Ok (Need block)) r2 held2 made err =
    subst (AreKept b.process) (sym made.3) (acts-kept b.shape d peers h name op r.replica held b.process decision within)
made-kept s d peers h name op r held b c decision within (Err e) r2 held2 made err = same-as b.process c.process err.1.process

-- the bytes of a step that settles up to a number, or wants memory
pub settled-kept : {T E : Type 0} (d n : ℕ) (r s : ReplicaState) (b c : Storage) (h h2 : Head) → d < length b.process.as_leader.rebuilt
    → (result : Result T E) (items : T → List Settlement) → IfOk result (λ settled. HasSettled d n r.replica s.replica b c [] (items settled))
    → OnErr result ((h2 ≡ h) × ChangesOnlyRoom r s b c) → AreKept b.process c.process
settled-kept d n r s b c h h2 within (Ok settled) items made err = after-as b.shape d (up_to n r.replica) b.process c.process within made.applied.process
settled-kept d n r s b c h h2 within (Err e) items made err = same-as b.process c.process err.1.process

-- the peers that a process tells of are those of the process over these bytes
pub peers-are : {v : Serving} {b : Storage} → IsBeneath v b → (peers : Peers)
    → peers.m ≡ v.shape.m → peers.name ≡ v.name → peers.known ≡ v.known → ArePeers b.shape v b.process peers
peers-are is peers m name known = record { m = m ∙ sym (ap (λ (x : Dimensions). x.m) is.shape); name = name ∙ sym is.name; known = known }
