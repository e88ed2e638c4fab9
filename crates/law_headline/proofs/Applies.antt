-- What a step applies is settled after it.
use Rattle.std.proofs.Common.{ℕ, ◌≡◌, ◌<◌, ◌≤◌, ◌+◌, ◌-◌, false, List, [], length, take, drop, ◌⊎◌, inl, inr, sym, ap, subst, ◌∙◌, arith}
use Rattle.std.proofs.lemmas.Bool.{cases_eq}
use Rattle.std.proofs.lemmas.List.{drop-take, take-take}
use Rattle.group_types.specs.Dimensions.{Dimensions}
use Rattle.group_types.specs.Names.{IsProcess}
use Rattle.group_types.specs.declared.process.ProcessId.{ProcessId}
use Rattle.group_types.specs.declared.process.ProcessId.TheVariants.{DataNode, ParityNode}
use Rattle.group_message.specs.declared.update.Update.{Update}
use Rattle.group_run.specs.Applying.{ProcessStep, replica_of}
use Rattle.group_run.specs.Process.{Process}
use Rattle.group_run.specs.Replica.{Replica, empty_replica}
use Rattle.group_run.specs.History.{history}
use Rattle.law_moves.specs.State.{State}
use Rattle.law_histories.proofs.LaneWords.{Prolongs}
use Rattle.law_histories.proofs.Reach.{IsKeeper, PartitionReaches, Reach, ReplicaReaches}
use Rattle.law_histories.proofs.Around.{FollowsBy, GrewBy, Since}
use Rattle.law_histories.proofs.Histories.{length-history, log-is}
use Rattle.law_bytes.proofs.Premises.{AppliesSettled, GoesOn}

-- part of a list, within a front of it
cut : (m a c : ℕ) (us : List Update) → a + m ≤ c → take m (drop a (take c us)) ≡ take m (drop a us)
cut m a c us within =
    let split : c ≡ a + (c - a) = omega (arith, within) in
    ap (λ (k : ℕ). take m (drop a (take k us))) split ∙ ap (take m) (drop-take a (c - a) us) ∙ take-take m (c - a) (drop a us) (omega (arith, within))

-- a log goes on as what is settled, where its history prolongs that
pub goes-on : (settled : List Update) (r : Replica) → r.applied ≤ length settled → Prolongs settled (history settled r) → GoesOn settled r
goes-on settled r applied prolongs m short within =
    ap (take m) (sym (log-is settled r applied))
    ∙ sym (cut m r.applied (length settled) (history settled r) within)
    ∙ ap (λ (us : List Update). take m (drop r.applied us)) prolongs.front

-- and as what is settled later, where a longer history prolongs that
pub goes-grown : (settled more : List Update) (r : Replica) (whole : List Update) → r.applied ≤ length settled
    → Prolongs (history settled r) whole → Prolongs more whole → GoesOn more r
goes-grown settled more r whole applied begins prolongs m short within =
    ap (take m) (sym (log-is settled r applied))
    ∙ ap (λ (us : List Update). take m (drop r.applied us)) (sym begins.front)
    ∙ cut m r.applied (length (history settled r)) whole (let long = length-history settled r applied in omega (arith, long, short))
    ∙ sym (cut m r.applied (length more) whole within)
    ∙ ap (λ (us : List Update). take m (drop r.applied us)) prolongs.front

-- partitions that a process doesn't keep are as at the start
abbrev pub Unkept : Dimensions → State → Type 0
Unkept s v = (p : ProcessId) (d : ℕ) → IsProcess s p → v.dead p ≡ false → d < s.k → ¬ (IsKeeper d p) → replica_of (v.process p) d ≡ empty_replica

keeper-cases : (d : ℕ) (p : ProcessId) → IsKeeper d p ⊎ (¬ (IsKeeper d p))
keeper-cases d (ParityNode i) = inl tt
keeper-cases d (DataNode e) = cases_eq e d

module _ (F : ℕ → ℕ → List Update → Type 0) (s : Dimensions) (v w : State) (p : ProcessId) (t : ProcessStep)
    (pin : IsProcess s p) (lives : v.dead p ≡ false) (still : w.dead p ≡ false) (is : w.process p ≡ t.process)
    (reach : Reach F s v) (unkept : Unkept s v)
    (both : (d : ℕ) → d < s.k → PartitionReaches F s w d × Since d (v.process p) (w.process p) × GrewBy d (v.settled d) (w.settled d) (w.process p)
    × FollowsBy d (v.settled d) (replica_of (v.process p) d) (w.settled d) (w.process p)
    × (¬ (IsKeeper d p) → replica_of (w.process p) d ≡ replica_of (v.process p) d)) where
  empty-goes : (settled : List Update) (r : Replica) → r ≡ empty_replica → GoesOn settled r
  empty-goes settled r empty =
      subst (GoesOn settled) (sym empty) (λ m short within. let none : m ≡ 0 = omega (arith, short) in
      ap (λ (k : ℕ). take k []) none ∙ sym (ap (λ (k : ℕ). take k (drop 0 settled)) none))

  log-goes : (d : ℕ) → d < s.k → IsKeeper d p → GoesOn (w.settled d) (replica_of (v.process p) d)
  log-goes d below keeps = by (both d below).2 where
    was : ReplicaReaches F d (v.settled d) (v.process p)
    was = (reach d below).replicas p pin lives keeps

    now : ReplicaReaches F d (w.settled d) (w.process p)
    now = (both d below).0.replicas p pin still keeps

    by : GrewBy d (v.settled d) (w.settled d) (w.process p) → GoesOn (w.settled d) (replica_of (v.process p) d)
    by (inl same) = subst (λ (us : List Update). GoesOn us (replica_of (v.process p) d)) (sym same)
        (goes-on (v.settled d) (replica_of (v.process p) d) was.applied was.prolongs)
    by (inr has) =
        goes-grown (v.settled d) (w.settled d) (replica_of (v.process p) d) (history (w.settled d) (replica_of (w.process p) d)) was.applied
        ((both d below).3 has.head has.heads) now.prolongs

  pub applies : AppliesSettled s w.settled (v.process p) t
  applies = record {
    within = λ d below. subst (λ (y : Process). (replica_of y d).applied ≤ length (w.settled d)) is (within d below (keeper-cases d p));
    log = λ d below. log d below (keeper-cases d p);
  } where
    within : (d : ℕ) → d < s.k → IsKeeper d p ⊎ (¬ (IsKeeper d p)) → (replica_of (w.process p) d).applied ≤ length (w.settled d)
    within d below (inl keeps) = ((both d below).0.replicas p pin still keeps).applied
    within d below (inr not) = subst (λ (r : Replica). r.applied ≤ length (w.settled d))
        (sym ((both d below).4 not ∙ unkept p d pin lives below not)) (omega arith)

    log : (d : ℕ) → d < s.k → IsKeeper d p ⊎ (¬ (IsKeeper d p)) → GoesOn (w.settled d) (replica_of (v.process p) d)
    log d below (inl keeps) = log-goes d below keeps
    log d below (inr not) = empty-goes (w.settled d) (replica_of (v.process p) d) (unkept p d pin lives below not)
