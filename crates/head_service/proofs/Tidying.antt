-- What is owed of the readiness of keys.
use Rattle.std.proofs.Common.{ℕ, ◌≡◌, Bool, ◌||◌, ◌&&◌, not, true, false, List, [], ◌∷◌, ◌++◌, Option, Some, None, is_some, if◌then◌else◌, refl, ap, ◌∙◌}
use Rattle.std.proofs.Math.Bool.{or-true}
use Rattle.group_types.specs.Lists.{same_key}
use Rattle.group_message.specs.declared.update.Update.{Update}
use Rattle.group_run.specs.Heading.{settlements}
use Rattle.group_run.specs.Replica.{Replica, number_on, slot_in, with_update}
use Rattle.partition_replica.specs.State.{IsTidyBut, ReplicaState, is_needed, is_touched}
use Rattle.head_service.specs.Settling.{updates_settled}

-- a key is tidied
pub tidied : (needed owed same touched : Bool) → (needed || ((owed || (same || touched)) && not same)) ≡ true → (needed || (owed || touched)) ≡ true
tidied true owed same touched is = refl
tidied false true same touched is = refl
tidied false false true touched is = absurd (cc is)
tidied false false false touched is = by touched is where
  by : (t : Bool) → (t && true) ≡ true → t ≡ true
  by true is = refl
  by false is = absurd (cc is)

-- less is owed
pub tidy-weaker : (s : ReplicaState) (more less : List ℕ → Bool) → ((q : List ℕ) → more q ≡ true → less q ≡ true) → IsTidyBut s more → IsTidyBut s less
tidy-weaker s more less weaker tidy q is = by (is_needed s.replica.items s.replica.log q) (more q) refl (tidy q is) where
  by : (needed m : Bool) → more q ≡ m → (needed || m) ≡ true → (needed || less q) ≡ true
  by true m test is = refl
  by false true test is = weaker q test
  by false false test is = absurd (cc is)

-- the updates of settlements
pub updates-are : (d : ℕ) (us : List Update) → updates_settled (settlements d us) ≡ us
updates-are d [] = refl
updates-are d (u ∷ us) = ap (λ (vs : List Update). u ∷ vs) (updates-are d us)

-- an update stands on its key
pub number-last : (log : List Update) (u : Update) (q : List ℕ) → same_key u.key q ≡ true → is_some (number_on (log ++ u ∷ []) q) ≡ true
number-last [] u q same = ap (λ (b : Bool). is_some (if b then Some u.number else None)) same
number-last (v ∷ log) u q same = by (number_on (log ++ u ∷ []) q) (number-last log u q same) where
  by : (m : Option ℕ) → is_some m ≡ true
      → is_some (elim m as (λ _. Option ℕ) [
        | Some n ↦ Some n
        | None ↦ if same_key v.key q then Some v.number else None
      ]) ≡ true
  by (Some n) is = refl
  by None is = absurd (cc is)

-- nothing is owed of an update that stands in the log
pub received-tidy : (s t : ReplicaState) (u : Update) → t.replica ≡ with_update u s.replica
    → IsTidyBut t (λ q. false || is_touched (u ∷ []) q) → IsTidyBut t (λ _. false)
received-tidy s t u is tidy q ready = by (same_key u.key q) refl (tidy q ready) where
  needed : same_key u.key q ≡ true → is_some (number_on t.replica.log q) ≡ true
  needed same = ap (λ (r : Replica). is_some (number_on r.log q)) is ∙ number-last s.replica.log u q same

  by : (same : Bool) → same_key u.key q ≡ same
      → (is_needed t.replica.items t.replica.log q || (false || (same || false))) ≡ true
      → (is_needed t.replica.items t.replica.log q || false) ≡ true
  by false test is = is
  by true test is = ap (λ (b : Bool). (is_some (slot_in t.replica.items q) || b) || false) (needed test)
      ∙ ap (λ (b : Bool). b || false) (or-true (is_some (slot_in t.replica.items q)))
