-- What following keeps and asks.
use Rattle.std.proofs.Common.{ℕ, suc, ◌≡◌, ◌+◌, ◌-◌, ◌≤◌, Bool, ◌||◌, true, false, List, [], ◌∷◌, ◌++◌, drop, length}
use Rattle.std.proofs.Common.{take, All, is_some, refl, sym, ap, ◌∙◌, subst, arith}
use Rattle.std.proofs.Math.Bool.{or-true}
use Rattle.std.proofs.lemmas.List.{length-take-le}
use Rattle.std.proofs.lemmas.List.Elements.{All-cons, All-nil}
use Rattle.group_types.specs.Lists.{same_key}
use Rattle.group_message.specs.declared.update.Update.{Update}
use Rattle.group_run.specs.Applying.{Settlement}
use Rattle.group_run.specs.Fitting.{AllCanCome, NumberedFrom, Writes}
use Rattle.group_run.specs.Heading.{settlements}
use Rattle.group_run.specs.Replica.{Replica, applied_to, last_of, number_on, slot_in, with_log, with_update}
use Rattle.request_log.specs.Logged.{IsNumbered}
use Rattle.partition_replica.specs.State.{IsTidyBut, ReplicaState, is_needed, is_touched}
use Rattle.head_service.specs.Seat.{StandsOn}
use Rattle.head_service.specs.Settling.{updates_settled}
use Rattle.head_service.specs.Storage.{Storage}
use Rattle.head_service.proofs.Tidying.{number-last, updates-are}

-- what is owed of the updates of a list that was empty before it was settled
pub settled-owed : (t : ReplicaState) (d : ℕ) (us : List Update) (old new slice : List Settlement) → old ≡ [] → new ≡ old ++ settlements d us → slice ≡ new
    → (owed : List ℕ → Bool) → IsTidyBut t (λ q. owed q || is_touched us q) → IsTidyBut t (λ q. owed q || is_touched (updates_settled slice) q)
settled-owed t d us old new slice empty is same owed tidy = subst (λ (vs : List Update). IsTidyBut t (λ q. owed q || is_touched vs q))
    (sym (ap updates_settled (same ∙ is ∙ ap (λ (xs : List Settlement). xs ++ settlements d us) empty) ∙ updates-are d us)) tidy

-- nothing is owed of an update that stands in the log
pub received-tidy : (s t : ReplicaState) (u : Update) (owed : List ℕ → Bool) → t.replica ≡ with_update u s.replica
    → IsTidyBut t (λ q. (false || is_touched (u ∷ []) q) || owed q) → IsTidyBut t (λ q. false || owed q)
received-tidy s t u owed is tidy q ready = by (same_key u.key q) refl (tidy q ready) where
  needed : same_key u.key q ≡ true → is_some (number_on t.replica.log q) ≡ true
  needed same = ap (λ (r : Replica). is_some (number_on r.log q)) is ∙ number-last s.replica.log u q same

  by : (same : Bool) → same_key u.key q ≡ same → (is_needed t.replica.items t.replica.log q || ((false || (same || false)) || owed q)) ≡ true
      → (is_needed t.replica.items t.replica.log q || (false || owed q)) ≡ true
  by false test is = is
  by true test is = ap (λ (b : Bool). (is_some (slot_in t.replica.items q) || b) || owed q) (needed test)
      ∙ ap (λ (b : Bool). b || owed q) (or-true (is_some (slot_in t.replica.items q)))

-- the numbers of a list, as a log says them
pub numbered : (base : ℕ) (us : List Update) → NumberedFrom (suc base) us → IsNumbered (λ (u : Update). u.number) base us
numbered base [] from = tt
numbered base (u ∷ us) from =
    let next : suc base ≡ base + 1 = omega arith in
    (from.0 ∙ next, numbered (base + 1) us (subst (λ (n : ℕ). NumberedFrom (suc n) us) next from.1))

-- updates that can come write as they must
pub come-writes : (space : ℕ) (r : Replica) (us : List Update) → AllCanCome space r us → All (λ (u : Update). Writes space u.body) us
come-writes space r [] come = All-nil (λ (u : Update). Writes space u.body)
come-writes space r (u ∷ us) come = All-cons (λ (v : Update). Writes space v.body) u us come.0.writes (come-writes space (with_update u r) us come.1)

-- how many updates of a list are applied once everything up to its base is
pub known : (base : ℕ) (r : Replica) → base ≤ last_of r → (applied_to base r).applied - base ≡ r.applied - base
known base r reached = let long : length (take (base - r.applied) r.log) ≡ base - r.applied =
    length-take-le (base - r.applied) r.log (omega (arith, reached)) in omega (arith, long)

-- what is owed of no updates any more
pub owed-none : (needed owed : Bool) → (needed || (owed || false)) ≡ true → (needed || owed) ≡ true
owed-none true owed is = refl
owed-none false true is = refl
owed-none false false is = is

-- where a new head's list is adopted, of which all is ready
pub stands-adopted : {d : ℕ} {r s : ReplicaState} {b : Storage} (first : Replica) (base : ℕ) (list copy : List Update) → StandsOn d r b → base ≤ last_of first
    → r.replica ≡ applied_to base first → copy ≡ list → s.shape ≡ r.shape → s.replica ≡ with_log (drop (r.replica.applied - base) copy) r.replica
    → All (b.is_ready d) (drop (first.applied - base) list) → StandsOn d s b
stands-adopted {d} {r} {s} {b} first base list copy stands reached settled copied shape adopted ready =
    let same : r.replica.applied - base ≡ first.applied - base = ap (λ (x : Replica). x.applied - base) settled ∙ known base first reached in
    record {
      partition = stands.partition;
      shape = stands.shape ∙ sym shape;
      blocks = stands.blocks;
      ready = subst (λ (x : Replica). All (b.is_ready d) x.log) (sym adopted)
          (subst (λ (n : ℕ). All (b.is_ready d) (drop n copy)) (sym same)
          (subst (λ (us : List Update). All (b.is_ready d) (drop (first.applied - base) us)) (sym copied) ready));
    }
