-- Runs that are made longer until something holds, while something else is kept.
use Rattle.std.proofs.Common.{ℕ, zero, suc, ◌≡◌, ◌≢◌, ◌<◌, ◌+◌, ◌⊎◌, inl, inr, List, [], ◌∷◌, ◌++◌, refl, sym, subst, arith}
use Rattle.std.proofs.lemmas.Bool.{cases_eq}
use Rattle.std.proofs.lemmas.List.{append_assoc}
use Rattle.group_types.specs.Dimensions.{Dimensions}
use Rattle.group_types.specs.Each.{Each}
use Rattle.group_types.specs.Names.{IsProcess, index_of, process_at}
use Rattle.group_types.specs.declared.process.ProcessId.{ProcessId}
use Rattle.group_types.proofs.Eaches.{each-append}
use Rattle.group_types.proofs.Names.{index-below, process_at-in, process_at-index}
use Rattle.group_wire.specs.Actions.{Action}
use Rattle.group_wire.specs.Composed.{AreActions, AreActionsFrom, Composed, composed, composed_from, composed_with, opening_composed}
use Rattle.group_wire.specs.GoingOn.{CanBe, GoesOn}
use Rattle.group_wire.specs.May.{MayAct}

from-append : (c : Composed) (actions more : List Action) → composed_from c (actions ++ more) ≡ composed_from (composed_from c actions) more
from-append c [] more = refl
from-append c (a ∷ actions) more = from-append (composed_with c a) actions more

may-append : (c : Composed) (actions more : List Action) → AreActionsFrom c actions
    → AreActionsFrom (composed_from c actions) more → AreActionsFrom c (actions ++ more)
may-append c [] more run next = next
may-append c (a ∷ actions) more run next = (run.0, may-append (composed_with c a) actions more run.1 next)

-- more actions lead to where P holds, and keep K
abbrev pub Reaches : (Composed → Composed → Type 0) → Composed → (Composed → Type 0) → Type 0
Reaches K c P = (more : List Action) × AreActionsFrom c more × K c (composed_from c more) × P (composed_from c more) × Each GoesOn more

-- what is reached of a run
pub can-be : (K : Composed → Composed → Type 0) (P : Composed → Type 0) (s : Dimensions) (actions : List Action)
    → AreActions s actions → Reaches K (composed s actions) P → CanBe s actions P
can-be K P s actions run r = (
  r.0,
  (run.0, may-append (opening_composed s) actions r.0 run.1 r.1),
  subst P (sym (from-append (opening_composed s) actions r.0)) r.3,
  r.4,
)

-- one after the other
pub can-be-then : (P Q : Composed → Type 0) (s : Dimensions) (actions : List Action) → CanBe s actions P
    → ((more : List Action) → AreActions s (actions ++ more) → P (composed s (actions ++ more)) → CanBe s (actions ++ more) Q) → CanBe s actions Q
can-be-then P Q s actions first next = joined (next first.0 first.1 first.2) where
  joined : CanBe s (actions ++ first.0) Q → CanBe s actions Q
  joined r = (
    first.0 ++ r.0,
    subst (AreActions s) (append_assoc actions first.0 r.0) r.1,
    subst (λ (all : List Action). Q (composed s all)) (append_assoc actions first.0 r.0) r.2,
    each-append GoesOn first.0 r.0 first.3 r.3,
  )

-- the same while less is kept
pub reaches-kept : (K L : Composed → Composed → Type 0) (c : Composed) (P : Composed → Type 0)
    → ((d : Composed) → K c d → L c d) → Reaches K c P → Reaches L c P
reaches-kept K L c P less r = (r.0, r.1, less (composed_from c r.0) r.2, r.3, r.4)

-- the same with a weaker claim
pub reaches-weaker : (K : Composed → Composed → Type 0) (c : Composed) (P Q : Composed → Type 0)
    → ((d : Composed) → K c d → P d → Q d) → Reaches K c P → Reaches K c Q
reaches-weaker K c P Q weaker r = (r.0, r.1, r.2, weaker (composed_from c r.0) r.2 r.3, r.4)

-- by no action
pub reaches-here : (K : Composed → Composed → Type 0) (c : Composed) (P : Composed → Type 0) → K c c → P c → Reaches K c P
reaches-here K c P same is = ([], tt, same, is, tt)

-- by one action
pub reaches-by : (K : Composed → Composed → Type 0) (c : Composed) (P : Composed → Type 0) (a : Action) → GoesOn a
    → MayAct c.group a → K c (composed_with c a) → P (composed_with c a) → Reaches K c P
reaches-by K c P a goes may kept is = (a ∷ [], (may, tt), kept, is, (goes, tt))

module _ (K : Composed → Composed → Type 0) (trans : (c d e : Composed) → K c d → K d e → K c e) where
  -- one after the other
  pub reaches-then : (c : Composed) (P Q : Composed → Type 0) → Reaches K c P → ((d : Composed) → K c d → P d → Reaches K d Q) → Reaches K c Q
  reaches-then c P Q first next = joined (next d first.2 first.3) where
    d : Composed
    d = composed_from c first.0

    joined : Reaches K (composed_from c first.0) Q → Reaches K c Q
    joined r =
        let both : K c (composed_from c (first.0 ++ r.0)) × Q (composed_from c (first.0 ++ r.0)) =
        subst (λ (e : Composed). K c e × Q e) (sym (from-append c first.0 r.0)) (trans c d (composed_from d r.0) first.2 r.2, r.3) in
        (first.0 ++ r.0, may-append c first.0 r.0 first.1 r.1, both.0, both.1, each-append GoesOn first.0 r.0 first.4 r.4)

  -- for each number, where what is reached stays
  pub reaches-below : (P : ℕ → Composed → Type 0) → ((i : ℕ) (d e : Composed) → K d e → P i d → P i e) → (n : ℕ) (c : Composed) → K c c
      → ((d : Composed) → K c d → (i : ℕ) → i < n → Reaches K d (P i)) → Reaches K c (λ e. (i : ℕ) → i < n → P i e)
  reaches-below P stays zero c same step = reaches-here K c (λ e. (i : ℕ) → i < zero → P i e) same (λ i low. absurd (omega (arith, low)))
  reaches-below P stays (suc n) c same step =
      reaches-then c (λ e. (i : ℕ) → i < n → P i e) (λ e. (i : ℕ) → i < suc n → P i e)
      (reaches-below P stays n c same (λ d kept i low. step d kept i (omega (arith, low))))
      (λ d kept all. reaches-weaker K d (P n) (λ e. (i : ℕ) → i < suc n → P i e)
      (λ e later last i low. by e i low last (λ below. stays i d e later (all i below)) (cases_eq i n)) (step d kept n (omega arith)))
    where
      by : (e : Composed) (i : ℕ) → i < suc n → P n e → (i < n → P i e) → (i ≡ n) ⊎ (i ≢ n) → P i e
      by e i low last below (inl same) = subst (λ (j : ℕ). P j e) (sym same) last
      by e i low last below (inr other) = below (omega (arith, low, other))

  -- for each process of a group
  pub reaches-each : (s : Dimensions) (P : ProcessId → Composed → Type 0) → ((p : ProcessId) (d e : Composed) → K d e → P p d → P p e) → (c : Composed) → K c c
      → ((d : Composed) → K c d → (p : ProcessId) → IsProcess s p → Reaches K d (P p)) → Reaches K c (λ e. (p : ProcessId) → IsProcess s p → P p e)
  reaches-each s P stays c same step =
      reaches-weaker K c (λ e. (i : ℕ) → i < s.k + s.m → P (process_at s i) e) (λ e. (p : ProcessId) → IsProcess s p → P p e)
      (λ e kept all p pin. subst (λ (q : ProcessId). P q e) (process_at-index s p pin) (all (index_of s p) (index-below s p pin)))
      (reaches-below (λ i. P (process_at s i)) (λ i. stays (process_at s i)) (s.k + s.m) c same
      (λ d kept i low. step d kept (process_at s i) (process_at-in s i low)))
