-- The op of a call, among tickets of different calls.
use Rattle.std.proofs.Common.{ℕ, zero, suc, ◌≡◌, ◌<◌, ◌≤◌, Bool, true, false, List, [], ◌∷◌, None, length, map, get_or}
use Rattle.std.proofs.Common.{set, refl, sym, ap, ◌∙◌, arith, if◌then◌else◌}
use Rattle.std.proofs.lemmas.List.{get_or_default}
use Rattle.group_calls.specs.Turns.{CallName}
use Rattle.group_run.specs.World.{Ticket, op_in, same_call}
use Rattle.group_ledger.specs.Taking.{Differ, op_taken}
use Rattle.group_ledger.proofs.Calls.{same-flip, same-is, same-not}

pub differ-rest : (t : Ticket) (ts : List Ticket) → Differ (t ∷ ts) → Differ ts
differ-rest t ts all i j d before below = all (suc i) (suc j) d (omega (arith, before)) (omega (arith, below))

module _ (name : CallName) where
  -- none from a place on is of this call
  abbrev pub NoneFrom : List Ticket → ℕ → Type 0
  NoneFrom ts place = (k : ℕ) (d : Ticket) → place ≤ k → k < length ts → same_call (get_or ts k d).name name ≡ false

  abbrev rest-none : (t : Ticket) (ts : List Ticket) → NoneFrom (t ∷ ts) 0 → NoneFrom ts 0
  rest-none t ts none k d from below = none (suc k) d (omega arith) (omega (arith, below))

  pub other-kept : (t : Ticket) → same_call t.name name ≡ false → op_taken name t ≡ t
  other-kept t other = ap (λ (b : Bool). if b then record t { op = None } else t) (same-flip name t.name ∙ other)

  pub own-taken : (t : Ticket) → same_call t.name name ≡ true → op_taken name t ≡ record t { op = None }
  own-taken t own = ap (λ (b : Bool). if b then record t { op = None } else t) (same-flip name t.name ∙ own)

  -- where there is none, nothing is taken
  pub none-taken : (ts : List Ticket) → NoneFrom ts 0 → map (op_taken name) ts ≡ ts
  none-taken [] none = refl
  none-taken (t ∷ ts) none =
      ap (λ (x : Ticket). x ∷ map (op_taken name) ts) (other-kept t (none 0 t (omega arith) (omega arith)))
      ∙ ap (λ (xs : List Ticket). t ∷ xs) (none-taken ts (rest-none t ts none))

  pub none-in : (ts : List Ticket) → NoneFrom ts 0 → op_in name ts ≡ None
  none-in [] none = refl
  none-in (t ∷ ts) none =
      ap (λ (b : Bool). if b then t.op else op_in name ts) (none 0 t (omega arith) (omega arith))
      ∙ none-in ts (rest-none t ts none)

  -- all behind the one that is of this call aren't
  pub none-behind : (t : Ticket) (ts : List Ticket) → Differ (t ∷ ts) → same_call t.name name ≡ true → NoneFrom ts 0
  none-behind t ts differ own k d from below =
      same-not (get_or ts k d).name name
      (λ same. differ 0 (suc k) d (omega arith) (omega (arith, below)) (same-is t.name name own ∙ sym same))

  -- the one at a place is
  abbrev pub IsAt : List Ticket → ℕ → Type 0
  IsAt ts place = (d : Ticket) → same_call (get_or ts place d).name name ≡ true

  not-first : (t : Ticket) (ts : List Ticket) (place : ℕ) → Differ (t ∷ ts) → place < length ts → IsAt ts place → same_call t.name name ≡ false
  not-first t ts place differ below is = same-not t.name name (λ same.
      differ 0 (suc place) t (omega arith) (omega (arith, below)) (same ∙ sym (same-is (get_or ts place t).name name (is t))))

  pub op-at : (ts : List Ticket) (place : ℕ) (d : Ticket) → Differ ts → place < length ts → IsAt ts place → op_in name ts ≡ (get_or ts place d).op
  op-at [] place d differ below is = absurd (omega (arith, below))
  op-at (t ∷ ts) zero d differ below is = ap (λ (b : Bool). if b then t.op else op_in name ts) (is d)
  op-at (t ∷ ts) (suc place) d differ below is =
      ap (λ (b : Bool). if b then t.op else op_in name ts) (not-first t ts place differ (omega (arith, below)) is)
      ∙ op-at ts place d (differ-rest t ts differ) (omega (arith, below)) is

  pub taken-at : (ts : List Ticket) (place : ℕ) (d : Ticket) → Differ ts → place < length ts → IsAt ts place
      → map (op_taken name) ts ≡ set ts place (record (get_or ts place d) { op = None })
  taken-at [] place d differ below is = absurd (omega (arith, below))
  taken-at (t ∷ ts) zero d differ below is =
      ap (λ (x : Ticket). x ∷ map (op_taken name) ts) (own-taken t (is d))
      ∙ ap (λ (xs : List Ticket). record t { op = None } ∷ xs) (none-taken ts (none-behind t ts differ (is d)))
  taken-at (t ∷ ts) (suc place) d differ below is =
      ap (λ (x : Ticket). x ∷ map (op_taken name) ts) (other-kept t (not-first t ts place differ (omega (arith, below)) is))
      ∙ ap (λ (xs : List Ticket). t ∷ xs) (taken-at ts place d (differ-rest t ts differ) (omega (arith, below)) is)

  is-at : (ts : List Ticket) (place : ℕ) (e : Ticket) → place < length ts → same_call (get_or ts place e).name name ≡ true → IsAt ts place
  is-at ts place e below own d = ap (λ (t : Ticket). same_call t.name name) (get_or_default ts place d e below) ∙ own

  pub op-found : (ts : List Ticket) (place : ℕ) (d e : Ticket) → Differ ts → place < length ts → same_call (get_or ts place e).name name ≡ true
      → (get_or ts place d).op ≡ op_in name ts
  op-found ts place d e differ below own = sym (op-at ts place d differ below (is-at ts place e below own))

  pub taken-found : (ts : List Ticket) (place : ℕ) (d e : Ticket) → Differ ts → place < length ts → same_call (get_or ts place e).name name ≡ true
      → set ts place (record (get_or ts place d) { op = None }) ≡ map (op_taken name) ts
  taken-found ts place d e differ below own = sym (taken-at ts place d differ below (is-at ts place e below own))
