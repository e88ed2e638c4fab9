-- A row of wires, of which another may have read the first frame of one.
use Rattle.std.proofs.Common.{◌≡◌, ◌≢◌, Bool, true, false, List, [], refl, sym, ap, ◌∙◌}
use Rattle.group_types.specs.Names.{same_process}
use Rattle.group_types.specs.declared.process.ProcessId.{ProcessId}
use Rattle.group_types.proofs.Names.{same-eq, same-ne, same-refl}
use Rattle.group_wire.specs.Sets.{changed, changed_from, one_or}
use Rattle.member_runs.specs.Reading.{rest_for, rest_of}

pub changed-here : {X : Type 0} (f : ProcessId → X) (p : ProcessId) (y : X) → changed f p y p ≡ y
changed-here f p y = ap (λ (b : Bool). one_or b y (f p)) (same-refl p)

pub changed-other : {X : Type 0} (f : ProcessId → X) (p q : ProcessId) (y : X) → q ≢ p → changed f p y q ≡ f q
changed-other f p q y other = ap (λ (b : Bool). one_or b y (f q)) (same-ne q p other)

-- a row, of which p has read the first where this is true
abbrev pub less_if : {X : Type 0} → Bool → ProcessId → (ProcessId → List X) → ProcessId → List X
less_if true p row = rest_for p row
less_if false p row = row

rest-here : {X : Type 0} (row : ProcessId → List X) (p r : ProcessId) → row p ≡ [] → row r ≡ rest_for p row r
rest-here row p r empty = by (same_process r p) refl where
  by : (b : Bool) → same_process r p ≡ b → row r ≡ one_or b (rest_of (row p)) (row r)
  by true same = ap row (same-eq r p same) ∙ empty ∙ sym (ap rest_of empty)
  by false same = refl

-- an empty wire is read
pub row-empty : {X : Type 0} (f : ProcessId → ProcessId → List X) (x p : ProcessId) → f x p ≡ [] → (q r : ProcessId)
    → f q r ≡ less_if (same_process q x) p (f q) r
row-empty f x p empty q r = by (same_process q x) refl where
  by : (b : Bool) → same_process q x ≡ b → f q r ≡ less_if b p (f q) r
  by true same = rest-here (f q) p r (ap (λ (z : ProcessId). f z p) (same-eq q x same) ∙ empty)
  by false same = refl

-- the first of a wire is read
pub row-read : {X : Type 0} (f : ProcessId → ProcessId → List X) (x p : ProcessId) (rest : List X) → rest ≡ rest_of (f x p) → (q r : ProcessId)
    → changed_from f x p rest q r ≡ less_if (same_process q x) p (f q) r
row-read {X} f x p rest is q r = by (same_process q x) refl where
  by : (b : Bool) → same_process q x ≡ b → one_or b (changed (f x) p rest) (f q) r ≡ less_if b p (f q) r
  by true same =
      ap (λ (l : List X). changed (f x) p l r) is
      ∙ ap (λ (z : ProcessId). changed (f z) p (rest_of (f z p)) r) (sym (same-eq q x same))
  by false same = refl
