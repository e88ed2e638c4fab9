-- The grids of lists of rows, as the code writes them.
use Rattle.std.proofs.Common.{◌≡◌, ◌≢◌, ℕ, ◌+◌, ◌<◌, ◌≤◌, List, [], length, get_or, set, replicate, bit_xor, inl, inr}
use Rattle.std.proofs.Common.{sym, ap, ◌∙◌, arith, get_or-set_same, get_or-set_other}
use Rattle.std.specs.Int.Bits.{xor_zero_l}
use Rattle.std.proofs.lemmas.Bool.{cases_eq}
use Rattle.std.proofs.lemmas.List.{get_or-replicate, length-replicate}
use Rattle.field_byte.specs.Field.{product, inverse}
use Rattle.field_byte.specs.Vectors.{add_bytes, scale}
use Rattle.field_byte.proofs.Vectors.{get_or-add_scaled}
use Rattle.field_matrix.specs.Grids.{entry}
use Rattle.field_matrix.specs.Steps.{step}
use Rattle.field_matrix.proofs.Steps.{step_here, step_other}

pub entry_set_same : (rows : List (List ℕ)) (r : ℕ) (row : List ℕ) (j : ℕ) → r < length rows → entry (set rows r row) r j ≡ get_or row j 0
entry_set_same rows r row j within = ap (λ (l : List ℕ). get_or l j 0) (rw get_or-set_same)

pub entry_set_other : (rows : List (List ℕ)) (r : ℕ) (row : List ℕ) (i j : ℕ) → i ≢ r → entry (set rows r row) i j ≡ entry rows i j
entry_set_other rows r row i j other = ap (λ (l : List ℕ). get_or l j 0) (rw get_or-set_other)

-- a row's multiple, added into zeros and into another row
pub multiple_at : (n x j : ℕ) (row sum : List ℕ) → length row ≡ n → j < n
    → sum ≡ add_bytes (replicate n 0) (scale x row) → get_or sum j 0 ≡ product x (get_or row j 0)
multiple_at n x j row sum long within is =
    ap (λ l. get_or l j 0) is
    ∙ (get_or-add_scaled x row (replicate n 0) j (long ∙ sym (length-replicate n 0))
    ∙ (ap (λ y. bit_xor y (product x (get_or row j 0))) (get_or-replicate n j 0 0 within) ∙ xor_zero_l (product x (get_or row j 0))))

pub added_at : (x j : ℕ) (row other sum : List ℕ) → length row ≡ length other → sum ≡ add_bytes row (scale x other)
    → get_or sum j 0 ≡ bit_xor (get_or row j 0) (product x (get_or other j 0))
added_at x j row other sum same is = ap (λ l. get_or l j 0) is ∙ get_or-add_scaled x other row j (sym same)

-- the rows before r have multiples of divided added
abbrev pub AreAdded : ℕ → ℕ → ℕ → List (List ℕ) → List (List ℕ) → List ℕ → List (List ℕ) → Type 0
AreAdded n r p work rows divided next = (i j : ℕ) → i < r → j < n → entry next i j ≡ bit_xor (entry rows i j) (product (entry work i p) (get_or divided j 0))

pub row_added : (n r p : ℕ) (work rows next : List (List ℕ)) (divided sum : List ℕ) → r < length next
    → length (get_or rows r []) ≡ length divided → sum ≡ add_bytes (get_or rows r []) (scale (entry work r p) divided)
    → AreAdded n r p work rows divided next → AreAdded n (r + 1) p work rows divided (set next r sum)
row_added n r p work rows next divided sum within same is before i j i_below j_below = elim (cases_eq i r) [
  | inl here ↦
      ap (λ k. entry (set next r sum) k j) here
      ∙ (entry_set_same next r sum j within ∙ (added_at (entry work r p) j (get_or rows r []) divided sum same is
      ∙ ap (λ k. bit_xor (entry rows k j) (product (entry work k p) (get_or divided j 0))) (sym here)))
  | inr other ↦ entry_set_other next r sum i j other ∙ before i j (omega arith) j_below
]

-- with the divided row in its place that is a step
pub step_done : (n r p : ℕ) (work rows next : List (List ℕ)) (divided : List ℕ) → n ≤ r → p < length next
    → ((j : ℕ) → j < n → get_or divided j 0 ≡ product (inverse (entry work p p)) (entry rows p j))
    → AreAdded n r p work rows divided next → (i j : ℕ) → i < n → j < n → entry (set next p divided) i j ≡ step p (entry work) (entry rows) i j
step_done n r p work rows next divided all within is added i j i_below j_below = elim (cases_eq i p) [
  | inl here ↦
      ap (λ k. entry (set next p divided) k j) here
      ∙ (entry_set_same next p divided j within
      ∙ (is j j_below
      ∙ (sym (step_here p (entry work) (entry rows) j) ∙ ap (λ k. step p (entry work) (entry rows) k j) (sym here))))
  | inr other ↦
      entry_set_other next p divided i j other
      ∙ (added i j (omega arith) j_below
      ∙ (ap (λ x. bit_xor (entry rows i j) (product (entry work i p) x)) (is j j_below) ∙ sym (step_other p (entry work) (entry rows) i j other)))
]
