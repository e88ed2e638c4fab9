-- Both sides of the inverse that elimination finds.
use Rattle.std.proofs.Common.{◌≡◌, ◌≢◌, ℕ, ◌<◌, sym, ap, ap₂, ◌∙◌, refl, inl, inr, arith}
use Rattle.std.proofs.lemmas.Bool.{cases_eq}
use Rattle.std.proofs.lemmas.Nat.{xor_comm}
use Rattle.field_byte.specs.Field.{product}
use Rattle.field_byte.proofs.Products.{product_comm}
use Rattle.field_byte.proofs.FieldSums.{sum_same}
use Rattle.field_matrix.specs.Grids.{Grid, unit, times, HasBytes, IsIdentity}
use Rattle.field_matrix.specs.Cauchy.{IsCauchy}
use Rattle.field_matrix.proofs.Products.{ColumnHasBytes, unit_other, identity_times, times_identity, times_assoc, times_same}
use Rattle.field_matrix.proofs.Steps.{work_after, out_after, HasBytes-work, HasBytes-out, out_times}
use Rattle.field_matrix.proofs.Pivots.{reduced_after, pivot_nonzero}

-- rows as columns
abbrev pub turned : Grid → Grid
turned a i j = a j i

turned_cauchy : (n : ℕ) (a : Grid) → IsCauchy n a → IsCauchy n (turned a)
turned_cauchy n a cauchy = record {
  x = cauchy.y;
  y = cauchy.x;
  x_bytes = cauchy.y_bytes;
  y_bytes = cauchy.x_bytes;
  x_differ = cauchy.y_differ;
  y_differ = cauchy.x_differ;
  inverses = λ i j i_below j_below. ap (λ d. product d (a j i)) (xor_comm (cauchy.y i) (cauchy.x j)) ∙ cauchy.inverses j i j_below i_below;
}

-- the pivot of each step is not 0
pub pivot_after : (n p q : ℕ) (a : Grid) → IsCauchy n a → HasBytes n a → p < n → q ≡ work_after p a p p → q ≢ 0
pivot_after n p q a cauchy bytes within is is_zero =
    let work_bytes = HasBytes-work n p a (omega arith) bytes in
    pivot_nonzero n a cauchy p (work_after p a) work_bytes within (reduced_after n a cauchy p (omega arith) bytes) (sym is ∙ is_zero)

-- what elimination recorded, times the square
pub out_inverts : (n : ℕ) (a : Grid) → IsCauchy n a → HasBytes n a → IsIdentity n (times n (out_after n a) a)
out_inverts n a cauchy bytes i j i_below j_below =
    out_times n n a (omega arith) bytes i j i_below j_below ∙ (reduced_after n a cauchy n (omega arith) bytes).units i j i_below j_below

turned_unit : (i j : ℕ) → unit i j ≡ unit j i
turned_unit i j = elim (cases_eq i j) [
  | inl same ↦ ap₂ unit same (sym same)
  | inr other ↦ unit_other i j other ∙ sym (unit_other j i (λ same. other (sym same)))
]

-- an inverse on the right: that of the square turned, turned back
right_inverse : ℕ → Grid → Grid
right_inverse n a = turned (out_after n (turned a))

HasBytes-right : (n : ℕ) (a : Grid) → HasBytes n a → HasBytes n (right_inverse n a)
unfolding right_inverse
HasBytes-right n a bytes i j i_below j_below = HasBytes-out n n (turned a) (omega arith) (λ r s r_below s_below. bytes s r s_below r_below) j i j_below i_below

right_inverts : (n : ℕ) (a : Grid) → IsCauchy n a → HasBytes n a → IsIdentity n (times n a (right_inverse n a))
unfolding right_inverse
right_inverts n a cauchy bytes i j i_below j_below =
    sum_same n _ _ (λ k below. product_comm (a i k) _ (bytes i k i_below below) (HasBytes-right n a bytes k j below j_below))
    ∙ (out_inverts n (turned a) (turned_cauchy n a cauchy) (λ r s r_below s_below. bytes s r s_below r_below) j i j_below i_below ∙ turned_unit j i)

-- an inverse on the left and one on the right are the same
same_inverses : (n : ℕ) (a b c : Grid) → HasBytes n a → HasBytes n b → HasBytes n c → IsIdentity n (times n b a)
    → IsIdentity n (times n a c) → (i j : ℕ) → i < n → j < n → b i j ≡ c i j
same_inverses n a b c a_bytes b_bytes c_bytes left right i j i_below j_below =
    sym (times_identity n b (times n a c) right i j j_below (b_bytes i j i_below j_below))
    ∙ (sym (times_assoc n b a c i j (λ k below. b_bytes i k i_below below) a_bytes (λ k below. c_bytes k j below j_below))
    ∙ identity_times n (times n b a) c left i j i_below (c_bytes i j i_below j_below))

-- so what inverts a Cauchy square on the left does on the right
pub right_from_left : (n : ℕ) (a b : Grid) → IsCauchy n a → HasBytes n a → HasBytes n b → IsIdentity n (times n b a) → IsIdentity n (times n a b)
right_from_left n a b cauchy a_bytes b_bytes left i j i_below j_below =
    times_same n a b a (right_inverse n a) i j (λ k below. refl) (λ k below.
    same_inverses n a b (right_inverse n a) a_bytes b_bytes (HasBytes-right n a a_bytes) left (right_inverts n a cauchy a_bytes) k j below j_below)
    ∙ right_inverts n a cauchy a_bytes i j i_below j_below

-- a square that agrees with what all steps recorded
pub record IsInverse (n : ℕ) (a b : Grid) : Type 0 where
  pub bytes : HasBytes n b
  pub left : IsIdentity n (times n b a)
  pub right : IsIdentity n (times n a b)

pub recorded_is_inverse : (n p : ℕ) (a b : Grid) → IsCauchy n a → HasBytes n a → p ≡ n
    → ((i j : ℕ) → i < n → j < n → b i j ≡ out_after p a i j) → IsInverse n a b
recorded_is_inverse n p a b cauchy a_bytes all agrees =
    let out_bytes = HasBytes-out n p a (omega arith) a_bytes in
    let bytes : HasBytes n b = λ i j i_below j_below. omega (arith, agrees i j i_below j_below, out_bytes i j i_below j_below) in
    let left : IsIdentity n (times n b a) = λ i j i_below j_below.
    times_same n b a (out_after p a) a i j (λ k below. agrees i k i_below below) (λ k below. refl)
    ∙ (ap (λ s. times n (out_after s a) a i j) all ∙ out_inverts n a cauchy a_bytes i j i_below j_below) in
    record { bytes = bytes; left = left; right = right_from_left n a b cauchy a_bytes bytes left }

-- A system of n rows has one solution, in each column j: what the inverse gives of its right side
-- solves it, and nothing else does.
pub solution_solves : (n : ℕ) (a b rows : Grid) → HasBytes n a → HasBytes n b → IsIdentity n (times n a b) → (i j : ℕ)
    → i < n → ColumnHasBytes n rows j → times n a (times n b rows) i j ≡ rows i j
solution_solves n a b rows a_bytes b_bytes right i j i_below column =
    sym (times_assoc n a b rows i j (λ k below. a_bytes i k i_below below) b_bytes column)
    ∙ identity_times n (times n a b) rows right i j i_below (column i i_below)

pub solution_is : (n : ℕ) (a b rows columns : Grid) → HasBytes n a → HasBytes n b → IsIdentity n (times n b a) → (j : ℕ) → ColumnHasBytes n columns j
    → ((i : ℕ) → i < n → times n a columns i j ≡ rows i j) → (i : ℕ) → i < n → columns i j ≡ times n b rows i j
solution_is n a b rows columns a_bytes b_bytes left j column solves i i_below =
    sym (identity_times n (times n b a) columns left i j i_below (column i i_below))
    ∙ (times_assoc n b a columns i j (λ k below. b_bytes i k i_below below) a_bytes column
    ∙ times_same n b (times n a columns) b rows i j (λ k below. refl) (λ k below. solves k below))
