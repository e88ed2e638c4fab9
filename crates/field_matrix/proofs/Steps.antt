-- Elimination: p steps, each of which clears a column but for a 1 in its row.
use Rattle.std.proofs.Common.{◌≡◌, ◌≢◌, ℕ, zero, suc, ◌+◌, add-one, ◌<◌, ◌≤◌, ◌==◌, bit_xor, inl, inr, sym, ap, ap₂, ◌∙◌, refl, arith}
use Rattle.std.proofs.lemmas.Bool.{cases_eq, eq-eqb, ne_eqb, cond_both}
use Rattle.field_byte.specs.Field.{product, inverse}
use Rattle.field_byte.specs.Vectors.{field_sum}
use Rattle.field_byte.proofs.Sums.{sum_lt}
use Rattle.field_byte.proofs.Products.{product_lt, inverse_lt, product_assoc, product_sum_l}
use Rattle.field_byte.proofs.FieldSums.{sum_same, sum_of_sums, sum_times_l}
use Rattle.field_matrix.specs.Grids.{Grid, unit, times, HasBytes}
use Rattle.field_matrix.specs.Steps.{divided, step}
use Rattle.field_matrix.proofs.Products.{unit_byte, identity_times}

-- a square after p steps
unfoldable pub work_after : ℕ → Grid → Grid
work_after zero a = a
work_after (suc p) a = step p (work_after p a) (work_after p a)

-- the identity after the same steps
unfoldable pub out_after : ℕ → Grid → Grid
out_after zero a = unit
out_after (suc p) a = step p (work_after p a) (out_after p a)

pub step_here : (p : ℕ) (work m : Grid) (j : ℕ) → step p work m p j ≡ divided p work m j
step_here p work m j = rw (eq-eqb p p refl)

pub step_other : (p : ℕ) (work m : Grid) (i j : ℕ) → i ≢ p → step p work m i j ≡ bit_xor (m i j) (product (work i p) (divided p work m j))
step_other p work m i j other = rw (ne_eqb i p other)

pub HasBytes-step : (n p : ℕ) (work m : Grid) → p < n → HasBytes n work → HasBytes n m → HasBytes n (step p work m)
HasBytes-step n p work m within work_bytes m_bytes i j i_below j_below =
    let pivot_row = product_lt (inverse (work p p)) (m p j) (inverse_lt (work p p)) in
    cond_both (i == p) (divided p work m j) _ (λ x. x < 256) (λ same. pivot_row) (λ other.
    sum_lt _ _ (m_bytes i j i_below j_below) (product_lt _ _ (work_bytes i p i_below within)))

pub HasBytes-work : (n p : ℕ) (a : Grid) → p ≤ n → HasBytes n a → HasBytes n (work_after p a)
unfolding work_after
HasBytes-work n zero a within bytes = bytes
HasBytes-work n (suc p) a within bytes = HasBytes-step n p _ _ (omega arith) (HasBytes-work n p a (omega arith) bytes) (HasBytes-work n p a (omega arith) bytes)

pub HasBytes-out : (n p : ℕ) (a : Grid) → p ≤ n → HasBytes n a → HasBytes n (out_after p a)
unfolding out_after
HasBytes-out n zero a within bytes = λ i j i_below j_below. unit_byte i j
HasBytes-out n (suc p) a within bytes = HasBytes-step n p _ _ (omega arith) (HasBytes-work n p a (omega arith) bytes) (HasBytes-out n p a (omega arith) bytes)

module _ (n p : ℕ) (work m a : Grid) (within : p < n) (work_bytes : HasBytes n work) (m_bytes : HasBytes n m) (a_bytes : HasBytes n a) where
  -- the divided row times a is the divided row of the product
  divided_times : (j : ℕ) → j < n → field_sum n (λ k. product (divided p work m k) (a k j)) ≡ divided p work (times n m a) j
  divided_times j j_below =
      sum_same n _ _ (λ k below. product_assoc _ _ _ (inverse_lt (work p p)) (m_bytes p k within below) (a_bytes k j below j_below))
      ∙ sym (sum_times_l n (inverse (work p p)) _ (inverse_lt (work p p)) (λ k below. product_lt _ _ (m_bytes p k within below)))

  -- a step on the first factor is a step on the product
  pub step_times : (i j : ℕ) → i < n → j < n → times n (step p work m) a i j ≡ step p work (times n m a) i j
  step_times i j i_below j_below = elim (cases_eq i p) [
    | inl here ↦
        sum_same n _ _ (λ k below. ap (λ x. product x (a k j)) (ap (λ r. step p work m r k) here ∙ step_here p work m k))
        ∙ (divided_times j j_below ∙ (sym (step_here p work (times n m a) j) ∙ ap (λ r. step p work (times n m a) r j) (sym here)))
    | inr other ↦
        let factor = work_bytes i p i_below within in
        let pivot_byte = λ (k : ℕ). product_lt (inverse (work p p)) (m p k) (inverse_lt (work p p)) in
        let row_byte = λ (k : ℕ). product_lt (work i p) (divided p work m k) factor in
        sum_same n _ _ (λ k below.
        ap (λ x. product x (a k j)) (step_other p work m i k other)
        ∙ product_sum_l (m i k) (product (work i p) (divided p work m k)) (a k j) (m_bytes i k i_below below) (row_byte k))
        ∙ (sum_of_sums n (λ k. product (m i k) (a k j)) (λ k. product (product (work i p) (divided p work m k)) (a k j))
        ∙ (ap (bit_xor (times n m a i j))
        (sum_same n _ _ (λ k below. product_assoc (work i p) (divided p work m k) (a k j) factor (pivot_byte k) (a_bytes k j below j_below))
        ∙ (sym (sum_times_l n (work i p) (λ k. product (divided p work m k) (a k j)) factor (λ k below. product_lt _ _ (pivot_byte k)))
        ∙ ap (product (work i p)) (divided_times j j_below)))
        ∙ sym (step_other p work (times n m a) i j other)))
  ]

-- a step reads two entries of each grid
pub step_same : (p : ℕ) (work work' m m' : Grid) (i j : ℕ) → work p p ≡ work' p p → work i p ≡ work' i p
    → m i j ≡ m' i j → m p j ≡ m' p j → step p work m i j ≡ step p work' m' i j
step_same p work work' m m' i j pivot factor here row = elim (cases_eq i p) [
  | inl same ↦
      ap (λ r. step p work m r j) same
      ∙ (step_here p work m j ∙ (ap₂ (λ x y. product (inverse x) y) pivot row ∙ (sym (step_here p work' m' j) ∙ ap (λ r. step p work' m' r j) (sym same))))
  | inr other ↦
      step_other p work m i j other
      ∙ (ap₂ bit_xor here (ap₂ product factor (ap₂ (λ x y. product (inverse x) y) pivot row)) ∙ sym (step_other p work' m' i j other))
]

pub work_more : (p : ℕ) (a : Grid) (i j : ℕ) → work_after (p + 1) a i j ≡ step p (work_after p a) (work_after p a) i j
unfolding work_after
work_more p a i j = ap (λ k. work_after k a i j) (add-one p)

pub out_more : (p : ℕ) (a : Grid) (i j : ℕ) → out_after (p + 1) a i j ≡ step p (work_after p a) (out_after p a) i j
unfolding out_after
out_more p a i j = ap (λ k. out_after k a i j) (add-one p)

-- the recorded steps turn the square into the working one
pub out_times : (n p : ℕ) (a : Grid) → p ≤ n → HasBytes n a → (i j : ℕ) → i < n → j < n → times n (out_after p a) a i j ≡ work_after p a i j
unfolding work_after out_after
out_times n zero a within bytes i j i_below j_below = identity_times n unit a (λ r s r_below s_below. refl) i j i_below (bytes i j i_below j_below)
out_times n (suc p) a within bytes i j i_below j_below =
    let work_bytes = HasBytes-work n p a (omega arith) bytes in
    let out_bytes = HasBytes-out n p a (omega arith) bytes in
    step_times n p (work_after p a) (out_after p a) a (omega arith) work_bytes out_bytes bytes i j i_below j_below
    ∙ step_same p (work_after p a) (work_after p a) (times n (out_after p a) a) (work_after p a) i j refl refl
    (out_times n p a (omega arith) bytes i j i_below j_below) (out_times n p a (omega arith) bytes p j (omega arith) j_below)
