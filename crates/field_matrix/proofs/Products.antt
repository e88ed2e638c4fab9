-- Products of grids.
use Rattle.std.proofs.Common.{◌≡◌, ◌≢◌, ℕ, ◌<◌, ◌==◌, sym, ap, ap₂, ◌∙◌, refl, arith}
use Rattle.std.proofs.lemmas.Bool.{eq-eqb, ne_eqb, cond_both}
use Rattle.field_byte.specs.Field.{product}
use Rattle.field_byte.proofs.Products.{product_lt, product_assoc, product_one_l, product_one_r, product_zero_l, product_zero_r}
use Rattle.field_byte.proofs.FieldSums.{sum_same, sum_byte, sum_of_one, sum_times_l, sum_times_r, sum_of_rows}
use Rattle.field_matrix.specs.Grids.{Grid, unit, times, HasBytes, IsIdentity}

-- the first n entries of a row, and of a column
abbrev pub RowHasBytes : ℕ → Grid → ℕ → Type 0
RowHasBytes n a i = (k : ℕ) → k < n → a i k < 256

abbrev pub ColumnHasBytes : ℕ → Grid → ℕ → Type 0
ColumnHasBytes n a j = (k : ℕ) → k < n → a k j < 256

pub unit_same : (i : ℕ) → unit i i ≡ 1
unit_same i = rw (eq-eqb i i refl)

pub unit_other : (i j : ℕ) → i ≢ j → unit i j ≡ 0
unit_other i j other = rw (ne_eqb i j other)

pub unit_byte : (i j : ℕ) → unit i j < 256
unit_byte i j = cond_both (i == j) 1 0 (λ x. x < 256) (λ same. omega arith) (λ other. omega arith)

pub times_byte : (n : ℕ) (a b : Grid) (i j : ℕ) → RowHasBytes n a i → times n a b i j < 256
times_byte n a b i j row = sum_byte n _ (λ k below. product_lt (a i k) (b k j) (row k below))

-- the product with the identity, on either side
pub identity_times : (n : ℕ) (e a : Grid) → IsIdentity n e → (i j : ℕ) → i < n → a i j < 256 → times n e a i j ≡ a i j
identity_times n e a identity i j within byte =
    sum_of_one n i _ within (λ k below other.
    ap (λ x. product x (a k j)) (identity i k within below ∙ unit_other i k (λ same. other (sym same))) ∙ product_zero_l (a k j))
    ∙ (ap (λ x. product x (a i j)) (identity i i within within ∙ unit_same i) ∙ product_one_l (a i j) byte)

pub times_identity : (n : ℕ) (a e : Grid) → IsIdentity n e → (i j : ℕ) → j < n → a i j < 256 → times n a e i j ≡ a i j
times_identity n a e identity i j within byte =
    sum_of_one n j _ within (λ k below other.
    ap (product (a i k)) (identity k j below within ∙ unit_other k j other) ∙ product_zero_r (a i k))
    ∙ (ap (product (a i j)) (identity j j within within ∙ unit_same j) ∙ product_one_r (a i j) byte)

-- the product of three grids
pub times_assoc : (n : ℕ) (a b c : Grid) (i j : ℕ) → RowHasBytes n a i → HasBytes n b → ColumnHasBytes n c j
    → times n (times n a b) c i j ≡ times n a (times n b c) i j
times_assoc n a b c i j row b_bytes column =
    sum_same n _ _ (λ k below.
    sum_times_r n (c k j) _ (λ l within. product_lt (a i l) (b l k) (row l within))
    ∙ sum_same n _ _ (λ l within. product_assoc (a i l) (b l k) (c k j) (row l within) (b_bytes l k within below) (column k below)))
    ∙ (sum_of_rows n n (λ k l. product (a i l) (product (b l k) (c k j)))
    ∙ sum_same n _ _ (λ l within.
    sym (sum_times_l n (a i l) (λ k. product (b l k) (c k j)) (row l within) (λ k below. product_lt (b l k) (c k j) (b_bytes l k within below)))))

-- the product reads the first factor's row and the second's column alone
pub times_same : (n : ℕ) (a b c d : Grid) (i j : ℕ) → ((k : ℕ) → k < n → a i k ≡ c i k) → ((k : ℕ) → k < n → b k j ≡ d k j) → times n a b i j ≡ times n c d i j
times_same n a b c d i j rows columns = sum_same n _ _ (λ k below. ap₂ product (rows k below) (columns k below))
