-- Cauchy squares.
use Rattle.std.specs.Prelude.{◌≡◌, ◌≢◌, ℕ, ◌<◌, List, slice_index, bit_xor}
use Rattle.field_byte.specs.Field.{inverse, product}
use Rattle.field_matrix.specs.Grids.{Grid}

-- the first n numbers of the list are different
abbrev pub AllDiffer : ℕ → List ℕ → Type 0
AllDiffer n xs = (i k : ℕ) → i < n → k < n → slice_index xs i ≡ slice_index xs k → i ≡ k

-- none of the first n numbers of the one list is one of the other's
abbrev pub AreDisjoint : ℕ → List ℕ → List ℕ → Type 0
AreDisjoint n xs ys = (i j : ℕ) → i < n → j < n → slice_index xs i ≢ slice_index ys j

-- in the first n rows and columns the entry in row i and column j is the inverse of the sum of the
-- i-th number of the one list and the j-th of the other
abbrev pub HoldsInverses : ℕ → List ℕ → List ℕ → Grid → Type 0
HoldsInverses n xs ys a = (i j : ℕ) → i < n → j < n → a i j ≡ inverse (bit_xor (slice_index xs i) (slice_index ys j))

-- rows have bytes x, and columns bytes y, all different: the entry in row i and column j is the
-- inverse of the sum of x i and y j, so no x is a y
pub record IsCauchy (n : ℕ) (a : Grid) : Type 0 where
  pub x : ℕ → ℕ
  pub y : ℕ → ℕ
  pub x_bytes : (i : ℕ) → i < n → x i < 256
  pub y_bytes : (j : ℕ) → j < n → y j < 256
  pub x_differ : (i k : ℕ) → i < n → k < n → x i ≡ x k → i ≡ k
  pub y_differ : (j k : ℕ) → j < n → k < n → y j ≡ y k → j ≡ k
  pub inverses : (i j : ℕ) → i < n → j < n → product (bit_xor (x i) (y j)) (a i j) ≡ 1
