-- Squares of bytes, and grids: what stands in row i and column j, for all i and j.
use Rattle.std.specs.Prelude.{◌≡◌, ℕ, ◌<◌, ◌==◌, if◌then◌else◌, List, [], slice_index, slice_index_or}
use Rattle.field_byte.specs.Field.{product}
use Rattle.field_byte.specs.Vectors.{field_sum}

abbrev pub Grid : Type 0
Grid = ℕ → ℕ → ℕ

-- the grid of a list of rows, 0 outside of them
abbrev pub entry : List (List ℕ) → Grid
entry rows i j = slice_index (slice_index_or rows i []) j

-- 1 on the diagonal and 0 beside it
abbrev pub unit : Grid
unit i j = if i == j then 1 else 0

-- the product of two grids over n columns of the one and n rows of the other
abbrev pub times : ℕ → Grid → Grid → Grid
times n a b i j = field_sum n (λ k. product (a i k) (b k j))

-- the first n rows and columns hold bytes
abbrev pub HasBytes : ℕ → Grid → Type 0
HasBytes n a = (i j : ℕ) → i < n → j < n → a i j < 256

-- the grid is the identity in its first n rows and columns
abbrev pub IsIdentity : ℕ → Grid → Type 0
IsIdentity n a = (i j : ℕ) → i < n → j < n → a i j ≡ unit i j
