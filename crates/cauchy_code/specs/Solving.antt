-- The lost columns as sums of the rows and the known columns.
use Rattle.std.specs.Prelude.{◌≡◌, ℕ, ◌+◌, ◌<◌, List, bit_xor, length, slice_index}
use Rattle.field_byte.specs.Field.{product}
use Rattle.field_byte.specs.Vectors.{field_sum}
use Rattle.field_matrix.specs.Grids.{Grid, HasBytes, IsIdentity, entry, times}
use Rattle.group_types.specs.Pieces.{bytes_of, contents_of, numbers_of}
use Rattle.group_types.specs.declared.piece_list.Piece.{Piece}
use Rattle.erasure_code.specs.Code.{coefficient}
use Rattle.cauchy_code.specs.declared.weights.Weights.{Weights}

-- the coefficient of row a, of these rows, for partition d
abbrev pub row_coefficient : ℕ → List Piece → ℕ → ℕ → ℕ
row_coefficient m rows a d = coefficient m (slice_index (numbers_of rows) a) d

-- the coefficients of the rows for the lost partitions
abbrev pub lost_square : ℕ → List ℕ → List Piece → Grid
lost_square m lost rows a b = row_coefficient m rows a (slice_index lost b)

-- the weight of partition d's known column in a lost column where the first n rows have these weights
abbrev pub known_weight : ℕ → ℕ → (ℕ → ℕ) → List Piece → ℕ → ℕ
known_weight n m weights rows d = field_sum n (λ a. product (weights a) (row_coefficient m rows a d))

-- the sum of the first n pieces, each with its weight, at a place
abbrev pub pieces_sum : ℕ → (ℕ → ℕ) → List Piece → ℕ → ℕ
pieces_sum n weights pieces at = field_sum n (λ a. product (weights a) (entry (contents_of pieces) a at))

-- the first n known columns in it
abbrev pub known_sum : ℕ → ℕ → (ℕ → ℕ) → List Piece → List Piece → ℕ → ℕ
known_sum n m weights rows known at =
    field_sum n (λ j. product (known_weight (length rows) m weights rows (slice_index (numbers_of known) j)) (entry (contents_of known) j at))

-- the byte of the lost column at a place
abbrev pub lost_byte : ℕ → (ℕ → ℕ) → List Piece → List Piece → ℕ → ℕ
lost_byte m weights rows known at = bit_xor (pieces_sum (length rows) weights rows at) (known_sum (length known) m weights rows known at)

-- the sum of rows and known columns with their weights, at a place
abbrev pub parts_sum : Weights → List Piece → List Piece → ℕ → ℕ
parts_sum w rows known at = bit_xor (pieces_sum (length rows) (slice_index w.rows) rows at) (pieces_sum (length known) (slice_index w.known) known at)

-- the prepared ones are the first two of each
pub record IsStarted (w : Weights) : Type 0 where
  pub row : slice_index w.start 0 ≡ slice_index w.rows 0
  pub next_row : slice_index w.start 1 ≡ slice_index w.rows 1
  pub column : slice_index w.start 2 ≡ slice_index w.known 0
  pub next_column : slice_index w.start 3 ≡ slice_index w.known 1

-- what the first two of each have in the sum, at a place
abbrev pub start_sum : Weights → List Piece → List Piece → ℕ → ℕ
start_sum w rows known at = bit_xor (pieces_sum 2 (slice_index w.rows) rows at) (pieces_sum 2 (slice_index w.known) known at)

-- where x and the pieces before a number stood, x and all pieces stand
abbrev pub IsAdded : (ℕ → ℕ) → List Piece → ℕ → ℕ → List ℕ → List ℕ → Type 0
IsAdded weights pieces from at old new =
    (k x : ℕ) → k < length old → slice_index old k ≡ bit_xor x (pieces_sum from weights pieces (at + k))
    → slice_index new k ≡ bit_xor x (pieces_sum (length pieces) weights pieces (at + k))

-- n bytes that are these sums
pub record IsSum (n : ℕ) (w : Weights) (rows known : List Piece) (bytes : List ℕ) : Type 0 where
  pub long : length bytes ≡ n
  pub each : (at : ℕ) → at < n → slice_index bytes at ≡ parts_sum w rows known at

-- each piece consists of bytes
abbrev pub AreBytesIn : List Piece → Type 0
AreBytesIn pieces = (j at : ℕ) → j < length pieces → entry (contents_of pieces) j at < 256

-- the lost columns of n bytes stand in the pieces of out, by weights that invert the square
pub record IsSolved (m n : ℕ) (lost : List ℕ) (rows known out : List Piece) : Type 0 where
  pub weights : Grid
  pub bytes : HasBytes (length lost) weights
  pub left : IsIdentity (length lost) (times (length lost) weights (lost_square m lost rows))
  pub right : IsIdentity (length lost) (times (length lost) (lost_square m lost rows) weights)
  pub row_bytes : 0 < length lost → AreBytesIn rows
  pub known_bytes : 0 < length lost → AreBytesIn known
  pub long : (b : ℕ) → b < length lost → length (bytes_of out (slice_index lost b)) ≡ n
  pub columns : (b at : ℕ) → b < length lost → slice_index (bytes_of out (slice_index lost b)) at ≡ lost_byte m (weights b) rows known at
