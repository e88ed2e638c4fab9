-- Pieces that are awaited, of which some have come.
use Rattle.std.specs.Prelude.{◌≡◌, ℕ, ◌<◌, Bool, true, false, List, Option, Some, None, if◌then◌else◌, length, map}
use Rattle.std.specs.List.{All, Contains, range_with_len, slice_index_or}
use Rattle.std.specs.List.Sorted.{IsStrictlyIncreasing}
use Rattle.group_types.specs.Pieces.{bytes_of, numbers_of}
use Rattle.group_types.specs.declared.piece_list.Piece.{Piece}

-- the numbers of the pieces, what came, by number, and how long a piece is
pub record Awaited : Type 0 where
  pub numbers : List ℕ
  pub parts : List (Option (List ℕ))
  pub block : ℕ

-- the bytes of a number's piece, if they came
abbrev pub part_of : List Piece → List Bool → ℕ → Option (List ℕ)
part_of pieces came n = if slice_index_or came n false then Some (bytes_of pieces n) else None

abbrev pub parts_of : List Piece → List Bool → List (Option (List ℕ))
parts_of pieces came = map (part_of pieces came) (range_with_len 0 (length came))

abbrev pub awaited_in : List Piece → List Bool → ℕ → Awaited
awaited_in pieces came block = record { numbers = numbers_of pieces; parts = parts_of pieces came; block = block }

-- the numbers rise, and only what is awaited came
pub record AreAwaited (pieces : List Piece) (came : List Bool) (block : ℕ) : Type 0 where
  pub rising : IsStrictlyIncreasing (numbers_of pieces)
  pub below : All (λ n. n < length came) (numbers_of pieces)
  pub long : All (λ p. length p.bytes ≡ block) pieces
  pub awaited : (n : ℕ) → slice_index_or came n false ≡ true → Contains (numbers_of pieces) n
