-- Lists of pieces as rows and columns of the code.
use Rattle.std.specs.Prelude.{◌≡◌, ℕ, List, Contains, map, slice_index_or}
use Rattle.std.specs.List.{range_with_len}
use Rattle.group_types.specs.Pieces.{bytes_of}
use Rattle.group_types.specs.declared.piece_list.Piece.{Piece}
use Rattle.erasure_code.specs.Code.{Column}

-- the columns of all partitions, each the bytes of its piece
abbrev pub columns_of : ℕ → List Piece → List (List ℕ)
columns_of k pieces = map (bytes_of pieces) (range_with_len 0 k)

-- a piece as a row or a column
abbrev pub as_column : Piece → Column
as_column p = record { number = p.number; bytes = p.bytes }

abbrev pub as_columns : List Piece → List Column
as_columns pieces = map as_column pieces

-- each piece whose number is not in the list is as it was
abbrev pub KeepsOthers : List ℕ → List Piece → List Piece → Type 0
KeepsOthers numbers old new = (i : ℕ) (p : Piece) → ¬ (Contains numbers (slice_index_or old i p).number) → slice_index_or new i p ≡ slice_index_or old i p
