-- Bytes written into a part of a piece.
use Rattle.std.specs.Prelude.{◌≡◌, ℕ, ◌+◌, ◌<◌, List, ◌++◌, length, take, drop, slice_index}
use Rattle.group_types.specs.Pieces.{bytes_of, with_bytes}
use Rattle.group_types.specs.declared.piece_list.Piece.{Piece}

-- the pieces, with bytes written into the one of this number from a place on
abbrev pub with_part : List Piece → ℕ → ℕ → List ℕ → List Piece
with_part pieces d at part = with_bytes pieces d (take at (bytes_of pieces d) ++ (part ++ drop (length part) (drop at (bytes_of pieces d))))

-- n bytes, at each place what f is there, were written into the piece of this number from a place on
pub record HasPart (d at n : ℕ) (f : ℕ → ℕ) (old new : List Piece) : Type 0 where
  pub part : List ℕ
  pub long : length part ≡ n
  pub values : (k : ℕ) → k < n → slice_index part k ≡ f (at + k)
  pub written : new ≡ with_part old d at part
