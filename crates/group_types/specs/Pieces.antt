-- Lists of numbered pieces.
use Rattle.std.specs.Prelude.{◌≡◌, ℕ, ◌==◌, List, [], ◌∷◌, ◌++◌, All, length, take, drop, map, replicate, slice_index_or, slice_set}
use Rattle.std.specs.List.{position_or_len, remove}
use Rattle.std.specs.Borrow.{Lends, MutBor, Fml, Array, u8}
use Rattle.group_types.specs.declared.piece_list.Piece.{Piece}
use Rattle.group_types.specs.contracts.byte_list.ByteList as byte_list
use Rattle.group_types.specs.contracts.piece_list.PieceList as piece_list

-- the numbers of the pieces, in order
abbrev pub numbers_of : List Piece → List ℕ
numbers_of pieces = map (λ p. p.number) pieces

-- one piece of zeros for each number
abbrev pub zero_pieces : ℕ → List ℕ → List Piece
zero_pieces block numbers = map (λ n. record { number = n; bytes = replicate block 0 }) numbers

-- the place of the first piece of this number
abbrev pub place_of : List Piece → ℕ → ℕ
place_of pieces number = position_or_len (λ n. n == number) (numbers_of pieces)

-- the piece of this number, and an empty one where there is none
abbrev pub piece_of : List Piece → ℕ → Piece
piece_of pieces number = slice_index_or pieces (place_of pieces number) (record { number = number; bytes = [] })

-- its bytes
abbrev pub bytes_of : List Piece → ℕ → List ℕ
bytes_of pieces number = (piece_of pieces number).bytes

-- the bytes of each piece, in order
abbrev pub contents_of : List Piece → List (List ℕ)
contents_of pieces = map (λ p. p.bytes) pieces

-- how many bytes the first piece has
abbrev pub length_of : List Piece → ℕ
length_of [] = 0
length_of (p ∷ _) = length p.bytes

-- all pieces have the same number of bytes
abbrev pub HaveOneLength : List Piece → Type 0
HaveOneLength pieces = All (λ p. length p.bytes ≡ length_of pieces) pieces

-- the bytes with others written over the first of them
abbrev pub overwritten : List ℕ → List ℕ → List ℕ
overwritten bytes others = take (length bytes) (others ++ drop (length others) bytes)

-- the pieces, with bytes written into the one of this number
abbrev pub with_bytes : List Piece → ℕ → List ℕ → List Piece
with_bytes pieces number bytes =
    slice_set pieces (place_of pieces number) (record (piece_of pieces number) { bytes = overwritten (bytes_of pieces number) bytes })

-- the pieces without the one of this number
abbrev pub without : List Piece → ℕ → List Piece
without pieces number = remove pieces (place_of pieces number)

-- what is last written through r is in the end what the list holds
abbrev pub LendsBytes : MutBor (List ℕ) → MutBor (List ℕ) → Fml
LendsBytes list r = Lends byte_list.the_row (Array u8 0) list r (overwritten list.now)

-- what is last written through r is in the end what the piece of this number holds
abbrev pub LendsPiece : MutBor (List Piece) → ℕ → MutBor (List ℕ) → Fml
LendsPiece pieces number r = Lends piece_list.the_row (Array u8 0) pieces r (with_bytes pieces.now number)
