-- What the tests build: orders of the partitions, and pieces of 16 bytes.
use Rattle.std.proofs.Common.{◌≡◌, ℕ, zero, suc, ◌<◌, ◌==◌, Bool, true, false, ◌&&◌, not, nat_lt, List, [], ◌∷◌, ◌++◌}
use Rattle.std.proofs.Common.{length, drop, get_or, All, Contains, inl, inr, sym, ap, ◌∙◌, refl, arith}
use Rattle.std.specs.List.{AllByRecursion, IsDistinct, list_any}
use Rattle.std.specs.Set.{is_member}
use Rattle.std.proofs.lemmas.Bool.{and_parts, or_parts, cases_eq, not-true, ltb-true}
use Rattle.std.proofs.lemmas.Bool.Decides.{Decides-eqb}
use Rattle.std.proofs.lemmas.List.{length-append, length-drop, length-take-le}
use Rattle.std.proofs.lemmas.List.Elements.{All-cons, All-nil, All-set, Contains-get_or}
use Rattle.std.proofs.lemmas.Map.Made.{AllPairs-from_IsDistinct, is_member-Decides}
use Rattle.group_types.specs.Pieces.{HaveOneLength, bytes_of, numbers_of, overwritten, piece_of, place_of, with_bytes, zero_pieces}
use Rattle.group_types.specs.declared.piece_list.Piece.{Piece}
use Rattle.group_types.proofs.Places.{numbers_kept, place_within}
use Rattle.erasure_code.specs.Columns.{IsEachBelow}

-- tests that a list has each number below n once
abbrev differ_check : List ℕ → Bool
differ_check [] = true
differ_check (x ∷ xs) = not (list_any (λ y. x == y) xs) && differ_check xs

abbrev below_check : ℕ → List ℕ → Bool
below_check n [] = true
below_check n (x ∷ xs) = nat_lt x n && below_check n xs

abbrev has_check : ℕ → List ℕ → Bool
has_check zero xs = true
has_check (suc n) xs = is_member (λ x y. x == y) xs n && has_check n xs

apart_from : (x : ℕ) (xs : List ℕ) → list_any (λ y. x == y) xs ≡ false → AllByRecursion (λ y. x == y ≡ false) xs
apart_from x [] none = tt
apart_from x (y ∷ ys) none = let parts = or_parts (x == y) (list_any (λ z. x == z) ys) none in (parts.0, apart_from x ys parts.1)

distinct_from : (xs : List ℕ) → differ_check xs ≡ true → IsDistinct (λ x y. x == y) xs
unfolding IsDistinct
distinct_from [] passes = tt
distinct_from (x ∷ xs) passes =
    let parts = and_parts (not (list_any (λ y. x == y) xs)) (differ_check xs) passes in
    (apart_from x xs (not-true (list_any (λ y. x == y) xs) parts.0), distinct_from xs parts.1)

below_from : (n : ℕ) (xs : List ℕ) → below_check n xs ≡ true → All (λ x. x < n) xs
below_from n [] passes = All-nil (λ x. x < n)
below_from n (x ∷ xs) passes =
    let parts = and_parts (nat_lt x n) (below_check n xs) passes in
    All-cons (λ x. x < n) x xs (ltb-true x n parts.0) (below_from n xs parts.1)

has_from : (n : ℕ) (xs : List ℕ) → has_check n xs ≡ true → (x : ℕ) → x < n → Contains xs x
has_from zero xs passes x below = absurd (omega (arith, below))
has_from (suc n) xs passes x below =
    let parts = and_parts (is_member (λ x y. x == y) xs n) (has_check n xs) passes in
    elim (cases_eq x n) [
      | inl last ↦ rw last ((is_member-Decides Decides-eqb xs n).0 parts.0)
      | inr other ↦ has_from n xs parts.1 x (omega (arith, below, other))
    ]

-- each test is `refl` at a list that is written out
pub each_from : (n : ℕ) (xs : List ℕ) → differ_check xs ≡ true → below_check n xs ≡ true → has_check n xs ≡ true → IsEachBelow n xs
each_from n xs differ below has = record {
  different = AllPairs-from_IsDistinct Decides-eqb xs (distinct_from xs differ);
  below = below_from n xs below;
  all = has_from n xs has;
}

-- the pieces have these numbers and 16 bytes each
pub record HoldsBlocks (numbers : List ℕ) (pieces : List Piece) : Type 0 where
  pub numbered : numbers_of pieces ≡ numbers
  pub long : All (λ p. length p.bytes ≡ 16) pieces

numbers_of_zeros : (block : ℕ) (numbers : List ℕ) → numbers_of (zero_pieces block numbers) ≡ numbers
numbers_of_zeros block [] = refl
numbers_of_zeros block (n ∷ ns) = ap (λ ms. n ∷ ms) (numbers_of_zeros block ns)

pub blocks_of_zeros : (numbers : List ℕ) → HoldsBlocks numbers (zero_pieces 16 numbers)
blocks_of_zeros [] = record { numbered = refl; long = All-nil (λ (p : Piece). length p.bytes ≡ 16) }
blocks_of_zeros (n ∷ ns) =
    let rest = blocks_of_zeros ns in
    record { numbered = ap (λ ms. n ∷ ms) rest.numbered; long = All-cons (λ (p : Piece). length p.bytes ≡ 16) _ _ refl rest.long }

pub block_long : (numbers : List ℕ) (pieces : List Piece) (n : ℕ) → HoldsBlocks numbers pieces → Contains numbers n → length (bytes_of pieces n) ≡ 16
block_long numbers pieces n holds found = holds.long (place_of pieces n) (record { number = n; bytes = [] }) (place_within pieces n (rw holds.numbered found))

length-overwritten : (bytes others : List ℕ) → length (overwritten bytes others) ≡ length bytes
length-overwritten bytes others = length-take-le (length bytes) (others ++ drop (length others) bytes)
    (omega (arith, length-append others (drop (length others) bytes), length-drop (length others) bytes))

pub blocks_written : (numbers : List ℕ) (pieces : List Piece) (n : ℕ) (bytes : List ℕ) → HoldsBlocks numbers pieces
    → Contains numbers n → HoldsBlocks numbers (with_bytes pieces n bytes)
blocks_written numbers pieces n bytes holds found = record {
  numbered = numbers_kept pieces n bytes (rw holds.numbered found) ∙ holds.numbered;
  long = All-set (λ (p : Piece). length p.bytes ≡ 16) pieces (place_of pieces n) (record (piece_of pieces n) { bytes = overwritten (bytes_of pieces n) bytes })
      (length-overwritten (bytes_of pieces n) bytes ∙ block_long numbers pieces n holds found) holds.long;
}

pub one_length : (pieces : List Piece) → All (λ p. length p.bytes ≡ 16) pieces → HaveOneLength pieces
one_length [] long k d below = absurd (omega (arith, below))
one_length (p ∷ ps) long k d below = long k d below ∙ sym (long 0 p (omega arith))

pub found_in_zeros : (block : ℕ) (numbers : List ℕ) (k d : ℕ) → k < length numbers → Contains (numbers_of (zero_pieces block numbers)) (get_or numbers k d)
found_in_zeros block numbers k d below = rw (numbers_of_zeros block numbers) (Contains-get_or numbers k d below)
