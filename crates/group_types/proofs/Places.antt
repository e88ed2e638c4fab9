-- Where a number stands in a list of pieces, and what writing into its piece leaves.
use Rattle.std.proofs.Common.{◌≡◌, ◌≢◌, ℕ, ◌+◌, ◌<◌, ◌≤◌, ◌==◌, List, [], ◌++◌, length, take, get_or, set, Contains, below_more, inl, inr, sym, ap, ◌∙◌, arith}
use Rattle.std.specs.List.{position_or_len}
use Rattle.std.proofs.lemmas.Bool.{eq-eqb, ne_eqb, eqb-true, cases_lt, true≢false}
use Rattle.std.proofs.lemmas.List.{length-map, get_or-map, map-set, get_or-set_same, get_or-set_other, set-get_or}
use Rattle.std.proofs.lemmas.List.{get_or_default, take_all, drop_all, append-nil}
use Rattle.std.proofs.lemmas.List.Sums.{position_or_len_is, fails_before_first, passes_at_first}
use Rattle.group_types.specs.Pieces.{numbers_of, place_of, piece_of, bytes_of, overwritten, with_bytes}
use Rattle.group_types.specs.declared.piece_list.Piece.{Piece}

-- none of the first n pieces has the number
abbrev pub IsMissing : List Piece → ℕ → ℕ → Type 0
IsMissing pieces number n = (k : ℕ) → k < n → get_or (numbers_of pieces) k 0 ≢ number

pub number_at : (pieces : List Piece) (i : ℕ) (d : Piece) → i < length pieces → get_or (numbers_of pieces) i 0 ≡ (get_or pieces i d).number
number_at pieces i d within = get_or-map (λ p. p.number) pieces i d 0 within

pub missing_more : (pieces : List Piece) (number i : ℕ) (d : Piece) → i < length pieces → (get_or pieces i d).number
    ≢ number → IsMissing pieces number i → IsMissing pieces number (i + 1)
missing_more pieces number i d within other missing = below_more (λ k. get_or (numbers_of pieces) k 0 ≢ number) i
    missing (λ same. other (sym (number_at pieces i d within) ∙ same))

pub place_found : (pieces : List Piece) (number i : ℕ) (d : Piece) → i < length pieces → (get_or pieces i d).number
    ≡ number → IsMissing pieces number i → i ≡ place_of pieces number
place_found pieces number i d within here missing =
    let long = length-map pieces (λ p. p.number) in
    sym (position_or_len_is (λ n. n == number) (numbers_of pieces) i 0 (omega (arith, long)) (λ k below. ne_eqb _ number (missing k below))
    (λ _. eq-eqb _ number (number_at pieces i d within ∙ here)))

pub not_missing : (pieces : List Piece) (number n : ℕ) → Contains (numbers_of pieces) number → length pieces ≤ n → IsMissing pieces number n → ⊥
not_missing pieces number n found all missing =
    let long = length-map pieces (λ p. p.number) in
    let within = found.1 in
    missing found.0 (omega (arith, long, within)) (get_or_default (numbers_of pieces) found.0 0 number within ∙ found.2)

pub place_within : (pieces : List Piece) (number : ℕ) → Contains (numbers_of pieces) number → place_of pieces number < length pieces
place_within pieces number found = elim (cases_lt (place_of pieces number) (length pieces)) [
  | inl within ↦ within
  | inr past ↦ absurd (not_missing pieces number (length pieces) found (omega arith) (λ k below same.
      true≢false (sym (eq-eqb _ number same) ∙ fails_before_first (λ n. n == number) (numbers_of pieces) k 0 (omega (arith, below, past)))))
]

-- the piece found has the number
pub number_found : (pieces : List Piece) (number : ℕ) → Contains (numbers_of pieces) number → (piece_of pieces number).number ≡ number
number_found pieces number found =
    let within = place_within pieces number found in
    let long = length-map pieces (λ p. p.number) in
    sym (number_at pieces (place_of pieces number) _ within)
    ∙ eqb-true _ number (passes_at_first (λ n. n == number) (numbers_of pieces) 0 (omega (arith, long, within)))

-- where two numbers have one place, that place's number is both
other_number : (pieces : List Piece) (number other : ℕ) → Contains (numbers_of pieces) number
    → place_of pieces other ≡ place_of pieces number → (piece_of pieces number).number ≡ other
other_number pieces number other found same =
    let within = place_within pieces number found in
    let long = length-map pieces (λ p. p.number) in
    sym (number_at pieces (place_of pieces number) _ within)
    ∙ (ap (λ i. get_or (numbers_of pieces) i 0) (sym same)
    ∙ eqb-true _ other (passes_at_first (λ n. n == other) (numbers_of pieces) 0 (omega (arith, long, within, same))))

-- writing into a piece leaves the numbers
pub numbers_kept : (pieces : List Piece) (number : ℕ) (bytes : List ℕ) → Contains (numbers_of pieces) number
    → numbers_of (with_bytes pieces number bytes) ≡ numbers_of pieces
numbers_kept pieces number bytes found =
    let within = place_within pieces number found in
    let at = place_of pieces number in
    map-set (λ p. p.number) pieces at (record (piece_of pieces number) { bytes = overwritten (bytes_of pieces number) bytes })
    ∙ (ap (set (numbers_of pieces) at) (sym (number_at pieces at _ within)) ∙ set-get_or (numbers_of pieces) at 0)

pub overwritten_whole : (bytes others : List ℕ) → length others ≡ length bytes → overwritten bytes others ≡ others
overwritten_whole bytes others same =
    ap (take (length bytes)) (ap (λ rest. others ++ rest) (drop_all (length others) bytes (omega (arith, same))) ∙ append-nil others)
    ∙ take_all (length bytes) others (omega (arith, same))

-- it changes that piece's bytes
pub bytes_written : (pieces : List Piece) (number : ℕ) (bytes : List ℕ) → Contains (numbers_of pieces) number
    → length bytes ≡ length (bytes_of pieces number) → bytes_of (with_bytes pieces number bytes) number ≡ bytes
bytes_written pieces number bytes found same =
    let within = place_within pieces number found in
    let at = place_of pieces number in
    let new : Piece = record (piece_of pieces number) { bytes = overwritten (bytes_of pieces number) bytes } in
    ap (λ ns. (get_or (set pieces at new) (position_or_len (λ n. n == number) ns)
    (record { number = number; bytes = [] })).bytes) (numbers_kept pieces number bytes found)
    ∙ (ap (λ (p : Piece). p.bytes) (get_or-set_same pieces at new (record { number = number; bytes = [] }) within)
    ∙ overwritten_whole (bytes_of pieces number) bytes same)

-- and no other's
pub bytes_kept : (pieces : List Piece) (number : ℕ) (bytes : List ℕ) (other : ℕ) → Contains (numbers_of pieces) number
    → other ≢ number → bytes_of (with_bytes pieces number bytes) other ≡ bytes_of pieces other
bytes_kept pieces number bytes other found differ =
    let at = place_of pieces number in
    let new : Piece = record (piece_of pieces number) { bytes = overwritten (bytes_of pieces number) bytes } in
    let apart : place_of pieces other ≢ at = λ same. differ (sym (other_number pieces number other found same) ∙ number_found pieces number found) in
    ap (λ ns. (get_or (set pieces at new) (position_or_len (λ n. n == other) ns)
    (record { number = other; bytes = [] })).bytes) (numbers_kept pieces number bytes found)
    ∙ ap (λ (p : Piece). p.bytes) (get_or-set_other pieces at (place_of pieces other) new (record { number = other; bytes = [] }) apart)
