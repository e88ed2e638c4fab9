-- Where a number's piece stands in two lists of pieces that are put together.
use Rattle.std.proofs.Common.{◌≡◌, ℕ, ◌+◌, ◌-◌, ◌<◌, ◌==◌, List, [], ◌++◌, length, get_or, Contains, inl, inr, sym, ap, ◌∙◌, arith}
use Rattle.std.proofs.lemmas.Bool.{cases_lt, eq-eqb, true≢false}
use Rattle.std.proofs.lemmas.List.{length-append, length-map, map-append, get_or_append_left, get_or-append-add}
use Rattle.std.proofs.lemmas.List.Sums.{fails_before_first}
use Rattle.group_types.specs.Pieces.{HaveOneLength, bytes_of, contents_of, length_of, numbers_of, place_of}
use Rattle.group_types.specs.declared.piece_list.Piece.{Piece}
use Rattle.group_types.proofs.Places.{IsMissing, number_at, number_found, place_found, place_within}
use Rattle.erasure_code.specs.Columns.{AreDifferent}
use Rattle.erasure_code.proofs.Lists.{All-right}
use Rattle.cauchy_code.proofs.Terms.{content_at}

-- a piece that has a length, among others of one length
pub long_at : (before pieces : List Piece) (d : ℕ) → HaveOneLength (before ++ pieces) → Contains (numbers_of pieces) d
    → length (bytes_of pieces d) ≡ length_of (before ++ pieces)
long_at before pieces d long found =
    All-right (λ (p : Piece). length p.bytes ≡ length_of (before ++ pieces)) before pieces long (place_of pieces d)
    (record { number = d; bytes = [] }) (place_within pieces d found)

bytes_at : (pieces : List Piece) (d i : ℕ) → i < length pieces → i ≡ place_of pieces d → bytes_of pieces d ≡ get_or (contents_of pieces) i []
bytes_at pieces d i within place =
    ap (λ j. (get_or pieces j (record { number = d; bytes = [] })).bytes) (sym place) ∙ sym (content_at pieces i (record { number = d; bytes = [] }) within)

-- a piece of the first list
pub bytes_of_front : (xs ys : List Piece) (i : ℕ) → AreDifferent (numbers_of xs) → i < length xs
    → bytes_of (xs ++ ys) (get_or (numbers_of xs) i 0) ≡ get_or (contents_of xs) i []
bytes_of_front xs ys i differ within =
    let number = get_or (numbers_of xs) i 0 in
    let d : Piece = record { number = number; bytes = [] } in
    let long = length-append xs ys in
    let many = length-map xs (λ p. p.number) in
    let front : (k : ℕ) → k < length xs → get_or (numbers_of (xs ++ ys)) k 0 ≡ get_or (numbers_of xs) k 0 =
    λ k below. ap (λ ns. get_or ns k 0) (map-append (λ p. p.number) xs ys) ∙ get_or_append_left (numbers_of xs)
    (numbers_of ys) 0 k (omega (arith, many, below)) in
    let here : (get_or (xs ++ ys) i d).number ≡ number = sym (number_at (xs ++ ys) i d (omega (arith, long, within))) ∙ front i within in
    let missing : IsMissing (xs ++ ys) number i = λ k below same. differ k i 0 below (omega (arith, many, within))
    (sym (front k (omega (arith, below, within))) ∙ same) in
    let place = place_found (xs ++ ys) number i d (omega (arith, long, within)) here missing in
    bytes_at (xs ++ ys) number i (omega (arith, long, within)) place
    ∙ (ap (λ cs. get_or cs i []) (map-append (λ (p : Piece). p.bytes) xs ys)
    ∙ get_or_append_left (contents_of xs) (contents_of ys) [] i (omega (arith, length-map xs (λ p. p.bytes), within)))

-- a piece whose number the first list doesn't have
pub bytes_of_back : (xs ys : List Piece) (d : ℕ) → IsMissing xs d (length xs) → Contains (numbers_of ys) d → bytes_of (xs ++ ys) d ≡ bytes_of ys d
bytes_of_back xs ys d missing found =
    let none : Piece = record { number = d; bytes = [] } in
    let at = place_of ys d in
    let within = place_within ys d found in
    let long = length-append xs ys in
    let many = length-map xs (λ p. p.number) in
    let here : (get_or (xs ++ ys) (length xs + at) none).number ≡ d =
    ap (λ (p : Piece). p.number) (get_or-append-add xs ys at none) ∙ number_found ys d found in
    let all_missing : IsMissing (xs ++ ys) d (length xs + at) = λ k below same. elim (cases_lt k (length xs)) [
      | inl front ↦ missing k front
          (sym (ap (λ ns. get_or ns k 0) (map-append (λ p. p.number) xs ys) ∙ get_or_append_left (numbers_of xs)
          (numbers_of ys) 0 k (omega (arith, many, front))) ∙ same)
      | inr back ↦
          let there : get_or (numbers_of (xs ++ ys)) k 0 ≡ get_or (numbers_of ys) (k - length xs) 0 =
          ap (λ ns. get_or ns k 0) (map-append (λ p. p.number) xs ys) ∙ (ap (λ j. get_or (numbers_of xs ++ numbers_of ys) j 0) (omega (arith, many, back))
          ∙ get_or-append-add (numbers_of xs) (numbers_of ys) (k - length xs) 0) in
          true≢false (sym (eq-eqb _ d (sym there ∙ same)) ∙ fails_before_first (λ n. n == d) (numbers_of ys) (k - length xs) 0 (omega (arith, below, back)))
    ] in
    let place = place_found (xs ++ ys) d (length xs + at) none (omega (arith, long, within)) here all_missing in
    ap (λ j. (get_or (xs ++ ys) j none).bytes) (sym place) ∙ ap (λ (p : Piece). p.bytes) (get_or-append-add xs ys at none)
