-- The lost columns that the code's inverse square gives agree with the rows, and no others do.
use Rattle.std.proofs.Common.{◌≡◌, ℕ, ◌+◌, ◌<◌, ◌≤◌, List, [], ◌∷◌, ◌++◌, length, map, get_or, All, Contains, bit_xor, sym, ap, ◌∙◌, refl, arith}
use Rattle.std.specs.List.{range_with_len}
use Rattle.std.proofs.lemmas.Grind.{same_number_lists}
use Rattle.std.proofs.lemmas.List.{length-map, get_or_default}
use Rattle.std.proofs.lemmas.List.Elements.{All-get_or, All-map}
use Rattle.std.proofs.lemmas.List.FromFn.{length-range_with_len, get_or-map-range_with_len}
use Rattle.field_byte.specs.Field.{product}
use Rattle.field_byte.specs.Vectors.{field_sum}
use Rattle.field_byte.proofs.Sums.{sum_lt}
use Rattle.field_byte.proofs.Products.{product_lt, product_sum_r, product_assoc, inverse_lt}
use Rattle.field_byte.proofs.FieldSums.{sum_same, sum_byte, sum_of_sums, sum_times_l, sum_times_r, sum_of_rows}
use Rattle.field_matrix.specs.Grids.{Grid, HasBytes, entry, times}
use Rattle.field_matrix.proofs.Products.{times_byte, times_same}
use Rattle.field_matrix.proofs.Inverses.{solution_solves}
use Rattle.erasure_code.specs.Code.{Column, coded, coefficient, decoded}
use Rattle.erasure_code.specs.Columns.{Agree, AreDifferent, AreOfBytes, IsEachBelow}
use Rattle.erasure_code.specs.Laws.{CanDecode}
use Rattle.erasure_code.proofs.Decoding.{lost_is, same_columns, twice}
use Rattle.erasure_code.proofs.Lists.{All-left, All-right, differ_right, differ_across, either}
use Rattle.erasure_code.proofs.Partitions.{coded_long, coded_split}
use Rattle.group_types.specs.Pieces.{bytes_of, contents_of, numbers_of}
use Rattle.group_types.specs.declared.piece_list.Piece.{Piece}
use Rattle.group_types.proofs.Places.{IsMissing, number_at}
use Rattle.cauchy_code.specs.Columns.{as_column, as_columns, columns_of}
use Rattle.cauchy_code.specs.Solving.{IsSolved, known_weight, lost_byte, lost_square, row_coefficient}
use Rattle.cauchy_code.proofs.Parts.{bytes_of_front, bytes_of_back}
use Rattle.cauchy_code.proofs.Terms.{content_at}

-- what the known columns have in a row
abbrev pub known_part : ℕ → List Piece → List Piece → Grid
known_part m rows known a at =
    field_sum (length known) (λ j. product (row_coefficient m rows a (get_or (numbers_of known) j 0))
    (entry (contents_of known) j at))

-- a row without it
abbrev pub lost_part : ℕ → List Piece → List Piece → Grid
lost_part m rows known a at = bit_xor (entry (contents_of rows) a at) (known_part m rows known a at)

pub known_part_byte : (m : ℕ) (rows known : List Piece) (a at : ℕ) → known_part m rows known a at < 256
known_part_byte m rows known a at = sum_byte (length known) _ (λ j below. product_lt _ _ (inverse_lt _))

pub lost_part_byte : (m : ℕ) (rows known : List Piece) (a at : ℕ) → entry (contents_of rows) a at < 256 → lost_part m rows known a at < 256
lost_part_byte m rows known a at byte = sum_lt _ _ byte (known_part_byte m rows known a at)

-- the column written is the weighted sum of the rows without what the known columns have in them
pub lost_byte_is : (m : ℕ) (weights : ℕ → ℕ) (rows known : List Piece) (at : ℕ)
    → ((a : ℕ) → a < length rows → weights a < 256) → ((a : ℕ) → a < length rows → entry (contents_of rows) a at < 256)
    → ((j : ℕ) → j < length known → entry (contents_of known) j at < 256)
    → lost_byte m weights rows known at ≡ field_sum (length rows) (λ a. product (weights a) (lost_part m rows known a at))
lost_byte_is m weights rows known at weight_bytes row_bytes known_bytes =
    let f = length rows in
    let n = length known in
    let k : ℕ → ℕ = λ j. entry (contents_of known) j at in
    let c : ℕ → ℕ → ℕ = λ a j. row_coefficient m rows a (get_or (numbers_of known) j 0) in
    let into_weight : (j : ℕ) → j < n → product (known_weight f m weights rows (get_or (numbers_of known) j 0)) (k j)
    ≡ field_sum f (λ a. product (weights a) (product (c a j) (k j))) =
    λ j j_below. sum_times_r f (k j) (λ a. product (weights a) (c a j)) (λ a below. product_lt _ _ (weight_bytes a below))
    ∙ sum_same f _ _ (λ a below. product_assoc (weights a) (c a j) (k j) (weight_bytes a below) (inverse_lt _) (known_bytes j j_below)) in
    let turned : field_sum n (λ j. product (known_weight f m weights rows (get_or (numbers_of known) j 0)) (k j))
    ≡ field_sum f (λ a. product (weights a) (known_part m rows known a at)) =
    sum_same n _ (λ j. field_sum f (λ a. product (weights a) (product (c a j) (k j)))) into_weight
    ∙ (sum_of_rows n f (λ j a. product (weights a) (product (c a j) (k j)))
    ∙ sum_same f _ _
    (λ a below. sym (sum_times_l n (weights a) (λ j. product (c a j) (k j)) (weight_bytes a below)
    (λ j j_below. product_lt _ _ (inverse_lt _))))) in
    ap (bit_xor (field_sum f (λ a. product (weights a) (entry (contents_of rows) a at)))) turned
    ∙ (sym (sum_of_sums f (λ a. product (weights a) (entry (contents_of rows) a at)) (λ a. product (weights a) (known_part m rows known a at)))
    ∙ sum_same f _ _ (λ a below. sym (product_sum_r (weights a) _ _ (weight_bytes a below) (row_bytes a below) (known_part_byte m rows known a at))))

-- the lost columns, as a grid
abbrev pub at_lost : List ℕ → List (List ℕ) → Grid
at_lost lost columns b at = entry columns (get_or lost b 0) at

-- a row of the code, where the known columns stand in their places
pub row_split : (k m n : ℕ) (lost : List ℕ) (rows known : List Piece) (columns : List (List ℕ))
    → IsEachBelow k (lost ++ numbers_of known) → length columns ≡ k → All (λ column. length column ≡ n) columns
    → ((j : ℕ) → j < length known → get_or columns (get_or (numbers_of known) j 0) [] ≡ get_or (contents_of known) j []) → (a at : ℕ)
    → get_or (coded m (get_or (numbers_of rows) a 0) n columns) at 0
    ≡ bit_xor (times (length lost) (lost_square m lost rows) (at_lost lost columns) a at)
    (known_part m rows known a at)
row_split k m n lost rows known columns each many long holds a at =
    let x = get_or (numbers_of rows) a 0 in
    let f : ℕ → ℕ = λ d. product (coefficient m x d) (entry columns d at) in
    coded_split k m x n at lost (numbers_of known) columns each many long
    ∙ (ap (bit_xor (times (length lost) (lost_square m lost rows) (at_lost lost columns) a at))
    (ap (λ k. field_sum k (λ j. f (get_or (numbers_of known) j 0))) (length-map known (λ p. p.number))
    ∙ sum_same (length known) _ _
    (λ j below. ap (λ (bytes : List ℕ). product (row_coefficient m rows a (get_or (numbers_of known) j 0))
    (get_or bytes at 0)) (holds j below))))

abbrev pub HasKnown : List Piece → List (List ℕ) → Type 0
HasKnown known columns = (j : ℕ) → j < length known → get_or columns (get_or (numbers_of known) j 0) [] ≡ get_or (contents_of known) j []

-- the columns that come of known and written pieces
module _ (k m n : ℕ) (lost : List ℕ) (rows known out : List Piece) (each : IsEachBelow k (lost ++ numbers_of known)) (as_many : length rows ≡ length lost)
    (found : All (λ d. Contains (numbers_of out) d) lost) (rows_long : All (λ p. length p.bytes ≡ n) rows)
    (known_long : All (λ p. length p.bytes ≡ n) known) (solved : IsSolved m n lost rows known out) where
  many_columns : length (columns_of k (known ++ out)) ≡ k
  many_columns = length-map (range_with_len 0 k) (bytes_of (known ++ out)) ∙ length-range_with_len 0 k

  column_at : (d : ℕ) → d < k → get_or (columns_of k (known ++ out)) d [] ≡ bytes_of (known ++ out) d
  column_at d below = get_or-map-range_with_len (bytes_of (known ++ out)) 0 k d d [] below (omega arith)

  lost_below : (b : ℕ) → b < length lost → get_or lost b 0 < k
  lost_below b below = All-get_or (λ x. x < k) lost b 0 below (All-left (λ x. x < k) lost (numbers_of known) each.below)

  known_below : (j : ℕ) → j < length known → get_or (numbers_of known) j 0 < k
  known_below j below = All-get_or (λ x. x < k) (numbers_of known) j 0
      (omega (arith, length-map known (λ p. p.number), below))
      (All-right (λ x. x < k) lost (numbers_of known) each.below)

  pub at_known : HasKnown known (columns_of k (known ++ out))
  at_known j below = column_at _ (known_below j below) ∙ bytes_of_front known out j (differ_right lost (numbers_of known) each.different) below

  not_known : (b : ℕ) → b < length lost → IsMissing known (get_or lost b 0) (length known)
  not_known b below j j_below same = differ_across lost (numbers_of known) each.different b j 0 below
      (omega (arith, length-map known (λ p. p.number), j_below)) (sym same)

  pub at_lost_column : (b : ℕ) → b < length lost → get_or (columns_of k (known ++ out)) (get_or lost b 0) [] ≡ bytes_of out (get_or lost b 0)
  at_lost_column b below = column_at _ (lost_below b below) ∙ bytes_of_back known out (get_or lost b 0)
      (not_known b below) (All-get_or (λ d. Contains (numbers_of out) d) lost b 0 below found)

  -- each partition is lost or known
  each_one : (P : ℕ → Type 0) → ((b : ℕ) → b < length lost → P (get_or lost b 0))
      → ((j : ℕ) → j < length known → P (get_or (numbers_of known) j 0)) → (d : ℕ) → d < k → P d
  each_one P of_lost of_known = either k lost (numbers_of known) P each of_lost (λ j below. of_known j (omega (arith, length-map known (λ p. p.number), below)))

  content_long : (pieces : List Piece) → All (λ p. length p.bytes ≡ n) pieces → (j : ℕ) → j < length pieces → length (get_or (contents_of pieces) j []) ≡ n
  content_long pieces long j below =
      let none : Piece = record { number = 0; bytes = [] } in
      ap length (content_at pieces j none below) ∙ long j none below

  long_columns : All (λ column. length column ≡ n) (columns_of k (known ++ out))
  long_columns d e below =
      let within : d < k = omega (arith, many_columns, below) in
      ap length (get_or_default (columns_of k (known ++ out)) d e [] below)
      ∙ each_one (λ d. length (get_or (columns_of k (known ++ out)) d []) ≡ n)
      (λ b b_below. ap length (at_lost_column b b_below) ∙ solved.long b b_below)
      (λ j j_below. ap length (at_known j j_below) ∙ content_long known known_long j j_below) d within

  square_bytes : HasBytes (length lost) (lost_square m lost rows)
  square_bytes i j i_below j_below = inverse_lt _

  -- what is written into the lost column b
  written : (b at : ℕ) → b < length lost → at_lost lost (columns_of k (known ++ out)) b at ≡ times (length lost) solved.weights (lost_part m rows known) b at
  written b at below =
      let some : 0 < length lost = omega (arith, below) in
      ap (λ (bytes : List ℕ). get_or bytes at 0) (at_lost_column b below)
      ∙ (solved.columns b at below
      ∙ (lost_byte_is m (solved.weights b) rows known at
      (λ a a_below. solved.bytes b a below (omega (arith, as_many, a_below)))
      (λ a a_below. solved.row_bytes some a at a_below) (λ j j_below. solved.known_bytes some j at j_below)
      ∙ ap (λ f. field_sum f (λ a. product (solved.weights b a) (lost_part m rows known a at))) as_many))

  pub lost_entry_byte : (b at : ℕ) → b < length lost → at_lost lost (columns_of k (known ++ out)) b at < 256
  lost_entry_byte b at below =
      rw (written b at below) (times_byte (length lost) solved.weights (lost_part m rows known) b at
      (λ i i_below. solved.bytes b i below i_below))

  part_bytes : (at a : ℕ) → a < length lost → lost_part m rows known a at < 256
  part_bytes at a below = lost_part_byte m rows known a at (solved.row_bytes (omega (arith, below)) a at (omega (arith, as_many, below)))

  row_agrees : (a : ℕ) → a < length rows → get_or (contents_of rows) a [] ≡ coded m (get_or (numbers_of rows) a 0) n (columns_of k (known ++ out))
  row_agrees a below =
      let within : a < length lost = omega (arith, as_many, below) in
      same_number_lists _ _ (content_long rows rows_long a below ∙ sym (coded_long m _ n (columns_of k (known ++ out)) long_columns)) (λ at at_below.
      sym (row_split k m n lost rows known (columns_of k (known ++ out)) each many_columns long_columns at_known a at
      ∙ (ap (λ x. bit_xor x (known_part m rows known a at))
      (times_same (length lost) (lost_square m lost rows) (at_lost lost (columns_of k (known ++ out)))
      (lost_square m lost rows) (times (length lost) solved.weights (lost_part m rows known)) a at (λ b b_below. refl)
      (λ b b_below. written b at b_below)
      ∙ solution_solves (length lost) (lost_square m lost rows) solved.weights (lost_part m rows known) square_bytes
      solved.bytes solved.right a at within (λ i i_below. part_bytes at i i_below))
      ∙ twice (entry (contents_of rows) a at) (known_part m rows known a at))))

  own_columns_agree : Agree k m n (as_columns rows) (as_columns known) (columns_of k (known ++ out))
  own_columns_agree = record {
    many = many_columns;
    long = long_columns;
    holds = All-map (λ (column : Column). get_or (columns_of k (known ++ out)) column.number [] ≡ column.bytes)
        as_column known (λ j d below. ap (λ number. get_or (columns_of k (known ++ out)) number [])
        (sym (number_at known j d below)) ∙ (at_known j below ∙ content_at known j d below));
    codes = All-map (λ (row : Column). row.bytes ≡ coded m row.number n (columns_of k (known ++ out))) as_column rows
        (λ a d below. sym (content_at rows a d below)
        ∙ (row_agrees a below ∙ ap (λ i. coded m i n (columns_of k (known ++ out))) (number_at rows a d below)));
  }

  own_bytes : 0 < length lost → AreOfBytes (columns_of k (known ++ out))
  own_bytes some d e below at b at_below =
      let within : d < k = omega (arith, many_columns, below) in
      rw (
        get_or_default (columns_of k (known ++ out)) d e [] below,
        get_or_default (get_or (columns_of k (known ++ out)) d []) at b 0
            (rw (← get_or_default (columns_of k (known ++ out)) d e [] below) at_below),
      )
      (each_one (λ d. entry (columns_of k (known ++ out)) d at < 256) (λ b b_below. lost_entry_byte b at b_below)
      (λ j j_below. rw (at_known j j_below) (solved.known_bytes some j at j_below)) d within)

pub numbers_as : (pieces : List Piece) → map (λ (column : Column). column.number) (as_columns pieces) ≡ numbers_of pieces
numbers_as [] = refl
numbers_as (p ∷ ps) = ap (λ ns. p.number ∷ ns) (numbers_as ps)

-- what the contract of `decode` says of columns that were solved
pub record IsDecoded (k m n : ℕ) (lost : List ℕ) (rows known out : List Piece) : Type 0 where
  pub agrees : Agree k m n (as_columns rows) (as_columns known) (columns_of k (known ++ out))
  pub only : (columns : List (List ℕ)) → AreOfBytes columns → Agree k m n (as_columns rows) (as_columns known) columns → columns ≡ columns_of k (known ++ out)
  pub closed : All (λ l. bytes_of out l ≡ decoded m n lost (as_columns rows) (as_columns known) l) lost

pub decoded_from : (k m n : ℕ) (lost : List ℕ) (rows known out : List Piece) → k + m ≤ 256
    → IsEachBelow k (lost ++ numbers_of known) → AreDifferent (numbers_of rows) → All (λ i. i < m) (numbers_of rows)
    → length rows ≡ length lost → All (λ d. Contains (numbers_of out) d) lost → All (λ p. length p.bytes ≡ n) rows
    → All (λ p. length p.bytes ≡ n) known → IsSolved m n lost rows known out
    → IsDecoded k m n lost rows known out
decoded_from k m n lost rows known out few each differ below as_many found rows_long known_long solved =
    let ours = columns_of k (known ++ out) in
    let agree = own_columns_agree k m n lost rows known out each as_many found rows_long known_long solved in
    let bytes = own_bytes k m n lost rows known out each as_many found rows_long known_long solved in
    let can : CanDecode k m lost (as_columns rows) (as_columns known) = record {
      processes = few;
      partitions = rw (numbers_as known) each;
      different = rw (numbers_as rows) differ;
      below = rw (numbers_as rows) below;
      as_many = length-map rows _ ∙ as_many;
    } in
    record {
      agrees = agree;
      only = λ columns of_bytes theirs. same_columns k m n lost (as_columns rows) (as_columns known) can ours columns bytes (λ some. of_bytes) agree theirs;
      closed = λ b d b_below.
          rw (get_or_default lost b d 0 b_below)
          (sym (at_lost_column k m n lost rows known out each as_many found rows_long known_long solved b b_below)
          ∙ lost_is k m n lost (as_columns rows) (as_columns known) can ours agree (bytes (omega (arith, b_below))) b b_below);
    }
