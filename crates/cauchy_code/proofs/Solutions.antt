-- What the loop over the lost columns keeps and leaves.
use Rattle.std.proofs.Common.{◌≡◌, ℕ, ◌<◌, ◌≤◌, ◌==◌, true, List, [], ◌∷◌, length, get_or, All, bit_xor, inl, inr, sym, ap, ap₂, ◌∙◌, arith}
use Rattle.std.specs.List.{list_any}
use Rattle.std.proofs.lemmas.Bool.{eqb-true, or_cases}
use Rattle.std.proofs.lemmas.Bool.Decides.{Decides-eqb}
use Rattle.std.proofs.lemmas.List.Elements.{All-head, All-tail}
use Rattle.std.proofs.lemmas.Map.Made.{IsDistinct-from_AllPairs}
use Rattle.std.proofs.lemmas.Map.Steps.{length-le_from_distinct_below}
use Rattle.field_byte.specs.Field.{product}
use Rattle.field_byte.proofs.FieldSums.{sum_same}
use Rattle.field_matrix.specs.Grids.{Grid, HasBytes, IsIdentity, entry, times}
use Rattle.group_types.specs.Pieces.{bytes_of, contents_of, numbers_of}
use Rattle.group_types.specs.declared.piece_list.Piece.{Piece}
use Rattle.erasure_code.specs.Columns.{AreDifferent}
use Rattle.cauchy_code.specs.Solving.{AreBytesIn, IsSolved, lost_byte, lost_square, row_coefficient}

-- a lost column reads as many weights as there are rows
pub lost_byte_same : (m : ℕ) (v w : ℕ → ℕ) (rows known : List Piece) (at : ℕ) → ((a : ℕ) → a < length rows → v a ≡ w a)
    → lost_byte m v rows known at ≡ lost_byte m w rows known at
lost_byte_same m v w rows known at same =
    ap₂ bit_xor (sum_same (length rows) _ _ (λ a below. ap (λ x. product x (entry (contents_of rows) a at)) (same a below)))
    (sum_same (length known) _ _ (λ j j_below. ap (λ x. product x (entry (contents_of known) j at))
    (sum_same (length rows) _ _ (λ a below. ap (λ x. product x (row_coefficient m rows a (get_or (numbers_of known) j 0))) (same a below)))))

-- what an inverse of the square gives
pub solved_from : (f m n : ℕ) (lost : List ℕ) (rows known out : List Piece) (square inverse : Grid) → length lost ≡ f
    → ((a b : ℕ) → a < f → b < f → square a b ≡ lost_square m lost rows a b) → HasBytes f inverse
    → IsIdentity f (times f inverse square) → IsIdentity f (times f square inverse)
    → (0 < f → AreBytesIn rows × AreBytesIn known)
    → ((b : ℕ) → b < f → length (bytes_of out (get_or lost b 0)) ≡ n)
    → ((b at : ℕ) → b < f → get_or (bytes_of out (get_or lost b 0)) at 0 ≡ lost_byte m (inverse b) rows known at)
    → IsSolved m n lost rows known out
solved_from f m n lost rows known out square inverse is entries bytes left right all_bytes long columns =
    let same : (a b : ℕ) → a < length lost → b < length lost → lost_square m lost rows a b ≡ square a b =
    λ a b a_below b_below. sym (entries a b (omega (arith, is, a_below)) (omega (arith, is, b_below))) in
    record {
      weights = inverse;
      bytes = λ i j i_below j_below. bytes i j (omega (arith, is, i_below)) (omega (arith, is, j_below));
      left = λ i j i_below j_below. sum_same (length lost) _ _ (λ a below. ap (product (inverse i a)) (same a j below j_below))
          ∙ (ap (λ k. times k inverse square i j) is ∙ left i j (omega (arith, is, i_below)) (omega (arith, is, j_below)));
      right = λ i j i_below j_below. sum_same (length lost) _ _ (λ b below. ap (λ x. product x (inverse b j)) (same i b i_below below))
          ∙ (ap (λ k. times k square inverse i j) is ∙ right i j (omega (arith, is, i_below)) (omega (arith, is, j_below)));
      row_bytes = λ some. (all_bytes (omega (arith, is, some))).0;
      known_bytes = λ some. (all_bytes (omega (arith, is, some))).1;
      long = λ b below. long b (omega (arith, is, below));
      columns = λ b at below. columns b at (omega (arith, is, below));
    }

-- where nothing is lost
pub none_lost : (m n : ℕ) (lost : List ℕ) (rows known out : List Piece) → length lost ≡ 0 → IsSolved m n lost rows known out
none_lost m n lost rows known out none = record {
  weights = λ i j. 0;
  bytes = λ i j i_below j_below. absurd (omega (arith, none, i_below));
  left = λ i j i_below j_below. absurd (omega (arith, none, i_below));
  right = λ i j i_below j_below. absurd (omega (arith, none, i_below));
  row_bytes = λ some. absurd (omega (arith, none, some));
  known_bytes = λ some. absurd (omega (arith, none, some));
  long = λ b below. absurd (omega (arith, none, below));
  columns = λ b at below. absurd (omega (arith, none, below));
}

below_all : (xs : List ℕ) (n q : ℕ) → All (λ x. x < n) xs → list_any (λ x. q == x) xs ≡ true → q < n
below_all [] n q all found = absurd (cc (found))
below_all (x ∷ xs) n q all found = elim (or_cases (q == x) (list_any (λ y. q == y) xs) found) [
  | inl here ↦ omega (arith, eqb-true q x here, All-head (λ x. x < n) x xs all)
  | inr there ↦ below_all xs n q (All-tail (λ x. x < n) x xs all) there
]

-- there are no more different numbers below n than n
pub at_most : (xs : List ℕ) (n : ℕ) → AreDifferent xs → All (λ x. x < n) xs → length xs ≤ n
at_most xs n differ all = length-le_from_distinct_below xs n (IsDistinct-from_AllPairs Decides-eqb xs differ) (λ q found. below_all xs n q all found)
