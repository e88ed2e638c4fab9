-- The lost columns are written one or two at a time.
use Rattle.std.proofs.Common.{◌≡◌, ◌≢◌, ℕ, ◌+◌, ◌<◌, ◌≤◌, List, [], ◌∷◌, length, get_or, All, Contains, bit_xor, inl}
use Rattle.std.proofs.Common.{inr, sym, ap, ap₂, ◌∙◌, subst, refl, arith}
use Rattle.std.specs.Int.Bits.{xor_zero_l}
use Rattle.std.proofs.lemmas.Bool.{cases_eq, cases_lt}
use Rattle.std.proofs.lemmas.List.{get_or_past}
use Rattle.std.proofs.lemmas.List.Elements.{All-get_or, Contains-get_or}
use Rattle.field_byte.specs.Field.{product}
use Rattle.field_byte.proofs.FieldSums.{sum_of_zeros, sum_same}
use Rattle.field_byte.proofs.Products.{product_zero_r}
use Rattle.field_matrix.specs.Grids.{Grid, entry}
use Rattle.group_types.specs.Pieces.{bytes_of, contents_of, numbers_of, place_of, with_bytes}
use Rattle.group_types.specs.declared.piece_list.Piece.{Piece}
use Rattle.group_types.proofs.Places.{bytes_written, bytes_kept, number_found, numbers_kept}
use Rattle.erasure_code.specs.Columns.{AreDifferent}
use Rattle.erasure_code.proofs.Lists.{same_place}
use Rattle.cauchy_code.specs.Columns.{KeepsOthers}
use Rattle.cauchy_code.specs.Solving.{IsSum, known_weight, lost_byte, parts_sum, pieces_sum, row_coefficient}
use Rattle.cauchy_code.specs.declared.weights.Weights.{Weights}
use Rattle.cauchy_code.proofs.Filling.{keeps_both, keeps_written}
use Rattle.cauchy_code.proofs.Terms.{content_at}

-- weights as contracts give them, for a row of the inverse
pub record AreWeights (m : ℕ) (f : ℕ → ℕ) (rows known : List Piece) (w : Weights) : Type 0 where
  pub of_rows : (a : ℕ) → a < length rows → get_or w.rows a 0 ≡ f a
  pub of_known : (j : ℕ) → j < length known → get_or w.known j 0 ≡ known_weight (length rows) m f rows (get_or (numbers_of known) j 0)

pub weights_from : (m : ℕ) (f : ℕ → ℕ) (by : List ℕ) (rows known : List Piece) (w : Weights)
    → ((a : ℕ) → a < length rows → get_or by a 0 ≡ f a)
    → ((a : ℕ) → a < length rows → get_or w.rows a 0 ≡ get_or by a 0)
    → ((j : ℕ) → j < length known → get_or w.known j 0 ≡ known_weight (length rows) m (λ a. get_or by a 0) rows
    (get_or (numbers_of known) j 0)) → AreWeights m f rows known w
weights_from m f by rows known w same of_rows of_known = record {
  of_rows = λ a below. of_rows a below ∙ same a below;
  of_known = λ j below. of_known j below
      ∙ sum_same (length rows) _ _
      (λ a a_below. ap (λ x. product x (row_coefficient m rows a (get_or (numbers_of known) j 0))) (same a a_below));
}

sum_is : (m : ℕ) (f : ℕ → ℕ) (rows known : List Piece) (w : Weights) → AreWeights m f rows known w → (at : ℕ)
    → parts_sum w rows known at ≡ lost_byte m f rows known at
sum_is m f rows known w are at =
    ap₂ bit_xor (sum_same (length rows) _ _ (λ a below. ap (λ x. product x (entry (contents_of rows) a at)) (are.of_rows a below)))
    (sum_same (length known) _ _ (λ j below. ap (λ x. product x (entry (contents_of known) j at)) (are.of_known j below)))

sum_past : (n at : ℕ) (f : ℕ → ℕ) (pieces : List Piece) → All (λ p. length p.bytes ≡ n) pieces → n ≤ at → pieces_sum (length pieces) f pieces at ≡ 0
sum_past n at f pieces long past = sum_of_zeros (length pieces) _ (λ a below.
    let none : Piece = record { number = 0; bytes = [] } in
    let content = content_at pieces a none below in
    ap (product (f a)) (ap (λ (bytes : List ℕ). get_or bytes at 0) content ∙ get_or_past (get_or pieces a none).bytes at
    0 (omega (arith, long a none below, past))) ∙ product_zero_r (f a))

each_place : (n : ℕ) (rows known : List Piece) (w : Weights) (bytes : List ℕ) → All (λ p. length p.bytes ≡ n) rows
    → All (λ p. length p.bytes ≡ n) known → IsSum n w rows known bytes
    → (at : ℕ) → get_or bytes at 0 ≡ parts_sum w rows known at
each_place n rows known w bytes rows_long known_long sum at = elim (cases_lt at n) [
  | inl within ↦ sum.each at within
  | inr past ↦ get_or_past bytes at 0 (omega (arith, sum.long, past))
      ∙ sym (ap₂ bit_xor (sum_past n at _ rows rows_long (omega (arith, past)))
      (sum_past n at _ known known_long (omega (arith, past))) ∙ xor_zero_l 0)
]

-- a piece that is not among those that changed
bytes_stay : (numbers : List ℕ) (old new : List Piece) (q : ℕ) → numbers_of new ≡ numbers_of old
    → KeepsOthers numbers old new → Contains (numbers_of old) q → ¬ (Contains numbers q)
    → bytes_of new q ≡ bytes_of old q
bytes_stay numbers old new q same kept found apart =
    ap (λ i. (get_or new i (record { number = q; bytes = [] })).bytes) (places old new q same)
    ∙ ap (λ (p : Piece). p.bytes)
    (kept (place_of old q) (record { number = q; bytes = [] })
    (subst (λ n. ¬ (Contains numbers n)) (sym (number_found old q found)) apart))
  where
    places : (old new : List Piece) (q : ℕ) → numbers_of new ≡ numbers_of old → place_of new q ≡ place_of old q
    places old new q same = rw same refl

one_of_two : (x y q : ℕ) → Contains (x ∷ y ∷ []) q → (q ≢ x) → (q ≢ y) → ⊥
one_of_two x y q found not_x not_y = elim (cases_eq found.0 0) [
  | inl first ↦ not_x (sym (ap (λ i. get_or (x ∷ y ∷ []) i q) (sym first) ∙ found.2))
  | inr other ↦ not_y (sym (ap (λ i. get_or (x ∷ y ∷ []) i q) (let is : 1 ≡ found.0 = omega (arith, found.1, other) in is) ∙ found.2))
]

-- the first b lost columns are written, and what is not lost is as at the start
pub record AreWritten (m n : ℕ) (lost : List ℕ) (rows known start : List Piece) (inverse : Grid) (b : ℕ) (now : List Piece) : Type 0 where
  pub within : b ≤ length lost
  pub numbers : numbers_of now ≡ numbers_of start
  pub long : (i : ℕ) → i < length lost → length (bytes_of now (get_or lost i 0)) ≡ n
  pub columns : (i at : ℕ) → i < b → get_or (bytes_of now (get_or lost i 0)) at 0 ≡ lost_byte m (inverse i) rows known at
  pub kept : KeepsOthers lost start now

module _ (m n : ℕ) (lost : List ℕ) (rows known start : List Piece) (inverse : Grid) (differ : AreDifferent lost)
    (found : All (λ d. Contains (numbers_of start) d) lost)
    (rows_long : All (λ p. length p.bytes ≡ n) rows) (known_long : All (λ p. length p.bytes ≡ n) known) (b : ℕ)
    (now : List Piece) (written : AreWritten m n lost rows known start inverse b now) where
  pub is_there : (i : ℕ) → i < length lost → Contains (numbers_of now) (get_or lost i 0)
  is_there i below = rw written.numbers (All-get_or (λ d. Contains (numbers_of start) d) lost i 0 below found)

  apart : (i j : ℕ) → i < length lost → j < length lost → i ≢ j → get_or lost i 0 ≢ get_or lost j 0
  apart i j i_below j_below other same = other (same_place lost differ i j i_below j_below same)

  pub two_written : (next : List Piece) (u v : Weights) → b + 1 < length lost → AreWeights m (inverse b) rows known u
      → AreWeights m (inverse (b + 1)) rows known v → numbers_of next ≡ numbers_of now
      → IsSum n u rows known (bytes_of next (get_or lost b 0))
      → IsSum n v rows known (bytes_of next (get_or lost (b + 1) 0))
      → KeepsOthers (get_or lost b 0 ∷ get_or lost (b + 1) 0 ∷ []) now next
      → AreWritten m n lost rows known start inverse (b + 2) next
  two_written next u v room u_are v_are numbers u_sum v_sum kept =
      let x = get_or lost b 0 in
      let y = get_or lost (b + 1) 0 in
      let here : b < length lost = omega (arith, room) in
      let stays : (i : ℕ) → i < length lost → i ≢ b → i ≢ b + 1 → bytes_of next (get_or lost i 0) ≡ bytes_of now (get_or lost i 0) = λ i below not_b not_next.
      bytes_stay (x ∷ y ∷ []) now next (get_or lost i 0) numbers kept (is_there i below)
      (λ among. one_of_two x y (get_or lost i 0) among (apart i b below here not_b) (apart i (b + 1) below room not_next)) in
      record {
        within = omega (arith, room);
        numbers = numbers ∙ written.numbers;
        long = λ i below. elim (cases_eq i b) [
          | inl is ↦ ap (λ k. length (bytes_of next (get_or lost k 0))) is ∙ u_sum.long
          | inr not_b ↦ elim (cases_eq i (b + 1)) [
            | inl is ↦ ap (λ k. length (bytes_of next (get_or lost k 0))) is ∙ v_sum.long
            | inr not_next ↦ ap length (stays i below not_b not_next) ∙ written.long i below
          ]
        ];
        columns = λ i at below. elim (cases_eq i b) [
          | inl is ↦
              ap (λ k. get_or (bytes_of next (get_or lost k 0)) at 0) is
              ∙ (each_place n rows known u (bytes_of next x) rows_long known_long u_sum at
              ∙ (sum_is m (inverse b) rows known u u_are at ∙ ap (λ k. lost_byte m (inverse k) rows known at)
              (sym is)))
          | inr not_b ↦ elim (cases_eq i (b + 1)) [
            | inl is ↦
                ap (λ k. get_or (bytes_of next (get_or lost k 0)) at 0) is
                ∙ (each_place n rows known v (bytes_of next y) rows_long known_long v_sum at
                ∙ (sum_is m (inverse (b + 1)) rows known v v_are at ∙ ap (λ k. lost_byte m (inverse k) rows known at)
                (sym is)))
            | inr not_next ↦
                let before : i < b = omega (arith, below, not_b, not_next) in
                ap (λ (bytes : List ℕ). get_or bytes at 0) (stays i (omega (arith, before, here)) not_b not_next) ∙ written.columns i at before
          ]
        ];
        kept = keeps_both lost start now next written.kept (λ i p not_lost. kept i p (λ among. one_of_two x y (get_or now i p).number among
            (λ is. not_lost (subst (λ q. Contains lost q) (sym is) (Contains-get_or lost b 0 here)))
            (λ is. not_lost (subst (λ q. Contains lost q) (sym is) (Contains-get_or lost (b + 1) 0 room)))));
      }

  pub one_written : (bytes : List ℕ) → b < length lost → length bytes ≡ n
      → ((at : ℕ) → get_or bytes at 0 ≡ lost_byte m (inverse b) rows known at)
      → AreWritten m n lost rows known start inverse (b + 1) (with_bytes now (get_or lost b 0) bytes)
  one_written bytes room long values =
      let d = get_or lost b 0 in
      let there = is_there b room in
      let same : length bytes ≡ length (bytes_of now d) = long ∙ sym (written.long b room) in
      let last = bytes_written now d bytes there same in
      let stays : (i : ℕ) → i < length lost → i ≢ b → bytes_of (with_bytes now d bytes) (get_or lost i 0) ≡ bytes_of now (get_or lost i 0) = λ i below other.
      bytes_kept now d bytes (get_or lost i 0) there (apart i b below room other) in
      record {
        within = omega (arith, room);
        numbers = numbers_kept now d bytes there ∙ written.numbers;
        long = λ i below. elim (cases_eq i b) [
          | inl is ↦ ap (λ k. length (bytes_of (with_bytes now d bytes) (get_or lost k 0))) is ∙ (ap length last ∙ long)
          | inr other ↦ ap length (stays i below other) ∙ written.long i below
        ];
        columns = λ i at below. elim (cases_eq i b) [
          | inl is ↦ ap (λ k. get_or (bytes_of (with_bytes now d bytes) (get_or lost k 0)) at 0) is
              ∙ (ap (λ (l : List ℕ). get_or l at 0) last
              ∙ (values at ∙ ap (λ k. lost_byte m (inverse k) rows known at) (sym is)))
          | inr other ↦
              let before : i < b = omega (arith, below, other) in
              ap (λ (l : List ℕ). get_or l at 0) (stays i (omega (arith, before, room)) other) ∙ written.columns i at before
        ];
        kept = keeps_both lost start now _ written.kept (keeps_written lost now d bytes (Contains-get_or lost b 0 room) there);
      }
