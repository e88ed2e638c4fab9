-- The lost columns of those that agree with rows and known columns are what these decode to.
use Rattle.std.proofs.Common.{◌≡◌, ◌≢◌, ℕ, zero, suc, ◌+◌, ◌<◌, List, [], ◌∷◌, length, get_or, replicate, All, bit_xor}
use Rattle.std.proofs.Common.{inl, inr, sym, ap, ap₂, ◌∙◌, refl, arith}
use Rattle.std.specs.Int.Bits.{xor_assoc, xor_self, xor_zero_l, xor_zero_r}
use Rattle.std.proofs.lemmas.Bool.{cases_lt}
use Rattle.std.proofs.lemmas.Grind.{same_number_lists}
use Rattle.std.proofs.lemmas.List.{ext_get_or, get_or_default, get_or-map, get_or_past, length-map, length-replicate}
use Rattle.std.proofs.lemmas.List.Elements.{All-get_or, All-head, All-tail}
use Rattle.field_byte.specs.Field.{product}
use Rattle.field_byte.specs.Vectors.{add_bytes, scale, field_sum}
use Rattle.field_byte.proofs.FieldSums.{sum_same}
use Rattle.field_byte.proofs.Products.{product_lt, product_assoc, product_one_l, product_sum_l, product_zero_l, inverse_lt}
use Rattle.field_byte.proofs.Vectors.{get_or-add_scaled, length-add_scaled}
use Rattle.erasure_code.specs.Code.{Column, coded, coefficient, decoded, others_than, weight, weighted, with_columns}
use Rattle.erasure_code.specs.Columns.{Agree, AreDifferent, AreOfBytes, column_numbers}
use Rattle.erasure_code.specs.Laws.{CanDecode, LostAreDecoded, OnlyOneAgrees}
use Rattle.erasure_code.proofs.Lists.{All-left, All-right, differ_left, either, get_or-zeros}
use Rattle.erasure_code.proofs.Nodes.{Among, Apart, AreNodes, GivesBytes, among_others, over_byte, over_same, over_sums, over_times, sum_out}
use Rattle.erasure_code.proofs.Partitions.{coded_long, coded_split, entry, sum_front, sum_over, sum_over_places}
use Rattle.erasure_code.proofs.Weights.{at_itself, at_other, weight_byte}

pub among_at : (x : ℕ) (xs : List ℕ) → Among x xs → (i : ℕ) × (i < length xs) × (get_or xs i 0 ≡ x)
among_at x [] there = absurd there
among_at x (y ∷ ys) (inl same) = (0, omega arith, sym same)
among_at x (y ∷ ys) (inr there) = let deeper = among_at x ys there in (suc deeper.0, omega (arith, deeper.1), deeper.2)

pub at_among : (xs : List ℕ) (i : ℕ) → i < length xs → Among (get_or xs i 0) xs
at_among [] i below = absurd (omega (arith, below))
at_among (x ∷ xs) zero below = inl refl
at_among (x ∷ xs) (suc i) below = inr (at_among xs i (omega (arith, below)))

pub apart_from : (xs : List ℕ) → AreDifferent xs → Apart xs
apart_from [] differ = tt
apart_from (x ∷ xs) differ = (
  (λ there. let found = among_at x xs there in differ 0 (suc found.0) 0 (omega arith) (omega (arith, found.1)) (sym found.2)),
  apart_from xs (λ i j d before below. differ (suc i) (suc j) d (omega (arith, before)) (omega (arith, below))),
)

pub twice : (a b : ℕ) → bit_xor (bit_xor a b) b ≡ a
twice a b = xor_assoc a b b ∙ (ap (bit_xor a) (xor_self b) ∙ xor_zero_r a)

pub number_at : (columns : List Column) (j : ℕ) (d : Column) → j < length columns → get_or (column_numbers columns) j 0 ≡ (get_or columns j d).number
number_at columns j d below = get_or-map (λ column. column.number) columns j d 0 below

abbrev pub no_column : Column
no_column = record { number = 0; bytes = [] }

-- what known columns have in the row of parity process i
abbrev pub part : ℕ → ℕ → List Column → ℕ → ℕ
part m i known at = field_sum (length known) (λ j. product (coefficient m i (get_or (column_numbers known) j 0)) (get_or (get_or known j no_column).bytes at 0))

pub with_columns_at : (m i n : ℕ) (known : List Column) (bytes : List ℕ) (at : ℕ) → length bytes ≡ n → All (λ p. length p.bytes ≡ n) known
    → get_or (with_columns m i known bytes) at 0 ≡ bit_xor (get_or bytes at 0) (part m i known at)
unfolding field_sum
with_columns_at m i n [] bytes at long longs = sym (xor_zero_r (get_or bytes at 0))
with_columns_at m i n (p ∷ ps) bytes at long longs =
    let same : length p.bytes ≡ length bytes = All-head (λ (p : Column). length p.bytes ≡ n) p ps longs ∙ sym long in
    let c = coefficient m i p.number in
    with_columns_at m i n ps (add_bytes bytes (scale c p.bytes)) at (length-add_scaled c p.bytes bytes same ∙ long)
    (All-tail (λ (p : Column). length p.bytes ≡ n) p ps longs)
    ∙ (ap (λ x. bit_xor x (part m i ps at)) (get_or-add_scaled c p.bytes bytes at same)
    ∙ (xor_assoc (get_or bytes at 0) (product c (get_or p.bytes at 0)) (part m i ps at)
    ∙ ap (bit_xor (get_or bytes at 0))
    (sym (sum_front (length ps) (λ j. product (coefficient m i (get_or (column_numbers (p ∷ ps)) j 0))
    (get_or (get_or (p ∷ ps) j no_column).bytes at 0))))))

pub with_columns_long : (m i n : ℕ) (known : List Column) (bytes : List ℕ) → length bytes ≡ n
    → All (λ p. length p.bytes ≡ n) known → length (with_columns m i known bytes) ≡ n
with_columns_long m i n [] bytes long longs = long
with_columns_long m i n (p ∷ ps) bytes long longs =
    let same : length p.bytes ≡ length bytes = All-head (λ (p : Column). length p.bytes ≡ n) p ps longs ∙ sym long in
    with_columns_long m i n ps _ (length-add_scaled (coefficient m i p.number) p.bytes bytes same ∙ long)
    (All-tail (λ (p : Column). length p.bytes ≡ n) p ps longs)

weighted_long : (m n : ℕ) (xs lost : List ℕ) (l : ℕ) (known rows : List Column) (sum : List ℕ) → length sum ≡ n
    → All (λ p. length p.bytes ≡ n) known → All (λ p. length p.bytes ≡ n) rows
    → length (weighted m xs lost l known rows sum) ≡ n
weighted_long m n xs lost l known [] sum long known_long rows_long = long
weighted_long m n xs lost l known (p ∷ ps) sum long known_long rows_long =
    let row = with_columns m p.number known p.bytes in
    let same : length row ≡ length sum = with_columns_long m p.number n known p.bytes
    (All-head (λ (p : Column). length p.bytes ≡ n) p ps rows_long) known_long ∙ sym long in
    weighted_long m n xs lost l known ps _ (length-add_scaled (weight m xs lost l p.number) row sum same ∙ long)
    known_long (All-tail (λ (p : Column). length p.bytes ≡ n) p ps rows_long)

weighted_at : (m n : ℕ) (xs lost : List ℕ) (l : ℕ) (known rows : List Column) (sum : List ℕ) (at : ℕ) (v : ℕ → ℕ)
    → length sum ≡ n → All (λ p. length p.bytes ≡ n) known → All (λ p. length p.bytes ≡ n) rows
    → All (λ p. get_or (with_columns m p.number known p.bytes) at 0 ≡ v p.number) rows
    → get_or (weighted m xs lost l known rows sum) at 0 ≡ bit_xor (get_or sum at 0) (sum_over (column_numbers rows) (λ i. product (weight m xs lost l i) (v i)))
unfolding sum_over
weighted_at m n xs lost l known [] sum at v long known_long rows_long values = sym (xor_zero_r (get_or sum at 0))
weighted_at m n xs lost l known (p ∷ ps) sum at v long known_long rows_long values =
    let row = with_columns m p.number known p.bytes in
    let w = weight m xs lost l p.number in
    let rest = sum_over (column_numbers ps) (λ i. product (weight m xs lost l i) (v i)) in
    let same : length row ≡ length sum = with_columns_long m p.number n known p.bytes
    (All-head (λ (p : Column). length p.bytes ≡ n) p ps rows_long) known_long ∙ sym long in
    weighted_at m n xs lost l known ps _ at v (length-add_scaled w row sum same ∙ long) known_long
    (All-tail (λ (p : Column). length p.bytes ≡ n) p ps rows_long)
    (All-tail (λ (p : Column). get_or (with_columns m p.number known p.bytes) at 0 ≡ v p.number) p ps values)
    ∙ (ap (λ x. bit_xor x rest) (get_or-add_scaled w row sum at same
    ∙ ap (λ x. bit_xor (get_or sum at 0) (product w x))
    (All-head (λ (p : Column). get_or (with_columns m p.number known p.bytes) at 0 ≡ v p.number) p ps values))
    ∙ xor_assoc (get_or sum at 0) (product w (v p.number)) rest)

-- ---- sums of sums
over_zeros : (xs : List ℕ) (f : ℕ → ℕ) → ((x : ℕ) → Among x xs → f x ≡ 0) → sum_over xs f ≡ 0
unfolding sum_over
over_zeros [] f zeros = refl
over_zeros (x ∷ xs) f zeros = ap₂ bit_xor (zeros x (inl refl)) (over_zeros xs f (λ y there. zeros y (inr there)))

over_rows : (xs ys : List ℕ) (g : ℕ → ℕ → ℕ) → sum_over xs (λ i. sum_over ys (g i)) ≡ sum_over ys (λ c. sum_over xs (λ i. g i c))
unfolding sum_over
over_rows [] ys g = sym (over_zeros ys (λ c. 0) (λ c there. refl))
over_rows (x ∷ xs) ys g = ap (bit_xor (sum_over ys (g x))) (over_rows xs ys g) ∙ sym (over_sums ys (g x) (λ c. sum_over xs (λ i. g i c)))

over_times_r : (xs : List ℕ) (c : ℕ) (f : ℕ → ℕ) → GivesBytes xs f → sum_over xs (λ x. product (f x) c) ≡ product (sum_over xs f) c
unfolding sum_over
over_times_r [] c f bytes = sym (product_zero_l c)
over_times_r (x ∷ xs) c f bytes =
    let rest = λ (y : ℕ) (there : Among y xs). bytes y (inr there) in
    ap (bit_xor (product (f x) c)) (over_times_r xs c f rest) ∙ sym (product_sum_l (f x) (sum_over xs f) c (bytes x (inl refl)) (over_byte xs f rest))

module _ (m n : ℕ) (lost : List ℕ) (rows known : List Column) (l : ℕ) (nodes : AreNodes (column_numbers rows))
    (lost_apart : Apart lost) (lost_bytes : (c : ℕ) → Among c lost → m + c < 256)
    (separate : (i c : ℕ) → Among i (column_numbers rows) → Among c lost → i ≢ m + c) (as_many : length (column_numbers rows) ≡ length lost)
    (l_lost : Among l lost)
    (rows_long : All (λ p. length p.bytes ≡ n) rows) (known_long : All (λ p. length p.bytes ≡ n) known) where
  -- the weighted sum of what the lost columns have in the rows
  combined : (v : ℕ → ℕ) → ((c : ℕ) → Among c lost → v c < 256)
      → sum_over (column_numbers rows) (λ i. product (weight m (column_numbers rows) lost l i) (sum_over lost (λ c. product (coefficient m i c) (v c)))) ≡ v l
  combined v v_bytes =
      let xs = column_numbers rows in
      let w : ℕ → ℕ = weight m xs lost l in
      let w_byte = weight_byte m xs lost l nodes lost_apart lost_bytes separate as_many l_lost in
      over_same xs _ (λ i. sum_over lost (λ c. product (product (w i) (coefficient m i c)) (v c))) (λ i there.
      sym (over_times lost (w i) (λ c. product (coefficient m i c) (v c)) (w_byte i there) (λ c c_there. product_lt _ _ (inverse_lt _)))
      ∙ over_same lost _ _ (λ c c_there. sym (product_assoc (w i) (coefficient m i c) (v c) (w_byte i there) (inverse_lt _) (v_bytes c c_there))))
      ∙ (over_rows xs lost (λ i c. product (product (w i) (coefficient m i c)) (v c))
      ∙ (sum_out l lost _ lost_apart l_lost
      ∙ (ap₂ bit_xor
      (over_times_r xs (v l) (λ i. product (w i) (coefficient m i l)) (λ i there. product_lt _ _ (w_byte i there))
      ∙ (ap (λ x. product x (v l)) (at_itself m xs lost l nodes lost_apart lost_bytes separate as_many l_lost) ∙ product_one_l (v l) (v_bytes l l_lost)))
      (over_zeros (others_than l lost) _ (λ c among.
      let was = among_others l c lost among in
      over_times_r xs (v c) (λ i. product (w i) (coefficient m i c)) (λ i there. product_lt _ _ (w_byte i there))
      ∙ (ap (λ x. product x (v c)) (at_other m xs lost l nodes lost_apart lost_bytes separate as_many l_lost c was.0 was.1) ∙ product_zero_l (v c))))
      ∙ xor_zero_r (v l))))

  pub decoded_is : (column : List ℕ) (v : ℕ → ℕ → ℕ) → length column ≡ n → ((at : ℕ) → get_or column at 0 ≡ v at l) → ((at c : ℕ) → Among c lost → v at c < 256)
      → ((at : ℕ) → All (λ p. get_or (with_columns m p.number known p.bytes) at 0 ≡ sum_over lost (λ c. product (coefficient m p.number c) (v at c))) rows)
      → column ≡ decoded m n lost rows known l
  decoded_is column v long is v_bytes values =
      let xs = column_numbers rows in
      let zeros : List ℕ = replicate n 0 in
      let none = length-replicate n 0 in
      same_number_lists _ _ (long ∙ sym (weighted_long m n xs lost l known rows zeros none known_long rows_long)) (λ at at_below.
      is at ∙ sym (weighted_at m n xs lost l known rows zeros at
      (λ i. sum_over lost (λ c. product (coefficient m i c) (v at c))) none known_long rows_long (values at)
      ∙ (ap₂ bit_xor (get_or-zeros n at) (combined (v at) (v_bytes at)) ∙ xor_zero_l (v at l))))

module _ (k m n : ℕ) (lost : List ℕ) (rows known : List Column) (can : CanDecode k m lost rows known) where
  row_number : (i : ℕ) → Among i (column_numbers rows) → i < m
  row_number i there =
      let at = among_at i (column_numbers rows) there in
      let less = All-get_or (λ i. i < m) (column_numbers rows) at.0 0 at.1 can.below in
      omega (arith, less, at.2)

  lost_below : (b : ℕ) → b < length lost → get_or lost b 0 < k
  lost_below b below = All-get_or (λ x. x < k) lost b 0 below (All-left (λ x. x < k) lost (column_numbers known) can.partitions.below)

  known_below : (j : ℕ) → j < length known → get_or (column_numbers known) j 0 < k
  known_below j below = All-get_or (λ x. x < k) (column_numbers known) j 0
      (omega (arith, length-map known (λ column. column.number), below))
      (All-right (λ x. x < k) lost (column_numbers known) can.partitions.below)

  lost_number : (c : ℕ) → Among c lost → c < k
  lost_number c there =
      let at = among_at c lost there in
      let less = lost_below at.0 at.1 in
      omega (arith, less, at.2)

  nodes : AreNodes (column_numbers rows)
  nodes = (apart_from (column_numbers rows) can.different, λ z there. let less = row_number z there in omega (arith, less, can.processes))

  -- columns that agree
  module _ (columns : List (List ℕ)) (agree : Agree k m n rows known columns) where
    known_at : (j : ℕ) (d : Column) → j < length known → get_or columns (get_or (column_numbers known) j 0) [] ≡ (get_or known j d).bytes
    known_at j d below = ap (λ number. get_or columns number []) (number_at known j d below) ∙ agree.holds j d below

    byte : AreOfBytes columns → (d at : ℕ) → d < k → entry columns d at < 256
    byte of_bytes d at below = elim (cases_lt at (length (get_or columns d []))) [
      | inl within ↦ of_bytes d [] (omega (arith, agree.many, below)) at 0 within
      | inr past ↦ rw (get_or_past (get_or columns d []) at 0 past) (omega arith)
    ]

    known_long : All (λ p. length p.bytes ≡ n) known
    known_long j d below = ap length (sym (known_at j d below)) ∙ agree.long _ [] (omega (arith, agree.many, known_below j below))

    rows_long : All (λ p. length p.bytes ≡ n) rows
    rows_long a d below = ap length (agree.codes a d below) ∙ coded_long m _ n columns agree.long

    -- a row without the known columns is the sum of what the lost ones have in it
    lost_in_row : (at : ℕ)
        → All (λ p. get_or (with_columns m p.number known p.bytes) at 0
        ≡ sum_over lost (λ c. product (coefficient m p.number c) (entry columns c at))) rows
    lost_in_row at a d below =
        let number = (get_or rows a d).number in
        let lost_sum = field_sum (length lost) (λ b. product (coefficient m number (get_or lost b 0)) (entry columns (get_or lost b 0) at)) in
        let split : get_or (coded m number n columns) at 0 ≡ bit_xor lost_sum (part m number known at) =
        coded_split k m number n at lost (column_numbers known) columns can.partitions agree.many agree.long
        ∙ ap (bit_xor lost_sum)
        (ap (λ k. field_sum k (λ j. product (coefficient m number (get_or (column_numbers known) j 0))
        (entry columns (get_or (column_numbers known) j 0) at))) (length-map known (λ column. column.number))
        ∙ sum_same (length known) _ _
        (λ j j_below. ap (λ (bytes : List ℕ). product (coefficient m number (get_or (column_numbers known) j 0))
        (get_or bytes at 0)) (known_at j no_column j_below))) in
        with_columns_at m number n known (get_or rows a d).bytes at (rows_long a d below) known_long
        ∙ (ap (λ x. bit_xor x (part m number known at)) (ap (λ (bytes : List ℕ). get_or bytes at 0) (agree.codes a d below) ∙ split)
        ∙ (twice lost_sum (part m number known at) ∙ sym (sum_over_places lost (λ c. product (coefficient m number c) (entry columns c at)))))

    pub lost_is : AreOfBytes columns → (b : ℕ) → b < length lost → get_or columns (get_or lost b 0) [] ≡ decoded m n lost rows known (get_or lost b 0)
    lost_is of_bytes b below =
        decoded_is m n lost rows known (get_or lost b 0) nodes (apart_from lost (differ_left lost (column_numbers known) can.partitions.different))
        (λ c there. let less = lost_number c there in omega (arith, less, can.processes))
        (λ i c i_there c_there same. let less = row_number i i_there in omega (arith, less, same))
        (length-map rows (λ row. row.number) ∙ can.as_many) (at_among lost b below) rows_long known_long
        (get_or columns (get_or lost b 0) []) (λ at c. entry columns c at)
        (agree.long _ [] (omega (arith, agree.many, lost_below b below))) (λ at. refl)
        (λ at c there. byte of_bytes c at (lost_number c there)) lost_in_row

  -- two families of columns that agree are one, where those that have something lost consist of bytes
  pub same_columns : (columns others : List (List ℕ)) → (0 < length lost → AreOfBytes columns)
      → (0 < length lost → AreOfBytes others) → Agree k m n rows known columns → Agree k m n rows known others
      → others ≡ columns
  same_columns columns others of_bytes others_of_bytes agree others_agree =
      ext_get_or [] others columns (others_agree.many ∙ sym agree.many) (λ d below.
      either k lost (column_numbers known) (λ d. get_or others d [] ≡ get_or columns d []) can.partitions
      (λ b b_below. let some : 0 < length lost = omega (arith, b_below) in
      lost_is others others_agree (others_of_bytes some) b b_below
      ∙ sym (lost_is columns agree (of_bytes some) b b_below))
      (λ j j_below. let within : j < length known = omega (arith, length-map known (λ column. column.number), j_below)
      in known_at others others_agree j no_column within ∙ sym (known_at columns agree j no_column within))
      d (omega (arith, others_agree.many, below)))

pub lost_are_decoded : LostAreDecoded
lost_are_decoded k m n lost rows known columns can of_bytes agree b d below =
    rw (get_or_default lost b d 0 below) (lost_is k m n lost rows known can columns agree of_bytes b below)

pub only_one_agrees : OnlyOneAgrees
only_one_agrees k m n lost rows known columns others can of_bytes others_of_bytes =
    same_columns k m n lost rows known can columns others (λ some. of_bytes) (λ some. others_of_bytes)
