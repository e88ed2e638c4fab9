-- The sum over all partitions as a sum over lost and known ones, and the code as such a sum.
use Rattle.std.proofs.Common.{◌≡◌, ℕ, zero, suc, ◌+◌, ◌<◌, ◌==◌, true, false, if◌then◌else◌, List, [], ◌∷◌, ◌++◌}
use Rattle.std.proofs.Common.{length, get_or, replicate, All, bit_xor, inl, inr, sym, ap, ap₂, ◌∙◌, refl, arith}
use Rattle.std.specs.List.{AllByRecursion, IsDistinct, list_any}
use Rattle.std.specs.Int.Bits.{xor_assoc, xor_zero_l, xor_zero_r}
use Rattle.std.proofs.lemmas.Bool.{cases_eq, eq-eqb, ne_eqb}
use Rattle.std.proofs.lemmas.Bool.Decides.{Decides-eqb}
use Rattle.std.proofs.lemmas.List.{length-replicate}
use Rattle.std.proofs.lemmas.List.Elements.{All-head, All-tail}
use Rattle.std.proofs.lemmas.Map.Keys.{IsDistinct-head, IsDistinct-tail}
use Rattle.std.proofs.lemmas.Map.Made.{IsDistinct-from_AllPairs}
use Rattle.field_byte.specs.Field.{product}
use Rattle.field_byte.specs.Vectors.{add_bytes, scale, field_sum}
use Rattle.field_byte.proofs.FieldSums.{sum_same, sum_of_zeros, sum_of_one, sum_of_sums}
use Rattle.field_byte.proofs.Vectors.{get_or-add_scaled, length-add_scaled}
use Rattle.erasure_code.specs.Code.{coded, coded_from, coefficient}
use Rattle.erasure_code.specs.Columns.{IsEachBelow}
use Rattle.erasure_code.proofs.Lists.{get_or-zeros}

-- the byte of a column at a place, and 0 outside of them
abbrev pub entry : List (List ℕ) → ℕ → ℕ → ℕ
entry columns d at = get_or (get_or columns d []) at 0

-- the first term of a sum
pub sum_front : (n : ℕ) (f : ℕ → ℕ) → field_sum (suc n) f ≡ bit_xor (f 0) (field_sum n (λ j. f (suc j)))
unfolding field_sum
sum_front zero f = xor_zero_l (f 0) ∙ sym (xor_zero_r (f 0))
sum_front (suc n) f = ap (λ x. bit_xor x (f (suc n))) (sum_front n f) ∙ xor_assoc (f 0) (field_sum n (λ j. f (suc j))) (f (suc n))

-- the sum of f over a list
unfoldable pub sum_over : List ℕ → (ℕ → ℕ) → ℕ
sum_over [] f = 0
sum_over (x ∷ xs) f = bit_xor (f x) (sum_over xs f)

pub sum_over_places : (xs : List ℕ) (f : ℕ → ℕ) → sum_over xs f ≡ field_sum (length xs) (λ j. f (get_or xs j 0))
unfolding sum_over field_sum
sum_over_places [] f = refl
sum_over_places (x ∷ xs) f = ap (bit_xor (f x)) (sum_over_places xs f) ∙ sym (sum_front (length xs) (λ j. f (get_or (x ∷ xs) j 0)))

pub sum_over_append : (xs ys : List ℕ) (f : ℕ → ℕ) → sum_over (xs ++ ys) f ≡ bit_xor (sum_over xs f) (sum_over ys f)
unfolding sum_over
sum_over_append [] ys f = sym (xor_zero_l (sum_over ys f))
sum_over_append (x ∷ xs) ys f = ap (bit_xor (f x)) (sum_over_append xs ys f) ∙ sym (xor_assoc (f x) (sum_over xs f) (sum_over ys f))

-- f at the numbers of a list, and 0 at all others
at_those : List ℕ → (ℕ → ℕ) → ℕ → ℕ
at_those xs f d = if list_any (λ x. d == x) xs then f d else 0

not_among : (x : ℕ) (xs : List ℕ) → AllByRecursion (λ y. x == y ≡ false) xs → list_any (λ y. x == y) xs ≡ false
not_among x [] apart = refl
not_among x (y ∷ ys) apart = rw apart.0 (not_among x ys apart.1)

among : (xs : List ℕ) (i d : ℕ) → i < length xs → get_or xs i d ≡ d → list_any (λ x. d == x) xs ≡ true
among [] i d within is = absurd (omega (arith, within))
among (x ∷ xs) zero d within is = rw (eq-eqb d x (sym is))
among (x ∷ xs) (suc i) d within is = elim (cases_eq d x) [
  | inl here ↦ rw (eq-eqb d x here)
  | inr other ↦ rw (ne_eqb d x other) (among xs i d (omega (arith, within)) is)
]

-- the term of the first number, and those of the rest
those_split : (x : ℕ) (xs : List ℕ) (f : ℕ → ℕ) (d : ℕ) → list_any (λ y. x == y) xs ≡ false
    → at_those (x ∷ xs) f d ≡ bit_xor (if d == x then f d else 0) (at_those xs f d)
unfolding at_those
those_split x xs f d apart = elim (cases_eq d x) [
  | inl here ↦
      let gone : list_any (λ y. d == y) xs ≡ false = ap (λ z. list_any (λ y. z == y) xs) here ∙ apart in
      rw (eq-eqb d x here, gone) (sym (xor_zero_r (f d)))
  | inr other ↦ rw (ne_eqb d x other) (sym (xor_zero_l (at_those xs f d)))
]

sum_of_those : (n : ℕ) (xs : List ℕ) (f : ℕ → ℕ) → IsDistinct (λ x y. x == y) xs → All (λ x. x < n) xs → field_sum n (at_those xs f) ≡ sum_over xs f
unfolding sum_over at_those
sum_of_those n [] f distinct below = sum_of_zeros n (at_those [] f) (λ k within. refl)
sum_of_those n (x ∷ xs) f distinct below =
    let apart = not_among x xs (IsDistinct-head _ x xs distinct) in
    let one : ℕ → ℕ = λ d. if d == x then f d else 0 in
    sum_same n (at_those (x ∷ xs) f) (λ d. bit_xor (one d) (at_those xs f d)) (λ d within. those_split x xs f d apart)
    ∙ (sum_of_sums n one (at_those xs f)
    ∙ ap₂ bit_xor (sum_of_one n x one (All-head (λ y. y < n) x xs below) (λ d within other. rw (ne_eqb d x other)) ∙ rw (eq-eqb x x refl))
    (sum_of_those n xs f (IsDistinct-tail _ x xs distinct) (All-tail (λ y. y < n) x xs below)))

-- over the numbers below n in any order
pub sum_of_each : (n : ℕ) (xs : List ℕ) (f : ℕ → ℕ) → IsEachBelow n xs → field_sum n f ≡ sum_over xs f
unfolding at_those
sum_of_each n xs f each =
    sum_same n f (at_those xs f) (λ d within. let found = each.all d within in rw (among xs found.0 d found.1 found.2))
    ∙ sum_of_those n xs f (IsDistinct-from_AllPairs Decides-eqb xs each.different) each.below

pub partition_sum : (n : ℕ) (lost known : List ℕ) (f : ℕ → ℕ) → IsEachBelow n (lost ++ known)
    → field_sum n f ≡ bit_xor (field_sum (length lost) (λ b. f (get_or lost b 0))) (field_sum (length known) (λ j. f (get_or known j 0)))
partition_sum n lost known f each =
    sum_of_each n (lost ++ known) f each ∙ (sum_over_append lost known f ∙ ap₂ bit_xor (sum_over_places lost f) (sum_over_places known f))

-- the code at a place
coded_from_at : (m i d n at : ℕ) (sum : List ℕ) (columns : List (List ℕ)) → length sum ≡ n → All (λ column. length column ≡ n) columns
    → get_or (coded_from m i d sum columns) at 0 ≡ bit_xor (get_or sum at 0)
    (field_sum (length columns) (λ j. product (coefficient m i (d + j)) (entry columns j at)))
unfolding field_sum
coded_from_at m i d n at sum [] long longs = sym (xor_zero_r (get_or sum at 0))
coded_from_at m i d n at sum (column ∷ columns) long longs =
    let same : length column ≡ length sum = All-head (λ (bytes : List ℕ). length bytes ≡ n) column columns longs ∙ sym long in
    let next : List ℕ = add_bytes sum (scale (coefficient m i d) column) in
    let f : ℕ → ℕ = λ j. product (coefficient m i (d + j)) (entry (column ∷ columns) j at) in
    coded_from_at m i (d + 1) n at next columns (length-add_scaled (coefficient m i d) column sum same ∙ long)
    (All-tail (λ (bytes : List ℕ). length bytes ≡ n) column columns longs)
    ∙ (ap₂ bit_xor (get_or-add_scaled (coefficient m i d) column sum at same)
    (sum_same (length columns) _ (λ j. f (suc j)) (λ j within. ap (λ e. product (coefficient m i e) (entry columns j at)) (omega arith)))
    ∙ (xor_assoc (get_or sum at 0) (product (coefficient m i d) (get_or column at 0)) (field_sum (length columns) (λ j. f (suc j)))
    ∙ ap (bit_xor (get_or sum at 0))
    (ap (λ e. bit_xor (product (coefficient m i e) (get_or column at 0))
    (field_sum (length columns) (λ j. f (suc j)))) (omega arith)
    ∙ sym (sum_front (length columns) f))))

coded_from_long : (m i d n : ℕ) (sum : List ℕ) (columns : List (List ℕ)) → length sum ≡ n
    → All (λ column. length column ≡ n) columns → length (coded_from m i d sum columns) ≡ n
coded_from_long m i d n sum [] long longs = long
coded_from_long m i d n sum (column ∷ columns) long longs =
    let same : length column ≡ length sum = All-head (λ (bytes : List ℕ). length bytes ≡ n) column columns longs ∙ sym long in
    coded_from_long m i (d + 1) n _ columns (length-add_scaled (coefficient m i d) column sum same ∙ long)
    (All-tail (λ (bytes : List ℕ). length bytes ≡ n) column columns longs)

pub coded_long : (m i n : ℕ) (columns : List (List ℕ)) → All (λ column. length column ≡ n) columns → length (coded m i n columns) ≡ n
coded_long m i n columns longs = coded_from_long m i 0 n (replicate n 0) columns (length-replicate n 0) longs

pub coded_at : (m i n at : ℕ) (columns : List (List ℕ)) → All (λ column. length column ≡ n) columns
    → get_or (coded m i n columns) at 0 ≡ field_sum (length columns) (λ d. product (coefficient m i d) (entry columns d at))
coded_at m i n at columns longs =
    coded_from_at m i 0 n at (replicate n 0) columns (length-replicate n 0) longs
    ∙ (ap (λ x. bit_xor x (field_sum (length columns) (λ d. product (coefficient m i (0 + d)) (entry columns d at)))) (get_or-zeros n at) ∙ (xor_zero_l _
    ∙ sum_same (length columns) _ _ (λ d below. ap (λ e. product (coefficient m i e) (entry columns d at)) (omega arith))))

-- the same over lost and known columns
pub coded_split : (k m i n at : ℕ) (lost known : List ℕ) (columns : List (List ℕ)) → IsEachBelow k (lost ++ known)
    → length columns ≡ k → All (λ column. length column ≡ n) columns
    → get_or (coded m i n columns) at 0
    ≡ bit_xor (field_sum (length lost) (λ b. product (coefficient m i (get_or lost b 0)) (entry columns (get_or lost b 0) at)))
    (field_sum (length known) (λ j. product (coefficient m i (get_or known j 0)) (entry columns (get_or known j 0) at)))
coded_split k m i n at lost known columns each many longs =
    coded_at m i n at columns longs ∙ (ap (λ k. field_sum k (λ d. product (coefficient m i d) (entry columns d at))) many
    ∙ partition_sum k lost known (λ d. product (coefficient m i d) (entry columns d at)) each)
