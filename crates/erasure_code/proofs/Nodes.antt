-- Sums and products over lists of different numbers, and that divided differences of products of few
-- factors vanish.
use Rattle.std.proofs.Common.{◌≡◌, ◌≢◌, ◌⊎◌, ℕ, suc, ◌<◌, List, [], ◌∷◌, length, bit_xor, inl, inr, sym, ap, ap₂, ◌∙◌, refl, arith}
use Rattle.std.specs.Int.Bits.{xor_assoc, xor_self, xor_zero_l}
use Rattle.std.proofs.lemmas.Bool.{cases_eq, eq-eqb, ne_eqb}
use Rattle.std.proofs.lemmas.Nat.{xor_comm}
use Rattle.field_byte.specs.Field.{product, inverse}
use Rattle.field_byte.proofs.Sums.{sum_lt, sum_swap, sum_cancel, same_from_sum_zero}
use Rattle.field_byte.proofs.Products.{product_lt, product_zero_l, product_zero_r, product_comm, product_assoc}
use Rattle.field_byte.proofs.Products.{product_sum_l, product_sum_r, product_one_l, product_nonzero, product_inverse}
use Rattle.field_byte.proofs.Products.{inverse_lt, inverse_is}
use Rattle.erasure_code.specs.Code.{product_over, others_than}
use Rattle.erasure_code.proofs.Partitions.{sum_over}

abbrev pub Among : ℕ → List ℕ → Type 0
Among z [] = ⊥
Among z (x ∷ xs) = (z ≡ x) ⊎ Among z xs

abbrev pub Apart : List ℕ → Type 0
Apart [] = Unit {0}
Apart (x ∷ xs) = (¬ (Among x xs)) × Apart xs

-- f gives bytes on the list
abbrev pub GivesBytes : List ℕ → (ℕ → ℕ) → Type 0
GivesBytes xs f = (x : ℕ) → Among x xs → f x < 256

pub over_same : (xs : List ℕ) (f g : ℕ → ℕ) → ((x : ℕ) → Among x xs → f x ≡ g x) → sum_over xs f ≡ sum_over xs g
unfolding sum_over
over_same [] f g same = refl
over_same (x ∷ xs) f g same = ap₂ bit_xor (same x (inl refl)) (over_same xs f g (λ y there. same y (inr there)))

pub product_same : (xs : List ℕ) (f g : ℕ → ℕ) → ((x : ℕ) → Among x xs → f x ≡ g x) → product_over xs f ≡ product_over xs g
product_same [] f g same = refl
product_same (x ∷ xs) f g same = ap₂ product (same x (inl refl)) (product_same xs f g (λ y there. same y (inr there)))

pub over_sums : (xs : List ℕ) (f g : ℕ → ℕ) → sum_over xs (λ x. bit_xor (f x) (g x)) ≡ bit_xor (sum_over xs f) (sum_over xs g)
unfolding sum_over
over_sums [] f g = refl
over_sums (x ∷ xs) f g = ap (bit_xor (bit_xor (f x) (g x))) (over_sums xs f g) ∙ sum_swap (f x) (g x) (sum_over xs f) (sum_over xs g)

pub over_byte : (xs : List ℕ) (f : ℕ → ℕ) → GivesBytes xs f → sum_over xs f < 256
unfolding sum_over
over_byte [] f bytes = omega arith
over_byte (x ∷ xs) f bytes = sum_lt _ _ (bytes x (inl refl)) (over_byte xs f (λ y there. bytes y (inr there)))

pub over_times : (xs : List ℕ) (c : ℕ) (f : ℕ → ℕ) → c < 256 → GivesBytes xs f → sum_over xs (λ x. product c (f x)) ≡ product c (sum_over xs f)
unfolding sum_over
over_times [] c f c_byte bytes = sym (product_zero_r c)
over_times (x ∷ xs) c f c_byte bytes =
    let rest = λ (y : ℕ) (there : Among y xs). bytes y (inr there) in
    ap (bit_xor (product c (f x))) (over_times xs c f c_byte rest)
    ∙ sym (product_sum_r c (f x) (sum_over xs f) c_byte (bytes x (inl refl)) (over_byte xs f rest))

pub product_byte : (xs : List ℕ) (f : ℕ → ℕ) → GivesBytes xs f → product_over xs f < 256
product_byte [] f bytes = omega arith
product_byte (x ∷ xs) f bytes = product_lt _ _ (bytes x (inl refl))

pub product_is_nonzero : (xs : List ℕ) (f : ℕ → ℕ) → GivesBytes xs f → ((x : ℕ) → Among x xs → f x ≢ 0) → product_over xs f ≢ 0
product_is_nonzero [] f bytes nonzero = λ (e : 1 ≡ 0). omega (arith, e)
product_is_nonzero (x ∷ xs) f bytes nonzero =
    let rest = λ (y : ℕ) (there : Among y xs). bytes y (inr there) in
    product_nonzero (f x) (product_over xs f) (bytes x (inl refl)) (product_byte xs f rest) (nonzero x (inl refl))
    (product_is_nonzero xs f rest (λ y there. nonzero y (inr there)))

-- ---- the others of a list
pub others_here : (z : ℕ) (xs : List ℕ) → others_than z (z ∷ xs) ≡ others_than z xs
others_here z xs = rw (eq-eqb z z refl)

pub others_there : (z x : ℕ) (xs : List ℕ) → x ≢ z → others_than z (x ∷ xs) ≡ x ∷ others_than z xs
others_there z x xs other = rw (ne_eqb x z other)

pub others_none : (z : ℕ) (xs : List ℕ) → ¬ (Among z xs) → others_than z xs ≡ xs
others_none z [] none = refl
others_none z (x ∷ xs) none = others_there z x xs (λ same. none (inl (sym same))) ∙ ap (λ rest. x ∷ rest) (others_none z xs (λ there. none (inr there)))

pub among_others : (z w : ℕ) (xs : List ℕ) → Among w (others_than z xs) → Among w xs × (w ≢ z)
among_others z w [] there = absurd there
among_others z w (x ∷ xs) there = elim (cases_eq x z) [
  | inl here ↦ let deeper = among_others z w xs (rw (eq-eqb x z here) at there) in (inr deeper.0, deeper.1)
  | inr other ↦ elim (rw (ne_eqb x z other) at there) [
    | inl same ↦ (inl same, λ e. other (sym same ∙ e))
    | inr deep ↦ let deeper = among_others z w xs deep in (inr deeper.0, deeper.1)
  ]
]

pub others_among : (z w : ℕ) (xs : List ℕ) → Among w xs → w ≢ z → Among w (others_than z xs)
others_among z w [] there other = absurd there
others_among z w (x ∷ xs) (inl same) other = rw (others_there z x xs (λ e. other (same ∙ e))) (inl same)
others_among z w (x ∷ xs) (inr there) other = elim (cases_eq x z) [
  | inl here ↦ rw (eq-eqb x z here) (others_among z w xs there other)
  | inr differ ↦ rw (ne_eqb x z differ) (inr (others_among z w xs there other))
]

pub others_apart : (z : ℕ) (xs : List ℕ) → Apart xs → Apart (others_than z xs)
others_apart z [] apart = tt
others_apart z (x ∷ xs) apart = elim (cases_eq x z) [
  | inl here ↦ rw (eq-eqb x z here) (others_apart z xs apart.1)
  | inr other ↦ rw (ne_eqb x z other) ((λ there. apart.0 (among_others z x xs there).0), others_apart z xs apart.1)
]

pub others_swap : (w z : ℕ) (xs : List ℕ) → others_than w (others_than z xs) ≡ others_than z (others_than w xs)
others_swap w z [] = refl
others_swap w z (x ∷ xs) = elim (cases_eq x z) [
  | inl is_z ↦ elim (cases_eq x w) [
    | inl is_w ↦ rw (eq-eqb x z is_z, eq-eqb x w is_w) (others_swap w z xs)
    | inr not_w ↦ rw (eq-eqb x z is_z, ne_eqb x w not_w) (others_swap w z xs ∙ sym (rw (eq-eqb x z is_z)))
  ]
  | inr not_z ↦ elim (cases_eq x w) [
    | inl is_w ↦ rw (ne_eqb x z not_z, eq-eqb x w is_w) (others_swap w z xs)
    | inr not_w ↦ ap (others_than w) (others_there z x xs not_z) ∙ (others_there w x (others_than z xs) not_w ∙ (ap (λ rest. x ∷ rest) (others_swap w z xs)
        ∙ sym (ap (others_than z) (others_there w x xs not_w) ∙ others_there z x (others_than w xs) not_z)))
  ]
]

pub others_length : (z : ℕ) (xs : List ℕ) → Apart xs → Among z xs → length xs ≡ suc (length (others_than z xs))
others_length z [] apart there = absurd there
others_length z (x ∷ xs) apart (inl same) =
    ap suc (sym (ap length (others_none z xs (λ there. apart.0 (rw (sym same) there)))))
    ∙ sym (ap (λ ys. suc (length ys)) (ap (λ y. others_than z (y ∷ xs)) (sym same) ∙ others_here z xs))
others_length z (x ∷ xs) apart (inr there) =
    let other : x ≢ z = λ same. apart.0 (rw same there) in
    ap suc (others_length z xs apart.1 there) ∙ sym (ap (λ ys. suc (length ys)) (others_there z x xs other))

-- one factor, or one term, taken out
pub product_out : (z : ℕ) (xs : List ℕ) (f : ℕ → ℕ) → Apart xs → Among z xs → GivesBytes xs f
    → product_over xs f ≡ product (f z) (product_over (others_than z xs) f)
product_out z [] f apart there bytes = absurd there
product_out z (x ∷ xs) f apart (inl same) bytes =
    ap₂ (λ a ys. product (f a) (product_over ys f)) (sym same)
    (sym (ap (λ y. others_than z (y ∷ xs)) (sym same) ∙ (others_here z xs ∙ others_none z xs (λ there. apart.0 (rw (sym same) there)))))
product_out z (x ∷ xs) f apart (inr there) bytes =
    let other : x ≢ z = λ same. apart.0 (rw same there) in
    let rest = product_over (others_than z xs) f in
    let x_byte = bytes x (inl refl) in
    let z_byte = bytes z (inr there) in
    let rest_byte = product_byte (others_than z xs) f (λ y among. bytes y (inr (among_others z y xs among).0)) in
    ap (product (f x)) (product_out z xs f apart.1 there (λ y among. bytes y (inr among)))
    ∙ (sym (product_assoc (f x) (f z) rest x_byte z_byte rest_byte) ∙ (ap (λ p. product p rest) (product_comm (f x) (f z) x_byte z_byte)
    ∙ (product_assoc (f z) (f x) rest z_byte x_byte rest_byte ∙ ap (λ ys. product (f z) (product_over ys f)) (sym (others_there z x xs other)))))

pub sum_out : (z : ℕ) (xs : List ℕ) (f : ℕ → ℕ) → Apart xs → Among z xs → sum_over xs f ≡ bit_xor (f z) (sum_over (others_than z xs) f)
unfolding sum_over
sum_out z [] f apart there = absurd there
sum_out z (x ∷ xs) f apart (inl same) =
    ap₂ (λ a ys. bit_xor (f a) (sum_over ys f)) (sym same)
    (sym (ap (λ y. others_than z (y ∷ xs)) (sym same) ∙ (others_here z xs ∙ others_none z xs (λ there. apart.0 (rw (sym same) there)))))
sum_out z (x ∷ xs) f apart (inr there) =
    let other : x ≢ z = λ same. apart.0 (rw same there) in
    let rest = sum_over (others_than z xs) f in
    ap (bit_xor (f x)) (sum_out z xs f apart.1 there)
    ∙ (sym (xor_assoc (f x) (f z) rest) ∙ (ap (λ p. bit_xor p rest) (xor_comm (f x) (f z))
    ∙ (xor_assoc (f z) (f x) rest ∙ ap (λ ys. bit_xor (f z) (sum_over ys f)) (sym (others_there z x xs other)))))

-- ---- divided differences
-- the product of the sums of z and the others of the list
abbrev pub gaps : List ℕ → ℕ → ℕ
gaps zs z = product_over (others_than z zs) (λ r. bit_xor z r)

-- f divided by the gaps, summed over the list
abbrev pub difference : List ℕ → (ℕ → ℕ) → ℕ
difference zs f = sum_over zs (λ z. product (f z) (inverse (gaps zs z)))

abbrev pub AreNodes : List ℕ → Type 0
AreNodes zs = Apart zs × ((z : ℕ) → Among z zs → z < 256)

pub others_nodes : (z : ℕ) (zs : List ℕ) → AreNodes zs → AreNodes (others_than z zs)
others_nodes z zs nodes = (others_apart z zs nodes.0, λ w there. nodes.1 w (among_others z w zs there).0)

sum_nonzero : (a b : ℕ) → a ≢ b → bit_xor a b ≢ 0
sum_nonzero a b differ zero_sum = differ (same_from_sum_zero a b zero_sum)

gap_bytes : (z : ℕ) (xs : List ℕ) → z < 256 → ((x : ℕ) → Among x xs → x < 256) → GivesBytes xs (λ r. bit_xor z r)
gap_bytes z xs z_byte bytes x there = sum_lt z x z_byte (bytes x there)

pub gaps_byte : (zs : List ℕ) (z : ℕ) → AreNodes zs → Among z zs → gaps zs z < 256
gaps_byte zs z nodes there = product_byte (others_than z zs) _ (gap_bytes z (others_than z zs) (nodes.1 z there) (others_nodes z zs nodes).1)

pub gaps_nonzero : (zs : List ℕ) (z : ℕ) → AreNodes zs → Among z zs → gaps zs z ≢ 0
gaps_nonzero zs z nodes there =
    product_is_nonzero (others_than z zs) _ (gap_bytes z (others_than z zs) (nodes.1 z there) (others_nodes z zs nodes).1)
    (λ w among. sum_nonzero z w (λ same. (among_others z w zs among).1 (sym same)))

-- the inverse of a product
pub inverse_product : (a b : ℕ) → a < 256 → b < 256 → a ≢ 0 → b ≢ 0 → inverse (product a b) ≡ product (inverse a) (inverse b)
inverse_product a b a_byte b_byte a_some b_some =
    let x = inverse a in
    let y = inverse b in
    let x_byte = inverse_lt a in
    let y_byte = inverse_lt b in
    let inner : product b (product x y) ≡ x =
    ap (product b) (product_comm x y x_byte y_byte)
    ∙ (sym (product_assoc b y x b_byte y_byte x_byte)
    ∙ (ap (λ p. product p x) (product_inverse b b_byte b_some) ∙ product_one_l x x_byte)) in
    let unit : product (product a b) (product x y) ≡ 1 =
    product_assoc a b (product x y) a_byte b_byte (product_lt x y x_byte) ∙ (ap (product a) inner ∙ product_inverse a a_byte a_some) in
    sym (inverse_is (product a b) (product x y) (product_lt a b a_byte) (product_lt x y x_byte) unit)

-- a factor above and below goes away
pub cancelled : (a f g : ℕ) → a < 256 → f < 256 → g < 256 → a ≢ 0 → g ≢ 0 → product (product a f) (inverse (product a g)) ≡ product f (inverse g)
cancelled a f g a_byte f_byte g_byte a_some g_some =
    let x = inverse a in
    let y = inverse g in
    ap (product (product a f)) (inverse_product a g a_byte g_byte a_some g_some)
    ∙ (sym (product_assoc (product a f) x y (product_lt a f a_byte) (inverse_lt a) (inverse_lt g))
    ∙ ap (λ p. product p y) (ap (λ p. product p x) (product_comm a f a_byte f_byte) ∙ (product_assoc f a x f_byte a_byte (inverse_lt a)
    ∙ (ap (product f) (product_inverse a a_byte a_some) ∙ (product_comm f 1 f_byte (omega arith) ∙ product_one_l f f_byte)))))

-- a node's own factor takes the node out
pub taken_out : (zs : List ℕ) (z : ℕ) (f : ℕ → ℕ) → AreNodes zs → Among z zs → GivesBytes zs f
    → difference zs (λ w. product (bit_xor w z) (f w)) ≡ difference (others_than z zs) f
taken_out zs z f nodes there bytes =
    let z_byte = nodes.1 z there in
    sum_out z zs _ nodes.0 there
    ∙ (ap₂ bit_xor (ap (λ x. product (product x (f z)) (inverse (gaps zs z))) (xor_self z)
    ∙ (ap (λ x. product x (inverse (gaps zs z))) (product_zero_l (f z)) ∙ product_zero_l (inverse (gaps zs z))))
    (over_same (others_than z zs) _ _ (λ w among.
    let was = among_others z w zs among in
    let w_byte = nodes.1 w was.0 in
    let split : gaps zs w ≡ product (bit_xor w z) (gaps (others_than z zs) w) =
    product_out z (others_than w zs) (λ r. bit_xor w r) (others_apart w zs nodes.0) (others_among w z zs there (λ same. was.1 (sym same)))
    (gap_bytes w (others_than w zs) w_byte (others_nodes w zs nodes).1)
    ∙ ap (λ ys. product (bit_xor w z) (product_over ys (λ r. bit_xor w r))) (others_swap z w zs) in
    ap (λ g. product (product (bit_xor w z) (f w)) (inverse g)) split
    ∙ cancelled (bit_xor w z) (f w) (gaps (others_than z zs) w) (sum_lt w z w_byte z_byte) (bytes w was.0)
    (gaps_byte (others_than z zs) w (others_nodes z zs nodes) among)
    (sum_nonzero w z was.1) (gaps_nonzero (others_than z zs) w (others_nodes z zs nodes) among)))
    ∙ xor_zero_l (difference (others_than z zs) f))

-- any factor, by one of a node
pub one_factor : (zs : List ℕ) (z c : ℕ) (f : ℕ → ℕ) → AreNodes zs → Among z zs → c < 256 → GivesBytes zs f
    → difference zs (λ w. product (bit_xor w c) (f w)) ≡ bit_xor (difference (others_than z zs) f) (product (bit_xor z c) (difference zs f))
one_factor zs z c f nodes there c_byte bytes =
    let z_byte = nodes.1 z there in
    let k = bit_xor z c in
    let k_byte = sum_lt z c z_byte c_byte in
    over_same zs _ (λ w. bit_xor (product (product (bit_xor w z) (f w)) (inverse (gaps zs w))) (product k (product (f w) (inverse (gaps zs w))))) (λ w among.
    let w_byte = nodes.1 w among in
    let g = inverse (gaps zs w) in
    let parts : bit_xor w c ≡ bit_xor (bit_xor w z) k = sym (xor_assoc w z (bit_xor z c) ∙ ap (bit_xor w) (sum_cancel z c)) in
    ap (λ x. product (product x (f w)) g) parts
    ∙ (ap (λ x. product x g) (product_sum_l (bit_xor w z) k (f w) (sum_lt w z w_byte z_byte) k_byte)
    ∙ (product_sum_l (product (bit_xor w z) (f w)) (product k (f w)) g (product_lt _ _ (sum_lt w z w_byte z_byte)) (product_lt k (f w) k_byte)
    ∙ ap (bit_xor (product (product (bit_xor w z) (f w)) g)) (product_assoc k (f w) g k_byte (bytes w among) (inverse_lt _)))))
    ∙ (over_sums zs _ _ ∙ ap₂ bit_xor (taken_out zs z f nodes there bytes)
    (over_times zs k (λ w. product (f w) (inverse (gaps zs w))) k_byte (λ w among. product_lt _ _ (bytes w among))))
