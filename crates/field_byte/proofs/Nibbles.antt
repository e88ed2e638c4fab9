-- A product from the products with both halves of a byte.
use Rattle.std.proofs.Common.{replicate, map, pow_mono, ◌+◌, ◌∷◌, [], ◌^◌, ◌≤◌, add-zero, zero-mul, ◌≡◌, ℕ, ◌*◌, ◌/◌}
use Rattle.std.proofs.Common.{◌%◌, ◌<◌, Bool, true, ◌==◌, List, get_or, bit_xor, bit_and, sym, ap, ap₂, ◌∙◌, refl}
use Rattle.std.proofs.Common.{arith}
use Rattle.std.proofs.lemmas.Bool.{agree_below, agree_below_at, eqb-true}
use Rattle.std.proofs.lemmas.List.{get_or-map}
use Rattle.std.proofs.lemmas.Nat.{and_mask, xor_block, pow_pos, shl_below}
use Rattle.field_byte.specs.Field.{product_of_bits, product}
use Rattle.field_byte.specs.Halves.{nibbles, products_of_nibbles, AreHalves}
use Rattle.std.specs.Int.Bits.{and_zero_r, xor_zero_l, xor_zero_r}
use Rattle.std.specs.Simd.Lanes.{zip2}
use Rattle.field_byte.specs.declared.split.TheConstants.{HAS_1, HAS_2, HAS_4, HAS_8}
use Rattle.field_byte.proofs.Products.{product_lt, product_one_r, product_assoc, product_sum_r, product_zero_r}

abbrev always : ℕ → Bool
always n = true

abbrev halves_test : ℕ → Bool
halves_test b = bit_xor (b % 16 * 1) (b / 16 * 16) == b

halves_pass : agree_below halves_test always 256 ≡ true
halves_pass = refl

-- a byte is the sum of its halves
pub halves_of_byte : (b : ℕ) → b < 256 → bit_xor (b % 16 * 1) (b / 16 * 16) ≡ b
halves_of_byte b byte = eqb-true _ _ (agree_below_at halves_test always 256 b halves_pass byte)

abbrev nibble_test : ℕ → Bool
nibble_test k = get_or nibbles k 0 == k

nibbles_pass : agree_below nibble_test always 16 ≡ true
nibbles_pass = refl

pub product_at : (coef step k : ℕ) → k < 16 → get_or (products_of_nibbles coef step) k 0 ≡ product coef (k * step)
product_at coef step k below =
    get_or-map (λ (j : ℕ). product coef (j * step)) nibbles k 0 0 below
    ∙ ap (λ j. product coef (j * step)) (eqb-true _ _ (agree_below_at nibble_test always 16 k nibbles_pass below))

-- a product is the sum of the products with both halves
pub product_of_halves : (coef b : ℕ) → coef < 256 → b < 256 → bit_xor (product coef (bit_and b 15 * 1)) (product coef (b / 16 * 16)) ≡ product coef b
product_of_halves coef b coef_byte byte =
    ap (λ k. bit_xor (product coef (k * 1)) (product coef (b / 16 * 16))) (and_mask b 4)
    ∙ (sym (product_sum_r coef (b % 16 * 1) (b / 16 * 16) coef_byte (omega arith) (omega arith)) ∙ ap (product coef) (halves_of_byte b byte))

pub product_by_halves : (coef b : ℕ) (lows highs : List ℕ) → AreHalves coef lows highs → b < 256
    → bit_xor (get_or lows (bit_and b 15) 0) (get_or highs (b / 16) 0) ≡ product coef b
product_by_halves coef b lows highs halves byte =
    let small : bit_and b 15 < 16 = omega (arith, and_mask b 4) in
    let low = ap (λ (l : List ℕ). get_or l (bit_and b 15) 0) halves.low ∙ product_at coef 1 (bit_and b 15) small in
    let high = ap (λ (l : List ℕ). get_or l (b / 16) 0) halves.high ∙ product_at coef 16 (b / 16) (omega arith) in
    ap₂ bit_xor low high ∙ product_of_halves coef b halves.byte byte

abbrev two_test : ℕ → Bool
two_test n = product n 2 == n * 2

twos_pass : agree_below two_test always 128 ≡ true
unfolding product_of_bits product
twos_pass = refl

-- the product with a number that the coefficient was doubled for
pub doubled : (coef n before after : ℕ) → coef < 256 → n < 128 → before ≡ product coef n → after ≡ product before 2 → after ≡ product coef (n * 2)
doubled coef n before after byte below was is =
    is ∙ (ap (λ x. product x 2) was ∙ (product_assoc coef n 2 byte (omega arith) (omega arith)
    ∙ ap (product coef) (eqb-true _ _ (agree_below_at two_test always 128 n twos_pass below))))

-- at each number of four bits the sum of those that its bits name
abbrev pub sums_of_four : ℕ → ℕ → ℕ → ℕ → List ℕ
sums_of_four a b c d = 0 ∷ a ∷ b ∷ bit_xor a b ∷ c ∷ bit_xor a c ∷ bit_xor b c ∷ bit_xor (bit_xor a b) c ∷ d
    ∷ bit_xor a d ∷ bit_xor b d ∷ bit_xor (bit_xor a b) d ∷ bit_xor c d ∷ bit_xor (bit_xor a c) d
    ∷ bit_xor (bit_xor b c) d ∷ bit_xor (bit_xor (bit_xor a b) c) d ∷ []

sums_by_bits : (p : ℕ → ℕ) → p 0 ≡ 0 → ((j k : ℕ) → j < 16 → k < 16 → p (bit_xor j k) ≡ bit_xor (p j) (p k))
    → sums_of_four (p 1) (p 2) (p 4) (p 8) ≡ map p nibbles
sums_by_bits p none sum =
    cc (
      none,
      sum 1 2 (omega arith) (omega arith),
      sum 1 4 (omega arith) (omega arith),
      sum 2 4 (omega arith) (omega arith),
      sum 3 4 (omega arith) (omega arith),
      sum 1 8 (omega arith) (omega arith),
      sum 2 8 (omega arith) (omega arith),
      sum 3 8 (omega arith) (omega arith),
      sum 4 8 (omega arith) (omega arith),
      sum 5 8 (omega arith) (omega arith),
      sum 6 8 (omega arith) (omega arith),
      sum 7 8 (omega arith) (omega arith),
    )

-- all bits are kept, or none
kept : (a : ℕ) → a < 256 → bit_and a 255 ≡ a
kept a byte = and_mask a 8 ∙ omega arith

abbrev pub masked : ℕ → ℕ → ℕ → ℕ → List ℕ
masked a b c d =
    zip2 bit_xor (zip2 bit_xor
    (zip2 bit_xor (zip2 bit_and (replicate 16 a) HAS_1) (zip2 bit_and (replicate 16 b) HAS_2))
    (zip2 bit_and (replicate 16 c) HAS_4)) (zip2 bit_and (replicate 16 d) HAS_8)

masked_sums : (a b c d : ℕ) → a < 256 → b < 256 → c < 256 → d < 256 → masked a b c d ≡ sums_of_four a b c d
masked_sums a b c d a_byte b_byte c_byte d_byte = simp (kept a a_byte, kept b b_byte, kept c c_byte, kept d d_byte, and_zero_r, xor_zero_l, xor_zero_r)

shifted_byte : (k shift : ℕ) → k < 16 → shift ≤ 4 → k * 2 ^ shift < 256
shifted_byte k shift below small =
    let bound = shl_below k 4 shift below in
    let top : 2 ^ (4 + shift) ≤ 2 ^ 8 = pow_mono {i = 4 + shift} {j = 8} (omega arith) in omega arith

sums_are_products : (coef shift : ℕ) → coef < 256 → shift ≤ 4
    → sums_of_four (product coef (1 * 2 ^ shift)) (product coef (2 * 2 ^ shift)) (product coef (4 * 2 ^ shift))
    (product coef (8 * 2 ^ shift)) ≡ products_of_nibbles coef (2 ^ shift)
sums_are_products coef shift byte small = sums_by_bits (λ k. product coef (k * 2 ^ shift))
    (ap (product coef) (zero-mul (2 ^ shift)) ∙ product_zero_r coef) (λ j k j_below k_below.
    let shifted : bit_xor (j * 2 ^ shift) (k * 2 ^ shift) ≡ bit_xor j k * 2 ^ shift =
    simp add-zero at (xor_block shift j k 0 0 (pow_pos shift) (pow_pos shift)) in
    ap (product coef) (sym shifted) ∙ product_sum_r coef (j * 2 ^ shift) (k * 2 ^ shift) byte
    (shifted_byte j shift j_below small) (shifted_byte k shift k_below small))

-- the sums of the products with one bit are the products with all numbers of four bits
pub masked_are_products : (coef shift a b c d : ℕ) → coef < 256 → shift ≤ 4
    → a ≡ product coef (1 * 2 ^ shift) → b ≡ product coef (2 * 2 ^ shift) → c ≡ product coef (4 * 2 ^ shift) → d ≡ product coef (8 * 2 ^ shift)
    → masked a b c d ≡ products_of_nibbles coef (2 ^ shift)
masked_are_products coef shift a b c d byte small a_is b_is c_is d_is =
    let product_byte = λ (k : ℕ). product_lt coef k byte in
    masked_sums a b c d (omega (arith, product_byte (1 * 2 ^ shift))) (omega (arith, product_byte (2 * 2 ^ shift)))
    (omega (arith, product_byte (4 * 2 ^ shift))) (omega (arith, product_byte (8 * 2 ^ shift)))
    ∙ ((λ i. sums_of_four (a_is i) (b_is i) (c_is i) (d_is i)) ∙ sums_are_products coef shift byte small)

-- the two tables of a coefficient, made of its doubles
pub are_halves : (coef by_2 by_4 by_8 by_16 by_32 by_64 by_128 : ℕ) → coef < 256
    → by_2 ≡ product coef 2 → by_4 ≡ product by_2 2 → by_8 ≡ product by_4 2 → by_16 ≡ product by_8 2
    → by_32 ≡ product by_16 2 → by_64 ≡ product by_32 2 → by_128 ≡ product by_64 2
    → AreHalves coef (masked coef by_2 by_4 by_8) (masked by_16 by_32 by_64 by_128)
are_halves coef by_2 by_4 by_8 by_16 by_32 by_64 by_128 byte is_2 is_4 is_8 is_16 is_32 is_64 is_128 =
    let p1 = sym (product_one_r coef byte) in
    let p2 = doubled coef 1 coef by_2 byte (omega arith) p1 is_2 in
    let p4 = doubled coef 2 by_2 by_4 byte (omega arith) p2 is_4 in
    let p8 = doubled coef 4 by_4 by_8 byte (omega arith) p4 is_8 in
    let p16 = doubled coef 8 by_8 by_16 byte (omega arith) p8 is_16 in
    let p32 = doubled coef 16 by_16 by_32 byte (omega arith) p16 is_32 in
    let p64 = doubled coef 32 by_32 by_64 byte (omega arith) p32 is_64 in
    let p128 = doubled coef 64 by_64 by_128 byte (omega arith) p64 is_128 in
    record {
      byte = byte;
      low = masked_are_products coef 0 coef by_2 by_4 by_8 byte (omega arith) p1 p2 p4 p8;
      high = masked_are_products coef 4 by_16 by_32 by_64 by_128 byte (omega arith) p16 p32 p64 p128;
    }

-- the product with 1 is the coefficient
pub coef_in_halves : (coef : ℕ) (lows highs : List ℕ) → AreHalves coef lows highs → get_or lows 1 0 ≡ coef
coef_in_halves coef lows highs halves = ap (λ l. get_or l 1 0) halves.low ∙ product_one_r coef halves.byte
