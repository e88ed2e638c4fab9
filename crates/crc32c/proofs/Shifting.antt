-- A register is shifted bit by bit as the sum of its parts is.
use Rattle.std.proofs.Common.{◌≡◌, ℕ, zero, suc, ◌+◌, ◌*◌, ◌/◌, ◌%◌, ◌^◌, ◌<◌, List, [], ◌∷◌, ◌++◌, ◌≤◌, length, drop}
use Rattle.std.proofs.Common.{slice_index, bit_xor, refl, sym, ap, ◌∙◌, arith}
use Rattle.std.specs.Int.{w64, from_le_bytes}
use Rattle.std.specs.Int.Bits.{xor_assoc, xor_self, xor_zero_l, xor_zero_r}
use Rattle.std.proofs.lemmas.Nat.{xor_comm, xor_shr, xor_mod, xor_block}
use Rattle.crc32c.specs.Register.{shifted_once, shifted_by, after_bytes, all_ones, checksum}

-- the second and the third of four terms change places
sum_swap : (a b c d : ℕ) → bit_xor (bit_xor a b) (bit_xor c d) ≡ bit_xor (bit_xor a c) (bit_xor b d)
sum_swap a b c d = xor_assoc a b (bit_xor c d)
    ∙ (ap (bit_xor a) (sym (xor_assoc b c d) ∙ (ap (λ x. bit_xor x d) (xor_comm b c) ∙ xor_assoc c b d))
    ∙ sym (xor_assoc a c (bit_xor b d)))

-- a bit times the polynomial
bit_times : (a b : ℕ) → a < 2 → b < 2 → (n : ℕ) → bit_xor a b * n ≡ bit_xor (a * n) (b * n)
bit_times zero b _ lt n =
    let none : 0 ≡ 0 * n = omega arith in
    ap (λ x. x * n) (xor_zero_l b) ∙ sym (xor_zero_l (b * n)) ∙ ap (λ x. bit_xor x (b * n)) none
bit_times (suc zero) zero _ lt n =
    let none : 0 ≡ 0 * n = omega arith in
    ap (λ x. x * n) (xor_zero_r 1) ∙ sym (xor_zero_r (1 * n)) ∙ ap (bit_xor (1 * n)) none
bit_times (suc zero) (suc zero) _ lt n =
    let none : 0 * n ≡ 0 = omega arith in
    ap (λ x. x * n) (xor_self 1) ∙ none ∙ sym (xor_self (1 * n))
bit_times (suc zero) (suc (suc b)) _ lt n = absurd omega arith
bit_times (suc (suc a)) b lt _ n = absurd omega arith

half : (a b : ℕ) → bit_xor a b / 2 ≡ bit_xor (a / 2) (b / 2)
half a b = xor_shr a b 1

odd : (a b : ℕ) → bit_xor a b % 2 ≡ bit_xor (a % 2) (b % 2)
odd a b = xor_mod a b 1

shifted_sum : (a b : ℕ) → shifted_once (bit_xor a b) ≡ bit_xor (shifted_once a) (shifted_once b)
shifted_sum a b =
    rw (half a b, odd a b, bit_times (a % 2) (b % 2) (omega arith) (omega arith) 2197175160)
    (sum_swap (a / 2) (b / 2) (a % 2 * 2197175160) (b % 2 * 2197175160))

pub shifted_by_sum : (n a b : ℕ) → shifted_by n (bit_xor a b) ≡ bit_xor (shifted_by n a) (shifted_by n b)
unfolding shifted_by
shifted_by_sum zero a b = refl
shifted_by_sum (suc n) a b = ap (shifted_by n) (shifted_sum a b) ∙ shifted_by_sum n (shifted_once a) (shifted_once b)

-- eight bits more
abbrev byte_more : ℕ → ℕ
byte_more n = suc (suc (suc (suc (suc (suc (suc (suc n)))))))

-- what is shifted out of zeros is as it was
shifted_even : (a : ℕ) → shifted_once (a * 2) ≡ a
shifted_even a =
    let whole : a * 2 / 2 ≡ a = omega arith in
    let even : a * 2 % 2 ≡ 0 = omega arith in
    rw (whole, even) (xor_zero_r a)

shifted_byte : (n a : ℕ) → shifted_by (byte_more n) (a * 256) ≡ shifted_by n a
unfolding shifted_by
shifted_byte n a =
    let e1 : a * 256 ≡ a * 128 * 2 = omega arith in
    let e2 : a * 128 ≡ a * 64 * 2 = omega arith in
    let e3 : a * 64 ≡ a * 32 * 2 = omega arith in
    let e4 : a * 32 ≡ a * 16 * 2 = omega arith in
    let e5 : a * 16 ≡ a * 8 * 2 = omega arith in
    let e6 : a * 8 ≡ a * 4 * 2 = omega arith in
    let e7 : a * 4 ≡ a * 2 * 2 = omega arith in
    ap (shifted_by n) (
    ap (λ x. shifted_once (shifted_once (shifted_once (shifted_once (shifted_once (shifted_once (shifted_once x)))))))
    (ap shifted_once e1 ∙ shifted_even (a * 128))
    ∙ ap (λ x. shifted_once (shifted_once (shifted_once (shifted_once (shifted_once (shifted_once x)))))) (ap shifted_once e2 ∙ shifted_even (a * 64))
    ∙ ap (λ x. shifted_once (shifted_once (shifted_once (shifted_once (shifted_once x))))) (ap shifted_once e3 ∙ shifted_even (a * 32))
    ∙ ap (λ x. shifted_once (shifted_once (shifted_once (shifted_once x)))) (ap shifted_once e4 ∙ shifted_even (a * 16))
    ∙ ap (λ x. shifted_once (shifted_once (shifted_once x))) (ap shifted_once e5 ∙ shifted_even (a * 8))
    ∙ ap (λ x. shifted_once (shifted_once x)) (ap shifted_once e6 ∙ shifted_even (a * 4))
    ∙ ap (λ x. shifted_once x) (ap shifted_once e7 ∙ shifted_even (a * 2))
    ∙ shifted_even a
    )

-- a number is its lowest byte and those above it
bytes_apart : (w : ℕ) → w ≡ bit_xor (w % 256) (w / 256 * 256)
bytes_apart w =
    let block = xor_block 8 0 (w / 256) (w % 256) 0 (omega arith) (omega arith) in
    let low : 0 * 2 ^ 8 + w % 256 ≡ w % 256 = omega arith in
    let high : w / 256 * 2 ^ 8 + 0 ≡ w / 256 * 256 = omega arith in
    let sums : bit_xor (w % 256) (w / 256 * 256) ≡ bit_xor 0 (w / 256) * 2 ^ 8 + bit_xor (w % 256) 0 =
    ap (λ x. bit_xor x (w / 256 * 256)) (sym low) ∙ ap (bit_xor (0 * 2 ^ 8 + w % 256)) (sym high) ∙ block in
    let one = xor_zero_l (w / 256) in
    let two = xor_zero_r (w % 256) in
    sym (sums ∙ (rw (one, two) omega arith))

pub byte_out : (n w : ℕ) → shifted_by (byte_more n) w ≡ bit_xor (shifted_by (byte_more n) (w % 256)) (shifted_by n (w / 256))
byte_out n w =
    ap (shifted_by (byte_more n)) (bytes_apart w)
    ∙ shifted_by_sum (byte_more n) (w % 256) (w / 256 * 256)
    ∙ ap (bit_xor (shifted_by (byte_more n) (w % 256))) (shifted_byte n (w / 256))

pub shifted_by_none : (w : ℕ) → shifted_by 0 w ≡ w
unfolding shifted_by
shifted_by_none w = refl

eight_more : (n y : ℕ) → shifted_by (byte_more n) y ≡ shifted_by n (shifted_by 8 y)
unfolding shifted_by
eight_more n y = refl

-- a byte and what follows it, added one behind the other or at once
fold : (n r b x : ℕ) → b < 256 → shifted_by n (bit_xor (shifted_by 8 (bit_xor r b)) x) ≡ shifted_by (byte_more n) (bit_xor r (b + x * 256))
fold n r b x lt =
    let low : (b + x * 256) % 256 ≡ b = omega arith in
    let high : (b + x * 256) / 256 ≡ x = omega arith in
    let apart : b + x * 256 ≡ bit_xor b (x * 256) = bytes_apart (b + x * 256)
    ∙ ap (λ k. bit_xor k ((b + x * 256) / 256 * 256)) low ∙ ap (λ k. bit_xor b (k * 256)) high in
    ap (λ k. shifted_by n (bit_xor (shifted_by 8 (bit_xor r b)) k)) (sym (shifted_byte zero x ∙ shifted_by_none x))
    ∙ ap (shifted_by n) (sym (shifted_by_sum 8 (bit_xor r b) (x * 256)))
    ∙ sym (eight_more n (bit_xor (bit_xor r b) (x * 256)))
    ∙ ap (shifted_by (byte_more n)) (xor_assoc r b (x * 256) ∙ ap (bit_xor r) (sym apart))

abbrev lowest_first : (a b c d e f g h : ℕ) → ℕ
lowest_first a b c d e f g h = a + (b + (c + (d + (e + (f + (g + h * 256) * 256) * 256) * 256) * 256) * 256) * 256

eight_added : (r a b c d e f g h : ℕ) → a < 256 → b < 256 → c < 256 → d < 256 → e < 256 → f < 256 → g < 256 → (rest : List ℕ)
    → after_bytes r (a ∷ b ∷ c ∷ d ∷ e ∷ f ∷ g ∷ h ∷ rest) ≡ after_bytes (shifted_by 64 (bit_xor r (lowest_first a b c d e f g h))) rest
unfolding after_bytes
eight_added r a b c d e f g h la lb lc ld le lf lg rest =
    let r1 = shifted_by 8 (bit_xor r a) in
    let r2 = shifted_by 8 (bit_xor r1 b) in
    let r3 = shifted_by 8 (bit_xor r2 c) in
    let r4 = shifted_by 8 (bit_xor r3 d) in
    let r5 = shifted_by 8 (bit_xor r4 e) in
    let r6 = shifted_by 8 (bit_xor r5 f) in
    let y6 = g + h * 256 in
    let y5 = f + y6 * 256 in
    let y4 = e + y5 * 256 in
    let y3 = d + y4 * 256 in
    let y2 = c + y3 * 256 in
    let y1 = b + y2 * 256 in
    ap (λ k. after_bytes k rest) (
    fold 8 r6 g h lg ∙ fold 16 r5 f y6 lf ∙ fold 24 r4 e y5 le ∙ fold 32 r3 d y4 ld ∙ fold 40 r2 c y3 lc ∙ fold 48 r1 b y2 lb ∙ fold 56 r a y1 la
    )

pub eight_behind : (r a b c d e f g h : ℕ) → a < 256 → b < 256 → c < 256 → d < 256 → e < 256 → f < 256 → g < 256 → (rest : List ℕ)
    → after_bytes r (a ∷ b ∷ c ∷ d ∷ e ∷ f ∷ g ∷ h ∷ rest)
    ≡ after_bytes (shifted_by 64 (bit_xor r (from_le_bytes w64 (a ∷ b ∷ c ∷ d ∷ e ∷ f ∷ g ∷ h ∷ [])))) rest
eight_behind r a b c d e f g h la lb lc ld le lf lg rest =
    let number : lowest_first a b c d e f g h ≡ from_le_bytes w64 (a ∷ b ∷ c ∷ d ∷ e ∷ f ∷ g ∷ h ∷ []) = omega arith in
    eight_added r a b c d e f g h la lb lc ld le lf lg rest ∙ ap (λ k. after_bytes (shifted_by 64 (bit_xor r k)) rest) number

-- what the table of one byte gives of a register and a byte
pub byte_step : (r b : ℕ) → b < 256 → bit_xor (shifted_by 8 (bit_xor (r % 256) b)) (r / 256) ≡ shifted_by 8 (bit_xor r b)
byte_step r b lt =
    let low : bit_xor r b % 256 ≡ bit_xor (r % 256) b = xor_mod r b 8 ∙ ap (bit_xor (r % 256)) (omega arith) in
    let none : b / 256 ≡ 0 = omega arith in
    let high : bit_xor r b / 256 ≡ r / 256 = xor_shr r b 8 ∙ ap (bit_xor (r / 256)) none ∙ xor_zero_r (r / 256) in
    let out = shifted_by 8 (bit_xor (r % 256) b) in
    sym (byte_out zero (bit_xor r b) ∙ ap (λ k. bit_xor (shifted_by 8 k) (shifted_by 0 (bit_xor r b / 256))) low
    ∙ ap (bit_xor out) (shifted_by_none (bit_xor r b / 256) ∙ high))

-- the lowest byte of a number, shifted out by n bits
abbrev pub low_out : ℕ → ℕ → ℕ
low_out n w = shifted_by n (w % 256)

abbrev pub sum_of_eight : (a b c d e f g h : ℕ) → ℕ
sum_of_eight a b c d e f g h = bit_xor (bit_xor (bit_xor (bit_xor (bit_xor (bit_xor (bit_xor a b) c) d) e) f) g) h

-- a byte more is shifted out
one_further : (sum n w next : ℕ) → w / 256 ≡ next → bit_xor sum (shifted_by (byte_more n) w)
    ≡ bit_xor (bit_xor sum (low_out (byte_more n) w)) (shifted_by n next)
one_further sum n w next is =
    ap (bit_xor sum) (byte_out n w ∙ ap (λ k. bit_xor (low_out (byte_more n) w) (shifted_by n k)) is)
    ∙ sym (xor_assoc sum (low_out (byte_more n) w) (shifted_by n next))

-- what the tables give of a register of eight bytes
abbrev pub tables_out : ℕ → ℕ
tables_out w =
    sum_of_eight
    (low_out 64 w)
    (low_out 56 (w / 256))
    (low_out 48 (w / 65536))
    (low_out 40 (w / 16777216))
    (low_out 32 (w / 4294967296))
    (low_out 24 (w / 1099511627776))
    (low_out 16 (w / 281474976710656))
    (low_out 8 (w / 72057594037927936))

pub all_out : (w : ℕ) → w < 2 ^ 64 → shifted_by 64 w ≡ tables_out w
all_out w lt =
    let w1 = w / 256 in
    let w2 = w / 65536 in
    let w3 = w / 16777216 in
    let w4 = w / 4294967296 in
    let w5 = w / 1099511627776 in
    let w6 = w / 281474976710656 in
    let w7 = w / 72057594037927936 in
    let s1 = low_out 64 w in
    let s2 = bit_xor s1 (low_out 56 w1) in
    let s3 = bit_xor s2 (low_out 48 w2) in
    let s4 = bit_xor s3 (low_out 40 w3) in
    let s5 = bit_xor s4 (low_out 32 w4) in
    let s6 = bit_xor s5 (low_out 24 w5) in
    let s7 = bit_xor s6 (low_out 16 w6) in
    let s8 = bit_xor s7 (low_out 8 w7) in
    byte_out 56 w
    ∙ one_further s1 48 w1 w2 (omega arith)
    ∙ one_further s2 40 w2 w3 (omega arith)
    ∙ one_further s3 32 w3 w4 (omega arith)
    ∙ one_further s4 24 w4 w5 (omega arith)
    ∙ one_further s5 16 w5 w6 (omega arith)
    ∙ one_further s6 8 w6 w7 (omega arith)
    ∙ one_further s7 0 w7 0 (omega (arith, lt))
    ∙ ap (bit_xor s8) (shifted_by_none 0)
    ∙ xor_zero_r s8

pub after_more : (r : ℕ) (front bytes : List ℕ) → after_bytes r (front ++ bytes) ≡ after_bytes (after_bytes r front) bytes
unfolding after_bytes
after_more r [] bytes = refl
after_more r (b ∷ front) bytes = after_more (shifted_by 8 (bit_xor r b)) front bytes

-- a sum turned over again is the register
turned_back : (r : ℕ) → bit_xor (bit_xor r all_ones) all_ones ≡ r
turned_back r = xor_assoc r all_ones all_ones ∙ ap (bit_xor r) (xor_self all_ones) ∙ xor_zero_r r

pub sum_behind : (sum result : ℕ) (front bytes : List ℕ) → sum ≡ checksum front → result ≡ after_bytes (bit_xor sum all_ones) bytes
    → bit_xor result all_ones ≡ checksum (front ++ bytes)
sum_behind sum result front bytes is_sum is_result =
    ap (λ r. bit_xor r all_ones) (
    is_result
    ∙ ap (λ r. after_bytes r bytes) (ap (λ r. bit_xor r all_ones) is_sum ∙ turned_back (after_bytes all_ones front))
    ∙ sym (after_more all_ones front bytes)
    )

abbrev pub first_eight : List ℕ → List ℕ
first_eight bytes =
    slice_index bytes 0 ∷ slice_index bytes 1 ∷ slice_index bytes 2 ∷ slice_index bytes 3
    ∷ slice_index bytes 4 ∷ slice_index bytes 5 ∷ slice_index bytes 6 ∷ slice_index bytes 7 ∷ []

-- a list of at least eight bytes, of which eight are taken in
pub front_taken : (r eight after : ℕ) (bytes : List ℕ) → 8 ≤ length bytes → ((i : ℕ) → slice_index bytes i < 256)
    → eight ≡ from_le_bytes w64 (first_eight bytes)
    → after ≡ shifted_by 64 (bit_xor r eight) → after_bytes after (drop 8 bytes) ≡ after_bytes r bytes
front_taken r eight after (a ∷ b ∷ c ∷ d ∷ e ∷ f ∷ g ∷ h ∷ rest) long fits is_eight is_after =
    ap (λ k. after_bytes k rest) (is_after ∙ ap (λ k. shifted_by 64 (bit_xor r k)) is_eight)
    ∙ sym (eight_behind r a b c d e f g h (fits 0) (fits 1) (fits 2) (fits 3) (fits 4) (fits 5) (fits 6) rest)
front_taken r eight after [] long fits is_eight is_after = absurd omega arith
front_taken r eight after (a ∷ []) long fits is_eight is_after = absurd omega arith
front_taken r eight after (a ∷ b ∷ []) long fits is_eight is_after = absurd omega arith
front_taken r eight after (a ∷ b ∷ c ∷ []) long fits is_eight is_after = absurd omega arith
front_taken r eight after (a ∷ b ∷ c ∷ d ∷ []) long fits is_eight is_after = absurd omega arith
front_taken r eight after (a ∷ b ∷ c ∷ d ∷ e ∷ []) long fits is_eight is_after = absurd omega arith
front_taken r eight after (a ∷ b ∷ c ∷ d ∷ e ∷ f ∷ []) long fits is_eight is_after = absurd omega arith
front_taken r eight after (a ∷ b ∷ c ∷ d ∷ e ∷ f ∷ g ∷ []) long fits is_eight is_after = absurd omega arith

-- one byte more of a list
pub byte_taken : (before after : ℕ) (bytes : List ℕ) (i : ℕ) → i < length bytes → after ≡ shifted_by 8 (bit_xor before (slice_index bytes i))
    → after_bytes after (drop (suc i) bytes) ≡ after_bytes before (drop i bytes)
unfolding after_bytes
byte_taken before after [] i lt is_after = absurd omega arith
byte_taken before after (b ∷ bytes) zero lt is_after = ap (λ k. after_bytes k bytes) is_after
byte_taken before after (b ∷ bytes) (suc i) lt is_after = byte_taken before after bytes i (omega arith) is_after

pub none_left : (r i : ℕ) (bytes : List ℕ) → length bytes ≤ i → after_bytes r (drop i bytes) ≡ r
unfolding after_bytes
none_left r zero [] le = refl
none_left r (suc i) [] le = refl
none_left r zero (b ∷ bytes) le = absurd omega arith
none_left r (suc i) (b ∷ bytes) le = none_left r i bytes (omega arith)
