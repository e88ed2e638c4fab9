-- Each entry of the tables is its byte, shifted.
use Rattle.std.proofs.Common.{◌≡◌, ℕ, ◌<◌, Bool, true, ◌==◌, ◌/◌, ◌%◌, ◌^◌, List, [], ◌∷◌, slice_index, get_or, bit_xor, refl, sym, ap, ◌∙◌, arith}
use Rattle.std.proofs.lemmas.Bool.{agree_below, agree_below_at, eqb-true}
use Rattle.crc32c.specs.Register.{shifted_by}
use Rattle.crc32c.proofs.Shifting.{low_out, sum_of_eight, all_out}
use Rattle.crc32c.specs.declared.tables.TheConstants.{ONE, TWO, THREE, FOUR, FIVE, SIX, SEVEN, EIGHT}

abbrev always : ℕ → Bool
always n = true

abbrev test_one : ℕ → Bool
test_one n = slice_index ONE n == shifted_by 8 n

one_passes : agree_below test_one always 256 ≡ true
unfolding shifted_by
one_passes = refl

pub one_is : (n : ℕ) → n < 256 → slice_index ONE n ≡ shifted_by 8 n
one_is n below = eqb-true _ _ (agree_below_at test_one always 256 n one_passes below)

abbrev test_two : ℕ → Bool
test_two n = slice_index TWO n == shifted_by 16 n

two_passes : agree_below test_two always 256 ≡ true
unfolding shifted_by
two_passes = refl

pub two_is : (n : ℕ) → n < 256 → slice_index TWO n ≡ shifted_by 16 n
two_is n below = eqb-true _ _ (agree_below_at test_two always 256 n two_passes below)

abbrev test_three : ℕ → Bool
test_three n = slice_index THREE n == shifted_by 24 n

three_passes : agree_below test_three always 256 ≡ true
unfolding shifted_by
three_passes = refl

pub three_is : (n : ℕ) → n < 256 → slice_index THREE n ≡ shifted_by 24 n
three_is n below = eqb-true _ _ (agree_below_at test_three always 256 n three_passes below)

abbrev test_four : ℕ → Bool
test_four n = slice_index FOUR n == shifted_by 32 n

four_passes : agree_below test_four always 256 ≡ true
unfolding shifted_by
four_passes = refl

pub four_is : (n : ℕ) → n < 256 → slice_index FOUR n ≡ shifted_by 32 n
four_is n below = eqb-true _ _ (agree_below_at test_four always 256 n four_passes below)

abbrev test_five : ℕ → Bool
test_five n = slice_index FIVE n == shifted_by 40 n

five_passes : agree_below test_five always 256 ≡ true
unfolding shifted_by
five_passes = refl

pub five_is : (n : ℕ) → n < 256 → slice_index FIVE n ≡ shifted_by 40 n
five_is n below = eqb-true _ _ (agree_below_at test_five always 256 n five_passes below)

abbrev test_six : ℕ → Bool
test_six n = slice_index SIX n == shifted_by 48 n

six_passes : agree_below test_six always 256 ≡ true
unfolding shifted_by
six_passes = refl

pub six_is : (n : ℕ) → n < 256 → slice_index SIX n ≡ shifted_by 48 n
six_is n below = eqb-true _ _ (agree_below_at test_six always 256 n six_passes below)

abbrev test_seven : ℕ → Bool
test_seven n = slice_index SEVEN n == shifted_by 56 n

seven_passes : agree_below test_seven always 256 ≡ true
unfolding shifted_by
seven_passes = refl

pub seven_is : (n : ℕ) → n < 256 → slice_index SEVEN n ≡ shifted_by 56 n
seven_is n below = eqb-true _ _ (agree_below_at test_seven always 256 n seven_passes below)

abbrev test_eight : ℕ → Bool
test_eight n = slice_index EIGHT n == shifted_by 64 n

eight_passes : agree_below test_eight always 256 ≡ true
unfolding shifted_by
eight_passes = refl

pub eight_is : (n : ℕ) → n < 256 → slice_index EIGHT n ≡ shifted_by 64 n
eight_is n below = eqb-true _ _ (agree_below_at test_eight always 256 n eight_passes below)

-- the tables of a register's bytes, the lowest first
abbrev bytes_of : ℕ → List ℕ
bytes_of w =
    w % 256 ∷ w / 256 % 256 ∷ w / 65536 % 256 ∷ w / 16777216 % 256 ∷ w / 4294967296 % 256 ∷ w / 1099511627776 % 256
    ∷ w / 281474976710656 % 256 ∷ w / 72057594037927936 % 256 ∷ []

same_sums : (a b c d e f g h p q r s t u v w : ℕ) → a ≡ p → b ≡ q → c ≡ r → d ≡ s → e ≡ t → f ≡ u → g ≡ v → h ≡ w
    → sum_of_eight a b c d e f g h ≡ sum_of_eight p q r s t u v w
same_sums a b c d e f g h p q r s t u v w is_a is_b is_c is_d is_e is_f is_g is_h = rw (is_a, is_b, is_c, is_d, is_e, is_f, is_g, is_h) refl

-- the tables' entries of the bytes of a number
pub record AreEntries (bytes : List ℕ) (eight seven six five four three two one : ℕ) : Type 0 where
  pub is_eight : eight ≡ slice_index EIGHT (get_or bytes 0 0)
  pub is_seven : seven ≡ slice_index SEVEN (get_or bytes 1 0)
  pub is_six : six ≡ slice_index SIX (get_or bytes 2 0)
  pub is_five : five ≡ slice_index FIVE (get_or bytes 3 0)
  pub is_four : four ≡ slice_index FOUR (get_or bytes 4 0)
  pub is_three : three ≡ slice_index THREE (get_or bytes 5 0)
  pub is_two : two ≡ slice_index TWO (get_or bytes 6 0)
  pub is_one : one ≡ slice_index ONE (get_or bytes 7 0)

-- an entry of a table is its byte, shifted out
entry_out : (table : List ℕ) (n byte b entry : ℕ) → ((i : ℕ) → i < 256 → slice_index table i ≡ shifted_by n i)
    → entry ≡ slice_index table b → b ≡ byte % 256 → entry ≡ low_out n byte
entry_out table n byte b entry is_table is_entry is_byte = is_entry ∙ ap (slice_index table) is_byte ∙ is_table (byte % 256) (omega arith)

pub tables_sum : (w : ℕ) (bytes : List ℕ) (eight seven six five four three two one : ℕ) → w < 2 ^ 64
    → bytes ≡ bytes_of w → AreEntries bytes eight seven six five four three two one
    → sum_of_eight eight seven six five four three two one ≡ shifted_by 64 w
tables_sum w bytes eight seven six five four three two one lt is_bytes e =
    let eight_out : eight ≡ low_out 64 w = entry_out EIGHT 64 w _ eight eight_is e.is_eight (ap (λ b. get_or b 0 0) is_bytes) in
    let seven_out : seven ≡ low_out 56 (w / 256) = entry_out SEVEN 56 (w / 256) _ seven seven_is e.is_seven (ap (λ b. get_or b 1 0) is_bytes) in
    let six_out : six ≡ low_out 48 (w / 65536) = entry_out SIX 48 (w / 65536) _ six six_is e.is_six (ap (λ b. get_or b 2 0) is_bytes) in
    let five_out : five ≡ low_out 40 (w / 16777216) = entry_out FIVE 40 (w / 16777216) _ five five_is e.is_five (ap (λ b. get_or b 3 0) is_bytes) in
    let four_out : four ≡ low_out 32 (w / 4294967296) = entry_out FOUR 32 (w / 4294967296) _ four four_is e.is_four (ap (λ b. get_or b 4 0) is_bytes) in
    let three_out : three ≡ low_out 24 (w / 1099511627776) = entry_out THREE 24 (w / 1099511627776) _ three three_is
    e.is_three (ap (λ b. get_or b 5 0) is_bytes) in
    let two_out : two ≡ low_out 16 (w / 281474976710656) = entry_out TWO 16 (w / 281474976710656) _ two two_is e.is_two (ap (λ b. get_or b 6 0) is_bytes) in
    let one_out : one ≡ low_out 8 (w / 72057594037927936) = entry_out ONE 8 (w / 72057594037927936) _ one one_is e.is_one (ap (λ b. get_or b 7 0) is_bytes) in
    same_sums _ _ _ _ _ _ _ _ _ _ _ _ _ _ _ _ eight_out seven_out six_out five_out four_out three_out two_out one_out ∙ sym (all_out w lt)
