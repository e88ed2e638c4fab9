-- Fields that messages don't have are read exactly where they are spelled.
use Rattle.std.proofs.Common.{◌≡◌, ◌≤◌, ◌<◌, ℕ, ◌+◌, ◌-◌, ◌^◌, ℤ, pos, negsuc, Bool, true, false, nat_lt, nat_le}
use Rattle.std.proofs.Common.{if◌then◌else◌, List, [], ◌∷◌, ◌++◌, length, Option, Some, refl, sym, ap, subst, ◌∙◌}
use Rattle.std.proofs.Common.{append_assoc, arith}
use Rattle.std.specs.Int.{w64}
use Rattle.std.proofs.lemmas.Bool.Decides.{nat_tests}
use Rattle.std.proofs.lemmas.List.{append-nil}
use Rattle.group_types.specs.Shape.{most_space}
use Rattle.wire_codec.specs.Fits.{IsEight, IsLong}
use Rattle.wire_codec.specs.Frame.{eight, long}
use Rattle.wire_codec.specs.Reading.{Read, decode_number, long_at, picked, tagged_at}
use Rattle.wire_codec.proofs.Codes.{IsBytes, Took, Codes, step, some_is, codes_eight, codes_tested, takes_given, tagged_takes}
use Rattle.wire_codec.proofs.Spelled.{codes_long}
use Rattle.link_frames.specs.Limits.{FitsSigned, FitsValue}
use Rattle.link_frames.specs.Spelling.{signed, unsigned, flag_byte}
use Rattle.link_frames.specs.Texts.{number_with_sign, signed_at, value_at, flag_table, flag_at}

-- what a first byte tells is read again
pub again_as : {X : Type 0} (spell : X → List ℕ) (table : List (ℕ × Read X)) (tag : ℕ) (read : Read X) (x : X)
    (text rest : List ℕ) → spell x ≡ tag ∷ text → picked table tag ≡ read → read (text ++ rest) ≡ Some (x, rest)
    → tagged_at table (spell x ++ rest) ≡ Some (x, rest)
again_as {X = X} spell table tag read x text rest same is again = ap (λ (t : List ℕ). tagged_at table (t ++ rest)) same
    ∙ ap (λ (r : Read X). r (text ++ rest)) is ∙ again

back_by : (b : Bool) (n : ℕ) → nat_lt n (2 ^ 63) ≡ b → n < 2 ^ 64 → unsigned (if b then pos n else negsuc (2 ^ 64 - 1 - n)) ≡ n
back_by true n is lt = refl
back_by false n is lt = omega arith

signed_back : (n : ℕ) → n < 2 ^ 64 → unsigned (number_with_sign n) ≡ n
signed_back n lt = back_by (nat_lt n (2 ^ 63)) n refl lt

fits_by : (b : Bool) (n : ℕ) → nat_lt n (2 ^ 63) ≡ b → n < 2 ^ 64 → FitsSigned (if b then pos n else negsuc (2 ^ 64 - 1 - n))
fits_by true n is lt = grind (arith, nat_tests)
fits_by false n is lt = grind (arith, nat_tests)

low_is : (n : ℕ) → n < 2 ^ 63 → nat_lt n (2 ^ 63) ≡ true
low_is n lt = grind (arith, nat_tests)

high_is : (n : ℕ) → n < 2 ^ 63 → nat_lt (2 ^ 64 - 1 - n) (2 ^ 63) ≡ false
high_is n lt = grind (arith, nat_tests)

signed_again : (z : ℤ) → FitsSigned z → number_with_sign (unsigned z) ≡ z
signed_again (pos n) lt = rw (low_is n lt) refl
signed_again (negsuc n) lt =
    let back : 2 ^ 64 - 1 - (2 ^ 64 - 1 - n) ≡ n = omega (arith, lt) in
    rw (high_is n lt) (ap negsuc back)

unsigned_lt : (z : ℤ) → FitsSigned z → IsEight (unsigned z)
unsigned_lt (pos n) lt = omega (arith, lt)
unsigned_lt (negsuc n) lt = omega (arith, lt)

signed_takes : (bytes : List ℕ) (z : ℤ) (rest : List ℕ) → IsBytes bytes → signed_at bytes ≡ Some (z, rest) → Took signed FitsSigned bytes z rest
unfolding signed_at
signed_takes bytes z rest is e =
    let s = step codes_eight (λ x. Some (number_with_sign x.0, x.1)) bytes (z, rest) is e in
    subst (λ (p : ℤ × List ℕ). Took signed FitsSigned bytes p.0 p.1) (some_is (number_with_sign s.0.0, s.0.1) (z, rest) s.2) (record {
      parts = s.1.parts ∙ ap (λ (n : ℕ). eight n ++ s.0.1) (sym (signed_back s.0.0 s.1.fits));
      fits = fits_by (nat_lt s.0.0 (2 ^ 63)) s.0.0 refl s.1.fits;
      behind = s.1.behind;
    })

signed_reads : (z : ℤ) (rest : List ℕ) → FitsSigned z → signed_at (signed z ++ rest) ≡ Some (z, rest)
unfolding signed_at
signed_reads z rest fits = rw (codes_eight.again (unsigned z) rest (unsigned_lt z fits), signed_again z fits) refl

pub codes_signed : Codes signed FitsSigned signed_at
codes_signed = record { takes = signed_takes; again = signed_reads }

pub codes_value : Codes long FitsValue value_at
unfolding value_at
codes_value = codes_tested long IsLong FitsValue long_at (λ value. nat_le (length value) most_space) codes_long
    (λ v fits passes. grind (arith, nat_tests)) (λ v fits. omega (arith, fits)) (λ v fits. grind (arith, nat_tests))

abbrev pub IsFlag : Bool → Type 0
IsFlag b = Unit {0}

flag_reads : (b : Bool) (rest : List ℕ) → IsFlag b → flag_at (flag_byte b ++ rest) ≡ Some (b, rest)
unfolding flag_at
flag_reads true rest fits = refl
flag_reads false rest fits = refl

pub codes_flag : Codes flag_byte IsFlag flag_at
unfolding flag_at
codes_flag = record {
  takes = tagged_takes flag_byte IsFlag flag_table (takes_given flag_byte IsFlag 0 false refl tt, (takes_given flag_byte IsFlag 1 true refl tt, tt));
  again = flag_reads;
}
