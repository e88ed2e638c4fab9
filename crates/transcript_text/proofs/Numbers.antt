-- A printed number is read as itself, and nothing else is read as a number.
use Rattle.std.proofs.Common.{◌≡◌, ◌≢◌, ◌<◌, ◌≤◌, ◌+◌, ◌^◌, ◌&&◌, ℕ, Bool, true, false, List, [], ◌∷◌, ◌++◌, ◌∙◌}
use Rattle.std.proofs.Common.{length, nat_lt, nat_le, Option, Some, None, if◌then◌else◌, append_assoc, zero, suc, refl}
use Rattle.std.proofs.Common.{sym, ap, subst, arith}
use Rattle.std.proofs.Math.ListN.{get_or}
use Rattle.std.proofs.lemmas.Bool.Decides.{nat_tests}
use Rattle.std.proofs.lemmas.Fmt.{decimal_digit, decimal_injective, decimal_nonempty, digits_decimal}
use Rattle.std.proofs.lemmas.Fmt.{digits_value-decimal, decimal-digits_value, first_decimal, length-decimal-le}
use Rattle.std.proofs.lemmas.Grind.{common_steps}
use Rattle.std.proofs.lemmas.List.Elements.{All-nil, All-cons}
use Rattle.std.proofs.lemmas.Str.Parse.{IsNumeralModel, numerals_by_value, tells_all_ascii_digits}
use Rattle.std.specs.Char.{is_ascii_digit}
use Rattle.std.specs.Fmt.{decimal}
use Rattle.std.specs.Str.{all_ascii_digits}
use Rattle.std.specs.Str.Parse.{digits_value}
use Rattle.memc_table.specs.Numeral.{number_of, numeral_value}
use Rattle.transcript_text.specs.Reading.{ReadsAs, ReadsFront, Lacks}
use Rattle.transcript_text.specs.Texts.{FitsNumber}
use Rattle.transcript_text.proofs.Cuts.{Lacks-head, Lacks-tail, cut_same, there}

pub own : IsNumeralModel (λ ds. all_ascii_digits ds ≡ true) (digits_value 10)
own = numerals_by_value _ tells_all_ascii_digits

-- a zero stands before other digits
abbrev pub HasLeadingZero : List ℕ → Type 0
HasLeadingZero word = (1 < length word) × (get_or word 0 0 ≡ 48)

pub number_of-decimal : (n : ℕ) → n < 2 ^ 64 → number_of (decimal n) ≡ Some n
number_of-decimal n fits =
    let digits = digits_decimal own n fits in
    let value = digits_value-decimal own n fits in
    let some = decimal_nonempty n fits in
    let short = length-decimal-le 20 n (omega arith) (omega (arith, fits)) fits in
    rw (digits, value) (grind (arith, nat_tests, common_steps))

-- what a test of two parts that was passed says
both : (a b : Bool) → (a && b) ≡ true → (a ≡ true) × (b ≡ true)
both true true e = (refl, refl)
both true false e = cc e
both false b e = cc e

passed : {A : Type 0} (b : Bool) (x : Option A) (z : A) → (if b then x else None) ≡ Some z → (b ≡ true) × (x ≡ Some z)
passed true x z is = (refl, is)
passed false x z is = cc is

-- a zero alone, where it stands before no other digit
one_digit : (word : List ℕ) → 0 < length word → ¬ (HasLeadingZero word) → get_or word 0 0 ≡ 48 → length word ≡ 1
one_digit [] some plain first = absurd (omega (arith, some))
one_digit (d ∷ []) some plain first = refl
one_digit (d ∷ e ∷ ds) some plain first = absurd (plain (omega arith, first))

pub number_of-same : (word : List ℕ) (n : ℕ) → number_of word ≡ Some n → ¬ (HasLeadingZero word) → (n < 2 ^ 64) × (decimal n ≡ word)
number_of-same word n is plain =
    let outer = passed (nat_le 1 (length word) && nat_le (length word) 20) (numeral_value word) n is in
    let lengths = both (nat_le 1 (length word)) (nat_le (length word) 20) outer.0 in
    let inner = passed (all_ascii_digits word && nat_lt (digits_value 10 word) (2 ^ 64)) (Some (digits_value 10 word)) n outer.1 in
    let digits = both (all_ascii_digits word) (nat_lt (digits_value 10 word) (2 ^ 64)) inner.0 in
    let value : digits_value 10 word ≡ n = cc (inner.1) in
    let some = lengths.0 in
    let small = digits.1 in
    let below : digits_value 10 word < 2 ^ 64 = grind (arith, nat_tests, some, small) in
    let long : 0 < length word = grind (arith, nat_tests, some) in
    (rw value at below, ap decimal (sym value) ∙ decimal-digits_value own word digits.0 long (one_digit word long plain) below)

pub no_leading_zero : (n : ℕ) → n < 2 ^ 64 → ¬ (HasLeadingZero (decimal n))
no_leading_zero zero fits (long, first) = absurd (omega (arith, rw (ap length (decimal_digit 0 (omega arith))) at long))
no_leading_zero (suc n) fits (long, first) = omega (arith, first_decimal (suc n) (omega arith) fits, first)

digits_lack : (b : ℕ) (ds : List ℕ) → b < 48 → all_ascii_digits ds ≡ true → Lacks b ds
digits_lack b [] low digits = All-nil (λ d. d ≢ b)
digits_lack b (d ∷ ds) low digits =
    let parts = both (is_ascii_digit d) (all_ascii_digits ds) digits in
    let digit = parts.0 in
    All-cons (λ d. d ≢ b) d ds (λ same. grind (arith, nat_tests, digit, same, low)) (digits_lack b ds low parts.1)

-- a printed number lacks each byte below the digits
pub Lacks-decimal : (b n : ℕ) → b < 48 → n < 2 ^ 64 → Lacks b (decimal n)
Lacks-decimal b n low fits = digits_lack b (decimal n) low (digits_decimal own n fits)

-- no number is printed as a word with a leading zero
pub reads-leading_zero : (word : List ℕ) → HasLeadingZero word → ReadsAs FitsNumber decimal word None
reads-leading_zero word leading n fits same = no_leading_zero n fits (subst HasLeadingZero (sym same) leading)

pub reads-number_of : (word : List ℕ) → ¬ (HasLeadingZero word) → ReadsAs FitsNumber decimal word (number_of word)
reads-number_of word plain = by (number_of word) refl
  where
    by : (o : Option ℕ) → number_of word ≡ o → ReadsAs FitsNumber decimal word o
    by (Some n) is = number_of-same word n is plain
    by None is = λ n fits same. cc (sym is ∙ rw same at (number_of-decimal n fits))

pub reads-too_large : (word : List ℕ) (limit n : ℕ) → limit < 2 ^ 64 → limit ≤ n
    → ReadsAs FitsNumber decimal word (Some n) → ReadsAs (λ n. n < limit) decimal word None
reads-too_large word limit n bound large (fits, same) = λ m below text.
    let e = decimal_injective m n (omega (arith, below, bound)) fits (text ∙ sym same) in
    omega (arith, below, large, e)

pub reads-below : (word : List ℕ) (limit : ℕ) → limit < 2 ^ 64 → ReadsAs FitsNumber decimal word None → ReadsAs (λ n. n < limit) decimal word None
reads-below word limit bound none = λ n below same. none n (omega (arith, below, bound)) same

-- no number is the front of a line that lacks the byte behind it
pub front-lacks : (Fits : ℕ → Type 0) (byte : ℕ) (line : List ℕ) → Lacks byte line → ReadsFront Fits (λ n. decimal n ++ byte ∷ []) line None
front-lacks Fits byte line lacks = λ n rest fits same.
    there byte (decimal n) rest (rw (append_assoc (decimal n) (byte ∷ []) rest) at (rw (sym same) at lacks))

-- a front is no number where the word before the byte is none
pub front-none : (Fits : ℕ → Type 0) (byte : ℕ) (line word rest : List ℕ) → byte < 48 → ((n : ℕ) → Fits n → n < 2 ^ 64)
    → Lacks byte word → word ++ byte ∷ rest ≡ line → ReadsAs Fits decimal word None
    → ReadsFront Fits (λ n. decimal n ++ byte ∷ []) line None
front-none Fits byte line word rest low bound lacks cut none = λ n more fits same.
    let line_is : decimal n ++ byte ∷ more ≡ word ++ byte ∷ rest = sym (append_assoc (decimal n) (byte ∷ []) more) ∙ same ∙ sym cut in
    none n fits (cut_same byte (decimal n) word more rest (Lacks-decimal byte n low (bound n fits)) lacks line_is).0
