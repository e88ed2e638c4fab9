-- Texts that hold no line end: numbers and values.
use Rattle.std.proofs.Common.{◌≡◌, ◌≢◌, ◌+◌, ◌/◌, ◌%◌, ◌==◌, ℕ, ℤ, pos, negsuc, zero, suc, Bool, true, false, nat_lt}
use Rattle.std.proofs.Common.{List, [], ◌∷◌, ◌++◌, codes, if◌then◌else◌, refl, sym, subst, arith}
use Rattle.std.proofs.lemmas.Bool.Decides.{nat_tests}
use Rattle.std.proofs.lemmas.List.Elements.{All-append, All-cons, All-nil}
use Rattle.std.specs.Fmt.{decimal, digit_glyph, digits, digits_onto, signed_decimal}
use Rattle.std.specs.Prelude.{All, slice_index}
use Rattle.hex.specs.Hex.{encode_with, lower_digits}
use Rattle.scenario_text.specs.Texts.{spaced_number, value_text}

-- a text without a line end
abbrev pub Plain : List ℕ → Type 0
Plain text = All (λ b. b ≢ 10) text

pub none : Plain []
none = All-nil (λ b. b ≢ 10)

cons : (b : ℕ) (text : List ℕ) → b ≢ 10 → Plain text → Plain (b ∷ text)
cons b text other plain = All-cons (λ c. c ≢ 10) b text other plain

pub append : (front text : List ℕ) → Plain front → Plain text → Plain (front ++ text)
append front text first plain = All-append (λ b. b ≢ 10) front text first plain

abbrev is_plain : List ℕ → Bool
is_plain [] = true
is_plain (b ∷ text) = if b == 10 then false else is_plain text

-- a text that is written out
pub word : (text : List ℕ) → is_plain text ≡ true → Plain text
word [] is = none
word (b ∷ text) is = by (b == 10) refl is (λ rest. word text rest)
  where
    by : (t : Bool) → (b == 10) ≡ t → (if t then false else is_plain text) ≡ true → (is_plain text ≡ true → Plain text) → Plain (b ∷ text)
    by true same fails later = cc fails
    by false other passes later = cons b text (λ same. grind (arith, nat_tests, other, same)) (later passes)

-- ---- numbers and values

glyph : (d : ℕ) → digit_glyph false d ≢ 10
glyph d = by (nat_lt d 10)
  where
    by : (b : Bool) → (if b then 48 + d else (87 + d)) ≢ 10
    by true same = omega (arith, same)
    by false same = omega (arith, same)

onto : (k n : ℕ) (text : List ℕ) → Plain text → Plain (digits_onto k 10 false n text)
onto zero n text plain = plain
onto (suc k) n text plain = by (n / 10 == 0) (onto k (n / 10) (digit_glyph false (n % 10) ∷ text) here)
  where
    here : Plain (digit_glyph false (n % 10) ∷ text)
    here = cons (digit_glyph false (n % 10)) text (glyph (n % 10)) plain

    by : (b : Bool) → Plain (digits_onto k 10 false (n / 10) (digit_glyph false (n % 10) ∷ text))
        → Plain (if b then digit_glyph false (n % 10) ∷ text else digits_onto k 10 false (n / 10) (digit_glyph false (n % 10) ∷ text))
    by true later = here
    by false later = later

some-digits : (k n : ℕ) → decimal n ≡ digits_onto k 10 false n [] → Plain (decimal n)
some-digits k n is = subst Plain (sym is) (onto k n [] none)

pub number : (n : ℕ) → Plain (decimal n)
unfolding digits
number n = some-digits 64 n refl

pub behind-space : (n : ℕ) → Plain (spaced_number n)
behind-space n = cons 32 (decimal n) (λ same. omega (arith, same)) (number n)

pub signed : (z : ℤ) → Plain (signed_decimal z)
signed (pos n) = number n
signed (negsuc n) = cons 45 (decimal (suc n)) (λ same. omega (arith, same)) (number (suc n))

at-index : (text : List ℕ) (i : ℕ) → is_plain text ≡ true → slice_index text i ≢ 10
at-index [] i is = λ same. omega (arith, same)
at-index (b ∷ text) zero is = first (b == 10) refl is
  where
    first : (t : Bool) → (b == 10) ≡ t → (if t then false else is_plain text) ≡ true → b ≢ 10
    first true same fails = cc fails
    first false other passes = λ same. grind (arith, nat_tests, other, same)
at-index (b ∷ text) (suc i) is = at-index text i (rest (b == 10) is)
  where
    rest : (t : Bool) → (if t then false else is_plain text) ≡ true → is_plain text ≡ true
    rest true fails = cc fails
    rest false passes = passes

hexadecimal : (bytes : List ℕ) → Plain (encode_with lower_digits bytes)
unfolding encode_with
hexadecimal [] = none
hexadecimal (b ∷ bytes) =
    cons (slice_index lower_digits (b / 16)) (slice_index lower_digits (b % 16) ∷ encode_with lower_digits bytes) (at-index lower_digits (b / 16) refl)
    (cons (slice_index lower_digits (b % 16)) (encode_with lower_digits bytes) (at-index lower_digits (b % 16) refl) (hexadecimal bytes))

pub value : (bytes : List ℕ) → Plain (value_text bytes)
value [] = word (codes "-") refl
value (b ∷ bytes) = hexadecimal (b ∷ bytes)
