-- A printed value is two lower-case digits for each byte.
use Rattle.std.proofs.Common.{drop, ◌≡◌, ◌≢◌, ◌⊎◌, inl, inr, ◌<◌, ◌≤◌, ◌+◌, ◌-◌, ◌*◌, ◌/◌, ◌%◌, ◌==◌, ◌&&◌, ℕ, zero}
use Rattle.std.proofs.Common.{suc, Bool, true, false, List, [], ◌∷◌, ◌++◌, ◌∙◌, All, length, slice_index, Ok, refl, sym}
use Rattle.std.proofs.Common.{ap, subst, arith, codes}
use Rattle.std.specs.Prelude.{IsTrue, ◌↔◌}
use Rattle.std.proofs.Math.ListN.{drop_of_length-le}
use Rattle.std.proofs.lemmas.Bool.{and_parts, eqb-true, cases_lt}
use Rattle.std.proofs.lemmas.List.{append_cancel_left, drop_more}
use Rattle.std.proofs.lemmas.List.Elements.{All-nil, All-cons, All-head, All-tail, All-weaker}
use Rattle.hex.proofs.HexLemmas.{decode_of-encode_lower, decode_of-same, length-encode_with}
use Rattle.hex.specs.Hex.{IsBytes, encode_with, encode_lower, lower_digits, decode_of}
use Rattle.scenario_text.specs.Texts.{value_text}
use Rattle.transcript_text.specs.Forms.{AreBytes}
use Rattle.transcript_text.specs.Parts.{IsLowerDigit}
use Rattle.transcript_text.specs.Reading.{Lacks}
use Rattle.transcript_text.specs.Texts.{IsValueText}

-- a test of each number below n
abbrev passes_below : ℕ → (ℕ → Bool) → Bool
passes_below zero p = true
passes_below (suc n) p = p n && passes_below n p

passes-at : (n : ℕ) (p : ℕ → Bool) → passes_below n p ≡ true → (i : ℕ) → i < n → p i ≡ true
passes-at zero p all i below = absurd (omega (arith, below))
passes-at (suc n) p all i below =
    let parts = and_parts (p n) (passes_below n p) all in
    elim (cases_lt i n) [
      | inl less ↦ passes-at n p parts.1 i less
      | inr top ↦ let e : i ≡ n = omega (arith, below, top) in rw e parts.0
    ]

pub low_digit : (n : ℕ) → n < 10 → slice_index lower_digits n ≡ 48 + n
low_digit n below = eqb-true _ (48 + n) (passes-at 10 (λ n. slice_index lower_digits n == 48 + n) refl n below)

high_digits : passes_below 6 (λ n. slice_index lower_digits (10 + n) == 97 + n) ≡ true
high_digits = refl

pub high_digit : (n : ℕ) → 10 ≤ n → n < 16 → slice_index lower_digits n ≡ 87 + n
high_digit n low below =
    let e : 10 + (n - 10) ≡ n = omega (arith, low) in
    let is = eqb-true _ (97 + (n - 10)) (passes-at 6 (λ n. slice_index lower_digits (10 + n) == 97 + n) high_digits (n - 10) (omega (arith, low, below))) in
    rw e at is ∙ omega (arith, low)

lower_digit : (n : ℕ) → n < 16 → IsLowerDigit (slice_index lower_digits n)
lower_digit n below = elim (cases_lt n 10) [
  | inl less ↦ let e = low_digit n less in inl (omega (arith, e, less), omega (arith, e, less))
  | inr more ↦ let e = high_digit n (omega (arith, more)) below in inr (omega (arith, e, more, below), omega (arith, e, more, below))
]

-- the number of a digit
digit_number : (d : ℕ) → IsLowerDigit d → (n : ℕ) × (n < 16) × (slice_index lower_digits n ≡ d)
digit_number d (inl (low, high)) = (d - 48, omega (arith, low, high), low_digit (d - 48) (omega (arith, low, high)) ∙ omega (arith, low))
digit_number d (inr (low, high)) = (d - 87, omega (arith, low, high), high_digit (d - 87) (omega (arith, low)) (omega (arith, low, high)) ∙ omega (arith, low))

abbrev Encoding : List ℕ → Type 0
Encoding word = (bytes : List ℕ) × AreBytes bytes × (encode_lower bytes ≡ word)

-- an even number of digits is the text of bytes
pub encoding : (word : List ℕ) → All IsLowerDigit word → length word % 2 ≡ 0 → Encoding word
unfolding encode_with
encoding [] digits even = ([], All-nil (λ b. b < 256), refl)
encoding (d ∷ []) digits even = absurd (omega (arith, even))
encoding (d ∷ e ∷ word) digits even =
    let tail = All-tail IsLowerDigit d (e ∷ word) digits in
    let high = digit_number d (All-head IsLowerDigit d (e ∷ word) digits) in
    let low = digit_number e (All-head IsLowerDigit e word tail) in
    let rest = encoding word (All-tail IsLowerDigit e word tail) (omega (arith, even)) in
    let h = high.1 in
    let l = low.1 in
    let byte : ℕ = high.0 * 16 + low.0 in
    let upper : byte / 16 ≡ high.0 = omega (arith, h, l) in
    let under : byte % 16 ≡ low.0 = omega (arith, h, l) in
    (byte ∷ rest.0, All-cons (λ b. b < 256) byte rest.0 (omega (arith, h, l)) rest.1, rw (upper, under, high.2, low.2, rest.2) refl)

-- the text of bytes has digits alone
pub digits-encode : (bytes : List ℕ) → AreBytes bytes → All IsLowerDigit (encode_lower bytes)
unfolding encode_with
digits-encode [] bytes = All-nil IsLowerDigit
digits-encode (b ∷ bs) bytes =
    let fits = All-head (λ b. b < 256) b bs bytes in
    All-cons IsLowerDigit (slice_index lower_digits (b / 16)) (slice_index lower_digits (b % 16) ∷ encode_lower bs) (lower_digit (b / 16) (omega (arith, fits)))
    (All-cons IsLowerDigit (slice_index lower_digits (b % 16)) (encode_lower bs) (lower_digit (b % 16) (omega arith))
    (digits-encode bs (All-tail (λ b. b < 256) b bs bytes)))

pub even-encode : (bytes : List ℕ) → length (encode_lower bytes) % 2 ≡ 0
even-encode bytes = let e = length-encode_with lower_digits bytes in omega (arith, e)

-- what the text of a value is
pub record AreDigits (word : List ℕ) : Type 0 where
  pub some : 0 < length word
  pub even : length word % 2 ≡ 0
  pub digits : All IsLowerDigit word

pub value-dash : IsValueText (codes "-")
value-dash = ([], All-nil (λ b. b < 256), refl)

pub value-digits : (word : List ℕ) → AreDigits word → IsValueText word
unfolding encode_with
value-digits word are = by (encoding word are.digits are.even)
  where
    by : Encoding word → IsValueText word
    by ([], bytes, same) = absurd (let some = are.some in let none : 0 ≡ length word = ap length same in omega (arith, some, none))
    by (b ∷ bs, bytes, same) = (b ∷ bs, bytes, same)

pub value-form : (word : List ℕ) → IsValueText word → (word ≡ codes "-") ⊎ AreDigits word
value-form word ([], bytes, same) = inl (sym same)
value-form word (b ∷ bs, bytes, same) =
    inr (subst AreDigits same (record {
      some = let e = length-encode_with lower_digits (b ∷ bs) in omega (arith, e);
      even = even-encode (b ∷ bs);
      digits = digits-encode (b ∷ bs) bytes;
    }))

is_bytes : (xs : List ℕ) → AreBytes xs → IsBytes xs
is_bytes [] bytes i = omega arith
is_bytes (x ∷ xs) bytes zero = All-head (λ b. b < 256) x xs bytes
is_bytes (x ∷ xs) bytes (suc i) = is_bytes xs (All-tail (λ b. b < 256) x xs bytes) i

-- a value has one text, and a text is of one value
pub value_same : (a b : List ℕ) → AreBytes a → AreBytes b → value_text a ≡ value_text b → a ≡ b
value_same [] [] ab bb same = refl
value_same [] (b ∷ bs) ab bb same = absurd (let e = length-encode_with lower_digits (b ∷ bs) in omega (arith, e, ap length same))
value_same (a ∷ us) [] ab bb same = absurd (let e = length-encode_with lower_digits (a ∷ us) in omega (arith, e, ap length same))
value_same (a ∷ us) (b ∷ bs) ab bb same =
    decode_of-same (encode_lower (a ∷ us)) (a ∷ us) (b ∷ bs) (decode_of-encode_lower (a ∷ us) (is_bytes (a ∷ us) ab))
    (ap decode_of same ∙ decode_of-encode_lower (b ∷ bs) (is_bytes (b ∷ bs) bb))

-- the text of a value has no byte that is a space or a control character
pub plain-value : (bytes : List ℕ) → AreBytes bytes → All (λ b. 32 < b) (value_text bytes)
plain-value [] bytes = All-cons (λ b. 32 < b) 45 [] (omega arith) (All-nil (λ b. 32 < b))
plain-value (b ∷ bs) bytes = All-weaker IsLowerDigit (λ b. 32 < b) above (encode_lower (b ∷ bs)) (digits-encode (b ∷ bs) bytes)
  where
    above : (d : ℕ) → IsLowerDigit d → 32 < d
    above d (inl (low, high)) = omega (arith, low)
    above d (inr (low, high)) = omega (arith, low)

-- a text of such bytes lacks each of those
pub lacks : (b : ℕ) (text : List ℕ) → b ≤ 32 → All (λ b. 32 < b) text → Lacks b text
lacks b text low plain = All-weaker (λ b. 32 < b) (λ d. d ≢ b) (λ d above same. omega (arith, above, low, same)) text plain

-- a word other than `-` whose length is even is a value where its bytes are digits
pub value-test : (word : List ℕ) (b : Bool) → word ≢ codes "-" → 0 < length word → length word % 2 ≡ 0
    → (IsTrue b ↔ All IsLowerDigit word) → IsTrue b ↔ IsValueText word
value-test word b other some even digits = (
  λ told. value-digits word (record { some = some; even = even; digits = digits.0 told }),
  λ value. elim (value-form word value) [
    | inl dash ↦ absurd (other dash)
    | inr are ↦ digits.1 are.digits
  ],
)

pub value-none : (word : List ℕ) → word ≢ codes "-" → ¬ (AreDigits word) → IsTrue false ↔ IsValueText word
value-none word other none = (
  λ told. absurd (cc told),
  λ value. elim (value-form word value) [
    | inl dash ↦ absurd (other dash)
    | inr are ↦ absurd (none are)
  ],
)

-- the two digits of a byte
pub one-byte : (b high low : ℕ) → high ≡ slice_index lower_digits (b / 16) → low ≡ slice_index lower_digits (b % 16) → encode_lower (b ∷ []) ≡ high ∷ low ∷ []
unfolding encode_with
one-byte b high low h l = rw (h, l) refl

encode-cons : (b : ℕ) (bs : List ℕ) → encode_lower (b ∷ bs) ≡ encode_lower (b ∷ []) ++ encode_lower bs
unfolding encode_with
encode-cons b bs = refl

encode-drop : (bytes : List ℕ) (i : ℕ) → i < length bytes → encode_lower (drop i bytes)
    ≡ encode_lower (slice_index bytes i ∷ []) ++ encode_lower (drop (i + 1) bytes)
encode-drop bytes i below = ap (λ (t : List ℕ). encode_lower t) (drop_more bytes i 0 below) ∙ encode-cons (slice_index bytes i) (drop (i + 1) bytes)

-- the digits of the bytes from i on are what is left of a word exactly where those of all are the word
abbrev pub SameDigits : List ℕ → List ℕ → ℕ → List ℕ → Type 0
SameDigits word bytes i rest = (encode_lower (drop i bytes) ≡ rest) ↔ (encode_lower bytes ≡ word)

pub digits-none : (word bytes rest : List ℕ) (i : ℕ) → i < length bytes → ((more : List ℕ) → rest ≢ encode_lower (slice_index bytes i ∷ []) ++ more)
    → SameDigits word bytes i rest → IsTrue false ↔ (encode_lower bytes ≡ word)
digits-none word bytes rest i below none same =
    (λ told. absurd (cc told), λ is. absurd (none (encode_lower (drop (i + 1) bytes)) (sym (same.1 is) ∙ encode-drop bytes i below)))

pub digits-more : (word bytes rest more : List ℕ) (i : ℕ) → i < length bytes → rest ≡ encode_lower (slice_index bytes i ∷ []) ++ more
    → SameDigits word bytes i rest → SameDigits word bytes (i + 1) more
digits-more word bytes rest more i below is same = (
  λ told. same.0 (encode-drop bytes i below ∙ ap (λ (t : List ℕ). encode_lower (slice_index bytes i ∷ []) ++ t) told ∙ sym is),
  λ told. append_cancel_left (encode_lower (slice_index bytes i ∷ [])) (encode_lower (drop (i + 1) bytes)) more
      (sym (encode-drop bytes i below) ∙ same.1 told ∙ is),
)

pub digits-done : (word bytes rest : List ℕ) (i : ℕ) (b : Bool) → length bytes ≤ i → (IsTrue b ↔ (rest ≡ []))
    → SameDigits word bytes i rest → IsTrue b ↔ (encode_lower bytes ≡ word)
unfolding encode_with
digits-done word bytes rest i b over empty same =
    let none : drop i bytes ≡ [] = drop_of_length-le bytes over in
    let left = rw none at same in
    (λ told. left.0 (sym (empty.0 told)), λ is. empty.1 (sym (left.1 is)))
