-- The value of an op that is read consists of bytes.
use Rattle.std.proofs.Common.{◌≡◌, inl, inr, ◌+◌, ◌<◌, ◌==◌, ℕ, zero, suc, nat_lt, nat_le, List, [], ◌∷◌, All}
use Rattle.std.proofs.Common.{length, replicate, codes, Option, Some, None, Result, Ok, Err, subst}
use Rattle.std.proofs.lemmas.List.Elements.{All-nil, All-cons}
use Rattle.std.specs.List.{slice_split}
use Rattle.std.specs.Result.{result_ok}
use Rattle.std.specs.Str.{bytes_eq}
use Rattle.hex.proofs.HexLemmas.{decode_of-ok}
use Rattle.hex.specs.Hex.{IsBytes, decode_of}
use Rattle.memc_table.specs.Act.{act_value}
use Rattle.memc_table.specs.Ruling.{longest_value}
use Rattle.memc_table.specs.declared.act.Act.{Act}
use Rattle.memc_table.specs.declared.act.Act.TheVariants as act
use Rattle.scenario_text.proofs.ActWords.{ReadsAct, ReadsValue}
use Rattle.scenario_text.proofs.Read.{bound, chosen, passed}
use Rattle.scenario_text.specs.Words.{number_below, hex_value, if_short, repeated_bytes, repeated, value_of_word}

abbrev pub AreBytes : List ℕ → Type 0
AreBytes bytes = All (λ b. b < 256) bytes

none : AreBytes []
none = All-nil (λ b. b < 256)

are_bytes : (xs : List ℕ) → IsBytes xs → AreBytes xs
are_bytes [] h = none
are_bytes (x ∷ xs) h = All-cons (λ b. b < 256) x xs (h 0) (are_bytes xs (λ i. h (suc i)))

are_bytes-same : (n b : ℕ) → b < 256 → AreBytes (replicate n b)
are_bytes-same zero b h = none
are_bytes-same (suc n) b h = All-cons (λ b. b < 256) b (replicate n b) h (are_bytes-same n b h)

result_ok-some : {A E : Type 0} (r : Result A E) (x : A) → result_ok r ≡ Some x → r ≡ Ok x
result_ok-some (Ok y) x is = cc is
result_ok-some (Err e) x is = cc is

hex_value-bytes : (word value : List ℕ) → hex_value word ≡ Some value → IsBytes value
hex_value-bytes word value is = (decode_of-ok word value (result_ok-some (decode_of word) value is)).3

if_short-value : (o : Option (List ℕ)) (value : List ℕ) → if_short o ≡ Some value → o ≡ Some value
if_short-value None value is = cc is
if_short-value (Some x) value is = (passed (nat_le (length x) longest_value) (Some x) value is).1

bytes_of-bytes : (n : ℕ) (byte value : List ℕ) → IsBytes byte → repeated_bytes n byte ≡ Some value → AreBytes value
bytes_of-bytes n [] value h is = cc is
bytes_of-bytes n (b ∷ []) value h is =
    let same : replicate n b ≡ value = cc ((passed (nat_lt 0 n) (Some (replicate n b)) value is).1) in
    subst AreBytes same (are_bytes-same n b (h 0))
bytes_of-bytes n (b ∷ c ∷ bs) value h is = cc is

repeated-bytes : (parts : List (List ℕ)) (value : List ℕ) → repeated parts ≡ Some value → AreBytes value
repeated-bytes [] value is = cc is
repeated-bytes (len ∷ []) value is = cc is
repeated-bytes (len ∷ digits ∷ []) value is =
    let n = bound (number_below (longest_value + 1) len) _ value is in
    let byte = bound (hex_value digits) _ value n.2 in
    bytes_of-bytes n.0 byte.0 value (hex_value-bytes digits byte.0 byte.1) byte.2
repeated-bytes (len ∷ digits ∷ more ∷ parts) value is = cc is

value_of_word-bytes : (word value : List ℕ) → value_of_word word ≡ Some value → AreBytes value
unfolding value_of_word
value_of_word-bytes [] value is = cc is
value_of_word-bytes (b ∷ bs) value is = elim (chosen (bytes_eq (b ∷ bs) (codes "-")) (Some []) _ value is) [
  | inl empty ↦ let same : [] ≡ value = cc empty in subst AreBytes same none
  | inr some ↦ elim (chosen (b == 42) _ _ value some) [
    | inl many ↦ repeated-bytes (slice_split (λ c. c == 42) bs) value many
    | inr digits ↦ are_bytes value (hex_value-bytes (b ∷ bs) value (if_short-value (hex_value (b ∷ bs)) value digits))
  ]
]

value-bytes : (value : List ℕ) → ReadsValue value → AreBytes value
value-bytes value read = value_of_word-bytes read.0 value read.1

-- the value of an op that is read consists of bytes
pub act-bytes : (a : Act) → ReadsAct a → AreBytes (act_value a)
act-bytes (act.Set key flags expiry value) read = value-bytes value read.1.valued
act-bytes (act.Add key flags expiry value) read = value-bytes value read.1.valued
act-bytes (act.Replace key flags expiry value) read = value-bytes value read.1.valued
act-bytes (act.Cas key flags expiry cas value) read = value-bytes value read.1.valued
act-bytes (act.Append key value) read = value-bytes value read.1
act-bytes (act.Prepend key value) read = value-bytes value read.1
act-bytes a read = none
