-- The limits of a key as a test.
use Rattle.std.proofs.Common.{◌≡◌, ℕ, ◌==◌, ◌&&◌, nat_lt, nat_le, not, Bool, true, false, List, length, Some, None, refl, arith}
use Rattle.std.proofs.lemmas.Bool.Decides.{nat_tests}
use Rattle.std.proofs.lemmas.Grind.{common_steps}
use Rattle.std.proofs.lemmas.List.Sums.{list_all-from_AllPass, AllPass-from_list_all}
use Rattle.std.specs.List.{list_all}
use Rattle.group_types.specs.Key.{IsKey, IsKeyByte}
use Rattle.wire_codec.specs.Reading.{one_at, decode_bytes, key_at, passes_key}

key_byte_passes : (b : ℕ) → IsKeyByte b → (nat_lt 32 b && not (b == 127)) ≡ true
key_byte_passes b (low, plain) = grind (arith, nat_tests, common_steps)

is_key_byte : (b : ℕ) → (nat_lt 32 b && not (b == 127)) ≡ true → IsKeyByte b
is_key_byte b passes = grind (arith, nat_tests, common_steps)

pub key-passes : (word : List ℕ) → IsKey word → passes_key word ≡ true
key-passes word key =
    let bytes = list_all-from_AllPass (λ b. nat_lt 32 b && not (b == 127)) word (λ i d within. key_byte_passes _ (key.plain i d within)) in
    let some = key.some in
    let short = key.short in
    grind (arith, nat_tests, common_steps)

both_pass : (a b c : Bool) → (a && b && c) ≡ true → (a ≡ true) × (b ≡ true) × (c ≡ true)
both_pass true true true is = (refl, refl, refl)
both_pass true true false is = absurd cc
both_pass true false c is = absurd cc
both_pass false b c is = absurd cc

pub passes-key : (word : List ℕ) → passes_key word ≡ true → IsKey word
passes-key word passes =
    let p = both_pass (nat_le 1 (length word)) (nat_le (length word) 250) (list_all (λ b. nat_lt 32 b && not (b == 127)) word) passes in
    let bytes = AllPass-from_list_all (λ b. nat_lt 32 b && not (b == 127)) word p.2 in
    let some = p.0 in
    let short = p.1 in
    record {
      some = grind (arith, nat_tests, common_steps);
      short = grind (arith, nat_tests, common_steps);
      plain = λ i d within. is_key_byte _ (bytes i d within);
    }

fails-key_by : (b : Bool) (word : List ℕ) → passes_key word ≡ b → (¬ (IsKey word)) → passes_key word ≡ false
fails-key_by true word is none = absurd (none (passes-key word is))
fails-key_by false word is none = is

fails-key : (word : List ℕ) → (¬ (IsKey word)) → passes_key word ≡ false
fails-key word none = fails-key_by (passes_key word) word refl none

pub key-read : (bytes behind rest key : List ℕ) (n : ℕ) → one_at bytes ≡ Some (n, behind)
    → decode_bytes n behind ≡ Some (key, rest) → IsKey key → key_at bytes ≡ Some (key, rest)
unfolding key_at
key-read bytes behind rest key n count front is = rw (count, front, key-passes key is) refl

pub key-none : (bytes behind rest key : List ℕ) (n : ℕ) → one_at bytes ≡ Some (n, behind)
    → decode_bytes n behind ≡ Some (key, rest) → (¬ (IsKey key)) → key_at bytes ≡ None
unfolding key_at
key-none bytes behind rest key n count front none = rw (count, front, fails-key key none) refl
