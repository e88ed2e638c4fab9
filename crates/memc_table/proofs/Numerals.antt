use Rattle.std.proofs.Common.{suc, ◌≡◌, ℕ, ◌+◌, ◌-◌, ◌*◌, ◌^◌, ◌<◌, ◌≤◌, nat_lt, ◌&&◌, List, [], ◌∷◌, length, drop}
use Rattle.std.proofs.Common.{slice_index, Option, Some, None, if◌then◌else◌, arith}
use Rattle.std.proofs.lemmas.Grind.{common_steps}
use Rattle.std.proofs.Math.Seq.{drop-cons}
use Rattle.std.specs.Char.{digit_value}
use Rattle.std.specs.Str.{all_ascii_digits}
use Rattle.std.specs.Str.Parse.{digits_value_after}

-- what `value_of` reads where the digits follow those of n
abbrev pub value_after : ℕ → List ℕ → Option ℕ
value_after n bytes = if all_ascii_digits bytes && nat_lt (digits_value_after 10 n bytes) (2 ^ 64) then Some (digits_value_after 10 n bytes) else None

-- digits that follow make no number smaller
pub digits_value_after-le : (n : ℕ) (bytes : List ℕ) → n ≤ digits_value_after 10 n bytes
digits_value_after-le n [] = omega arith
digits_value_after-le n (b ∷ bs) = omega (arith, digits_value_after-le (n * 10 + digit_value b) bs)

pub value_after-large : (n : ℕ) (bytes : List ℕ) → 2 ^ 64 ≤ digits_value_after 10 n bytes → value_after n bytes ≡ None
value_after-large n bytes large = grind (arith, common_steps)

pub value_after-nil : (n i : ℕ) (s : List ℕ) → length s ≤ i → n < 2 ^ 64 → value_after n (drop i s) ≡ Some n
value_after-nil n i s over below = grind (arith, common_steps)

pub value_after-overflow : (n i : ℕ) (s : List ℕ) → i < length s → 2 ^ 64 ≤ n * 10 + digit_value (slice_index s i) → value_after n (drop i s) ≡ None
value_after-overflow n i s within large =
    rw (drop-cons s i 0)
    (value_after-large n (slice_index s i ∷ drop (suc i) s)
    (omega (arith, digits_value_after-le (n * 10 + digit_value (slice_index s i)) (drop (suc i) s))))

pub digit_value-ascii : (b : ℕ) → 48 ≤ b → b ≤ 57 → digit_value b ≡ b - 48
digit_value-ascii b low high = grind (arith, common_steps)
