use Rattle.std.specs.Prelude.{ℕ, ◌^◌, nat_le, nat_lt, ◌&&◌, List, length, Option, Some, None, if◌then◌else◌}
use Rattle.std.specs.Str.{all_ascii_digits}
use Rattle.std.specs.Str.Parse.{digits_value}

-- the number that decimal digits stand for, if it fits into 64 bits
abbrev pub numeral_value : List ℕ → Option ℕ
numeral_value bytes = if all_ascii_digits bytes && nat_lt (digits_value 10 bytes) (2 ^ 64) then Some (digits_value 10 bytes) else None

-- the number of a numeral: 1 to 20 decimal digits that stand for a number below 2^64
abbrev pub number_of : List ℕ → Option ℕ
number_of bytes = if nat_le 1 (length bytes) && nat_le (length bytes) 20 then numeral_value bytes else None
