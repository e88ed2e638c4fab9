-- CRC-32C (Castagnoli), bit by bit: the polynomial 0x1EDC6F41, whose bits stand in the other order, 0x82F63B78, since the lowest
-- bit of a byte comes first.
use Rattle.std.specs.Prelude.{ℕ, zero, suc, ◌*◌, ◌/◌, ◌%◌, List, [], ◌∷◌, bit_xor}

-- a register shifted by one bit; where the bit that falls out was set, the polynomial is added
abbrev pub shifted_once : ℕ → ℕ
shifted_once register = bit_xor (register / 2) (register % 2 * 2197175160)

unfoldable pub shifted_by : ℕ → ℕ → ℕ
shifted_by zero register = register
shifted_by (suc n) register = shifted_by n (shifted_once register)

-- each byte is added to the register, which is shifted by its eight bits
unfoldable pub after_bytes : ℕ → List ℕ → ℕ
after_bytes register [] = register
after_bytes register (byte ∷ bytes) = after_bytes (shifted_by 8 (bit_xor register byte)) bytes

abbrev pub all_ones : ℕ
all_ones = 4294967295

-- the sum of bytes: the register begins as ones, and is turned over at the end
abbrev pub checksum : List ℕ → ℕ
checksum bytes = bit_xor (after_bytes all_ones bytes) all_ones
