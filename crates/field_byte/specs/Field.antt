-- The field of 256 elements, GF(2^8) with the polynomial 0x11D: bytes, whose sum is exclusive or.
use Rattle.std.specs.Prelude.{ℕ, zero, suc, ◌*◌, ◌/◌, ◌%◌, ◌==◌, if◌then◌else◌, bit_xor}

-- one place to the left, and where bit 7 was set, 0x1D added
abbrev pub double : ℕ → ℕ
double a = bit_xor (a * 2 % 256) (a / 128 * 29)

-- the sum, over those of the lowest n bits of b that are set, of a doubled as often as the bit's place says
unfoldable pub product_of_bits : ℕ → ℕ → ℕ → ℕ
product_of_bits zero a b = 0
product_of_bits (suc n) a b = bit_xor (b % 2 * a) (product_of_bits n (double a) (b / 2))

-- the product of two bytes
unfoldable pub product : ℕ → ℕ → ℕ
product a b = product_of_bits 8 a b

-- the greatest number below n whose product with a is 1, and 0 where there is none
unfoldable pub inverse_below : ℕ → ℕ → ℕ
inverse_below zero a = 0
inverse_below (suc n) a = if product a n == 1 then n else inverse_below n a

-- the byte whose product with a is 1, where a is a byte and not 0
unfoldable pub inverse : ℕ → ℕ
inverse a = inverse_below 256 a

-- 1 multiplied n times by 2
unfoldable pub power : ℕ → ℕ
power zero = 1
power (suc n) = product (power n) 2
