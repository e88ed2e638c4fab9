-- Lists of bytes as vectors over the field.
use Rattle.std.specs.Prelude.{ℕ, zero, suc, List, map, bit_xor}
use Rattle.std.specs.Simd.Lanes.{zip2}
use Rattle.field_byte.specs.Field.{product}

-- the sums of the bytes of two lists, place by place
unfoldable pub add_bytes : List ℕ → List ℕ → List ℕ
add_bytes xs ys = zip2 bit_xor xs ys

-- the product of coef with each byte
unfoldable pub scale : ℕ → List ℕ → List ℕ
scale coef xs = map (product coef) xs

-- the sum of f at 0, 1 and so on below n
unfoldable pub field_sum : ℕ → (ℕ → ℕ) → ℕ
field_sum zero f = 0
field_sum (suc n) f = bit_xor (field_sum n f) (f n)
