-- Sums of more than one product.
use Rattle.std.specs.Prelude.{ℕ, Bool, true, false, List, length, replicate, slice_index}
use Rattle.field_byte.specs.Vectors.{add_bytes, scale}

-- bytes, with the product of p and xs and that of q and ys added
abbrev pub add_two : ℕ → ℕ → List ℕ → List ℕ → List ℕ → List ℕ
add_two p q xs ys bytes = add_bytes (add_bytes bytes (scale p xs)) (scale q ys)

-- the sum of the products of four coefficients and four sources
abbrev pub sum_of_four : List ℕ → List ℕ → List ℕ → List ℕ → List ℕ → List ℕ
sum_of_four by a b c d =
    add_bytes (add_bytes (add_bytes (scale (slice_index by 0) a) (scale (slice_index by 1) b)) (scale (slice_index by 2) c)) (scale (slice_index by 3) d)

-- what a sum is added to: the bytes, or as many zeros
abbrev pub kept : Bool → List ℕ → List ℕ
kept true bytes = bytes
kept false bytes = replicate (length bytes) 0
