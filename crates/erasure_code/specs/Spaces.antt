-- Bytes of a space, and spaces that differences are added to.
use Rattle.std.specs.Prelude.{◌≡◌, ℕ, ◌+◌, ◌<◌, ◌≤◌, List, [], ◌∷◌, ◌++◌, All, length, take, drop, replicate, slice_index, bit_xor}
use Rattle.field_byte.specs.Vectors.{add_bytes}

-- the len bytes of a space from a place on
abbrev pub bytes_at : ℕ → ℕ → List ℕ → List ℕ
bytes_at at len space = take len (drop at space)

-- the space with bytes added from a place on
abbrev pub added_at : ℕ → List ℕ → List ℕ → List ℕ
added_at at bytes space = take at space ++ add_bytes (take (length bytes) (drop at space)) bytes ++ drop (at + length bytes) space

-- bytes that are added from a place on
pub record Difference : Type 0 where
  pub at : ℕ
  pub bytes : List ℕ

-- a space after differences, one after the other
abbrev pub all_added : List Difference → List ℕ → List ℕ
all_added [] space = space
all_added (d ∷ ds) space = all_added ds (added_at d.at d.bytes space)

-- the sum of what the differences have at an address
abbrev pub sum_at : List Difference → ℕ → ℕ
sum_at [] a = 0
sum_at (d ∷ ds) a = bit_xor (slice_index (replicate d.at 0 ++ d.bytes) a) (sum_at ds a)

-- a space of zeros to which differences within it were added is at each address their sum
abbrev pub SpacesAreSums : Type 0
SpacesAreSums = (n : ℕ) (ds : List Difference) → All (λ d. d.at + length d.bytes ≤ n) ds → (a : ℕ) → a < n
    → slice_index (all_added ds (replicate n 0)) a ≡ sum_at ds a
