-- Stamps, as lists of numbers.
use Rattle.std.specs.Prelude.{ℕ, ◌<◌, ◌≤◌, List, length, slice_index, Contains}

-- the one has at least the number of the other in each place
abbrev pub Covers : List ℕ → List ℕ → Type 0
Covers stamp other = (p : ℕ) → p < length stamp → slice_index other p ≤ slice_index stamp p

-- one of the numbers, with none below it
pub record IsLeast (stamp : List ℕ) (number : ℕ) : Type 0 where
  pub among : Contains stamp number
  pub least : (p : ℕ) → p < length stamp → number ≤ slice_index stamp p
