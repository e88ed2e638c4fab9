-- The slots of a table that no thread shares any more.
use Rattle.std.specs.Prelude.{◌≡◌, ℕ, ◌<◌, ◌≤◌, Bool, true, false, List, length, slice_index_or, Option, Some}
use mathlib.Core.Option as maybe
use lib.ListN.{get_elem?}
use Rattle.group_node.specs.Standing.{NodeStanding}
use Rattle.group_stage.specs.Places.{slot_of}

-- the first slots are empty, and the others aren't
pub record AreTaken (below : ℕ) (filled : List Bool) : Type 0 where
  pub gone : (k : ℕ) → k < below → slice_index_or filled k false ≡ false
  pub left : (k : ℕ) → below ≤ k → k < length filled → slice_index_or filled k false ≡ true

-- each of the first processes has its node in its slot
abbrev pub HaveNodes : ℕ → List (Option NodeStanding) → Type 0
HaveNodes many xs = (p : ℕ) → p < many → (y : NodeStanding) × (get_elem? xs (slot_of p) ≡ maybe.some (Some y))
