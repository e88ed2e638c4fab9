-- The nodes of a group at the start, in their slots.
use Rattle.std.specs.Prelude.{◌≡◌, ℕ, ◌<◌, List, [], length, Option, Some}
use mathlib.Core.Option as maybe
use lib.ListN.{get_elem?}
use Rattle.group_types.specs.Dimensions.{Dimensions}
use Rattle.group_node.specs.Standing.{NodeStanding}
use Rattle.group_stage.specs.Places.{slot_of}
use Rattle.group_stage.specs.Schedules.{standing_at}

-- each of the first processes has its node at the start in its slot
pub record AreLaid (s : Dimensions) (many : ℕ) (xs : List (Option NodeStanding)) : Type 0 where
  pub long : length xs ≡ slot_of many
  pub home : (p : ℕ) → p < many → get_elem? xs (slot_of p) ≡ maybe.some (Some (standing_at s [] p))
