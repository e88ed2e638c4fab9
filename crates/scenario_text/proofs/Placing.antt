-- The runs of updates, one after the other.
use Rattle.std.proofs.Common.{◌≡◌, ◌≤◌, ◌+◌, ℕ, List, ◌++◌, Option, length, drop}
use Rattle.group_types.specs.declared.run.Run.{Run}
use Rattle.scenario_text.specs.Texts.{many_placed, places_text}

-- the first i runs are written behind this text: what they and those to come will have written, and how many there are
pub record Placed (partition base number count i : ℕ) (runs : List (Option Run)) (before now : List ℕ) : Type 0 where
  pub numbered : number ≡ base + i
  pub written : now ++ places_text partition number (drop i runs) ≡ before ++ places_text partition base runs
  pub counted : count + many_placed (drop i runs) ≡ many_placed runs
  pub lines : length before + count ≤ length now
  pub few : count ≤ i
