-- Spaces that are kept behind the first changes of their partitions.
use Rattle.std.specs.Prelude.{ℕ, ◌≡◌, ◌<◌, ◌≤◌, ◌%◌, List, [], ◌++◌, length, replicate, slice_index_or, take}
use Rattle.group_types.specs.Dimensions.{Dimensions, space_of}
use Rattle.group_types.specs.Lists.{at}
use Rattle.run_verify.specs.Changes.{space_after_changes}
use Rattle.run_verify.specs.Showing.{spaces_in}
use Rattle.run_verify.specs.declared.change.Change.{Change}
use Rattle.run_verify.specs.declared.shadow.Shadow.{Shadow}

-- a shadow follows changes: its space is the one behind so many of them
pub record Follows (changes : List Change) (shadow : Shadow) : Type 0 where
  pub within : shadow.number ≤ length changes
  pub space : shadow.space.items ≡ space_after_changes (replicate (length shadow.space.items) 0) (take shadow.number changes)

-- each shadow follows the changes of the partition that its place is for
abbrev pub AllFollow : List (List Change) → List Shadow → Type 0
AllFollow changes shadows = (i : ℕ) (d : Shadow) → i < length shadows → Follows (at [] changes (i % 16)) (slice_index_or shadows i d)

-- the shadow at this place has the space of a partition behind so many of its changes
pub record IsShadowAt (s : Dimensions) (changes : List (List Change)) (d n : ℕ) (shadows : List Shadow) (i : ℕ) : Type 0 where
  pub within : i < length shadows
  pub space : (e : Shadow) → (slice_index_or shadows i e).space.items ≡ spaces_in s changes d n
  pub long : (e : Shadow) → length (slice_index_or shadows i e).space.items ≡ space_of s

-- each partition has its changes, or more behind them
abbrev pub AreMore : List (List Change) → List (List Change) → Type 0
AreMore changes now = (d : ℕ) → (more : List Change) × (at [] now d ≡ at [] changes d ++ more)
