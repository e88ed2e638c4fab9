-- A space that is kept in pages.
use Rattle.std.specs.Prelude.{ℕ, ◌+◌, ◌*◌, ◌/◌, ◌<◌, ◌≤◌, List, map, Contains}
use Rattle.std.specs.List.{range_with_len}
use Rattle.group_types.specs.Dimensions.{Dimensions, space_of}
use Rattle.group_types.specs.declared.run.Run.{Run}
use Rattle.page_map.specs.Pages.{Meets, PageContents, byte_in}

-- the bytes at all addresses
abbrev pub page_bytes : PageContents → List ℕ
page_bytes c = map (byte_in c) (range_with_len 0 (c.blocks * c.block))

-- the run lies in a space of this shape
abbrev pub LiesIn : Run → Dimensions → Type 0
LiesIn run shape = run.at + run.len ≤ space_of shape

-- the pages of a run, in blocks of `block` bytes, are all among those that were made
abbrev pub AllMade : ℕ → Run → List ℕ → Type 0
AllMade block run made = (a : ℕ) → run.at ≤ a → a < run.at + run.len → Contains made (a / block)

-- what was made stays, and what is new is of the run
pub record MakesOnly (block : ℕ) (run : Run) (old new : List ℕ) : Type 0 where
  pub kept : (b : ℕ) → Contains old b → Contains new b
  pub others : (b : ℕ) → ¬ (Meets block run.at run.len b) → Contains new b → Contains old b
