-- The rebuilt blocks of a partition, which pages hold.
use Rattle.std.specs.Prelude.{◌≡◌, ℕ, ◌/◌, ◌%◌, ◌<◌, ◌≤◌, Bool, true, false, List, [], All, IfSome, Option, Some, None, length, map, unwrap_or}
use Rattle.std.specs.List.{range_with_len}
use Rattle.group_types.specs.Dimensions.{Dimensions}
use Rattle.group_types.specs.Lists.{at, put}
use Rattle.page_map.specs.Pages.{PageContents, page_in}

-- block by block, the page, if there is one
abbrev pub rebuilt_in : PageContents → List (Option (List ℕ))
rebuilt_in c = map (page_in c) (range_with_len 0 c.blocks)

-- the byte at an address, where a block has `block` bytes
abbrev pub byte_in_blocks : ℕ → List (Option (List ℕ)) → ℕ → ℕ
byte_in_blocks block blocks a = at 0 (unwrap_or (at None blocks (a / block)) []) (a % block)

-- a block is kept unless it was before
abbrev pub kept_unless : Bool → ℕ → List ℕ → List (Option (List ℕ)) → List (Option (List ℕ))
kept_unless true b bytes blocks = blocks
kept_unless false b bytes blocks = put None blocks b (Some bytes)

-- pages for the blocks of a space, with room for `most` more
pub record HoldsBlocks (s : Dimensions) (most : ℕ) (c : PageContents) : Type 0 where
  pub long : 0 < s.block
  pub blocks : c.blocks ≡ s.blocks
  pub block : c.block ≡ s.block
  pub room : most ≤ c.room
  pub whole : (b : ℕ) → IfSome (page_in c b) (λ bytes. length bytes ≡ s.block)

-- such pages for each partition
pub record AreRebuilt (s : Dimensions) (most : ℕ) (pages : List PageContents) : Type 0 where
  pub all : length pages ≡ s.k
  pub each : All (HoldsBlocks s most) pages
