-- A data process's space as contracts see it.
use Rattle.std.specs.Prelude.{ℕ, List}
use Rattle.group_types.specs.Dimensions.{Dimensions}
use Rattle.page_map.specs.Pages.{PageContents, numbers_in}
use Rattle.page_map.specs.Spaces.{page_bytes}

-- its shape, its bytes, and the numbers of the blocks whose pages were made
pub record Space : Type 0 where
  pub shape : Dimensions
  pub bytes : List ℕ
  pub made : List ℕ

-- the space of this shape that these pages hold
abbrev pub space_in : Dimensions → PageContents → Space
space_in shape pages = record { shape = shape; bytes = page_bytes pages; made = numbers_in pages }
