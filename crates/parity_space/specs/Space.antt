-- A parity process's space as contracts see it.
use Rattle.std.specs.Prelude.{◌≡◌, ◌<◌, ℕ, List, length, slice_index}
use Rattle.group_types.specs.Dimensions.{Dimensions}
use Rattle.group_message.specs.declared.update.Body.{Body}
use Rattle.group_message.specs.declared.update.Body.TheVariants.{Put, Remove, Touch}
use Rattle.field_byte.specs.Vectors.{scale}
use Rattle.erasure_code.specs.Code.{coefficient}
use Rattle.erasure_code.specs.Spaces.{added_at}
use Rattle.page_map.specs.Pages.{PageContents, numbers_in}
use Rattle.page_map.specs.Spaces.{AllMade, LiesIn, page_bytes}

-- its shape, the number of its process, its bytes, and the numbers of the blocks whose pages were made
pub record CodedSpace : Type 0 where
  pub shape : Dimensions
  pub number : ℕ
  pub bytes : List ℕ
  pub made : List ℕ

-- the space of this shape and process that these pages hold
abbrev pub parity_space_in : Dimensions → ℕ → PageContents → CodedSpace
parity_space_in shape i pages = record { shape = shape; number = i; bytes = page_bytes pages; made = numbers_in pages }

-- a coefficient for each partition
pub record ArePrepared (shape : Dimensions) (number : ℕ) (coefs : List ℕ) : Type 0 where
  pub below : number < shape.m
  pub all : length coefs ≡ shape.k
  pub each : (d : ℕ) → d < shape.k → slice_index coefs d ≡ coefficient shape.m number d

-- what an update adds lies in the space and has the length of its run, whose pages are all there
abbrev pub CanBeAdded : Dimensions → List ℕ → Body → Type 0
CanBeAdded shape made (Put _ _ run delta) = LiesIn run shape × (length delta ≡ run.len) × AllMade shape.block run made
CanBeAdded shape made Remove = Unit {0}
CanBeAdded shape made (Touch _) = Unit {0}

-- a space after an update: the product of its difference and the coefficient is added at its run
abbrev pub with_update_added : ℕ → Body → List ℕ → List ℕ
with_update_added coef (Put _ _ run delta) space = added_at run.at (scale coef delta) space
with_update_added coef Remove space = space
with_update_added coef (Touch _) space = space
