-- Pages, seen as a finite map from block numbers to blocks of bytes.
use Rattle.std.specs.Prelude.{◌≡◌, ◌≢◌, ℕ, ◌+◌, ◌*◌, ◌/◌, ◌%◌, ◌<◌, ◌≤◌, ◌==◌, if◌then◌else◌, List, [], ◌∷◌, length}
use Rattle.std.specs.Prelude.{map, replicate, slice_index_or, bit_xor, ◌⊎◌, Option, Some, None, IsSome}
use Rattle.field_byte.specs.Field.{product}
use Rattle.page_map.specs.declared.page.Page.{Page}

-- a space is cut into blocks as a shape says, and holds at most 64 MiB
pub record ArePageDimensions (blocks block : ℕ) : Type 0 where
  pub some : 1 ≤ blocks
  pub long : 16 ≤ block
  pub all : blocks * block ≤ 67108864

-- pages as contracts see them: of `block` bytes each, with numbers below `blocks`, and room for
-- further ones
pub record PageContents : Type 0 where
  pub blocks : ℕ
  pub block : ℕ
  pub pages : List Page
  pub room : ℕ

-- no page, and no room
abbrev pub no_pages : ℕ → ℕ → PageContents
no_pages blocks block = record { blocks = blocks; block = block; pages = []; room = 0 }

-- the bytes of the first page of this number
abbrev pub look_up : List Page → ℕ → Option (List ℕ)
look_up [] b = None
look_up (p ∷ ps) b = if p.number == b then Some p.bytes else look_up ps b

-- the page of a block, if it was made
abbrev pub page_in : PageContents → ℕ → Option (List ℕ)
page_in c b = look_up c.pages b

-- the page of a block was made
abbrev pub HasPage : PageContents → ℕ → Type 0
HasPage c b = IsSome (page_in c b)

-- each address of a range has its page
abbrev pub HasPages : PageContents → ℕ → ℕ → Type 0
HasPages c at len = (a : ℕ) → at ≤ a → a < at + len → HasPage c (a / c.block)

-- how many pages were made
abbrev pub pages_made : PageContents → ℕ
pages_made c = length c.pages

-- the blocks stay as many and as long
pub record SameDimensions (old new : PageContents) : Type 0 where
  pub blocks : new.blocks ≡ old.blocks
  pub block : new.block ≡ old.block

-- block b, of `block` bytes, has one of the `len` addresses from `at` on
abbrev pub Meets : ℕ → ℕ → ℕ → ℕ → Type 0
Meets block at len b = (a : ℕ) × (at ≤ a) × (a < at + len) × (a / block ≡ b)

-- new has the page, and every other one as old
pub record PlacesOnly (old new : PageContents) (b : ℕ) (bytes : List ℕ) : Type 0 where
  pub placed : page_in new b ≡ Some bytes
  pub others : (q : ℕ) → q ≢ b → page_in new q ≡ page_in old q

-- each block that has an address of the range has its page: a new one is zero, and no other page is new
pub record MakesZeros (old new : PageContents) (at len : ℕ) : Type 0 where
  pub zero : (b : ℕ) → Meets old.block at len b → page_in old b ≡ None → page_in new b ≡ Some (replicate old.block 0)
  pub there : (b : ℕ) → HasPage old b → page_in new b ≡ page_in old b
  pub others : (b : ℕ) → ¬ (Meets old.block at len b) → page_in new b ≡ page_in old b

-- the page was one of the old, and new are the others
pub record IsTakenOut (old new : PageContents) (page : Page) : Type 0 where
  pub taken : page_in old page.number ≡ Some page.bytes
  pub gone : page_in new page.number ≡ None
  pub others : (q : ℕ) → q ≢ page.number → page_in new q ≡ page_in old q
  pub below : page.number < old.blocks
  pub whole : length page.bytes ≡ old.block
  pub fewer : pages_made new + 1 ≡ pages_made old
  pub dimensions : SameDimensions old new

-- each page is one of the others, or where they have none as it was
pub record IsUnion (others old new : PageContents) : Type 0 where
  pub added : (b : ℕ) → HasPage others b → page_in new b ≡ page_in others b
  pub kept : (b : ℕ) → page_in others b ≡ None → page_in new b ≡ page_in old b

-- what a range lacks: a page of zeros for each of its blocks that has none
pub record AreMissing (old fresh : PageContents) (at len : ℕ) : Type 0 where
  pub zero : (b : ℕ) → Meets old.block at len b → page_in old b ≡ None → page_in fresh b ≡ Some (replicate old.block 0)
  pub there : (b : ℕ) → HasPage old b → page_in fresh b ≡ None
  pub others : (b : ℕ) → ¬ (Meets old.block at len b) → page_in fresh b ≡ None
  pub dimensions : SameDimensions old fresh

-- the numbers of the pages, in order
abbrev pub numbers_in : PageContents → List ℕ
numbers_in c = map (λ p. p.number) c.pages

-- the byte of a page at a place, and 0 where there is no page
abbrev pub byte_of : Option (List ℕ) → ℕ → ℕ
byte_of None i = 0
byte_of (Some bytes) i = slice_index_or bytes i 0

-- the byte at an address: a page that isn't there reads as zeros
abbrev pub byte_in : PageContents → ℕ → ℕ
byte_in c a = byte_of (page_in c (a / c.block)) (a % c.block)

-- the first n of the bytes, times a coefficient, are added from an address on; all else stays
pub record AddsProduct (old new : PageContents) (at coef : ℕ) (bytes : List ℕ) (n : ℕ) : Type 0 where
  pub added : (k : ℕ) → k < n → byte_in new (at + k) ≡ bit_xor (byte_in old (at + k)) (product coef (slice_index_or bytes k 0))
  pub others : (a : ℕ) → (a < at) ⊎ (at + n ≤ a) → byte_in new a ≡ byte_in old a
  pub numbers : numbers_in new ≡ numbers_in old
  pub dimensions : SameDimensions old new
  pub room : new.room ≡ old.room
