-- The order in which pages stand.
use Rattle.std.specs.Prelude.{◌≡◌, ℕ, ◌<◌, ◌≤◌, List, [], length, slice_index_or}
use Rattle.page_map.specs.declared.page.Page.{Page}
use Rattle.page_map.specs.Pages.{ArePageDimensions}

-- the page at place i
abbrev pub page_at : List Page → ℕ → Page
page_at pages i = slice_index_or pages i (record { number = 0; bytes = [] })

-- the numbers rise, so none comes twice
abbrev pub IsStrictlySorted : List Page → Type 0
IsStrictlySorted pages = (i j : ℕ) → i < j → j < length pages → (page_at pages i).number < (page_at pages j).number

-- sorted pages of `block` bytes each, with numbers below `blocks`
pub record ArePages (blocks block : ℕ) (pages : List Page) : Type 0 where
  pub dimensions : ArePageDimensions blocks block
  pub sorted : IsStrictlySorted pages
  pub below : (i : ℕ) → i < length pages → (page_at pages i).number < blocks
  pub whole : (i : ℕ) → i < length pages → length (page_at pages i).bytes ≡ block

-- the page at place i has the number
pub record IsAt (pages : List Page) (number i : ℕ) : Type 0 where
  pub in_range : i < length pages
  pub has_number : (page_at pages i).number ≡ number

-- a page of this number would go to place i: lower numbers before it, and higher ones from it on
pub record IsGapFor (pages : List Page) (number i : ℕ) : Type 0 where
  pub in_range : i ≤ length pages
  pub lower_before : (j : ℕ) → j < i → (page_at pages j).number < number
  pub higher_after : (j : ℕ) → i ≤ j → j < length pages → number < (page_at pages j).number
