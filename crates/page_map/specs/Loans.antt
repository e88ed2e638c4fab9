-- What the pages hold once a loan of one of them has ended.
use Rattle.std.specs.Prelude.{ℕ, ◌==◌, if◌then◌else◌, List, [], ◌∷◌}
use Rattle.std.specs.Borrow.{Lends, MutBor, Fml, Array, u8}
use Rattle.group_types.specs.Pieces.{overwritten}
use Rattle.page_map.specs.declared.page.Page.{Page}
use Rattle.page_map.specs.Pages.{PageContents}
use Rattle.page_map.specs.contracts.pages.Pages as pages

-- bytes written over those of the first page of this number
abbrev pub rewritten : List Page → ℕ → List ℕ → List Page
rewritten [] b bytes = []
rewritten (p ∷ ps) b bytes = if p.number == b then record p { bytes = overwritten p.bytes bytes } ∷ ps else p ∷ rewritten ps b bytes

-- bytes written over those of a page
abbrev pub with_page : PageContents → ℕ → List ℕ → PageContents
with_page c b bytes = record c { pages = rewritten c.pages b bytes }

-- what is last written through r is in the end what the page of this number holds
abbrev pub LendsPage : MutBor PageContents → ℕ → MutBor (List ℕ) → Fml
LendsPage c b r = Lends pages.the_row (Array u8 0) c r (with_page c.now b)
