use Rattle.std.proofs.Common.{rules}
use Rattle.std.proofs.lemmas.List.Sorted.{answers_always}
use Rattle.page_map.specs.declared.page.Page.{Page}
use Rattle.page_map.proofs.Places.{searched}
use Rattle.page_map.proofs.pages.search.Goals as goal

-- the closure gives a page's number
pub returns : goal.returns
returns c =
    let facts = c.binary_search_by_key.ensures in
    let by_number = facts.position (λ (p : Page). p.number) (answers_always _ _ _ (λ f a r g called. search rules)) in
    searched _ c.requires c.args.number _ facts.bound by_number
