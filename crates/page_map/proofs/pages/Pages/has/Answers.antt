use Rattle.page_map.proofs.Places.{is_found}
use Rattle.page_map.proofs.pages.Pages.has.Goals as goal

pub returns : goal.returns
returns c =
    let pages = c.self.inside.pages.items in
    rw (← c.self.view_is)
    (is_found pages c.self.invariant.0.sorted c.args.number _ (rw c.deref.ensures.value at c.search.ensures.found)
    (rw c.deref.ensures.value at c.search.ensures.absent) _ c.is_ok.ensures.value)
