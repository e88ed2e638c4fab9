use Rattle.page_map.proofs.Places.{found_after}
use Rattle.page_map.proofs.pages.Pages.place.Goals as goal

pub returns-clause-pages : goal.returns-clause-pages
returns-clause-pages c =
    let pages = c.self.inside.pages.items in
    let gap = rw c.deref.ensures.value at c.gap_for-place.ensures in
    let found = found_after pages (record { number = c.args.number; bytes = c.args.bytes }) c.gap_for-place.result gap in
    rw (c.in-Ok.ensures.items, ← c.self.view_is) (record { placed = found.0; others = found.1 })
