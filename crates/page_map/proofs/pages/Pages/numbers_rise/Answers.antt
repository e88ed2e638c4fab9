use Rattle.page_map.proofs.Places.{numbers_rise}
use Rattle.page_map.proofs.pages.Pages.numbers_rise.Goals as goal

pub returns : goal.returns
returns c = rw (← c.self.view_is) (numbers_rise c.self.inside.pages.items c.self.invariant.0.sorted)
