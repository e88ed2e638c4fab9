use Rattle.page_map.proofs.Unions.{taken_out}
use Rattle.page_map.proofs.pages.Pages.pop.Goals as goal

pub returns-clause-page : goal.returns-clause-page
returns-clause-page c =
    rw (← c.self.view_is) (taken_out c.self.inside.blocks c.self.inside.block c.self.inside.room c.self.inside.room
    c.self.inside.pages.items c.pop.new.self.items c.pop.result c.self.invariant.0 c.pop.ensures.items)
