use Rattle.page_map.specs.Pages.{pages_made}
use Rattle.page_map.proofs.Unions.{AreMoving}
use Rattle.page_map.proofs.pages.Pages.add_all.Given as goal

abbrev pub invariant-pages : goal.invariant-pages
invariant-pages l = AreMoving l.initial.others l.initial.self l.others l.self

abbrev pub decreases-pages : goal.decreases-pages
decreases-pages l = pages_made l.others
