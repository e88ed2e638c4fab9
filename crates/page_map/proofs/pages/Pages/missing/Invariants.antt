use Rattle.std.proofs.Common.{◌/◌}
use Rattle.page_map.proofs.Unions.{AreFresh}
use Rattle.page_map.proofs.pages.Pages.missing.Given as goal

abbrev pub invariant-numbers : goal.invariant-numbers
invariant-numbers l = AreFresh l.self l.fresh (l.at / l.self.block) l.number
