use Rattle.std.proofs.Common.{arith}
use Rattle.page_map.proofs.Places.{few_in_a_word, numbers_rise}
use Rattle.page_map.proofs.pages.Pages.made.Goals as goal

pub overflow_cast-result : goal.overflow_cast-result
overflow_cast-result c = omega (arith, few_in_a_word c.self.inside.blocks c.self.inside.block c.self.inside.pages.items c.self.invariant.0)

pub returns-clause-rising : goal.returns-clause-rising
returns-clause-rising c = rw (← c.self.view_is) (numbers_rise c.self.inside.pages.items c.self.invariant.0.sorted)
