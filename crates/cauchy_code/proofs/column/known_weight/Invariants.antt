use Rattle.std.proofs.Common.{◌≡◌, get_or}
use Rattle.cauchy_code.specs.Solving.{known_weight}
use Rattle.cauchy_code.proofs.column.known_weight.Given as goal

abbrev pub invariant-rows : goal.invariant-rows
invariant-rows l = l.weight ≡ known_weight l.a l.m (λ a. get_or l.weights a 0) l.rows l.d
