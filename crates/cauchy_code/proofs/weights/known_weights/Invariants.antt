use Rattle.std.proofs.Common.{length, get_or}
use Rattle.cauchy_code.specs.Solving.{known_weight}
use Rattle.cauchy_code.proofs.Coefficients.{AreMade}
use Rattle.cauchy_code.proofs.weights.known_weights.Given as goal

abbrev pub invariant-known : goal.invariant-known
invariant-known l = AreMade (known_weight (length l.rows) l.m (λ a. get_or l.by a 0) l.rows) l.known l.j l.all
