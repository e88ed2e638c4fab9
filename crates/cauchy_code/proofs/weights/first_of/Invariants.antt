use Rattle.std.proofs.Common.{◌≡◌, ◌<◌, ℕ, length, get_or}
use Rattle.cauchy_code.proofs.weights.first_of.Given as goal

abbrev pub invariant-rows : goal.invariant-rows
invariant-rows l = record {
  long : length l.all ≡ 4;
  done : (a : ℕ) → a < l.a → get_or l.all a 0 ≡ get_or l.by a 0;
}
