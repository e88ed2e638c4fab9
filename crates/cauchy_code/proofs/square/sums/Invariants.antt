use Rattle.std.proofs.Common.{◌≡◌, ◌<◌, ◌+◌, ℕ, length, get_or}
use Rattle.cauchy_code.proofs.square.sums.Given as goal

abbrev pub invariant-lost : goal.invariant-lost
invariant-lost g l = record {
  long : length l.sums ≡ g.row.F;
  done : (b : ℕ) → b < l.b → get_or l.sums b 0 ≡ l.m + get_or l.lost b 0;
}
