use Rattle.std.proofs.Common.{◌≡◌, ◌<◌, ℕ, length, get_or}
use Rattle.group_types.specs.Pieces.{numbers_of}
use Rattle.cauchy_code.proofs.square.numbers.Given as goal

abbrev pub invariant-rows : goal.invariant-rows
invariant-rows g l = record {
  long : length l.numbers ≡ g.row.F;
  done : (a : ℕ) → a < l.a → get_or l.numbers a 0 ≡ get_or (numbers_of l.rows) a 0;
}
