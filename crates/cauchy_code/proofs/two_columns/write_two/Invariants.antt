use Rattle.std.proofs.Common.{◌≡◌, ◌-◌, ◌≤◌, length}
use Rattle.cauchy_code.specs.Solving.{parts_sum}
use Rattle.cauchy_code.proofs.Filling.{AreBegun}
use Rattle.cauchy_code.proofs.two_columns.write_two.Given as goal

abbrev pub invariant-parts : goal.invariant-parts
invariant-parts l = record {
  within : l.at ≤ l.long;
  b : length l.b ≡ 2048;
  begun : AreBegun l.fn.out l.out l.d l.e l.at l.long (parts_sum l.first l.rows l.known) (parts_sum l.second l.rows l.known);
}

abbrev pub decreases-parts : goal.decreases-parts
decreases-parts l = l.long - l.at
