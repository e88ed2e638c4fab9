use Rattle.std.proofs.Common.{◌≡◌, ◌+◌, ◌++◌, drop}
use Rattle.group_eras.specs.Told.{told_stamp}
use Rattle.regroup_play.proofs.showing.raised.Given as goal

abbrev pub invariant-numbers : goal.invariant-numbers
invariant-numbers l = record {
  partition : l.partition ≡ l.first + l.number-index;
  told : l.told.items ++ told_stamp l.regroup.bases l.partition (drop l.number-index l.numbers) ≡ told_stamp l.regroup.bases l.first l.numbers;
}
