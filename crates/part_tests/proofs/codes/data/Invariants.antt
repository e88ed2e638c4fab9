use Rattle.part_tests.proofs.Cases.{HoldsBlocks}
use Rattle.part_tests.proofs.codes.data.Given as goal

abbrev pub invariant-numbers : goal.invariant-numbers
invariant-numbers l = HoldsBlocks l.numbers l.list
