use Rattle.part_tests.proofs.Cases.{HoldsBlocks}
use Rattle.part_tests.proofs.codes.parity.Given as goal

abbrev pub invariant-rows : goal.invariant-rows
invariant-rows l = HoldsBlocks l.numbers l.list

abbrev pub invariant-columns : goal.invariant-columns
invariant-columns l = HoldsBlocks l.numbers l.list
