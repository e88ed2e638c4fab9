use Rattle.std.proofs.Common.{◌≡◌, length}
use Rattle.part_tests.proofs.codes.content.Given as goal

abbrev pub invariant-bytes : goal.invariant-bytes
invariant-bytes l = length l.bytes ≡ 16
