use Rattle.std.proofs.Common.{◌≡◌, take}
use Rattle.group_node.proofs.reading.numbers_of.Given as goal

abbrev pub invariant-partitions : goal.invariant-partitions
invariant-partitions l = l.numbers.items ≡ take l.d l.fn.stamp
