use Rattle.std.proofs.Common.{◌≡◌, ◌-◌, ◌++◌, map, unwrap_or, replicate, None}
use Rattle.std.specs.List.{range_with_len}
use Rattle.group_types.specs.Lists.{at}
use Rattle.row_copies.proofs.marks.write.Given as goal

abbrev pub invariant-partitions : goal.invariant-partitions
invariant-partitions l = l.into ≡ map (λ d. unwrap_or (at None l.marks d) 0) (range_with_len 0 l.d) ++ replicate (l.k - l.d) 0
