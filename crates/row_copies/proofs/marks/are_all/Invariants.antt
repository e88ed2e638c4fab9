use Rattle.std.proofs.Common.{◌≡◌, ◌-◌, is_some, None}
use Rattle.std.specs.List.{list_all, range_with_len}
use Rattle.group_types.specs.Lists.{at}
use Rattle.row_copies.proofs.marks.are_all.Given as goal

abbrev pub invariant-partitions : goal.invariant-partitions
invariant-partitions l = list_all (λ d. is_some (at None l.marks d)) (range_with_len l.d (l.k - l.d))
    ≡ list_all (λ d. is_some (at None l.marks d)) (range_with_len 0 l.k)
