use Rattle.std.proofs.Common.{◌≡◌, ◌-◌, suc}
use Rattle.std.specs.List.{range_with_len}
use Rattle.group_types.specs.Names.{of_rank}
use Rattle.group_eras.specs.Items.{first_living, head_of}
use Rattle.group_regroup.proofs.getting.head.Given as goal

abbrev pub invariant-ranks : goal.invariant-ranks
invariant-ranks l = head_of l.world l.fn.partition.0 ≡ of_rank l.fn.partition.0
    (first_living l.world l.fn.partition.0 (range_with_len (suc l.i) (l.world.shape.m - l.i)))
