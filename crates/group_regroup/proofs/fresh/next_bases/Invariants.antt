use Rattle.group_regroup.proofs.Behind.{AreBases}
use Rattle.group_regroup.proofs.fresh.next_bases.Given as goal

abbrev pub invariant-partitions : goal.invariant-partitions
invariant-partitions l = AreBases l.world l.bases l.next.items l.partition
