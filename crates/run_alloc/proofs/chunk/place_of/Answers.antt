use Rattle.std.proofs.Common.{rules}
use Rattle.std.proofs.Math.Dec.{ltb}
use Rattle.std.proofs.lemmas.List.Sorted.{IsPartitionedBy-ltb, IsPartitionPoint-from_clause}
use Rattle.run_alloc.specs.declared.order.Run.{Run}
use Rattle.run_alloc.specs.Order.{order_key}
use Rattle.run_alloc.proofs.Ranks.{is_place_of}
use Rattle.run_alloc.proofs.chunk.place_of.Goals as goal

pub returns : goal.returns
returns c =
    let parted = IsPartitionPoint-from_clause (λ (r : Run). ltb (order_key c.args.order r) c.args.rank) c.args.runs.now
    c.partition_point.result c.partition_point.ensures.partitioned
    (IsPartitionedBy-ltb (order_key c.args.order) c.args.runs.now c.args.rank c.requires) (λ a r q k. search rules) in
    is_place_of (order_key c.args.order) c.args.runs.now c.args.rank _ c.partition_point.ensures.bound parted
