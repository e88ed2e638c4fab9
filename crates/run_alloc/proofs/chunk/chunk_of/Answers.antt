use Rattle.std.proofs.Common.{rules}
use Rattle.std.proofs.Math.Dec.{leb}
use Rattle.std.proofs.lemmas.List.Sorted.{IsPartitionedBy-leb, IsPartitionPoint-from_clause}
use Rattle.run_alloc.specs.declared.chunk.Chunk.{Chunk}
use Rattle.run_alloc.proofs.Laid.{is_some, is_chunk_of}
use Rattle.run_alloc.proofs.chunk.chunk_of.Goals as goal

pub overflow_sub-result : goal.overflow_sub-result
overflow_sub-result c =
    let parted = IsPartitionPoint-from_clause (λ (x : Chunk). leb x.low c.args.rank) c.args.chunks.now
    c.partition_point.result c.partition_point.ensures.partitioned
    (IsPartitionedBy-leb (λ (x : Chunk). x.low) c.args.chunks.now c.args.rank c.requires.rises) (λ a r q k. search rules) in
    is_some c.args.chunks.now c.args.rank _ c.requires.starts parted

pub returns : goal.returns
returns c =
    let parted = IsPartitionPoint-from_clause (λ (x : Chunk). leb x.low c.args.rank) c.args.chunks.now
    c.partition_point.result c.partition_point.ensures.partitioned
    (IsPartitionedBy-leb (λ (x : Chunk). x.low) c.args.chunks.now c.args.rank c.requires.rises) (λ a r q k. search rules) in
    is_chunk_of c.args.chunks.now c.args.rank _ c.ranges.rank.fits c.requires.starts c.partition_point.ensures.bound parted
