use Rattle.std.proofs.Common.{rules, arith}
use Rattle.std.proofs.Math.Dec.{ltb}
use Rattle.std.proofs.lemmas.Grind.{common_steps}
use Rattle.std.proofs.lemmas.List.Sorted.{IsPartitionedBy-ltb, IsPartitionPoint-from_clause}
use Rattle.transcript_text.specs.declared.place.Place.{Place}
use Rattle.run_verify.specs.Runs.{rank_of}
use Rattle.run_verify.proofs.Rising.{found_at, found_end, found_other, rank, rise_ranks}
use Rattle.run_verify.proofs.places.find_rising.Goals as goal

abbrev none : Place
none = record { partition = 0; number = 0; run = record { at = 0; len = 0 } }

pub returns-then-first-places : goal.returns-then-first-places
returns-then-first-places c =
    let parted = IsPartitionPoint-from_clause (λ (p : Place). ltb (rank p) (rank_of c.args.partition c.args.number))
    c.args.places.now c.partition_point-first.result c.partition_point-first.ensures.partitioned
    (IsPartitionedBy-ltb rank c.args.places.now (rank_of c.args.partition c.args.number) (rise_ranks c.args.places.now c.requires)) (λ a r q k. search rules) in
    found_end c.args.shape c.args.partition c.args.number c.args.len c.args.places.now c.requires
    c.partition_point-first.result parted (grind (arith, common_steps))

pub returns-then-is_named : goal.returns-then-is_named
returns-then-is_named c =
    let parted = IsPartitionPoint-from_clause (λ (p : Place). ltb (rank p) (rank_of c.args.partition c.args.number))
    c.args.places.now c.partition_point-first.result c.partition_point-first.ensures.partitioned
    (IsPartitionedBy-ltb rank c.args.places.now (rank_of c.args.partition c.args.number) (rise_ranks c.args.places.now c.requires)) (λ a r q k. search rules) in
    found_at c.args.shape c.args.partition c.args.number c.args.len c.args.places.now c.requires
    c.partition_point-first.result parted none (grind (arith, common_steps))
    (c.is_named.ensures.0 (grind arith))

pub returns : goal.returns
returns c =
    let parted = IsPartitionPoint-from_clause (λ (p : Place). ltb (rank p) (rank_of c.args.partition c.args.number))
    c.args.places.now c.partition_point-first.result c.partition_point-first.ensures.partitioned
    (IsPartitionedBy-ltb rank c.args.places.now (rank_of c.args.partition c.args.number) (rise_ranks c.args.places.now c.requires)) (λ a r q k. search rules) in
    found_other c.args.shape c.args.partition c.args.number c.args.len c.args.places.now c.requires c.partition_point-first.result parted none
    (λ names. let said = c.is_named.ensures.1 names in grind (arith, said))
