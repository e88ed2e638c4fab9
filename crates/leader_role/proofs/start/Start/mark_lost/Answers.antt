use Rattle.std.proofs.Common.{ℕ, ◌≡◌, ◌<◌, List, ◌++◌, flat_map, map, slice_index_or, refl, sym, ap, ◌∙◌, arith}
use Rattle.group_types.specs.declared.process.ProcessId.TheVariants.{DataNode}
use Rattle.membership.specs.Members.{knows_dead}
use Rattle.group_types.specs.Lists.{at}
use Rattle.group_types.specs.declared.process.Rank.{Rank}
use Rattle.group_run.specs.Applying.{Sent}
use Rattle.group_run.specs.Heading.{partition, rank}
use Rattle.group_run.specs.Replica.{Replica, empty_replica}
use Rattle.leader_role.specs.Starting.{marks, marks_at, marks_of_lost}
use Rattle.leader_role.proofs.Ranges.{added, part-at, skipped}
use Rattle.leader_role.proofs.start.Start.mark_lost.Goals as goal

pub partitions-preserved-then-not-is_dead : goal.partitions-preserved-then-not-is_dead
partitions-preserved-then-not-is_dead c =
    let within : c.partitions.d < c.args.shape.k = omega (arith, c.partitions-test.true, c.k-d-end.ensures.value) in
    let ranks : List ℕ = map (λ r. r.0) c.args.ranks.now in
    let replicas : List Replica = map (λ r. r.replica) c.args.replicas.now in
    skipped (λ (d : ℕ). knows_dead c.args.known.now (DataNode d)) c.args.shape.k c.partitions.d within
    (λ (ds : List ℕ). flat_map (marks_at c.args.self.now c.args.rows.now ranks replicas) ds) c.partitions.sent.items
    (c.args.sent.now.items ++ marks_of_lost c.args.self.now c.args.shape c.args.known.now c.args.rows.now ranks replicas)
    (sym c.is_dead.ensures ∙ c.if-not-is_dead.true) c.partitions.invariant

pub partitions-preserved : goal.partitions-preserved
partitions-preserved c =
    let within : c.partitions.d < c.args.shape.k = omega (arith, c.partitions-test.true, c.k-d-end.ensures.value) in
    let ranks : List ℕ = map (λ r. r.0) c.args.ranks.now in
    let replicas : List Replica = map (λ r. r.replica) c.args.replicas.now in
    let d : ℕ = c.partitions.d in
    let rank-is : rank (at 0 ranks d) ≡ slice_index_or c.args.ranks.now d (rank 0) =
    ap rank (part-at (λ r. r.0) 0 c.args.ranks.now d (rank 0) (omega (arith, within, c.requires.ranks))) in
    let number-is : (at empty_replica replicas d).applied ≡ c.applied-number.result =
    ap (λ (r : Replica). r.applied) (part-at (λ r. r.replica) empty_replica c.args.replicas.now d c.index-replicas-d.result
    (omega (arith, within, c.requires.replicas)))
    ∙ ap (λ r. r.replica.applied) (sym c.index-replicas-d.is) ∙ sym c.applied-number.ensures in
    let one : Rank → ℕ → List Sent = λ r n. marks c.args.self.now r (partition d) n c.args.rows.now in
    added (λ (d : ℕ). knows_dead c.args.known.now (DataNode d)) c.args.shape.k c.partitions.d within
    (λ (ds : List ℕ). flat_map (marks_at c.args.self.now c.args.rows.now ranks replicas) ds) c.partitions.sent.items c.mark.new.sent.items
    (marks_at c.args.self.now c.args.rows.now ranks replicas c.partitions.d)
    (c.args.sent.now.items ++ marks_of_lost c.args.self.now c.args.shape c.args.known.now c.args.rows.now ranks replicas)
    (sym c.is_dead.ensures ∙ c.if-not-is_dead.false)
    (c.in_ok-mark.ensures ∙ ap (λ (r : Rank). c.partitions.sent.items ++ one r c.applied-number.result) (sym rank-is)
    ∙ ap (λ (n : ℕ). c.partitions.sent.items ++ one (rank (at 0 ranks d)) n) (sym number-is))
    refl c.partitions.invariant
