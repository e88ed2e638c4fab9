use Rattle.std.proofs.Common.{ℕ, ◌<◌, ◌≤◌, List, [], ◌∷◌, ◌++◌, refl, sym, ap, ◌∙◌, arith}
use Rattle.std.proofs.lemmas.List.{append-nil}
use Rattle.group_types.specs.declared.process.ProcessId.TheVariants.{DataNode}
use Rattle.membership.specs.Members.{knows_dead}
use Rattle.leader_role.specs.Starting.{dead_data}
use Rattle.leader_role.proofs.Ranges.{added, none-left, skipped}
use Rattle.leader_role.proofs.rows.lost.Goals as goal

pub partitions-preserved-then-not-is_dead : goal.partitions-preserved-then-not-is_dead
partitions-preserved-then-not-is_dead c =
    let within : c.partitions.d < c.args.shape.k = omega (arith, c.partitions-test.true, c.k-d-end.ensures.value) in
    skipped (λ (d : ℕ). knows_dead c.args.known.now (DataNode d)) c.args.shape.k c.partitions.d within
    (λ (ds : List ℕ). ds) c.partitions.dead.items (dead_data c.args.shape c.args.known.now)
    (sym c.is_dead.ensures ∙ c.if-not-is_dead.true) c.partitions.invariant

pub partitions-preserved : goal.partitions-preserved
partitions-preserved c =
    let within : c.partitions.d < c.args.shape.k = omega (arith, c.partitions-test.true, c.k-d-end.ensures.value) in
    added (λ (d : ℕ). knows_dead c.args.known.now (DataNode d)) c.args.shape.k c.partitions.d within
    (λ (ds : List ℕ). ds) c.partitions.dead.items c.push.new.self.items (c.partitions.d ∷ []) (dead_data c.args.shape c.args.known.now)
    (sym c.is_dead.ensures ∙ c.if-not-is_dead.false) c.in_ok-push.ensures.items refl c.partitions.invariant

pub returns : goal.returns
returns c p same =
    let over : c.args.shape.k ≤ c.partitions.d = omega (arith, c.partitions-test.false, c.k-d-end.ensures.value) in
    sym (append-nil c.partitions.dead.items)
    ∙ ap (λ (ds : List ℕ). c.partitions.dead.items ++ ds)
    (sym (none-left (λ (d : ℕ). knows_dead c.args.known.now (DataNode d)) c.args.shape.k c.partitions.d over))
    ∙ c.partitions.invariant
    ∙ ap (dead_data c.args.shape) (sym same)
