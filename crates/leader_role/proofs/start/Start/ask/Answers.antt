use Rattle.std.proofs.Common.{ℕ, ◌<◌, not, List, [], ◌∷◌, ◌++◌, map, refl, sym, ap, ◌∙◌, arith}
use Rattle.group_types.specs.declared.process.ProcessId.TheVariants.{DataNode}
use Rattle.membership.specs.Members.{knows_dead}
use Rattle.group_message.specs.declared.message.Message.{Message}
use Rattle.leader_role.specs.Starting.{read_of, reads}
use Rattle.leader_role.proofs.Ranges.{added, skipped}
use Rattle.leader_role.proofs.start.Start.ask.Goals as goal

pub partitions-preserved-then-is_dead : goal.partitions-preserved-then-is_dead
partitions-preserved-then-is_dead c =
    let within : c.partitions.d < c.args.shape.k = omega (arith, c.partitions-test.true, c.k-d-end.ensures.value) in
    skipped (λ (d : ℕ). not (knows_dead c.args.known.now (DataNode d))) c.args.shape.k c.partitions.d within
    (λ (ds : List ℕ). map (read_of c.args.self.now c.args.rows.now) ds) c.partitions.sent.items
    (c.args.sent.now.items ++ reads c.args.self.now c.args.shape c.args.known.now c.args.rows.now)
    (ap not (sym c.is_dead.ensures ∙ c.if-is_dead.true)) c.partitions.invariant

pub partitions-preserved : goal.partitions-preserved
partitions-preserved c =
    let within : c.partitions.d < c.args.shape.k = omega (arith, c.partitions-test.true, c.k-d-end.ensures.value) in
    added (λ (d : ℕ). not (knows_dead c.args.known.now (DataNode d))) c.args.shape.k c.partitions.d within
    (λ (ds : List ℕ). map (read_of c.args.self.now c.args.rows.now) ds) c.partitions.sent.items c.push.new.self.items
    (read_of c.args.self.now c.args.rows.now c.partitions.d ∷ [])
    (c.args.sent.now.items ++ reads c.args.self.now c.args.shape c.args.known.now c.args.rows.now)
    (ap not (sym c.is_dead.ensures ∙ c.if-is_dead.false))
    (c.in_ok-push.ensures.items
    ∙ ap (λ (m : Message). c.partitions.sent.items ++ record { to = DataNode c.partitions.d; message = m } ∷ [])
    c.in_ok-message.ensures)
    refl c.partitions.invariant
