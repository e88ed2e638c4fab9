use Rattle.std.proofs.Common.{[], ◌∷◌, subst}
use Rattle.group_run.specs.World.{NodeStep}
use Rattle.group_node.specs.Steps.{made}
use Rattle.group_wire.specs.Actions.{Flush}
use Rattle.group_member.specs.Acting.{Acts}
use Rattle.group_member.specs.Standing.{Member}
use Rattle.group_member.proofs.Making.{made-flushes}
use Rattle.group_member.proofs.member.Member.flush.Goals as goal

pub returns-clause-acts : goal.returns-clause-acts
returns-clause-acts c =
    let n = c.self.inside in
    let v : Member = record { words = n.words; signs = n.signs; callers = n.callers; parked = n.parked.items; node = n.node.node } in
    let t : NodeStep = made c.flush.new.self.node c.in_ok-flush.field-0 in
    subst (λ (old : Member). Acts (Flush old.words.name ∷ []) old (record v { node = c.flush.new.self.node })) c.self.view_is
    (made-flushes v n.node.shape c.self.invariant.member t c.in_ok-flush.ensures.step)
