use Rattle.std.proofs.Common.{[], ◌∷◌, sym, subst}
use Rattle.std.specs.Prelude.{None}
use Rattle.group_wire.specs.Actions.{Show}
use Rattle.group_member.specs.Acting.{Acts}
use Rattle.group_member.specs.Callers.{OwnCallers, caller_of}
use Rattle.group_member.specs.Showing.{CanShow}
use Rattle.group_member.specs.Standing.{Member}
use Rattle.group_member.proofs.Shown.{show-acts}
use Rattle.group_member.proofs.Wholes.{callers-whole}
use Rattle.group_member.proofs.member.Member.show.Goals as goal

pub invariant_of-self : goal.invariant_of-self
invariant_of-self c =
    let n = c.self.inside in
    let v : Member = record { words = n.words; signs = n.signs; callers = n.callers; parked = n.parked.items; node = n.node.node } in
    let can = subst (λ (old : Member). CanShow old c.args.caller c.args.ping) (sym c.self.view_is) c.requires in
    callers-whole c.self.invariant c.args.caller can.its (record (caller_of n.callers c.args.caller) { call = None }) c.end.new.self c.end.ensures.over

pub returns-clause-acts : goal.returns-clause-acts
returns-clause-acts c =
    let n = c.self.inside in
    let v : Member = record { words = n.words; signs = n.signs; callers = n.callers; parked = n.parked.items; node = n.node.node } in
    let can = subst (λ (old : Member). CanShow old c.args.caller c.args.ping) (sym c.self.view_is) c.requires in
    subst (λ (old : Member). Acts (Show c.args.caller c.args.ping ∷ []) old (record v { callers = c.end.new.self })) c.self.view_is
    (subst (λ (now : OwnCallers). Acts (Show c.args.caller c.args.ping ∷ []) v (record v { callers = now })) (sym c.end.ensures.over)
    (show-acts v c.args.caller c.args.ping can c.self.invariant.member.words))
