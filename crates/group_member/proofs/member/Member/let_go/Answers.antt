use Rattle.std.proofs.Common.{[], ◌∷◌, sym, subst}
use Rattle.std.specs.Prelude.{None}
use Rattle.group_wire.specs.Actions.{LetGo}
use Rattle.group_member.specs.Acting.{Acts}
use Rattle.group_member.specs.Callers.{CanLetGo, OwnCallers, caller_of}
use Rattle.group_member.specs.Standing.{Member}
use Rattle.group_member.proofs.Ended.{let-go-acts}
use Rattle.group_member.proofs.Wholes.{callers-whole}
use Rattle.group_member.proofs.member.Member.let_go.Goals as goal

pub invariant_of-self : goal.invariant_of-self
invariant_of-self c =
    let n = c.self.inside in
    let v : Member = record { words = n.words; signs = n.signs; callers = n.callers; parked = n.parked.items; node = n.node.node } in
    let can = subst (λ (old : Member). CanLetGo old.callers c.args.caller) (sym c.self.view_is) c.requires in
    callers-whole c.self.invariant c.args.caller can.its (record (caller_of n.callers c.args.caller) { call = None }) c.end.new.self c.end.ensures.over

pub returns-clause-acts : goal.returns-clause-acts
returns-clause-acts c =
    let n = c.self.inside in
    let v : Member = record { words = n.words; signs = n.signs; callers = n.callers; parked = n.parked.items; node = n.node.node } in
    let can = subst (λ (old : Member). CanLetGo old.callers c.args.caller) (sym c.self.view_is) c.requires in
    subst (λ (old : Member). Acts (LetGo c.args.caller ∷ []) old (record v { callers = c.end.new.self })) c.self.view_is
    (subst (λ (now : OwnCallers). Acts (LetGo c.args.caller ∷ []) v (record v { callers = now })) (sym c.end.ensures.over)
    (let-go-acts v c.args.caller can))
