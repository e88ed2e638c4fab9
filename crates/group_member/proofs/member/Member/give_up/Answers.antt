use Rattle.std.proofs.Common.{[], ◌∷◌, sym, subst}
use Rattle.group_wire.specs.Actions.{GiveUp}
use Rattle.group_wire.specs.Serving.{stage_given_up}
use Rattle.group_member.specs.Acting.{Acts}
use Rattle.group_member.specs.Callers.{OwnCallers, call_staged, caller_of}
use Rattle.group_member.specs.Showing.{CanGiveUp}
use Rattle.group_member.specs.Standing.{Member}
use Rattle.group_member.proofs.Ended.{give-up-acts}
use Rattle.group_member.proofs.Wholes.{callers-whole}
use Rattle.group_member.proofs.member.Member.give_up.Goals as goal

pub invariant_of-self : goal.invariant_of-self
invariant_of-self c =
    let n = c.self.inside in
    let v : Member = record { words = n.words; signs = n.signs; callers = n.callers; parked = n.parked.items; node = n.node.node } in
    let can = subst (λ (old : Member). CanGiveUp old.words old.callers c.args.caller) (sym c.self.view_is) c.requires in
    let state = caller_of n.callers c.args.caller in
    callers-whole c.self.invariant c.args.caller can.its
    (record state { call = call_staged (λ o. stage_given_up o.op o.stage) state.call }) c.give_up.new.self
    c.give_up.ensures

pub returns-clause-acts : goal.returns-clause-acts
returns-clause-acts c =
    let n = c.self.inside in
    let v : Member = record { words = n.words; signs = n.signs; callers = n.callers; parked = n.parked.items; node = n.node.node } in
    let can = subst (λ (old : Member). CanGiveUp old.words old.callers c.args.caller) (sym c.self.view_is) c.requires in
    subst (λ (old : Member). Acts (GiveUp c.args.caller ∷ []) old (record v { callers = c.give_up.new.self })) c.self.view_is
    (subst (λ (now : OwnCallers). Acts (GiveUp c.args.caller ∷ []) v (record v { callers = now })) (sym c.give_up.ensures)
    (give-up-acts v c.args.caller can))
