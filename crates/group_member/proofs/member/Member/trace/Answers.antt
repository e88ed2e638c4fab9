use Rattle.std.proofs.Common.{ℕ, ◌≡◌, [], ◌∷◌, sym, ap, subst, ◌∙◌}
use Rattle.std.specs.Prelude.{Some}
use Rattle.group_types.specs.Dimensions.{Dimensions}
use Rattle.group_wire.specs.Actions.{Send}
use Rattle.group_wire.specs.State.{TraceOf, TracedAt}
use Rattle.group_member.specs.Acting.{ActsHanding, request_handed}
use Rattle.group_member.specs.Callers.{CanBeTraced, OwnCaller, OwnCallers, call_staged, caller_of, trace_of}
use Rattle.group_member.specs.Standing.{Member}
use Rattle.group_member.specs.Words.{CanReadFrom}
use Rattle.group_member.proofs.Acted.{traces}
use Rattle.group_member.proofs.Wholes.{callers-whole}
use Rattle.group_member.proofs.member.Member.trace.Goals as goal

pub invariant_of-self : goal.invariant_of-self
invariant_of-self c =
    let n = c.self.inside in
    let v : Member = record { words = n.words; signs = n.signs; callers = n.callers; parked = n.parked.items; node = n.node.node } in
    let can = subst (λ (old : Member). CanBeTraced old.callers c.args.caller) (sym c.self.view_is) c.requires.may in
    let state = caller_of n.callers c.args.caller in
    callers-whole c.self.invariant c.args.caller can.its
    (record state { call = call_staged (λ _. TracedAt c.args.at) state.call }) c.trace.new.self c.trace.ensures

pub returns : goal.returns
returns c =
    let n = c.self.inside in
    let v : Member = record { words = n.words; signs = n.signs; callers = n.callers; parked = n.parked.items; node = n.node.node } in
    let caller = c.args.caller in
    let place : Some (TraceOf caller c.trace_place-call.result.0 c.trace_place-call.result.1.0)
    ≡ trace_of n.words.shape.k caller (caller_of n.callers caller).call =
    c.trace_place-call.ensures.call caller ∙ ap (λ (s : OwnCaller). trace_of c.k.result caller s.call) c.caller.ensures
    ∙ ap (λ (k : ℕ). trace_of k caller (caller_of n.callers caller).call) (c.k.ensures.value ∙ ap (λ (s : Dimensions). s.k) c.shape.ensures) in
    let at = c.args.at in
    let r = c.new.result in
    let can = subst (λ (old : Member). CanBeTraced old.callers caller) (sym c.self.view_is) c.requires.may in
    let reads = subst (λ (old : Member). CanReadFrom old.words at) (sym c.self.view_is) c.requires.other in
    subst (λ (old : Member). ActsHanding (Send caller at ∷ []) (request_handed at r) old (record v { callers = c.trace.new.self })) c.self.view_is
    (subst (λ (k : OwnCallers). ActsHanding (Send caller at ∷ []) (request_handed at r) v (record v { callers = k })) (sym c.trace.ensures)
    (traces v caller at can reads r (ap Some c.new.ensures ∙ place)))
