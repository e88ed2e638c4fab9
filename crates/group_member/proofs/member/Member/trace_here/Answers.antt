use Rattle.std.proofs.Common.{ℕ, ◌≡◌, true, refl, sym, ap, subst, ◌∙◌}
use Rattle.std.specs.Prelude.{Some}
use Rattle.group_types.specs.Dimensions.{Dimensions}
use Rattle.group_types.specs.declared.process.ProcessId.{ProcessId}
use Rattle.group_run.specs.World.{NodeStep, unchanged}
use Rattle.group_wire.specs.State.{TraceOf, TracedAt}
use Rattle.group_member.specs.Acting.{Acts}
use Rattle.group_member.specs.Callers.{CanBeTraced, OwnCaller, call_staged, caller_of, trace_of, with_call, with_caller}
use Rattle.group_member.specs.Standing.{Member}
use Rattle.group_member.specs.Treating.{sent_here}
use Rattle.group_member.proofs.Afterwards.{own-whole, traces-as}
use Rattle.group_member.proofs.Here.{IsTo, has-gateway, own-has, told-caller}
use Rattle.group_member.proofs.Sent.{state_traced}
use Rattle.group_member.proofs.Wholes.{callers-whole}
use Rattle.group_member.proofs.member.Member.trace_here.Goals as goal

pub invariant_of-self : goal.invariant_of-self
invariant_of-self c =
    let n = c.self.inside in
    let v : Member = record { words = n.words; signs = n.signs; callers = n.callers; parked = n.parked.items; node = n.node.node } in
    let caller = c.args.caller in
    let call = c.trace_place-call.result.0 in
    let d = c.trace_place-call.result.1.0 in
    let can = subst (λ (old : Member). CanBeTraced old.callers caller) (sym c.self.view_is) c.requires in
    let before : c.trace.new.self ≡ with_caller n.callers caller (state_traced v caller n.words.name) =
    c.trace.ensures
    ∙ ap (λ (p : ProcessId). with_call n.callers caller
    (call_staged (λ _. TracedAt p) (caller_of n.callers caller).call)) c.name.ensures.name in
    let t : NodeStep = unchanged c.trace-answer.result n.node.node in
    own-whole v n.node.shape c.self.invariant caller t c.told_for-told.result c.pinged.result c.trace.new.self
    c.tell_any.new.callers c.pinged.ensures c.tell_any.ensures.callers
    can.its (state_traced v caller n.words.name) before n.node.shape refl (TraceOf caller call d) c.trace-answer.ensures

pub returns : goal.returns
returns c =
    let n = c.self.inside in
    let v : Member = record { words = n.words; signs = n.signs; callers = n.callers; parked = n.parked.items; node = n.node.node } in
    let caller = c.args.caller in
    let place : Some (TraceOf caller c.trace_place-call.result.0 c.trace_place-call.result.1.0)
    ≡ trace_of n.words.shape.k caller (caller_of n.callers caller).call =
    c.trace_place-call.ensures.call caller ∙ ap (λ (s : OwnCaller). trace_of c.k.result caller s.call) c.caller.ensures
    ∙ ap (λ (k : ℕ). trace_of k caller (caller_of n.callers caller).call) (c.k.ensures.value ∙ ap (λ (s : Dimensions). s.k) c.shape.ensures) in
    let call = c.trace_place-call.result.0 in
    let d = c.trace_place-call.result.1.0 in
    let can = subst (λ (old : Member). CanBeTraced old.callers caller) (sym c.self.view_is) c.requires in
    let before : c.trace.new.self ≡ with_caller n.callers caller (state_traced v caller n.words.name) =
    c.trace.ensures
    ∙ ap (λ (p : ProcessId). with_call n.callers caller
    (call_staged (λ _. TracedAt p) (caller_of n.callers caller).call)) c.name.ensures.name in
    let t : NodeStep = unchanged c.trace-answer.result n.node.node in
    subst (λ (old : Member). Acts (sent_here old caller) old (record v { callers = c.tell_any.new.callers })) c.self.view_is
    (traces-as v n.node.shape c.self.invariant caller t c.told_for-told.result c.pinged.result c.trace.new.self
    c.tell_any.new.callers c.pinged.ensures c.tell_any.ensures.callers
    can before call d place c.trace-answer.ensures c.told_for-told.ensures)

pub trace-answer-requires-clause-caller : goal.trace-answer-requires-clause-caller
trace-answer-requires-clause-caller c =
    let n = c.self.inside in
    let v : Member = record { words = n.words; signs = n.signs; callers = n.callers; parked = n.parked.items; node = n.node.node } in
    let can = subst (λ (old : Member). CanBeTraced old.callers c.args.caller) (sym c.self.view_is) c.requires in
    (own-has v c.self.invariant.own c.self.invariant.member.words.member c.args.caller can.its).low

pub tell_any-requires-clause-own : goal.tell_any-requires-clause-own
tell_any-requires-clause-own c =
    let n = c.self.inside in
    let v : Member = record { words = n.words; signs = n.signs; callers = n.callers; parked = n.parked.items; node = n.node.node } in
    let can = subst (λ (old : Member). CanBeTraced old.callers c.args.caller) (sym c.self.view_is) c.requires in
    let state = caller_of n.callers c.args.caller in
    (callers-whole c.self.invariant c.args.caller can.its
    (record state { call = call_staged (λ _. TracedAt c.name.result) state.call }) c.trace.new.self
    c.trace.ensures).own

pub tell_any-requires-clause-caller : goal.tell_any-requires-clause-caller
tell_any-requires-clause-caller c =
    let n = c.self.inside in
    let v : Member = record { words = n.words; signs = n.signs; callers = n.callers; parked = n.parked.items; node = n.node.node } in
    let can = subst (λ (old : Member). CanBeTraced old.callers c.args.caller) (sym c.self.view_is) c.requires in
    has-gateway n.words.shape c.args.caller (own-has v c.self.invariant.own c.self.invariant.member.words.member c.args.caller can.its) c.told_for-told.result
    (subst (IsTo c.args.caller) (sym c.told_for-told.ensures) (told-caller c.args.caller c.trace_place-call.result.0 true c.trace-answer.result))
