use Rattle.std.proofs.Common.{ℕ, ◌≡◌, false, sym, ap, subst, ◌∙◌}
use Rattle.std.specs.Prelude.{Some}
use Rattle.group_types.specs.declared.process.ProcessId.{ProcessId}
use Rattle.group_run.specs.World.{NodeStep}
use Rattle.group_node.specs.Steps.{made}
use Rattle.group_wire.specs.State.{Request}
use Rattle.group_member.specs.Acting.{Acts}
use Rattle.group_member.specs.Callers.{OwnCaller, ask_for, ask_of, asked_of, caller_of, with_caller}
use Rattle.group_member.specs.Standing.{Member}
use Rattle.group_member.specs.Telling.{told_for}
use Rattle.group_member.specs.Treating.{CanAskHere, sent_here, settled_at_request, treat_node}
use Rattle.group_member.proofs.Afterwards.{asks-as, asks-settled, asks-whole}
use Rattle.group_member.proofs.Here.{IsTo, has-gateway, own-has, told-caller}
use Rattle.group_member.proofs.Sent.{state_asked}
use Rattle.group_member.proofs.Wholes.{callers-whole}
use Rattle.group_member.proofs.member.Member.ask_here.Goals as goal

pub invariant_of-self-2 : goal.invariant_of-self-2
invariant_of-self-2 c =
    let n = c.self.inside in
    let v : Member = record { words = n.words; signs = n.signs; callers = n.callers; parked = n.parked.items; node = n.node.node } in
    let caller = c.args.caller in
    let t : NodeStep = made c.ask_at.new.node.node c.in_ok-out.out in
    let can = subst (λ (old : Member). CanAskHere old caller) (sym c.self.view_is) c.requires in
    let step : (r : Request) → ask_of n.callers caller ≡ Some r → treat_node n.node.shape r n.node.node ≡ t =
    λ r is. c.in_ok-out.ensures.step r (ap (λ (s : OwnCaller). ask_for caller s.next s.call) c.caller-2.ensures ∙ is) in
    let before : c.ask.new.self ≡ with_caller n.callers caller (state_asked v caller n.words.name) =
    c.ask.ensures ∙ ap (λ (p : ProcessId). with_caller n.callers caller (asked_of p (caller_of n.callers caller))) c.name.ensures.name in
    asks-whole v n.node.shape c.self.invariant caller t c.told_for-told.result c.pinged.result c.ask.new.self
    c.tell_any.new.callers c.pinged.ensures c.tell_any.ensures.callers
    can.call before c.ask_at.new.node.shape c.in_ok-out.ensures.shape step

pub returns-clause-acts : goal.returns-clause-acts
returns-clause-acts c =
    let n = c.self.inside in
    let v : Member = record { words = n.words; signs = n.signs; callers = n.callers; parked = n.parked.items; node = n.node.node } in
    let caller = c.args.caller in
    let t : NodeStep = made c.ask_at.new.node.node c.in_ok-out.out in
    let can = subst (λ (old : Member). CanAskHere old caller) (sym c.self.view_is) c.requires in
    let step : (r : Request) → ask_of n.callers caller ≡ Some r → treat_node n.node.shape r n.node.node ≡ t =
    λ r is. c.in_ok-out.ensures.step r (ap (λ (s : OwnCaller). ask_for caller s.next s.call) c.caller-2.ensures ∙ is) in
    let before : c.ask.new.self ≡ with_caller n.callers caller (state_asked v caller n.words.name) =
    c.ask.ensures ∙ ap (λ (p : ProcessId). with_caller n.callers caller (asked_of p (caller_of n.callers caller))) c.name.ensures.name in
    let told : c.told_for-told.result ≡ told_for caller (caller_of n.callers caller).next false t.answer =
    c.told_for-told.ensures ∙ ap (λ (k : ℕ). told_for caller k false t.answer) (c.next-number.ensures ∙ ap (λ (s : OwnCaller). s.next) c.caller.ensures) in
    subst (λ (old : Member). Acts (sent_here old caller) old (record v { callers = c.tell_any.new.callers; node = c.ask_at.new.node.node })) c.self.view_is
    (asks-as v n.node.shape c.self.invariant caller t c.told_for-told.result c.pinged.result c.ask.new.self
    c.tell_any.new.callers c.pinged.ensures c.tell_any.ensures.callers
    can.call before step told)

pub returns-clause-settled : goal.returns-clause-settled
returns-clause-settled c =
    let n = c.self.inside in
    let v : Member = record { words = n.words; signs = n.signs; callers = n.callers; parked = n.parked.items; node = n.node.node } in
    let caller = c.args.caller in
    let t : NodeStep = made c.ask_at.new.node.node c.in_ok-out.out in
    let can = subst (λ (old : Member). CanAskHere old caller) (sym c.self.view_is) c.requires in
    let step : (r : Request) → ask_of n.callers caller ≡ Some r → treat_node n.node.shape r n.node.node ≡ t =
    λ r is. c.in_ok-out.ensures.step r (ap (λ (s : OwnCaller). ask_for caller s.next s.call) c.caller-2.ensures ∙ is) in
    subst (λ (old : Member). c.in_ok-out.out.settled.items ≡ settled_at_request old.words.shape old.node.process (ask_of old.callers caller)) c.self.view_is
    (asks-settled v n.node.shape c.self.invariant caller t c.told_for-told.result c.pinged.result c.ask.new.self
    c.tell_any.new.callers c.pinged.ensures c.tell_any.ensures.callers
    can.call step)

pub ask_at-requires-clause-caller : goal.ask_at-requires-clause-caller
ask_at-requires-clause-caller c =
    let n = c.self.inside in
    let v : Member = record { words = n.words; signs = n.signs; callers = n.callers; parked = n.parked.items; node = n.node.node } in
    let can = subst (λ (old : Member). CanAskHere old c.args.caller) (sym c.self.view_is) c.requires in
    (own-has v c.self.invariant.own c.self.invariant.member.words.member c.args.caller can.call.its).low

pub tell_any-requires-clause-own : goal.tell_any-requires-clause-own
tell_any-requires-clause-own c =
    let n = c.self.inside in
    let v : Member = record { words = n.words; signs = n.signs; callers = n.callers; parked = n.parked.items; node = n.node.node } in
    let can = subst (λ (old : Member). CanAskHere old c.args.caller) (sym c.self.view_is) c.requires in
    (callers-whole c.self.invariant c.args.caller can.call.its (asked_of c.name.result (caller_of n.callers c.args.caller)) c.ask.new.self c.ask.ensures).own

pub tell_any-requires-clause-caller : goal.tell_any-requires-clause-caller
tell_any-requires-clause-caller c =
    let n = c.self.inside in
    let v : Member = record { words = n.words; signs = n.signs; callers = n.callers; parked = n.parked.items; node = n.node.node } in
    let can = subst (λ (old : Member). CanAskHere old c.args.caller) (sym c.self.view_is) c.requires in
    has-gateway n.words.shape c.args.caller (own-has v c.self.invariant.own c.self.invariant.member.words.member
    c.args.caller can.call.its) c.told_for-told.result
    (subst (IsTo c.args.caller) (sym c.told_for-told.ensures) (told-caller c.args.caller c.next-number.result false c.in_ok-out.out.answer))
