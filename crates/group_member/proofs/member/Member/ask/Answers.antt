use Rattle.std.proofs.Common.{◌≡◌, [], ◌∷◌, sym, ap, subst, ◌∙◌}
use Rattle.std.specs.Prelude.{Some}
use Rattle.group_wire.specs.Actions.{Send}
use Rattle.group_member.specs.Acting.{ActsHanding, request_handed}
use Rattle.group_member.specs.Callers.{CanBeAsked, OwnCaller, OwnCallers, ask_for, ask_of, asked_of, caller_of}
use Rattle.group_member.specs.Standing.{Member}
use Rattle.group_member.specs.Words.{CanReadFrom}
use Rattle.group_member.proofs.Acted.{asks}
use Rattle.group_member.proofs.Wholes.{callers-whole}
use Rattle.group_member.proofs.member.Member.ask.Goals as goal

pub invariant_of-self : goal.invariant_of-self
invariant_of-self c =
    let n = c.self.inside in
    let v : Member = record { words = n.words; signs = n.signs; callers = n.callers; parked = n.parked.items; node = n.node.node } in
    let can = subst (λ (old : Member). CanBeAsked old.callers c.args.caller) (sym c.self.view_is) c.requires.may in
    callers-whole c.self.invariant c.args.caller can.its (asked_of c.args.of (caller_of n.callers c.args.caller)) c.ask.new.self c.ask.ensures

pub returns-clause-acts : goal.returns-clause-acts
returns-clause-acts c =
    let n = c.self.inside in
    let v : Member = record { words = n.words; signs = n.signs; callers = n.callers; parked = n.parked.items; node = n.node.node } in
    let of = c.args.of in
    let caller = c.args.caller in
    let r = c.in_ok-request.request in
    let can = subst (λ (old : Member). CanBeAsked old.callers caller) (sym c.self.view_is) c.requires.may in
    let reads = subst (λ (old : Member). CanReadFrom old.words of) (sym c.self.view_is) c.requires.other in
    let is : Some r ≡ ask_of n.callers caller = c.in_ok-request.ensures ∙ ap (λ (s : OwnCaller). ask_for caller s.next s.call) c.caller.ensures in
    subst (λ (old : Member). ActsHanding (Send caller of ∷ []) (request_handed of r) old (record v { callers = c.ask.new.self })) c.self.view_is
    (subst (λ (k : OwnCallers). ActsHanding (Send caller of ∷ []) (request_handed of r) v (record v { callers = k }))
    (sym c.ask.ensures) (asks v caller of can reads r is))
