use Rattle.std.proofs.Common.{ℕ, ◌≡◌, [], ◌∷◌, sym, ap, subst, ◌∙◌}
use Rattle.group_wire.specs.Actions.{Learn}
use Rattle.group_wire.specs.Serving.{call_learned}
use Rattle.group_member.specs.Acting.{ActsWhere, AnswerComes}
use Rattle.group_member.specs.Callers.{IsItsCaller, OwnCallers, caller_of}
use Rattle.group_member.specs.Standing.{Member}
use Rattle.group_member.specs.Telling.{callers_learned}
use Rattle.group_member.specs.Words.{CanReadFrom}
use Rattle.group_member.proofs.Learned.{learn-acts}
use Rattle.group_member.proofs.Wholes.{callers-whole}
use Rattle.group_member.proofs.member.Member.learn.Goals as goal

pub invariant_of-self : goal.invariant_of-self
invariant_of-self c =
    let n = c.self.inside in
    let v : Member = record { words = n.words; signs = n.signs; callers = n.callers; parked = n.parked.items; node = n.node.node } in
    let told = c.args.told in
    let its = subst (λ (old : Member). IsItsCaller old.callers told.caller) (sym c.self.view_is) c.requires.its in
    let state = caller_of n.callers told.caller in
    callers-whole c.self.invariant told.caller its (record state { call = call_learned told c.pinged.result state.call }) c.learn.new.self c.learn.ensures

pub returns : goal.returns
returns c =
    let n = c.self.inside in
    let v : Member = record { words = n.words; signs = n.signs; callers = n.callers; parked = n.parked.items; node = n.node.node } in
    let told = c.args.told in
    let from = c.args.from in
    let can = subst (λ (old : Member). CanReadFrom old.words from) (sym c.self.view_is) c.requires.reads in
    let its = subst (λ (old : Member). IsItsCaller old.callers told.caller) (sym c.self.view_is) c.requires.its in
    let now : callers_learned n.signs.pinged told n.callers ≡ c.learn.new.self =
    ap (λ (k : ℕ). callers_learned k told n.callers) (sym c.pinged.ensures) ∙ sym c.learn.ensures in
    subst (λ (old : Member). ActsWhere (AnswerComes from old.words.name told) (Learn from old.words.name ∷ [])
    (λ out. out) old (record v { callers = c.learn.new.self })) c.self.view_is
    (subst (λ (k : OwnCallers). ActsWhere (AnswerComes from v.words.name told) (Learn from v.words.name ∷ []) (λ out. out) v (record v { callers = k })) now
    (learn-acts v from told can its))
