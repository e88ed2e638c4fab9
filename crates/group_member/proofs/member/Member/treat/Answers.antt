use Rattle.std.proofs.Common.{◌≡◌, false, sym, ap, subst, ◌∙◌}
use Rattle.std.specs.Prelude.{Option, Some}
use Rattle.group_run.specs.World.{NodeStep}
use Rattle.group_node.specs.Steps.{made}
use Rattle.group_wire.specs.FromWhom.{requested_by}
use Rattle.group_wire.specs.Sending.{treating}
use Rattle.group_wire.specs.Sets.{entry_at}
use Rattle.group_wire.specs.State.{Request}
use Rattle.group_member.specs.Requests.{CanTreat, IsTreatable, is_early}
use Rattle.group_member.specs.Standing.{Member}
use Rattle.group_member.specs.Telling.{told_to}
use Rattle.group_member.specs.Treating.{HasTreated}
use Rattle.group_member.specs.declared.serving.Treatment.TheVariants.{Made}
use Rattle.group_member.proofs.Afterwards.{treats-as, treats-whole}
use Rattle.group_member.proofs.Here.{IsTo, has-gateway, made-of, told-requested}
use Rattle.group_member.proofs.Parked.{entry-index, same-entry, treat-below}
use Rattle.group_member.proofs.member.Member.treat.Goals as goal

pub invariant_of-self-2 : goal.invariant_of-self-2
invariant_of-self-2 c =
    let n = c.self.inside in
    let v : Member = record { words = n.words; signs = n.signs; callers = n.callers; parked = n.parked.items; node = n.node.node } in
    let t : NodeStep = made c.treat_at.new.node.node c.in_ok-out.out in
    treats-whole v n.node.shape c.self.invariant t c.told_to-told.result c.tell_any-told.result c.pinged.result c.tell_any-told.new.callers c.pinged.ensures
    c.tell_any-told.ensures.callers c.tell_any-told.ensures.told c.treat_at.new.node.shape c.in_ok-out.ensures.shape c.args.place c.index-request.result.now
    c.in_ok-out.ensures.step c.remove.new.self.items c.remove.ensures.items

pub returns-clause-treated : goal.returns-clause-treated
returns-clause-treated c =
    let n = c.self.inside in
    let v : Member = record { words = n.words; signs = n.signs; callers = n.callers; parked = n.parked.items; node = n.node.node } in
    let place = c.args.place in
    let r = c.index-request.result.now in
    let t : NodeStep = made c.treat_at.new.node.node c.in_ok-out.out in
    let can = subst (λ (old : Member). CanTreat old.words.shape old.node.process (entry_at old.parked place)) (sym c.self.view_is) c.requires in
    let below = treat-below n.words.shape n.node.node.process n.parked.items place can in
    let there : entry_at v.parked place ≡ Some r = entry-index r n.parked.items place below ∙ ap Some (sym c.index-request.ensures) in
    let after : Member = record v { callers = c.tell_any-told.new.callers; parked = c.remove.new.self.items; node = c.treat_at.new.node.node } in
    let step = made-of v n.node.shape c.self.invariant r t c.in_ok-out.ensures.step in
    let told : c.told_to-told.result ≡ told_to r c.in_ok-out.out.answer = c.told_to-told.ensures
    ∙ ap (λ (q : Request). told_to q c.in_ok-out.out.answer)
    (same-entry n.parked.items place c.remove.result r below c.remove.ensures.value c.index-request.ensures) in
    let late : is_early r (treating v.words.shape r v.node.process).answer ≡ false = ap (is_early r) (sym step.answer)
    ∙ sym c.is_early.ensures ∙ c.if-is_early.false in
    subst (λ (old : Member). HasTreated place (entry_at old.parked place) old after
    (Made c.tell_any-told.result c.in_ok-out.out.settled c.in_ok-out.out.opened)) c.self.view_is
    (subst (λ (o : Option Request). HasTreated place o v after (Made c.tell_any-told.result c.in_ok-out.out.settled c.in_ok-out.out.opened)) (sym there) (
      treats-as v n.node.shape c.self.invariant t c.told_to-told.result c.tell_any-told.result c.pinged.result c.tell_any-told.new.callers c.pinged.ensures
          c.tell_any-told.ensures.callers c.tell_any-told.ensures.told place r there c.in_ok-out.ensures.step told
          c.remove.new.self.items c.remove.ensures.items,
      step.settled,
      c.in_ok-out.ensures.opened,
      late,
    ))

pub tell_any-told-requires-clause-caller : goal.tell_any-told-requires-clause-caller
tell_any-told-requires-clause-caller c =
    let n = c.self.inside in
    let place = c.args.place in
    let r = c.remove.result in
    let can = subst (λ (old : Member). CanTreat old.words.shape old.node.process (entry_at old.parked place)) (sym c.self.view_is) c.requires in
    let below = treat-below n.words.shape n.node.node.process n.parked.items place can in
    let fits : IsTreatable n.words.shape r = subst (IsTreatable n.words.shape) (sym c.remove.ensures.value) (c.self.invariant.fit place r below) in
    has-gateway n.words.shape (requested_by r) fits.caller c.told_to-told.result
    (subst (IsTo (requested_by r)) (sym c.told_to-told.ensures) (told-requested r c.in_ok-out.out.answer))
