use Rattle.std.proofs.Common.{[], ◌∷◌, sym, ap, subst, ◌∙◌}
use Rattle.std.specs.Prelude.{Option}
use Rattle.group_run.specs.Applying.{Settlement}
use Rattle.group_run.specs.World.{NodeStep, unchanged}
use Rattle.group_wire.specs.Actions.{Collect, Learn}
use Rattle.group_wire.specs.State.{Told}
use Rattle.group_member.specs.Acting.{ActsHanding, answer_handed}
use Rattle.group_member.specs.Requests.{HasGateway}
use Rattle.group_member.specs.Standing.{Member}
use Rattle.group_member.proofs.Afterwards.{collects-as, collects-whole}
use Rattle.group_member.proofs.Told.{listed, told-handed}
use Rattle.group_member.proofs.member.Member.collect_due.Goals as goal

pub invariant_of-self : goal.invariant_of-self
invariant_of-self c =
    let n = c.self.inside in
    let v : Member = record { words = n.words; signs = n.signs; callers = n.callers; parked = n.parked.items; node = n.node.node } in
    let t : NodeStep = unchanged c.collect.result c.collect.new.self.node in
    collects-whole v n.node.shape c.self.invariant t c.told_reply-told.result c.tell_any.result c.pinged.result
    c.tell_any.new.callers c.pinged.ensures c.tell_any.ensures.callers
    c.tell_any.ensures.told c.collect.new.self.shape c.collect.ensures.shape c.due.inside.update.caller c.due.inside.update.call c.collect.ensures.step

pub returns : goal.returns
returns c =
    let n = c.self.inside in
    let v : Member = record { words = n.words; signs = n.signs; callers = n.callers; parked = n.parked.items; node = n.node.node } in
    let caller = c.due.inside.update.caller in
    let call = c.due.inside.update.call in
    let t : NodeStep = unchanged c.collect.result c.collect.new.self.node in
    let after : Member = record v { callers = c.tell_any.new.callers; node = c.collect.new.self.node } in
    let gateway = subst (λ (old : Member). HasGateway old.words.shape c.args.due.now.update.caller) (sym c.self.view_is) c.requires in
    let can = subst (λ (d : Settlement). HasGateway n.words.shape d.update.caller) (sym c.due.view_is) gateway in
    let told = told-handed caller call c.collect.result ∙ ap (λ (o : Option Told). listed o) (sym c.told_reply-told.ensures) in
    subst (λ (d : Settlement). ActsHanding (Collect d.update.caller d.update.call c.args.self.now.words.name
    ∷ Learn c.args.self.now.words.name c.args.self.now.words.name ∷ [])
    (answer_handed c.args.self.now.words.shape c.tell_any.result) c.args.self.now after) c.due.view_is
    (subst (λ (old : Member). ActsHanding (Collect caller call old.words.name ∷ Learn old.words.name old.words.name
    ∷ []) (answer_handed old.words.shape c.tell_any.result) old after)
    c.self.view_is
    (collects-as v n.node.shape c.self.invariant t c.told_reply-told.result c.tell_any.result c.pinged.result
    c.tell_any.new.callers c.pinged.ensures c.tell_any.ensures.callers
    c.tell_any.ensures.told caller call can c.collect.ensures.step told))
