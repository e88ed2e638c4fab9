use Rattle.std.proofs.Common.{List, sym, subst}
use Rattle.group_types.specs.Dimensions.{Dimensions}
use Rattle.group_types.specs.Names.{IsProcess}
use Rattle.group_calls.specs.declared.event.Event.{Event}
use Rattle.group_stage.specs.Conditions.{InHand}
use Rattle.group_stage.specs.Views.{begun}
use Rattle.group_stage.proofs.Deaths.{can-fail, failed-ended}
use Rattle.group_stage.proofs.stage.Stage.fail_as.Goals as goal

pub fail_all-requires-clause-can : goal.fail_all-requires-clause-can
fail_all-requires-clause-can g c =
    let v = c.args.seat.now.me.0 in
    let taken = subst (λ (e : Event). (es : List Event) × InHand (begun e v) 0 c.args.seat.now.me.1 c.in-Some.first
    c.take_first.new.seat.me es) c.requires.event c.in-Some.ensures.took in
    can-fail c.args.self.now.plan v c.args.at c.args.keep c.args.seat.now.me.1 c.in-Some.first c.take_first.new.seat.me
    c.requires.ready c.requires.shape c.requires.process taken

pub returns-in-Ok-clause-ended : goal.returns-in-Ok-clause-ended
returns-in-Ok-clause-ended g c =
    let v = c.args.seat.now.me.0 in
    let taken = subst (λ (e : Event). (es : List Event) × InHand (begun e v) 0 c.args.seat.now.me.1 c.in-Some.first
    c.take_first.new.seat.me es) c.requires.event c.in-Some.ensures.took in
    failed-ended v c.args.at c.args.keep c.args.seat.now.me.1 c.in-Some.first c.take_first.new.seat.me c.fail_all.new.seat.me c.fail_all.result c.requires.ready
    (subst (λ (s : Dimensions). IsProcess s c.args.at) (sym c.requires.shape) c.requires.process) taken c.fail_all.ensures.failed
