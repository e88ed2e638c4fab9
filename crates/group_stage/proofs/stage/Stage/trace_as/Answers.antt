use Rattle.std.proofs.Common.{◌<◌, ℕ, sym, subst}
use Rattle.group_types.specs.Dimensions.{Dimensions}
use Rattle.group_calls.specs.declared.event.Event.TheVariants.{Trace}
use Rattle.group_stage.proofs.Hands.{holds}
use Rattle.group_stage.proofs.Treating.{can-finish, made-ended, trace-one, trace-treats}
use Rattle.group_stage.proofs.stage.Stage.trace_as.Goals as goal

pub finish-requires-clause-can : goal.finish-requires-clause-can
finish-requires-clause-can g c =
    let v = c.args.seat.now.me.0 in
    let q = c.args.at in
    let p : ℕ = c.index_of-place.result in
    let held = holds c.args.self.now.plan v g.J.Calls.event (Trace c.args.caller c.args.call c.args.partition q) q p
    c.args.seat.now.me.1 c.in-Some.node c.take_first.new.seat.me c.requires.shape c.requires.event c.requires.process
    c.index_of-place.ensures c.in-Some.ensures.took in
    can-finish c.args.self.now.plan v (Trace c.args.caller c.args.call c.args.partition q) p q c.args.seat.now.me.1
    c.in-Some.node c.in-Some.node c.trace-answer.result c.take_first.new.seat.me c.requires.ready c.requires.shape
    held (trace-one v.shape v c.args.caller c.args.call c.args.partition q c.requires.caller c.requires.own
    c.requires.call (subst (λ (s : Dimensions). c.args.partition.0 < s.k) (sym c.requires.shape)
    c.requires.partition) held.inside) (trace-treats v p c.args.caller c.args.call c.args.partition q c.in-Some.node
    c.trace-answer.result held.inside held.here c.trace-answer.ensures)

pub returns-clause-ended : goal.returns-clause-ended
returns-clause-ended g c =
    let v = c.args.seat.now.me.0 in
    let q = c.args.at in
    let p : ℕ = c.index_of-place.result in
    let held = holds c.args.self.now.plan v g.J.Calls.event (Trace c.args.caller c.args.call c.args.partition q) q p
    c.args.seat.now.me.1 c.in-Some.node c.take_first.new.seat.me c.requires.shape c.requires.event c.requires.process
    c.index_of-place.ensures c.in-Some.ensures.took in
    made-ended v (Trace c.args.caller c.args.call c.args.partition q) p q c.args.seat.now.me.1 c.in-Some.node
    c.in-Some.node c.trace-answer.result c.take_first.new.seat.me c.finish.new.seat.me c.requires.ready
    held (trace-one v.shape v c.args.caller c.args.call c.args.partition q c.requires.caller c.requires.own
    c.requires.call (subst (λ (s : Dimensions). c.args.partition.0 < s.k) (sym c.requires.shape)
    c.requires.partition) held.inside) (trace-treats v p c.args.caller c.args.call c.args.partition q c.in-Some.node
    c.trace-answer.result held.inside held.here c.trace-answer.ensures) c.finish.ensures.finished
