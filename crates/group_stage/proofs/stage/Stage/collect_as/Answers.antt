use Rattle.std.proofs.Common.{ℕ}
use Rattle.group_calls.specs.declared.event.Event.TheVariants.{Collect}
use Rattle.group_stage.proofs.Hands.{holds}
use Rattle.group_stage.proofs.Treating.{can-finish, collect-one, collect-treats, made-ended}
use Rattle.group_stage.proofs.stage.Stage.collect_as.Goals as goal

pub finish-requires-clause-can : goal.finish-requires-clause-can
finish-requires-clause-can g c =
    let v = c.args.seat.now.me.0 in
    let q = c.args.at in
    let p : ℕ = c.index_of-place.result in
    let held = holds c.args.self.now.plan v g.J.Calls.event (Collect c.args.caller c.args.call q) q p
    c.args.seat.now.me.1 c.in-Some.node c.take_first.new.seat.me c.requires.shape c.requires.event c.requires.process
    c.index_of-place.ensures c.in-Some.ensures.took in
    can-finish c.args.self.now.plan v (Collect c.args.caller c.args.call q) p q c.args.seat.now.me.1 c.in-Some.node
    c.collect-answer.new.self c.collect-answer.result c.take_first.new.seat.me c.requires.ready c.requires.shape
    held (collect-one v.shape v c.args.caller c.args.call q c.requires.caller held.inside)
    (collect-treats v p c.args.caller c.args.call q c.in-Some.node c.collect-answer.new.self c.collect-answer.result
    held.inside held.here c.collect-answer.ensures.shape c.collect-answer.ensures.step)

pub returns-clause-ended : goal.returns-clause-ended
returns-clause-ended g c =
    let v = c.args.seat.now.me.0 in
    let q = c.args.at in
    let p : ℕ = c.index_of-place.result in
    let held = holds c.args.self.now.plan v g.J.Calls.event (Collect c.args.caller c.args.call q) q p
    c.args.seat.now.me.1 c.in-Some.node c.take_first.new.seat.me c.requires.shape c.requires.event c.requires.process
    c.index_of-place.ensures c.in-Some.ensures.took in
    made-ended v (Collect c.args.caller c.args.call q) p q c.args.seat.now.me.1 c.in-Some.node c.collect-answer.new.self
    c.collect-answer.result c.take_first.new.seat.me c.finish.new.seat.me c.requires.ready
    held (collect-one v.shape v c.args.caller c.args.call q c.requires.caller held.inside)
    (collect-treats v p c.args.caller c.args.call q c.in-Some.node c.collect-answer.new.self c.collect-answer.result
    held.inside held.here c.collect-answer.ensures.shape c.collect-answer.ensures.step) c.finish.ensures.finished
