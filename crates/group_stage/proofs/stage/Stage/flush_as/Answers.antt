use Rattle.std.proofs.Common.{ℕ}
use Rattle.group_calls.specs.declared.event.Event.TheVariants.{Flush}
use Rattle.group_stage.proofs.Hands.{holds, was-up}
use Rattle.group_stage.proofs.Treating.{can-finish, flush-one, flush-treats, made-ended}
use Rattle.group_stage.proofs.stage.Stage.flush_as.Goals as goal

pub finish-requires-clause-can : goal.finish-requires-clause-can
finish-requires-clause-can g c =
    let v = c.args.seat.now.me.0 in
    let q = c.args.at in
    let p : ℕ = c.index_of-place.result in
    let held = holds c.args.self.now.plan v g.J.Calls.event (Flush q) q p c.args.seat.now.me.1 c.in-Some.node
    c.take_first.new.seat.me c.requires.shape c.requires.event c.requires.process c.index_of-place.ensures
    c.in-Some.ensures.took in
    can-finish c.args.self.now.plan v (Flush q) p q c.args.seat.now.me.1 c.in-Some.node c.flush.new.self
    c.in-Ok.out.answer c.take_first.new.seat.me c.requires.ready c.requires.shape
    held (flush-one v.shape v q held.inside) (flush-treats v p q c.in-Some.node c.flush.new.self c.in-Ok.out held.inside
    held.here c.in-Ok.ensures.shape c.in-Ok.ensures.step)

pub returns-in-Ok-clause-ended : goal.returns-in-Ok-clause-ended
returns-in-Ok-clause-ended g c =
    let v = c.args.seat.now.me.0 in
    let q = c.args.at in
    let p : ℕ = c.index_of-place.result in
    let held = holds c.args.self.now.plan v g.J.Calls.event (Flush q) q p c.args.seat.now.me.1 c.in-Some.node
    c.take_first.new.seat.me c.requires.shape c.requires.event c.requires.process c.index_of-place.ensures
    c.in-Some.ensures.took in
    made-ended v (Flush q) p q c.args.seat.now.me.1 c.in-Some.node c.flush.new.self c.in-Ok.out.answer
    c.take_first.new.seat.me c.finish.new.seat.me c.requires.ready
    held (flush-one v.shape v q held.inside) (flush-treats v p q c.in-Some.node c.flush.new.self c.in-Ok.out held.inside
    held.here c.in-Ok.ensures.shape c.in-Ok.ensures.step) c.finish.ensures.finished

pub returns-in-Err-clause-wanted : goal.returns-in-Err-clause-wanted
returns-in-Err-clause-wanted g c =
    let v = c.args.seat.now.me.0 in
    let q = c.args.at in
    let p : ℕ = c.index_of-place.result in
    let held = holds c.args.self.now.plan v g.J.Calls.event (Flush q) q p c.args.seat.now.me.1 c.in-Some.node
    c.take_first.new.seat.me c.requires.shape c.requires.event c.requires.process c.index_of-place.ensures
    c.in-Some.ensures.took in
    was-up v (Flush q) q p c.args.seat.now.me.1 c.in-Some.node c.take_first.new.seat.me held c.in-Err.ensures.wanted.0 c.in-Err.ensures.wanted.1
