use Rattle.std.proofs.Common.{◌<◌, ℕ, subst}
use Rattle.std.specs.Prelude.{All}
use Rattle.memc_table.specs.Act.{act_value, key_of}
use Rattle.memc_table.specs.declared.act.Act.{Act}
use Rattle.group_calls.specs.declared.event.Event.TheVariants.{Ask}
use Rattle.group_node.proofs.Numbers.{all-low}
use Rattle.group_stage.proofs.Hands.{holds, was-up}
use Rattle.group_stage.proofs.Treating.{ask-one, ask-treats, can-finish, low-sessions, low-updates, made-ended}
use Rattle.group_stage.proofs.stage.Stage.ask_as.Goals as goal

pub ask-requires-clause-numbers : goal.ask-requires-clause-numbers
ask-requires-clause-numbers g c = λ up lives.
    let v = c.args.seat.now.me.0 in
    let q = c.args.at in
    let p : ℕ = c.index_of-place.result in
    let held = holds c.args.self.now.plan v g.J.Calls.event (Ask c.args.call.caller c.args.op.now q) q p
    c.args.seat.now.me.1 c.in-Some.node c.take_first.new.seat.me c.requires.shape c.requires.event c.requires.process
    c.index_of-place.ensures c.in-Some.ensures.took in
    all-low c.in-Some.node.shape (key_of c.args.op.now.act) c.in-Some.node.node.process
    (low-updates v (Ask c.args.call.caller c.args.op.now q) p q c.args.seat.now.me.1 c.in-Some.node c.take_first.new.seat.me held lives)
    (low-sessions v (Ask c.args.call.caller c.args.op.now q) p q c.args.seat.now.me.1 c.in-Some.node c.take_first.new.seat.me held lives)

pub finish-requires-clause-can : goal.finish-requires-clause-can
finish-requires-clause-can g c =
    let v = c.args.seat.now.me.0 in
    let q = c.args.at in
    let p : ℕ = c.index_of-place.result in
    let held = holds c.args.self.now.plan v g.J.Calls.event (Ask c.args.call.caller c.args.op.now q) q p
    c.args.seat.now.me.1 c.in-Some.node c.take_first.new.seat.me c.requires.shape c.requires.event c.requires.process
    c.index_of-place.ensures c.in-Some.ensures.took in
    can-finish c.args.self.now.plan v (Ask c.args.call.caller c.args.op.now q) p q c.args.seat.now.me.1 c.in-Some.node
    c.ask.new.self c.in-Ok.out.answer c.take_first.new.seat.me c.requires.ready c.requires.shape
    held (ask-one v.shape v c.args.call.caller c.args.op.now q c.requires.caller c.requires.own
    (subst (λ (x : Act). All (λ b. b < 256) (act_value x)) c.act.ensures c.values_are_bytes.ensures) held.inside)
    (ask-treats v p c.args.call.caller c.args.call.number c.args.op.now q c.in-Some.node c.ask.new.self c.in-Ok.out
    c.requires.own c.requires.number held.inside held.here c.in-Ok.ensures.shape c.in-Ok.ensures.step)

pub returns-in-Ok-clause-ended : goal.returns-in-Ok-clause-ended
returns-in-Ok-clause-ended g c =
    let v = c.args.seat.now.me.0 in
    let q = c.args.at in
    let p : ℕ = c.index_of-place.result in
    let held = holds c.args.self.now.plan v g.J.Calls.event (Ask c.args.call.caller c.args.op.now q) q p
    c.args.seat.now.me.1 c.in-Some.node c.take_first.new.seat.me c.requires.shape c.requires.event c.requires.process
    c.index_of-place.ensures c.in-Some.ensures.took in
    made-ended v (Ask c.args.call.caller c.args.op.now q) p q c.args.seat.now.me.1 c.in-Some.node c.ask.new.self
    c.in-Ok.out.answer c.take_first.new.seat.me c.finish.new.seat.me c.requires.ready
    held (ask-one v.shape v c.args.call.caller c.args.op.now q c.requires.caller c.requires.own
    (subst (λ (x : Act). All (λ b. b < 256) (act_value x)) c.act.ensures c.values_are_bytes.ensures) held.inside)
    (ask-treats v p c.args.call.caller c.args.call.number c.args.op.now q c.in-Some.node c.ask.new.self c.in-Ok.out
    c.requires.own c.requires.number held.inside held.here c.in-Ok.ensures.shape c.in-Ok.ensures.step)
    c.finish.ensures.finished

pub returns-in-Err-clause-wanted : goal.returns-in-Err-clause-wanted
returns-in-Err-clause-wanted g c =
    let v = c.args.seat.now.me.0 in
    let q = c.args.at in
    let p : ℕ = c.index_of-place.result in
    let held = holds c.args.self.now.plan v g.J.Calls.event (Ask c.args.call.caller c.args.op.now q) q p
    c.args.seat.now.me.1 c.in-Some.node c.take_first.new.seat.me c.requires.shape c.requires.event c.requires.process
    c.index_of-place.ensures c.in-Some.ensures.took in
    was-up v (Ask c.args.call.caller c.args.op.now q) q p c.args.seat.now.me.1 c.in-Some.node c.take_first.new.seat.me
    held c.in-Err.ensures.wanted.0 c.in-Err.ensures.wanted.1
