use Rattle.std.proofs.Common.{◌≡◌, ◌≤◌, ℕ, suc, List, length, sym, ap, subst, ◌∙◌, arith}
use Rattle.group_calls.specs.declared.entry.Entry.{Entry}
use Rattle.group_calls.specs.declared.event.Event.{Event}
use Rattle.group_calls.specs.declared.event.Event.TheVariants.{Ask}
use Rattle.group_run.specs.Headline.{MayCome}
use Rattle.group_run.specs.World.{GroupStep, World, group_step, step}
use Rattle.group_ledger.specs.Books.{Books, call_in}
use Rattle.group_core.specs.Runs.{HasRun, group_from}
use Rattle.group_core.proofs.Stepped.{answer-is, once-logged, logged-is, run-on, settled-as, still-one, world-is}
use Rattle.group_core.proofs.world.World.ask.Goals as goal

pub record-logged-requires-clause-room : goal.record-logged-requires-clause-room
record-logged-requires-clause-room c =
    let v = c.self.inside.nodes in
    let e : Event = Ask c.args.caller c.args.op.now c.args.at in
    let b = c.reserve.new.self.books in
    let t = c.in_ok-turn.turn in
    let is = settled-as _ c.ask_next.new.self.nodes t.out.answer t.out.settled.items c.deref.result.now c.in_ok-turn.ensures.step c.deref.ensures.value in
    let same = ap (group_from v) c.reserve.ensures.books ∙ c.self.view_is in
    let few = c.most_asked-most.ensures c.args.caller c.args.op.now (omega (arith, c.in_ok-reserve.ensures.ok, c.in_ok-reserve.ensures.few)) in
    let here = ap (λ (g : GroupStep). length g.settled) is in
    let there = ap (λ (w : World). length (group_step w e).settled) same in
    omega (arith, few, here, there, c.in_ok-reserve.ensures.ok)

pub record-logged-requires-clause-once : goal.record-logged-requires-clause-once
record-logged-requires-clause-once c =
    let v = c.self.inside.nodes in
    let e : Event = Ask c.args.caller c.args.op.now c.args.at in
    let b = c.reserve.new.self.books in
    let t = c.in_ok-turn.turn in
    let is = settled-as _ c.ask_next.new.self.nodes t.out.answer t.out.settled.items c.deref.result.now c.in_ok-turn.ensures.step c.deref.ensures.value in
    let same = ap (group_from v) c.reserve.ensures.books ∙ c.self.view_is in
    once-logged v c.ask_next.new.self b e t.out.answer c.deref.result.now (call_in b.asked t.call)
    (c.self.invariant.shape ∙ sym (ap (λ (x : Books). x.shape) c.reserve.ensures.books)) is c.in_ok-turn.ensures.call
    (subst (λ (x : Books). HasRun (group_from v x)) (sym c.reserve.ensures.books) c.self.invariant.run)
    (subst (λ (w : World). MayCome w e) (sym same) c.requires.may)

pub invariant_of-self-2 : goal.invariant_of-self-2
invariant_of-self-2 c =
    let v = c.self.inside.nodes in
    let e : Event = Ask c.args.caller c.args.op.now c.args.at in
    let b = c.reserve.new.self.books in
    let t = c.in_ok-turn.turn in
    let is = settled-as _ c.ask_next.new.self.nodes t.out.answer t.out.settled.items c.deref.result.now c.in_ok-turn.ensures.step c.deref.ensures.value in
    let same = ap (group_from v) c.reserve.ensures.books ∙ c.self.view_is in
    let one = c.self.invariant.shape ∙ sym (ap (λ (x : Books). x.shape) c.reserve.ensures.books) in
    record {
      shape = still-one v c.ask_next.new.self b e t.out.answer c.deref.result.now (call_in b.asked t.call) one is c.in_ok-turn.ensures.call
          c.record-logged.new.self.books c.record-logged.ensures.books c.in_ok-turn.ensures.shape;
      run = run-on v c.ask_next.new.self b e t.out.answer c.deref.result.now (call_in b.asked t.call) one is c.in_ok-turn.ensures.call
          c.record-logged.new.self.books c.record-logged.ensures.books c.in_ok-turn.ensures.shape
          (subst (λ (x : Books). HasRun (group_from v x)) (sym c.reserve.ensures.books) c.self.invariant.run)
          (subst (λ (w : World). MayCome w e) (sym same) c.requires.may);
    }

pub returns-clause-world : goal.returns-clause-world
returns-clause-world c =
    let v = c.self.inside.nodes in
    let e : Event = Ask c.args.caller c.args.op.now c.args.at in
    let b = c.reserve.new.self.books in
    let t = c.in_ok-turn.turn in
    let is = settled-as _ c.ask_next.new.self.nodes t.out.answer t.out.settled.items c.deref.result.now c.in_ok-turn.ensures.step c.deref.ensures.value in
    let same = ap (group_from v) c.reserve.ensures.books ∙ c.self.view_is in
    let one = c.self.invariant.shape ∙ sym (ap (λ (x : Books). x.shape) c.reserve.ensures.books) in
    world-is v c.ask_next.new.self b e t.out.answer c.deref.result.now (call_in b.asked t.call) one is c.in_ok-turn.ensures.call
    c.record-logged.new.self.books c.record-logged.ensures.books c.in_ok-turn.ensures.shape
    ∙ ap (λ (w : World). (step w e).world) same

pub returns-clause-answer : goal.returns-clause-answer
returns-clause-answer c =
    let v = c.self.inside.nodes in
    let e : Event = Ask c.args.caller c.args.op.now c.args.at in
    let b = c.reserve.new.self.books in
    let t = c.in_ok-turn.turn in
    let is = settled-as _ c.ask_next.new.self.nodes t.out.answer t.out.settled.items c.deref.result.now c.in_ok-turn.ensures.step c.deref.ensures.value in
    let same = ap (group_from v) c.reserve.ensures.books ∙ c.self.view_is in
    let one = c.self.invariant.shape ∙ sym (ap (λ (x : Books). x.shape) c.reserve.ensures.books) in
    sym (answer-is v c.ask_next.new.self b e t.out.answer c.deref.result.now (call_in b.asked t.call) one is c.in_ok-turn.ensures.call)
    ∙ ap (λ (w : World). (step w e).turn.answer) same

pub returns-clause-logged : goal.returns-clause-logged
returns-clause-logged c =
    let v = c.self.inside.nodes in
    let e : Event = Ask c.args.caller c.args.op.now c.args.at in
    let b = c.reserve.new.self.books in
    let t = c.in_ok-turn.turn in
    let is = settled-as _ c.ask_next.new.self.nodes t.out.answer t.out.settled.items c.deref.result.now c.in_ok-turn.ensures.step c.deref.ensures.value in
    let same = ap (group_from v) c.reserve.ensures.books ∙ c.self.view_is in
    let one = c.self.invariant.shape ∙ sym (ap (λ (x : Books). x.shape) c.reserve.ensures.books) in
    c.record-logged.ensures.logged
    ∙ ap (λ (es : List Entry). length es)
    (sym (logged-is v c.ask_next.new.self b e t.out.answer c.deref.result.now (call_in b.asked t.call) one is
    c.in_ok-turn.ensures.call))
    ∙ ap (λ (w : World). length (step w e).turn.logged) same
