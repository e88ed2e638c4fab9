use Rattle.std.proofs.Common.{◌≡◌, List, None, length, sym, ap, subst, ◌∙◌}
use Rattle.group_calls.specs.declared.entry.Entry.{Entry}
use Rattle.group_run.specs.Headline.{MayCome}
use Rattle.group_run.specs.World.{World, call_of, step}
use Rattle.group_ledger.specs.Books.{Books}
use Rattle.group_core.specs.Runs.{HasRun, group_from}
use Rattle.group_core.proofs.Stepped.{answer-is, once-logged, logged-is, run-on, settled-as, still-one, world-is}
use Rattle.group_core.proofs.world.World.pass.Goals as goal

pub record-logged-requires-clause-once : goal.record-logged-requires-clause-once
record-logged-requires-clause-once c =
    let v = c.self.inside.nodes in
    let b = c.reserve.new.self.books in
    let out = c.in_ok-out.out in
    let is = settled-as _ c.pass.new.self.nodes out.answer out.settled.items c.deref.result.now c.in_ok-out.ensures.step c.deref.ensures.value in
    let same = ap (group_from v) c.reserve.ensures.books ∙ c.self.view_is in
    let no_call = subst (λ (w : World). call_of w c.args.event.now ≡ None) (sym same) c.requires.no_call in
    once-logged v c.pass.new.self b c.args.event.now out.answer c.deref.result.now None
    (c.self.invariant.shape ∙ sym (ap (λ (x : Books). x.shape) c.reserve.ensures.books)) is (sym no_call)
    (subst (λ (x : Books). HasRun (group_from v x)) (sym c.reserve.ensures.books) c.self.invariant.run)
    (subst (λ (w : World). MayCome w c.args.event.now) (sym same) c.requires.may)

pub invariant_of-self-2 : goal.invariant_of-self-2
invariant_of-self-2 c =
    let v = c.self.inside.nodes in
    let b = c.reserve.new.self.books in
    let out = c.in_ok-out.out in
    let is = settled-as _ c.pass.new.self.nodes out.answer out.settled.items c.deref.result.now c.in_ok-out.ensures.step c.deref.ensures.value in
    let same = ap (group_from v) c.reserve.ensures.books ∙ c.self.view_is in
    let no_call = subst (λ (w : World). call_of w c.args.event.now ≡ None) (sym same) c.requires.no_call in
    let one = c.self.invariant.shape ∙ sym (ap (λ (x : Books). x.shape) c.reserve.ensures.books) in
    record {
      shape = still-one v c.pass.new.self b c.args.event.now out.answer c.deref.result.now None one is (sym no_call)
          c.record-logged.new.self.books c.record-logged.ensures.books c.in_ok-out.ensures.shape;
      run = run-on v c.pass.new.self b c.args.event.now out.answer c.deref.result.now None one is (sym no_call)
          c.record-logged.new.self.books c.record-logged.ensures.books c.in_ok-out.ensures.shape
          (subst (λ (x : Books). HasRun (group_from v x)) (sym c.reserve.ensures.books) c.self.invariant.run)
          (subst (λ (w : World). MayCome w c.args.event.now) (sym same) c.requires.may);
    }

pub returns-clause-world : goal.returns-clause-world
returns-clause-world c =
    let v = c.self.inside.nodes in
    let b = c.reserve.new.self.books in
    let out = c.in_ok-out.out in
    let is = settled-as _ c.pass.new.self.nodes out.answer out.settled.items c.deref.result.now c.in_ok-out.ensures.step c.deref.ensures.value in
    let same = ap (group_from v) c.reserve.ensures.books ∙ c.self.view_is in
    let no_call = subst (λ (w : World). call_of w c.args.event.now ≡ None) (sym same) c.requires.no_call in
    let one = c.self.invariant.shape ∙ sym (ap (λ (x : Books). x.shape) c.reserve.ensures.books) in
    world-is v c.pass.new.self b c.args.event.now out.answer c.deref.result.now None one is (sym no_call)
    c.record-logged.new.self.books c.record-logged.ensures.books c.in_ok-out.ensures.shape
    ∙ ap (λ (w : World). (step w c.args.event.now).world) same

pub returns-clause-answer : goal.returns-clause-answer
returns-clause-answer c =
    let v = c.self.inside.nodes in
    let b = c.reserve.new.self.books in
    let out = c.in_ok-out.out in
    let is = settled-as _ c.pass.new.self.nodes out.answer out.settled.items c.deref.result.now c.in_ok-out.ensures.step c.deref.ensures.value in
    let same = ap (group_from v) c.reserve.ensures.books ∙ c.self.view_is in
    let no_call = subst (λ (w : World). call_of w c.args.event.now ≡ None) (sym same) c.requires.no_call in
    let one = c.self.invariant.shape ∙ sym (ap (λ (x : Books). x.shape) c.reserve.ensures.books) in
    sym (answer-is v c.pass.new.self b c.args.event.now out.answer c.deref.result.now None one is (sym no_call))
    ∙ ap (λ (w : World). (step w c.args.event.now).turn.answer) same

pub returns-clause-logged : goal.returns-clause-logged
returns-clause-logged c =
    let v = c.self.inside.nodes in
    let b = c.reserve.new.self.books in
    let out = c.in_ok-out.out in
    let is = settled-as _ c.pass.new.self.nodes out.answer out.settled.items c.deref.result.now c.in_ok-out.ensures.step c.deref.ensures.value in
    let same = ap (group_from v) c.reserve.ensures.books ∙ c.self.view_is in
    let no_call = subst (λ (w : World). call_of w c.args.event.now ≡ None) (sym same) c.requires.no_call in
    let one = c.self.invariant.shape ∙ sym (ap (λ (x : Books). x.shape) c.reserve.ensures.books) in
    c.record-logged.ensures.logged
    ∙ ap (λ (es : List Entry). length es) (sym (logged-is v c.pass.new.self b c.args.event.now out.answer c.deref.result.now None one is (sym no_call)))
    ∙ ap (λ (w : World). length (step w c.args.event.now).turn.logged) same
