use Rattle.std.proofs.Common.{◌≡◌, suc, ◌+◌, ◌-◌, [], ◌∷◌, sym, ap, subst, ◌∙◌, arith}
use Rattle.group_types.specs.Dimensions.{Dimensions}
use Rattle.group_run.specs.World.{World}
use Rattle.group_eras.specs.Carry.{draining}
use Rattle.scenario_run.proofs.Leading.{keeps-shape}
use Rattle.group_regroup.specs.Parts.{IsPart}
use Rattle.group_regroup.proofs.Draining.{on-err}
use Rattle.group_regroup.proofs.Tries.{Trying, Trying-first, Trying-next, Trying-part, again-part, ask-later}
use Rattle.group_regroup.proofs.Tries.{drain-part, first-part, got-value, got-world, none-of}
use Rattle.group_regroup.proofs.getting.ask.Goals as goal

pub tries-init : goal.tries-init
tries-init c =
    let all : c.args.world.now.shape.blocks ≡ c.args.world.now.shape.blocks - 0 = omega arith in
    subst (Trying c.args.world.now c.args.event.now c.ask_once.new.world c.in_ok-value.value) all
    (Trying-first c.args.world.now c.ask_once.new.world c.args.event.now c.in_ok-value.value c.requires.may
    c.in_ok-value.ensures.up c.in_ok-value.ensures.world c.in_ok-value.ensures.value)

pub returns-in_err-value-clause-err : goal.returns-in_err-value-clause-err
returns-in_err-value-clause-err c = on-err c.from_residual.result (first-part c.args.world.now c.ask_once.new.world c.args.event.now c.in_err-value.ensures.err)

pub returns-in_err-drain-clause-err : goal.returns-in_err-drain-clause-err
returns-in_err-drain-clause-err c =
    let blocks : c.blocks-end.result ≡ c.args.world.now.shape.blocks = c.blocks-end.ensures.value
    ∙ ap (λ (s : Dimensions). s.blocks) (c.shape.ensures ∙ ap (λ (w : World). w.shape) c.in_ok-value.ensures.world) in
    let more : c.args.world.now.shape.blocks - c.tries.counter
    ≡ suc (c.args.world.now.shape.blocks - suc c.tries.counter) = omega (arith, c.tries-test.true, blocks) in
    on-err c.from_residual-in_err-drain.result (drain-part c.args.world.now c.tries.world c.args.event.now c.tries.value
    (c.args.world.now.shape.blocks - c.tries.counter) c.tries.invariant
    (c.args.world.now.shape.blocks - suc c.tries.counter) more
    (none-of c.tries.value (sym c.is_some.ensures ∙ c.if-is_some.false)) c.drain.new.world c.in_err-drain.ensures.err)

pub ask_once-requires-in-tries-clause-may : goal.ask_once-requires-in-tries-clause-may
ask_once-requires-in-tries-clause-may c =
    ask-later c.tries.world c.drain.new.world c.args.event.now c.tries.invariant.ask
    (ap (λ (w : World). w.shape) c.in_ok-drain.ensures.ok ∙ keeps-shape c.tries.world (draining c.tries.world))

pub returns-in_err-value-2-clause-err : goal.returns-in_err-value-2-clause-err
returns-in_err-value-2-clause-err c =
    let blocks : c.blocks-end.result ≡ c.args.world.now.shape.blocks = c.blocks-end.ensures.value
    ∙ ap (λ (s : Dimensions). s.blocks) (c.shape.ensures ∙ ap (λ (w : World). w.shape) c.in_ok-value.ensures.world) in
    let more : c.args.world.now.shape.blocks - c.tries.counter
    ≡ suc (c.args.world.now.shape.blocks - suc c.tries.counter) = omega (arith, c.tries-test.true, blocks) in
    on-err c.from_residual-in_err-value-2.result
    (again-part c.args.world.now c.tries.world c.args.event.now c.tries.value
    (c.args.world.now.shape.blocks - c.tries.counter) c.tries.invariant
    (c.args.world.now.shape.blocks - suc c.tries.counter) more
    (none-of c.tries.value (sym c.is_some.ensures ∙ c.if-is_some.false)) c.ask_once-in-tries.new.world
    (subst (λ (u : World). IsPart u (c.args.event.now ∷ []) c.ask_once-in-tries.new.world) c.in_ok-drain.ensures.ok c.in_err-value-2.ensures.err))

pub tries-preserved : goal.tries-preserved
tries-preserved c =
    let blocks : c.blocks-end.result ≡ c.args.world.now.shape.blocks = c.blocks-end.ensures.value
    ∙ ap (λ (s : Dimensions). s.blocks) (c.shape.ensures ∙ ap (λ (w : World). w.shape) c.in_ok-value.ensures.world) in
    let more : c.args.world.now.shape.blocks - c.tries.counter
    ≡ suc (c.args.world.now.shape.blocks - (c.tries.counter + 1)) = omega (arith, c.tries-test.true, blocks) in
    Trying-next c.args.world.now c.tries.world c.args.event.now c.tries.value (c.args.world.now.shape.blocks - c.tries.counter) c.tries.invariant
    (c.args.world.now.shape.blocks - (c.tries.counter + 1)) more
    (none-of c.tries.value (sym c.is_some.ensures ∙ c.if-is_some.false)) c.drain.new.world
    c.ask_once-in-tries.new.world c.in_ok-value-2.value
    c.in_ok-drain.ensures.ok c.in_ok-value-2.ensures.up c.in_ok-value-2.ensures.world c.in_ok-value-2.ensures.value

pub returns-in-Some-clause-world : goal.returns-in-Some-clause-world
returns-in-Some-clause-world c = got-world c.args.world.now c.tries.world c.args.event.now c.tries.value
    (c.args.world.now.shape.blocks - c.tries.counter) c.tries.invariant c.in-Some.value c.in-Some.is

pub returns-in-Some-clause-value : goal.returns-in-Some-clause-value
returns-in-Some-clause-value c = got-value c.args.world.now c.tries.world c.args.event.now c.tries.value
    (c.args.world.now.shape.blocks - c.tries.counter) c.tries.invariant c.in-Some.value c.in-Some.is

pub returns-in-None-clause-err : goal.returns-in-None-clause-err
returns-in-None-clause-err c = Trying-part c.args.world.now c.tries.world c.args.event.now c.tries.value
    (c.args.world.now.shape.blocks - c.tries.counter) c.tries.invariant
