use Rattle.std.proofs.Common.{◌∙◌, ◌⊎◌, inr, Result, Ok, Err, OnErr, ap, subst}
use Rattle.group_types.specs.Dimensions.{Dimensions}
use Rattle.group_run.specs.Asking.{CallStep}
use Rattle.group_run.specs.Process.{Process}
use Rattle.head_service.specs.Acting.{name_of_call}
use Rattle.head_service.specs.Serving.{serving}
use Rattle.head_service.specs.declared.ask.Asking.{Asking}
use Rattle.process_service.specs.Steps.{IsCallAsked}
use Rattle.process_service.specs.Standing.{Standing}
use Rattle.process_service.specs.Wanting.{AskWants}
use Rattle.parity_process.specs.Opening.{CallOpens, Opens}
use Rattle.parity_process.proofs.Standing.{asked-ready, retried-named, retried-ready}
use Rattle.parity_process.proofs.process.ParityProcessGroupProcess.ask.Goals as goal

pub invariant_of-self-in-Done : goal.invariant_of-self-in-Done
invariant_of-self-in-Done c =
    asked-ready c.self.inside.service c.ask.new.self c.self.inside.bytes c.ask.new.below (name_of_call c.args.call)
    c.args.op.now c.self.invariant c.ask.ensures.grows.shape c.ask.ensures.grows.beneath
    (ap (λ (step : CallStep). step.step.process)
    (subst (λ (asked : Asking). IsCallAsked c.self.inside.service.shape (name_of_call c.args.call) c.args.op.now
    (serving c.self.inside.service c.self.inside.bytes.process) asked
    (serving c.ask.new.self c.ask.new.below.process)) c.in-Done.is c.in_ok-step.ensures.asked))

pub invariant_of-self-in-Need : goal.invariant_of-self-in-Need
invariant_of-self-in-Need c =
    retried-ready c.self.inside.service c.ask.new.self c.retry.new.service c.self.inside.bytes c.ask.new.below
    c.retry.new.bytes (name_of_call c.args.call) c.args.op.now
    c.in-Need.block c.retry.result c.self.invariant c.ask.ensures.grows.shape
    (subst (λ (asked : Asking). IsCallAsked c.self.inside.service.shape (name_of_call c.args.call) c.args.op.now
    (serving c.self.inside.service c.self.inside.bytes.process) asked
    (serving c.ask.new.self c.ask.new.below.process)) c.in-Need.is c.in_ok-step.ensures.asked)
    c.retry.ensures.shape c.retry.ensures.over c.retry.ensures.step c.retry.ensures.service_err c.retry.ensures.bytes_err

-- what holds at an error leads to what holds there
map-err : {T E : Type 0} {P Q : Type 0} (r : Result T E) → (P → Q) → OnErr r P → OnErr r Q
map-err (Ok x) from is = cc
map-err (Err e) from is = from is

pub returns-in-Need-clause-wanted : goal.returns-in-Need-clause-wanted
returns-in-Need-clause-wanted c =
    let s : Dimensions = c.self.inside.service.shape in
    let p : Process = serving c.self.inside.service c.self.inside.bytes.process in
    let asked = subst (λ (asked : Asking). IsCallAsked s (name_of_call c.args.call) c.args.op.now p asked
    (serving c.ask.new.self c.ask.new.below.process)) c.in-Need.is c.in_ok-step.ensures.asked in
    map-err c.retry.result
    (λ opens. subst (λ (x : Standing). AskWants x.shape c.args.op.now x.process
    ⊎ CallOpens x.shape (name_of_call c.args.call) c.args.op.now x.process) c.self.view_is
    (inr (
      c.in-Need.block,
      asked.0,
      subst (λ (x : Dimensions). Opens x c.in-Need.block p) c.ask.ensures.grows.shape
          (subst (λ (x : Process). Opens c.ask.new.self.shape c.in-Need.block x) asked.1 opens),
    ))) c.retry.ensures.wanted

pub returns-in-Need-clause-name : goal.returns-in-Need-clause-name
returns-in-Need-clause-name c =
    retried-named c.self.inside.service c.ask.new.self c.retry.new.service c.self.inside.bytes c.ask.new.below
    c.retry.new.bytes (name_of_call c.args.call) c.args.op.now
    c.in-Need.block c.retry.result c.ask.ensures.grows.shape
    (subst (λ (asked : Asking). IsCallAsked c.self.inside.service.shape (name_of_call c.args.call) c.args.op.now
    (serving c.self.inside.service c.self.inside.bytes.process) asked
    (serving c.ask.new.self c.ask.new.below.process)) c.in-Need.is c.in_ok-step.ensures.asked)
    c.retry.ensures.step c.retry.ensures.service_err c.retry.ensures.bytes_err
    ∙ ap (λ (p : Standing). p.process.name) c.self.view_is
