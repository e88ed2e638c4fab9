use Rattle.std.proofs.Common.{sym, subst}
use Rattle.stage_caller.specs.Going.{GoesTo, Helps}
use Rattle.stage_caller.specs.declared.step.Move.{Move}
use Rattle.stage_caller.proofs.progress.Progress.after.Goals as goal

pub returns-in-Ask-clause-goes : goal.returns-in-Ask-clause-goes
returns-in-Ask-clause-goes c =
    subst (λ (made : Move). GoesTo made c.args.phase c.args.heard c.args.self.now c.after_ask.result) (sym c.in-Ask.is)
    (c.after_ask.ensures.goes c.in-Ask.field-0)

pub returns-in-Ask-clause-helps : goal.returns-in-Ask-clause-helps
returns-in-Ask-clause-helps c =
    subst (λ (made : Move). Helps made c.args.phase c.args.heard c.args.self.now c.after_ask.result) (sym c.in-Ask.is)
    (c.after_ask.ensures.helps c.in-Ask.field-0)

pub returns-in-Collect-clause-goes : goal.returns-in-Collect-clause-goes
returns-in-Collect-clause-goes c =
    subst (λ (made : Move). GoesTo made c.args.phase c.args.heard c.args.self.now c.after_collect.result) (sym c.in-Collect.is)
    (c.after_collect.ensures.goes c.in-Collect.field-0 c.in-Collect.field-1 c.args.phase)

pub returns-in-Collect-clause-helps : goal.returns-in-Collect-clause-helps
returns-in-Collect-clause-helps c =
    subst (λ (made : Move). Helps made c.args.phase c.args.heard c.args.self.now c.after_collect.result) (sym c.in-Collect.is)
    (c.after_collect.ensures.helps c.in-Collect.field-0 c.in-Collect.field-1 c.args.phase)

pub returns-in-Trace-clause-goes : goal.returns-in-Trace-clause-goes
returns-in-Trace-clause-goes c =
    subst (λ (made : Move). GoesTo made c.args.phase c.args.heard c.args.self.now c.after_trace.result) (sym c.in-Trace.is)
    (c.after_trace.ensures.goes c.in-Trace.field-0 c.in-Trace.field-1)

pub returns-in-Trace-clause-helps : goal.returns-in-Trace-clause-helps
returns-in-Trace-clause-helps c =
    subst (λ (made : Move). Helps made c.args.phase c.args.heard c.args.self.now c.after_trace.result) (sym c.in-Trace.is)
    (c.after_trace.ensures.helps c.in-Trace.field-0 c.in-Trace.field-1)
