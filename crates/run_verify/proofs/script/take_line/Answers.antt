use Rattle.std.proofs.Common.{Bool, subst, arith}
use Rattle.scenario_run.specs.Lines.{lines_of}
use Rattle.run_verify.specs.Scripts.{HasKept}
use Rattle.run_verify.specs.Sheet.{before_separator}
use Rattle.run_verify.proofs.Taking.{line-kept, line-skips, line-told}
use Rattle.run_verify.proofs.script.take_line.Goals as goal

pub returns-then-is_skipped-clause-taken : goal.returns-then-is_skipped-clause-taken
returns-then-is_skipped-clause-taken c = line-skips c.args.number c.args.setting.now c.args.steps.now.items
    c.args.line.now (before_separator (lines_of c.args.rest.now)) (grind arith)

pub returns-in-Err-clause-taken : goal.returns-in-Err-clause-taken
returns-in-Err-clause-taken c =
    line-told c.args.number c.args.setting.now c.treat.new.setting c.args.line.now
    (before_separator (lines_of c.args.rest.now)) c.in-Err.fault c.told.result c.in-Err.ensures.treated c.told.ensures

pub returns-in-Ok-clause-taken : goal.returns-in-Ok-clause-taken
returns-in-Ok-clause-taken c =
    line-kept c.args.number c.args.setting.now c.treat.new.setting c.args.steps.now.items c.keep.new.steps.items
    c.args.line.now (before_separator (lines_of c.args.rest.now)) (grind arith) c.in-Ok.treated c.keep.result
    c.in-Ok.ensures.treated
    (subst (λ (well : Bool). HasKept c.args.steps.now.items c.keep.new.steps.items c.in-Ok.treated well c.args.number
    c.keep.result) c.stands_well-well.ensures c.keep.ensures)
