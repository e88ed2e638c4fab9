use Rattle.std.proofs.Common.{arith}
use Rattle.std.proofs.lemmas.Grind.{common_steps}
use Rattle.scenario_run.specs.Lines.{lines_of}
use Rattle.run_verify.proofs.Finding.{no_lines}
use Rattle.run_verify.proofs.Placed.{goes_end, is_end, lacks_end}
use Rattle.run_verify.proofs.placing.judge_end.Goals as goal

pub returns-then-not-branch : goal.returns-then-not-branch
returns-then-not-branch c =
    lacks_end c.args.passed (lines_of c.args.text.now) c.cut_line.result.0.now (lines_of c.cut_line.result.1.now)
    c.cut_line.ensures.lines (λ is. let said = c.in_ok-is_count.ensures.1 is in grind (arith, said))

pub returns-then-is_empty-2 : goal.returns-then-is_empty-2
returns-then-is_empty-2 c =
    is_end c.args.passed (lines_of c.args.text.now) c.cut_line.result.0.now (lines_of c.cut_line.result.1.now) c.cut_line.ensures.lines
    (no_lines c.cut_line.result.1.now (grind (arith, common_steps))) (c.in_ok-is_count.ensures.0 (grind arith))

pub returns : goal.returns
returns c =
    goes_end c.args.passed (lines_of c.args.text.now) c.cut_line.result.0.now c.cut_line.result.1.now
    c.cut_line.ensures.lines (grind (arith, common_steps)) (c.in_ok-is_count.ensures.0 (grind arith))
