use Rattle.std.proofs.Common.{ℕ, List, subst, arith}
use Rattle.std.specs.Prelude.{◌↔◌}
use Rattle.scenario_run.specs.Lines.{lines_of}
use Rattle.run_verify.specs.Passing.{LogsAhead}
use Rattle.run_verify.proofs.LogAhead.{ahead_ends}
use Rattle.run_verify.proofs.ahead.logs_ahead.Goals as goal

pub returns-in-Some : goal.returns-in-Some
returns-in-Some c =
    let here = ahead_ends c.args.front.now c.args.reply.now c.cut_line.result.0.now c.in-Some.end.now
    (lines_of c.cut_line.result.1.now) (grind arith) c.in-Some.ensures in
    let cut = subst (λ (ls : List (List ℕ)). LogsAhead c.args.front.now c.args.reply.now ls ↔ LogsAhead c.args.front.now
    c.args.reply.now (lines_of c.args.ahead.now)) c.cut_line.ensures.lines c.lines.invariant.same in
    (λ yes. cut.0 (here.0 (c.tells.ensures.0 yes)), λ found. c.tells.ensures.1 (here.1 (cut.1 found)))
