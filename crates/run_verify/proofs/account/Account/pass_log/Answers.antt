use Rattle.std.proofs.Common.{arith}
use Rattle.scenario_run.specs.Lines.{lines_of}
use Rattle.run_verify.specs.Accounts.{account_of}
use Rattle.run_verify.specs.Courses.{IsLineLogged}
use Rattle.run_verify.proofs.Logging.{judged_not, not_log}
use Rattle.run_verify.proofs.account.Account.pass_log.Goals as goal

pub returns-then-not-branch : goal.returns-then-not-branch
returns-then-not-branch c = λ sheet steps is.
    not_log sheet (account_of c.args.self.now) c.args.step.now steps c.args.logging c.args.line.now (lines_of c.args.ahead.now)
    (judged_not (IsLineLogged sheet (account_of c.args.self.now) c.args.line.now) (account_of c.log.new.self) c.log.result
    c.in_ok-log.field-0 c.in_ok-log.was (grind arith) (c.log.ensures sheet is))
