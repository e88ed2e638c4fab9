use Rattle.std.proofs.Common.{arith}
use Rattle.scenario_run.specs.Lines.{lines_of}
use Rattle.run_verify.specs.Accounts.{account_of}
use Rattle.run_verify.specs.Courses.{IsMet}
use Rattle.run_verify.proofs.Logging.{judged_not}
use Rattle.run_verify.proofs.Meeting.{meets_nothing}
use Rattle.run_verify.proofs.account.Account.pass_step.Goals as goal

pub returns-then-not-branch : goal.returns-then-not-branch
returns-then-not-branch c =
    meets_nothing c.args.shape c.args.places.now (account_of c.args.self.now) c.args.step.now c.args.logging
    c.args.line.now (lines_of c.args.ahead.now) (account_of c.meet.new.self) c.in_default.not-Placing
    (judged_not (IsMet c.args.shape (account_of c.args.self.now) c.args.step.now c.args.line.now
    (lines_of c.args.ahead.now)) (account_of c.meet.new.self) c.meet.result c.in_ok-meet.field-0 c.in_ok-meet.was
    (grind arith) c.meet.ensures)
