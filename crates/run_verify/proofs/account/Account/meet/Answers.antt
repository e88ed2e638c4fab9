use Rattle.std.proofs.Common.{sym, subst}
use Rattle.scenario_run.specs.Lines.{lines_of}
use Rattle.run_verify.specs.Accounts.{account_of}
use Rattle.run_verify.specs.Courses.{IsMet}
use Rattle.run_verify.specs.Judging.{Judges}
use Rattle.run_verify.specs.declared.step.Step.{Step}
use Rattle.run_verify.proofs.account.Account.meet.Goals as goal

pub returns-in-Make : goal.returns-in-Make
returns-in-Make c =
    subst (λ (s : Step).
    Judges (IsMet c.args.shape (account_of c.args.self.now) s c.args.line.now (lines_of c.args.ahead.now))
    (account_of c.answer.new.self) c.answer.result) (sym c.in-Make.is) c.answer.ensures

pub returns-in-Look : goal.returns-in-Look
returns-in-Look c =
    subst (λ (s : Step).
    Judges (IsMet c.args.shape (account_of c.args.self.now) s c.args.line.now (lines_of c.args.ahead.now))
    (account_of c.look.new.self) c.look.result) (sym c.in-Look.is) c.look.ensures
