use Rattle.run_verify.specs.Accounts.{account_of}
use Rattle.run_verify.proofs.Entering.{closed, entered_ok}
use Rattle.run_verify.proofs.account.Account.read_named.Goals as goal

pub returns-in-None : goal.returns-in-None
returns-in-None c = closed (account_of c.args.self.now) c.args.line.now c.args.name c.requires.name c.requires.front
    (cc (c.in_ok-open_call.ensures, c.in-None.is, c.calls_of.ensures))

pub returns-in-Some : goal.returns-in-Some
returns-in-Some c = entered_ok (account_of c.args.self.now) c.args.line.now c.args.name c.requires.name c.requires.front
    c.in-Some.op (account_of c.apply.new.self) c.apply.result
    (cc (c.in_ok-open_call.ensures, c.in-Some.is, c.calls_of.ensures)) c.apply.ensures
