use Rattle.run_verify.specs.Accounts.{account_of}
use Rattle.run_verify.proofs.Entering.{unnamed}
use Rattle.run_verify.proofs.account.Account.read_entry.Goals as goal

pub returns-in-None : goal.returns-in-None
returns-in-None c = unnamed (account_of c.args.self.now) c.args.line.now c.in-None.ensures
