use Rattle.std.proofs.Common.{◌∙◌}
use Rattle.run_verify.specs.Accounts.{account_of}
use Rattle.run_verify.proofs.Looking.{shows_told, told_ok}
use Rattle.run_verify.proofs.account.Account.tells_in.Goals as goal

pub returns-in-Some-clause-told : goal.returns-in-Some-clause-told
returns-in-Some-clause-told c = told_ok c.is_shown.result
    (shows_told c.args.shape (account_of c.args.self.now) c.args.at c.args.run c.args.line.now c.shown.new.stamp
    c.in-Some.word.now (c.shown.ensures.long ∙ c.requires.stamp) c.are_numbers.ensures c.in-Some.ensures.some)
    c.is_shown.ensures.told
