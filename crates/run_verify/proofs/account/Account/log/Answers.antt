use Rattle.std.proofs.Common.{subst}
use Rattle.run_verify.specs.Accounts.{account_of}
use Rattle.run_verify.specs.Judging.{HasReadEntry}
use Rattle.run_verify.proofs.Logging.{logs_entry}
use Rattle.run_verify.proofs.account.Account.log.Goals as goal

pub returns-in_ok-keep-in-Some : goal.returns-in_ok-keep-in-Some
returns-in_ok-keep-in-Some c =
    let read = subst (HasReadEntry (account_of c.args.self.now) c.args.line.now (account_of c.read_entry.new.self)) c.in-Some.is c.in_ok-read_entry.ensures in
    logs_entry c.args.shape c.args.places.now (account_of c.args.self.now) c.args.line.now
    (account_of c.read_entry.new.self) c.in-Some.entry (account_of c.keep.new.self)
    c.k-partitions.ensures.in_range c.requires.few read c.in_ok-keep-in-Some.ensures.kept
