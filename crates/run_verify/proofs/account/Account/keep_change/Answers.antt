use Rattle.run_verify.specs.Accounts.{lists_of}
use Rattle.run_verify.proofs.Shadowing.{follow_more}
use Rattle.run_verify.proofs.account.Account.keep_change.Goals as goal

pub invariant_of-self : goal.invariant_of-self
invariant_of-self c = record {
  callers = c.args.self.now.callers;
  follow = follow_more (lists_of c.args.self.now.changes.items) (lists_of c.add_change.new.changes.items)
      c.args.self.now.shadows.items c.add_change.ensures.more c.args.self.now.follow;
}
