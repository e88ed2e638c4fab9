use Rattle.std.proofs.Common.{◌≡◌, [], replicate}
use Rattle.run_verify.specs.Accounts.{lists_of}
use Rattle.run_verify.proofs.judge.nothing.Given as goal

abbrev pub invariant-lists : goal.invariant-lists
invariant-lists g l = lists_of l.lists.items ≡ replicate l.counter []
