use Rattle.std.proofs.Common.{ℕ, ◌≡◌, ◌≤◌, true}
use Rattle.group_types.specs.Names.{of_rank}
use Rattle.membership.specs.Members.{knows_dead}
use Rattle.membership.proofs.members.Members.head_of.Given as goal

abbrev pub invariant-ranks : goal.invariant-ranks
invariant-ranks l = (q : ℕ) → q ≤ l.i → knows_dead l.self (of_rank l.fn.d.0 q) ≡ true
