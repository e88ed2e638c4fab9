use Rattle.std.proofs.Common.{ℕ, ◌≡◌, ◌<◌, true, false}
use Rattle.group_types.specs.Lists.{at}
use Rattle.membership.proofs.members.are_within.Given as goal

abbrev pub invariant-words : goal.invariant-words
invariant-words l = (k : ℕ) → k < l.i → at false l.words k ≡ true → at false l.others k ≡ true
