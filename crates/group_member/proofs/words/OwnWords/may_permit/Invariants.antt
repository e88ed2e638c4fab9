use Rattle.std.proofs.Common.{ℕ, ◌<◌}
use Rattle.group_types.specs.Names.{process_at}
use Rattle.group_member.specs.Words.{HasSaidAll}
use Rattle.group_member.proofs.words.OwnWords.may_permit.Given as goal

abbrev pub invariant-others : goal.invariant-others
invariant-others l = (y : ℕ) → y < l.x → HasSaidAll l.self (process_at l.self.shape y)
