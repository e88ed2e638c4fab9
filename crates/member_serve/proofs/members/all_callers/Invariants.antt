use Rattle.std.proofs.Common.{◌≡◌, vec_len}
use Rattle.member_serve.proofs.members.all_callers.Given as goal

abbrev pub invariant-groups : goal.invariant-groups
invariant-groups l = record { count : vec_len l.callers ≡ l.group }
