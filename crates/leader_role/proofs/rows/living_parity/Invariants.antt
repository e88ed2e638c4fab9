use Rattle.std.proofs.Common.{◌≡◌, ◌++◌, not}
use Rattle.group_types.specs.declared.process.ProcessId.TheVariants.{ParityNode}
use Rattle.membership.specs.Members.{knows_dead}
use Rattle.leader_role.specs.Starting.{living_parity}
use Rattle.leader_role.proofs.Ranges.{found_from}
use Rattle.leader_role.proofs.rows.living_parity.Given as goal

abbrev pub invariant-parities : goal.invariant-parities
invariant-parities l = l.living.items ++ found_from (λ i. not (knows_dead l.known (ParityNode i))) l.fn.shape.m l.i ≡ living_parity l.fn.shape l.known
