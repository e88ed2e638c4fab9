use Rattle.std.proofs.Common.{◌≡◌, ◌≤◌, ◌-◌}
use Rattle.std.specs.List.{list_all, range_with_len}
use Rattle.group_types.specs.declared.process.ProcessId.TheVariants.{ParityNode}
use Rattle.membership.specs.Members.{knows_dead}
use Rattle.process_service.proofs.succession.are_dead.Given as goal

abbrev pub invariant-lower : goal.invariant-lower
invariant-lower l = record {
  within : l.j ≤ l.fn.number;
  all : l.all ≡ list_all (λ j. knows_dead l.fn.known (ParityNode j)) (range_with_len l.j (l.fn.number - l.j));
}

abbrev pub decreases-lower : goal.decreases-lower
decreases-lower l = l.j
