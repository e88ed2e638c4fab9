use Rattle.std.proofs.Common.{◌≡◌, ◌-◌}
use Rattle.std.specs.List.{range_with_len}
use Rattle.group_layout.specs.Layout.{first_on, process_on}
use Rattle.group_layout.proofs.layout.process_on.Given as goal

abbrev pub invariant-processes : goal.invariant-processes
invariant-processes l = record {
  left : process_on l.fn.nodes l.fn.processes l.fn.node l.fn.group ≡ first_on l.fn.nodes l.fn.node l.fn.group (range_with_len l.q (l.fn.processes - l.q));
}
