use Rattle.std.proofs.Common.{◌≡◌, ◌≤◌, ◌+◌, ◌-◌, length}
use Rattle.scenario_run.specs.Lines.{lines_of}
use Rattle.run_verify.specs.Accounts.{lists_of}
use Rattle.run_verify.specs.Dues.{LeadsTo, dues_left, dues_on}
use Rattle.run_verify.proofs.placing.judge_places.Given as goal

abbrev pub invariant-partitions : goal.invariant-partitions
invariant-partitions l = record {
  due : dues_left (lists_of l.changes) l.passed ≡ dues_on (lists_of l.changes) l.partition;
  leads : LeadsTo l.shape (lists_of l.changes) 0 (lines_of l.text) l.passed (lines_of l.rest);
  few : l.passed + length l.rest ≤ length l.text;
  within : l.partition ≤ l.many;
}

abbrev pub decreases-partitions : goal.decreases-partitions
decreases-partitions l = l.many - l.partition
