use Rattle.std.proofs.Common.{◌≡◌, ◌≤◌, ◌+◌, ◌-◌, length, take}
use Rattle.scenario_run.specs.Lines.{lines_of}
use Rattle.run_verify.specs.Accounts.{lists_of}
use Rattle.run_verify.specs.Dues.{AreBehind, LeadsTo}
use Rattle.run_verify.proofs.Duties.{IsAt}
use Rattle.run_verify.proofs.placing.judge_part.Given as goal

abbrev pub invariant-changes : goal.invariant-changes
invariant-changes l = record {
  due : IsAt (lists_of l.fn.changes) l.partition l.changes l.place l.passed;
  leads : LeadsTo l.fn.shape (lists_of l.fn.changes) l.fn.passed (lines_of l.fn.text) l.passed (lines_of l.rest);
  items : AreBehind (take l.place l.changes) l.items;
  shape : l.items.shape ≡ l.fn.shape;
  few : l.passed + length l.rest ≤ l.fn.passed + length l.fn.text;
  within : l.place ≤ length l.changes;
}

abbrev pub decreases-changes : goal.decreases-changes
decreases-changes l = length l.changes - l.place
