use Rattle.std.proofs.Common.{◌≡◌, ◌+◌, ◌≤◌, drop}
use Rattle.std.specs.Prelude.{count_by}
use Rattle.group_run.specs.Meaning.{is_update_of}
use Rattle.group_regroup.proofs.ending.updates.Given as goal

abbrev pub invariant-entries : goal.invariant-entries
invariant-entries l = record {
  counted : l.count + count_by (is_update_of l.fn.k l.fn.partition) (drop l.entry-index l.fn.log) ≡ count_by (is_update_of l.fn.k l.fn.partition) l.fn.log;
  low : l.count ≤ l.entry-index;
}
