use Rattle.std.proofs.Common.{◌≡◌, ◌++◌, drop}
use Rattle.scenario_run.specs.Marks.{marked_entries}
use Rattle.scenario_play.proofs.entries.write_entries.Given as goal

abbrev pub invariant-entries : goal.invariant-entries
invariant-entries l = l.text.items ++ marked_entries l.mark (drop l.entry-index l.entries) ≡ l.initial.text.items ++ marked_entries l.mark l.entries
