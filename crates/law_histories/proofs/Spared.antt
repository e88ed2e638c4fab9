-- Which copy of a row is spared by a death: one of a leader that the row doesn't know to be dead.
use Rattle.std.specs.Prelude.{◌≡◌, false}
use Rattle.group_types.specs.declared.process.ProcessId.TheVariants.{ParityNode}
use Rattle.group_types.specs.Each.{Each}
use Rattle.membership.specs.Members.{knows_dead}
use Rattle.group_run.specs.Process.{Process}

-- each copy of a process is of a leader that it doesn't know dead
abbrev pub IsSpared : Process → Type 0
IsSpared p = Each (λ c. knows_dead p.known (ParityNode c.leader) ≡ false) p.as_row.copies
