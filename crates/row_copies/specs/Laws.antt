-- A mark, as the machine takes it.
use Rattle.std.specs.Prelude.{◌≡◌, ℕ, Option, Some, None}
use Rattle.group_types.specs.Dimensions.{Dimensions}
use Rattle.group_types.specs.Names.{same_process}
use Rattle.group_types.specs.declared.process.ProcessId.TheVariants.{ParityNode}
use Rattle.group_run.specs.Applying.{ProcessStep, quiet}
use Rattle.group_run.specs.Leaders.{copy_marked, row_finished}
use Rattle.group_run.specs.Process.{Copy, Process}
use Rattle.group_run.specs.Rows.{with_copies}
use Rattle.row_copies.specs.Row.{marking}

-- what a process makes of a copy that its row hands out, if it does
abbrev pub handed_on : Dimensions → Option Copy → Process → ProcessStep
handed_on s None p = quiet p
handed_on s (Some copy) p = row_finished (same_process p.name (ParityNode copy.leader)) s copy p

-- the machine keeps the copies that a row keeps, and hands on the one that a row hands out
abbrev pub MarksAreTheMachines : Type 0
MarksAreTheMachines = (s : Dimensions) (d n : ℕ) (found : Option Copy) (p : Process)
    → copy_marked s d n found p ≡ handed_on s (marking s d n found p.as_row.copies).done (with_copies (marking s d n found p.as_row.copies).copies p)
