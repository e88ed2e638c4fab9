-- A mark at a row, as the machine's step.
use Rattle.std.proofs.Common.{◌≡◌, Bool, true, false, Some, None, refl}
use Rattle.group_types.specs.Dimensions.{Dimensions}
use Rattle.group_run.specs.Leaders.{copy_kept}
use Rattle.group_run.specs.Process.{Copy, Process}
use Rattle.group_run.specs.Rows.{is_marked, marked, with_copies}
use Rattle.row_copies.specs.Laws.{MarksAreTheMachines, handed_on}
use Rattle.row_copies.specs.Row.{kept_until}

kept_is : (s : Dimensions) (b : Bool) (copy : Copy) (p : Process)
    → copy_kept b s copy p ≡ handed_on s (kept_until b copy p.as_row.copies).done (with_copies (kept_until b copy p.as_row.copies).copies p)
kept_is s true copy p = refl
kept_is s false copy p = refl

pub marks_are_the_machines : MarksAreTheMachines
marks_are_the_machines s d n None p = refl
marks_are_the_machines s d n (Some copy) p = kept_is s (is_marked s (marked d n copy)) (marked d n copy) p
