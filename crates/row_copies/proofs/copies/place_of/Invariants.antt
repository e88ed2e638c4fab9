use Rattle.std.proofs.Common.{◌≡◌, drop}
use Rattle.group_run.specs.Rows.{copy_in}
use Rattle.row_copies.proofs.copies.place_of.Given as goal

abbrev pub invariant-copies : goal.invariant-copies
invariant-copies l = copy_in (drop l.place l.copies) l.leader l.number ≡ copy_in l.copies l.leader l.number
