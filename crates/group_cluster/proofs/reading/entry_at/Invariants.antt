use Rattle.std.proofs.Common.{◌≡◌, drop}
use Rattle.std.specs.Prelude.{slice_get}
use Rattle.group_cluster.specs.Parts.{log_in}
use Rattle.group_cluster.proofs.reading.entry_at.Given as goal

abbrev pub invariant-parts : goal.invariant-parts
invariant-parts l = record {
  left : slice_get (log_in l.fn.shape l.fn.worlds l.fn.parts) l.fn.place ≡ slice_get (log_in l.fn.shape l.fn.worlds (drop l.i l.fn.parts)) l.left;
}
