-- A run in which a data process is cut, fails, and its death is taken: such runs are there.
use Rattle.std.proofs.Common.{[], ◌∷◌, refl}
use Rattle.group_wire.specs.Actions.{Cut, Permit, Take}
use Rattle.group_wire.specs.Rows.{AFailureMayCome, d0, p0}
use Rattle.group_wire.proofs.Checks.{may-come}

pub a_failure_may_come : AFailureMayCome
a_failure_may_come = may-come 1 1 (Cut d0 p0 ∷ Permit p0 ∷ Take d0 p0 ∷ []) refl refl
