use Rattle.std.proofs.Common.{sym, subst}
use Rattle.group_run.specs.Meaning.{IsDown}
use Rattle.group_run.specs.World.{World}
use Rattle.group_eras.proofs.SetAll.{opens-rests}
use Rattle.group_regroup.proofs.fresh.filled.Goals as goal

pub set_all-requires-clause-up : goal.set_all-requires-clause-up
set_all-requires-clause-up c = subst (λ (w : World). ¬ (IsDown w)) (sym c.in_ok-world.ensures) (opens-rests c.args.shape c.requires.shape).up
