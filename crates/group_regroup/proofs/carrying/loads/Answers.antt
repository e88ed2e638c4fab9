use Rattle.group_run.specs.Meaning.{IsDown}
use Rattle.group_regroup.proofs.Undrained.{none-next}
use Rattle.group_regroup.proofs.carrying.loads.Goals as goal

pub returns-then-not-is_drained-clause-fault : goal.returns-then-not-is_drained-clause-fault
returns-then-not-is_drained-clause-fault c =
    let up : ¬ (IsDown c.args.world.now) = λ down. cc (c.if-is_down.ensures.1 down) in
    (up, λ drained. cc (c.if-not-is_drained.ensures.next.1 (none-next c.args.world.now c.run.ensures up drained)))
