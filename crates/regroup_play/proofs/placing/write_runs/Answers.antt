use Rattle.std.proofs.Common.{ℕ, ◌<◌, arith}
use Rattle.std.proofs.lemmas.Grind.{common_steps}
use Rattle.group_run.specs.World.{World}
use Rattle.scenario_run.proofs.Placing.{placed-next}
use Rattle.regroup_play.proofs.placing.write_runs.Goals as goal

pub partitions-preserved : goal.partitions-preserved
partitions-preserved c =
    let w : World = c.args.regroup.now.world in
    let d : ℕ = c.partitions.d in
    let within : d < w.shape.k = grind (arith, common_steps) in
    placed-next c.args.regroup.now.bases w d c.partitions.text.items c.write_partition.new.text.items c.partitions.count
    c.in_ok-count.field-0 within c.partitions.invariant
    c.in_ok-count.ensures.text c.in_ok-count.ensures.count c.in_ok-count.ensures.lines
