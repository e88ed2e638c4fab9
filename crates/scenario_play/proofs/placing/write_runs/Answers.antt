use Rattle.std.proofs.Common.{ℕ, ◌<◌, ◌++◌, [], List, Option, ap, ◌∙◌, arith}
use Rattle.std.proofs.lemmas.Grind.{common_steps}
use Rattle.group_types.specs.declared.run.Run.{Run}
use Rattle.group_run.specs.World.{World}
use Rattle.scenario_text.specs.Texts.{many_placed, places_text}
use Rattle.scenario_run.proofs.Placing.{placed-next}
use Rattle.scenario_play.proofs.placing.write_runs.Goals as goal

pub partitions-preserved : goal.partitions-preserved
partitions-preserved c =
    let w : World = c.args.world.now in
    let d : ℕ = c.partitions.d in
    let text : List ℕ = c.partitions.text.items in
    let within : d < w.shape.k = grind (arith, common_steps) in
    placed-next [] w d text c.write_places.new.text.items c.partitions.count c.in_ok-count.field-0 within c.partitions.invariant
    (c.in_ok-count.ensures.text ∙ ap (λ (rs : List (Option Run)). text ++ places_text d 0 rs) c.places.ensures)
    (c.in_ok-count.ensures.count ∙ ap many_placed c.places.ensures)
    c.in_ok-count.ensures.lines
