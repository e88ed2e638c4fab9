use Rattle.std.proofs.Common.{length, ap, sym, subst, ◌∙◌, Some, Ok}
use Rattle.group_run.specs.World.{World}
use Rattle.group_eras.specs.Promise.{IsLed}
use Rattle.scenario_run.specs.Playing.{draining_unless_down}
use Rattle.regroup_run.specs.Playing.{EraPlay, by_drain}
use Rattle.scenario_play.specs.Script.{HasDone}
use Rattle.scenario_text.specs.declared.line.LineFault.TheVariants.{Want}
use Rattle.regroup_play.proofs.Written.{drain-done}
use Rattle.regroup_play.proofs.next.follow_drain.Goals as goal

pub returns : goal.returns
returns c =
    let p : EraPlay = record { eras = c.play.inside.regroup; moment = c.play.inside.moment } in
    subst (λ (q : EraPlay). HasDone Want (Some q) (by_drain q (draining_unless_down q.eras.world))
    (Some (record { eras = c.drain.new.regroup; moment = c.play.inside.moment }))
    (Ok (Some c.write_count.new.text.items))) c.play.view_is
    (drain-done p c.drain.new.regroup c.era.result (length c.log-from.result.now)
    (subst (λ (q : EraPlay). IsLed q.eras) (sym c.play.view_is) c.requires.led) c.in_ok-count.count
    c.new-text.result.items
    c.write_since.new.text.items c.write_count.new.text.items c.in_ok-count.ensures.eras c.in_ok-count.ensures.count c.era.ensures
    (ap length c.log-from.ensures.log ∙ ap (λ (w : World). length w.log) c.world.ensures) c.new-text.ensures.items
    c.in_ok-write_since.ensures c.in_ok-write_count.ensures)
