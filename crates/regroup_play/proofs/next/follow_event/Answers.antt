use Rattle.std.proofs.Common.{length, ap, sym, subst, ◌∙◌, Some, Ok}
use Rattle.group_run.specs.World.{World}
use Rattle.group_eras.specs.Promise.{IsLed}
use Rattle.regroup_run.specs.Playing.{EraPlay, by_event}
use Rattle.scenario_play.specs.Script.{HasDone}
use Rattle.scenario_text.specs.declared.line.LineFault.TheVariants.{Want}
use Rattle.regroup_play.proofs.Written.{event-done}
use Rattle.regroup_play.proofs.next.follow_event.Goals as goal

pub returns : goal.returns
returns c =
    let p : EraPlay = record { eras = c.play.inside.regroup; moment = c.play.inside.moment } in
    subst (λ (q : EraPlay). HasDone Want (Some q) (by_event q c.args.event)
    (Some (record { eras = c.make.new.regroup; moment = c.play.inside.moment }))
    (Ok (Some c.write_since.new.text.items))) c.play.view_is
    (event-done p c.make.new.regroup c.era.result (length c.log-from.result.now)
    (subst (λ (q : EraPlay). IsLed q.eras) (sym c.play.view_is) c.requires.led) c.args.event c.in_ok-out.out.answer
    c.in_ok-text.text.items c.write_since.new.text.items
    c.in_ok-out.ensures.eras c.in_ok-out.ensures.answer c.in_ok-text.ensures c.era.ensures
    (ap length c.log-from.ensures.log ∙ ap (λ (w : World). length w.log) c.world.ensures) c.in_ok-write_since.ensures)
