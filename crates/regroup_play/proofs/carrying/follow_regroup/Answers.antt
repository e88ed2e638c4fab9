use Rattle.std.proofs.Common.{ℕ, Option, Result, Some, length, ap, sym, subst, ◌∙◌, Vec, Global}
use Rattle.group_run.specs.World.{World}
use Rattle.group_eras.specs.Promise.{IsLed}
use Rattle.scenario_play.specs.Player.{bytes_in_text}
use Rattle.scenario_text.specs.declared.line.LineFault.{LineFault}
use Rattle.regroup_run.specs.Playing.{EraPlay, by_regroup}
use Rattle.scenario_play.specs.Script.{HasDone}
use Rattle.scenario_text.specs.declared.line.LineFault.TheVariants.{Want}
use Rattle.regroup_play.proofs.Judging.{carry-done, era-low, refusal-done}
use Rattle.regroup_play.proofs.carrying.follow_regroup.Goals as goal
use Rattle.regroup_play.proofs.carrying.follow_regroup.Goals.{in-Ok, in-Err}

pub write_carried-requires : goal.write_carried-requires
write_carried-requires c = era-low c.play.inside.regroup c.carry.new.regroup c.args.shape c.in-Ok.count c.era-era.result c.in-Ok.ensures c.era-era.ensures

pub returns : goal.returns
returns c =
    let p : EraPlay = record { eras = c.play.inside.regroup; moment = c.play.inside.moment } in
    let now : EraPlay = record { eras = c.carry.new.regroup; moment = c.play.inside.moment } in
    let led : IsLed c.play.inside.regroup = subst (λ (q : EraPlay). IsLed q.eras) (sym c.play.view_is) c.requires.led in
    subst (λ (q : EraPlay). HasDone Want (Some q) (by_regroup q c.args.shape) (Some now) (bytes_in_text c.match-carry.result))
    c.play.view_is (elim c.match-carry.branch [
      | in-Ok w ↦
          subst (λ (r : Result (Option (Vec ℕ Global)) LineFault). HasDone Want (Some p) (by_regroup p c.args.shape) (Some now) (bytes_in_text r))
          (sym w.result-is)
          (carry-done p c.args.shape c.carry.new.regroup w.in-Ok.count c.era-era.result (length c.log-from.result.now)
          (bytes_in_text w.write_carried.result) led w.in-Ok.ensures c.era-era.ensures
          (ap length c.log-from.ensures.log ∙ ap (λ (v : World). length v.log) c.world.ensures) w.write_carried.ensures)
      | in-Err w ↦
          subst (λ (r : Result (Option (Vec ℕ Global)) LineFault). HasDone Want (Some p) (by_regroup p c.args.shape) (Some now) (bytes_in_text r))
          (sym w.result-is)
          (refusal-done p c.args.shape c.carry.new.regroup w.in-Err.fault (bytes_in_text w.write_refusal.result) led w.in-Err.ensures w.write_refusal.ensures)
    ])
