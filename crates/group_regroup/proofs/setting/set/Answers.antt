use Rattle.std.proofs.Common.{◌≡◌, subst}
use Rattle.std.specs.Prelude.{OnOk}
use Rattle.group_calls.specs.declared.event.Event.{Event}
use Rattle.group_run.specs.World.{step}
use Rattle.group_eras.specs.Carry.{drained}
use Rattle.group_regroup.proofs.setting.set.Goals as goal

pub returns-clause-world : goal.returns-clause-world
returns-clause-world c =
    subst (λ (e : Event). OnOk c.set_event.result (c.set_event.new.world ≡ drained (step c.args.world.now e).world))
    c.in_ok-event.ensures.event c.set_event.ensures.world
