use Rattle.std.proofs.Common.{refl}
use Rattle.scenario_make.specs.Script.{script_text}
use Rattle.scenario_play.specs.declared.status.Status.TheVariants.{Done}
use Rattle.scenario_play.proofs.Ending.{fault-alone, written-part, written-whole}
use Rattle.scenario_play.proofs.make.make.Goals as goal

pub returns-in-Ok : goal.returns-in-Ok
returns-in-Ok g c = written-whole Done (script_text c.args.number) _ _ _ _ refl c.in-Ok.ensures.whole

pub returns-in-Err : goal.returns-in-Err
returns-in-Err g c = written-part Done (script_text c.args.number) _ _ _ _ _ _ c.in-Err.status c.tell.result
    (fault-alone Done _ _ c.in-Err.status c.in-Err.ensures.fault)
    c.in-Err.ensures.part c.in-Err.ensures.short c.tell.ensures.status c.tell.ensures.front c.tell.ensures.later
