use Rattle.scenario_make.specs.Script.{script_text}
use Rattle.scenario_play.specs.Status.{status_for}
use Rattle.scenario_play.specs.Trial.{trial_text}
use Rattle.scenario_play.proofs.Ending.{written-part, written-whole}
use Rattle.scenario_play.proofs.trial.trial.Goals as goal

pub returns-in-Ok : goal.returns-in-Ok
returns-in-Ok g c = written-whole (status_for (script_text c.args.number)) (trial_text c.args.number) _ _ _ _ c.in-Ok.ensures.told c.in-Ok.ensures.whole

pub returns-in-Err : goal.returns-in-Err
returns-in-Err g c = written-part (status_for (script_text c.args.number)) (trial_text c.args.number) _ _ _ _ _ _
    c.in-Err.status c.tell.result c.in-Err.ensures.fault
    c.in-Err.ensures.part c.in-Err.ensures.short c.tell.ensures.status c.tell.ensures.front c.tell.ensures.later
