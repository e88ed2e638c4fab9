use Rattle.scenario_play.specs.Language.{language_of}
use Rattle.scenario_play.proofs.Ending.{promised}
use Rattle.regroup_run.specs.Promises.{KeepsPromises}
use Rattle.regroup_play.specs.Doing.{era_script}
use Rattle.regroup_play.proofs.Lines.{all-kept}
use Rattle.regroup_play.proofs.play.play_regroup.Goals as goal

pub returns-clause-played : goal.returns-clause-played
returns-clause-played g c = promised (language_of era_script) KeepsPromises all-kept _ _ c.play_on.result c.play_on.ensures.played
