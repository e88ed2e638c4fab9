use Rattle.scenario_run.specs.Promises.{KeepsPromises}
use Rattle.scenario_play.specs.Group.{group_script}
use Rattle.scenario_play.specs.Language.{language_of}
use Rattle.scenario_play.proofs.Ending.{promised}
use Rattle.scenario_play.proofs.Lines.{all-kept}
use Rattle.scenario_play.proofs.play.play.Goals as goal

pub returns-clause-played : goal.returns-clause-played
returns-clause-played g c = promised (language_of group_script) KeepsPromises all-kept _ _ c.play_on.result c.play_on.ensures.played
