use Rattle.scenario_play.specs.Language.{language_of}
use Rattle.scenario_play.proofs.Ending.{promised}
use Rattle.cluster_run.specs.Promises.{KeepsPromises}
use Rattle.cluster_play.specs.Doing.{cluster_script}
use Rattle.cluster_play.proofs.Lines.{all-kept}
use Rattle.cluster_play.proofs.play.play_groups.Goals as goal

pub returns-clause-played : goal.returns-clause-played
returns-clause-played g c = promised (language_of cluster_script) KeepsPromises all-kept _ _ c.play_on.result c.play_on.ensures.played
