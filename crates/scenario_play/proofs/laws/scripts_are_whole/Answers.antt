use Rattle.std.proofs.Common.{refl}
use Rattle.scenario_run.specs.Script.{first_fault}
use Rattle.scenario_play.specs.Group.{group_script, group_told}
use Rattle.scenario_play.specs.Language.{group_scripts}
use Rattle.scenario_play.proofs.Whole.{plays-all, script-never}
use Rattle.scenario_play.proofs.laws.scripts_are_whole.Goals as goal

pub returns : goal.returns
returns c = plays-all group_scripts (script-never group_script group_scripts first_fault group_told (λ text. refl))
