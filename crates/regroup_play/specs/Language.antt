-- The language of scripts of a group over eras.
use Rattle.scenario_play.specs.Language.{Language}
use Rattle.scenario_play.specs.Status.{status_of_lines, told_at}
use Rattle.regroup_run.specs.Promises.{KeepsPromises}
use Rattle.regroup_run.specs.Script.{first_fault, transcript}

abbrev pub era_scripts : Language
era_scripts = record { transcript = transcript; verdict = λ text. status_of_lines told_at (first_fault text); Promise = KeepsPromises }
