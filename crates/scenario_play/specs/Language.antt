-- Languages of scripts.
use Rattle.std.specs.Prelude.{ℕ, ◌≡◌, List, None}
use Rattle.scenario_run.specs.Lines.{lines_of}
use Rattle.scenario_run.specs.Promises.{KeepsPromises}
use Rattle.scenario_run.specs.Script.{transcript}
use Rattle.scenario_play.specs.Player.{telling}
use Rattle.scenario_play.specs.Script.{Scripts}
use Rattle.scenario_play.specs.Status.{told_by, verdict}
use Rattle.scenario_play.specs.declared.status.Status.{Status}
use Rattle.scenario_play.specs.declared.status.Status.TheVariants.{Done}

-- what is written for the lines of a script, what is told of them, and what is promised of a script that is played to its end
pub record Language : Type 1 where
  pub transcript : List ℕ → List ℕ
  pub verdict : List ℕ → Status
  pub Promise : List ℕ → Type 0

-- what is told of a script
abbrev pub status_told : Language → List ℕ → Status
status_told l text = told_by l.verdict text

-- scripts of one group
abbrev pub group_scripts : Language
group_scripts = record { transcript = transcript; verdict = verdict; Promise = KeepsPromises }

-- what the language of a kind of scripts is: of a script that is played to its end, that no line was refused
abbrev pub language_of : {S T F : Type 0} → Scripts S T F → Language
language_of script =
    record {
      transcript = λ text. (telling script).text None (lines_of text);
      verdict = λ text. (telling script).verdict 1 None (lines_of text);
      Promise = λ text. (telling script).verdict 1 None (lines_of text) ≡ Done;
    }
