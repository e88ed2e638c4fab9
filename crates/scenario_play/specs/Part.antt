-- What was written of a script that wasn't played to its end.
use Rattle.std.specs.Prelude.{◌≡◌, ℕ, ◌<◌, List, ◌++◌, length, ◌⊎◌}
use Rattle.edge_io.specs.Writing.{HasWritten, HasWrittenPart}
use Rattle.scenario_run.specs.Lines.{lines_of}
use Rattle.scenario_play.specs.Outside.{TellsFront}
use Rattle.scenario_play.specs.declared.status.Status.TheVariants.{Want}

-- a rest of its lines wasn't treated: what was written is a front of what is written for each script that begins with the others
pub record IsUntreated (transcript : List ℕ → List ℕ) (script before now : List ℕ) : Type 0 where
  pub front : List (List ℕ)
  pub rest : List (List ℕ)
  pub cut : lines_of script ≡ front ++ rest
  pub left : 0 < length rest
  pub written : (other : List ℕ) (more : List (List ℕ)) → lines_of other ≡ front ++ more → HasWritten before now (transcript other)

-- a rest of its lines wasn't treated, or what is written for it wasn't written whole
abbrev pub IsPlayedInPart : (List ℕ → List ℕ) → List ℕ → List ℕ → List ℕ → Type 0
IsPlayedInPart transcript script before now = IsUntreated transcript script before now ⊎ HasWrittenPart before now (transcript script)

-- there was no memory before a text was written whole: nothing of it was written, or not the whole, and a last line came behind
pub record WantsWithinText (text before now : List ℕ) : Type 0 where
  pub middle : List ℕ
  pub unfinished : (middle ≡ before) ⊎ HasWrittenPart before middle text
  pub told : TellsFront middle now Want

-- there was no memory before it was played to its end: nothing was written, or it is unfinished, and a last line came behind
pub record WantsWithin (transcript : List ℕ → List ℕ) (script before now : List ℕ) : Type 0 where
  pub middle : List ℕ
  pub unfinished : (middle ≡ before) ⊎ IsPlayedInPart transcript script before middle
  pub told : TellsFront middle now Want
