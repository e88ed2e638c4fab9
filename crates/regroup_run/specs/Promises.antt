-- What holds of every script over eras: its moves may be done, so the laws of eras are about it; and the lines that show
-- bytes show what the log tells.
use Rattle.std.specs.Prelude.{ℕ, ◌≡◌, List, [], ◌∷◌, ◌++◌, Option, Some, None, Result}
use Rattle.group_types.specs.Dimensions.{Dimensions}
use Rattle.group_types.specs.Shape.{IsShape}
use Rattle.group_types.specs.declared.process.ProcessId.{ProcessId}
use Rattle.group_types.specs.declared.run.Run.{Run}
use Rattle.group_run.specs.Shown.{told_bytes}
use Rattle.group_run.specs.World.{opening}
use Rattle.scenario_text.specs.Meaning.{line_meaning}
use Rattle.scenario_text.specs.declared.line.Line.{Line}
use Rattle.scenario_text.specs.declared.line.LineFault.{LineFault}
use Rattle.scenario_run.specs.Course.{AllLines}
use Rattle.scenario_run.specs.Lines.{lines_of}
use Rattle.scenario_run.specs.Promises.{IsTrueShow}
use Rattle.group_eras.specs.Eras.{Eras, first_era}
use Rattle.group_eras.specs.Promise.{EraMove, Carries, HasCarried, HasPromise, MayAllBeDone, done}
use Rattle.regroup_run.specs.Playing.{EraPlay, look, next_of, shape_in}
use Rattle.regroup_run.specs.Script.{era_moves_of, era_script_shape, first_fault}

-- what a carry leaves is what it should
abbrev pub Keeps : Eras → EraMove → Type 0
Keeps e (Carries s) = HasCarried e s
Keeps e _ = Unit {0}

-- before and after each move the eras have their promise, and each carry keeps what it carries
abbrev pub KeepAll : Eras → List EraMove → Type 0
KeepAll e [] = HasPromise e
KeepAll e (move ∷ moves) = HasPromise e × Keeps e move × KeepAll (done e move) moves

-- the text shows what the log tells
abbrev pub ShowsTruth : Eras → ProcessId → Run → List ℕ → Type 0
ShowsTruth e p run text = text ≡ look e p (told_bytes e.world p run) ++ 10 ∷ []

-- so it is with what is written for a line that shows bytes
abbrev pub IsTrueLine : Option EraPlay → Result Line LineFault → List ℕ → Type 0
IsTrueLine (Some p) read text = IsTrueShow (ShowsTruth p.eras) read text
IsTrueLine None read text = Unit {0}

-- and with all lines
abbrev pub AreTrueLines : Option EraPlay → List (List ℕ) → Type 0
AreTrueLines play lines = AllLines next_of (λ p line text. IsTrueLine p (line_meaning (shape_in p) line) text) play lines

-- a script's eras keep their promises
pub record KeepsPromises (text : List ℕ) : Type 0 where
  pub shape : Dimensions
  pub named : era_script_shape text ≡ Some shape
  pub limits : IsShape shape
  pub may : MayAllBeDone (first_era (opening shape)) (era_moves_of text)
  pub kept : KeepAll (first_era (opening shape)) (era_moves_of text)
  pub shown : AreTrueLines None (lines_of text)

-- the promises are kept by every script none of whose lines is refused
abbrev pub ScriptsKeepPromises : Type 0
ScriptsKeepPromises = (text : List ℕ) → first_fault text ≡ None → KeepsPromises text
