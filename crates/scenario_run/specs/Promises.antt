-- What holds of every script's group: its turns are a run of the machine, so the headline is about it; and
-- the lines that show bytes show what the log tells.
use Rattle.std.specs.Prelude.{ℕ, ◌≡◌, List, [], ◌∷◌, ◌++◌, Option, Some, None, Result, Ok}
use Rattle.group_types.specs.Dimensions.{Dimensions}
use Rattle.group_types.specs.declared.process.ProcessId.{ProcessId}
use Rattle.group_types.specs.declared.run.Run.{Run}
use Rattle.group_calls.specs.Log.{IsLegal}
use Rattle.group_calls.specs.Turns.{log_of}
use Rattle.group_calls.specs.Within.{AnswersWithin}
use Rattle.group_run.specs.Headline.{Headline, IsRun}
use Rattle.group_run.specs.World as machine
use Rattle.group_run.specs.World.{World}
use Rattle.group_run.specs.Shown.{told_bytes}
use Rattle.scenario_text.specs.Meaning.{line_meaning}
use Rattle.scenario_text.specs.declared.line.Line.{Line}
use Rattle.scenario_text.specs.declared.line.Line.TheVariants.{Show}
use Rattle.scenario_text.specs.declared.line.LineFault.{LineFault}
use Rattle.scenario_run.specs.Lines.{lines_of}
use Rattle.scenario_run.specs.Course.{AllLines}
use Rattle.scenario_run.specs.Playing.{Play, look, next_of, shape_in}
use Rattle.scenario_run.specs.Script.{first_fault, script_events, script_shape, script_turns}

-- the text shows what the log tells
abbrev pub ShowsTruth : World → ProcessId → Run → List ℕ → Type 0
ShowsTruth w p run text = text ≡ look w p (told_bytes w p run) ++ 10 ∷ []

-- so it is with what is written for a line that shows bytes, where this is true of them
abbrev pub IsTrueShow : (ProcessId → Run → List ℕ → Type 0) → Result Line LineFault → List ℕ → Type 0
IsTrueShow IsTrue (Ok (Show from run)) text = IsTrue from run text
IsTrueShow IsTrue _ text = Unit {0}

abbrev pub IsTrueLine : Option Play → Result Line LineFault → List ℕ → Type 0
IsTrueLine (Some p) read text = IsTrueShow (ShowsTruth p.world) read text
IsTrueLine None read text = Unit {0}

-- and with all lines
abbrev pub AreTrueLines : Option Play → List (List ℕ) → Type 0
AreTrueLines play lines = AllLines next_of (λ p line text. IsTrueLine p (line_meaning (shape_in p) line) text) play lines

-- a script's group keeps its promises
pub record KeepsPromises (text : List ℕ) : Type 0 where
  pub shape : Dimensions
  pub named : script_shape text ≡ Some shape
  pub run : IsRun shape (script_events text)
  pub turns : machine.turns_of shape (script_events text) ≡ script_turns text
  pub legal : IsLegal shape.k (log_of (script_turns text))
  pub within : AnswersWithin shape.k (script_turns text)
  pub headline : Headline shape (script_events text)
  pub shown : AreTrueLines None (lines_of text)

-- the promises are kept by every script none of whose lines is refused
abbrev pub ScriptsKeepPromises : Type 0
ScriptsKeepPromises = (text : List ℕ) → first_fault text ≡ None → KeepsPromises text
