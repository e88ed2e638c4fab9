-- What is told of the lines of a script that come next, and what treating them comes to.
use Rattle.std.specs.Prelude.{ℕ, ◌≡◌, ◌+◌, ◌⊎◌, List, [], ◌∷◌, ◌++◌, Option, Some, None, Result, Ok, Err, Vec}
use Rattle.edge_io.specs.Faults.{Rose}
use Rattle.edge_io.specs.Moving.{Appends}
use Rattle.edge_io.specs.Writing.{HasWritten}
use Rattle.scenario_run.specs.Course.{fault_in, text_in, turns_of_lines}
use Rattle.scenario_play.specs.Part.{IsPlayedInPart}
use Rattle.scenario_play.specs.Script.{Scripts}
use Rattle.scenario_play.specs.Status.{TellsOfLine, status_of_lines}
use Rattle.scenario_play.specs.declared.status.Status.{Status}
use Rattle.scenario_play.specs.declared.status.Status.TheVariants.{Done, WriteFault, Want}

-- of lines that come next: what is written for them; what is told of them, where the first has this number; how many
-- entries will have been logged; and that a line of this number may come
pub record Telling (P : Type 0) : Type 1 where
  pub text : P → List (List ℕ) → List ℕ
  pub verdict : ℕ → P → List (List ℕ) → Status
  pub entries : P → List (List ℕ) → ℕ
  pub Ready : ℕ → P → Type 0

-- what is told of the lines of a script
abbrev pub telling : {S T F : Type 0} → Scripts S T F → Telling (Option S)
telling script =
    record {
      text = λ state lines. text_in script.rules state lines;
      verdict = λ n state lines. status_of_lines script.told (fault_in script.rules script.lacking n state lines);
      entries = λ state lines. script.logged state (turns_of_lines script.rules state lines);
      Ready = script.Ready;
    }

-- the script goes on behind a line, for which this was written
pub record ScriptGoesOn {P : Type 0} (tells : Telling P) (n : ℕ) (before now : P) (line written : List ℕ) : Type 0 where
  pub text : (lines : List (List ℕ)) → tells.text before (line ∷ lines) ≡ written ++ tells.text now lines
  pub verdict : (lines : List (List ℕ)) → tells.verdict n before (line ∷ lines) ≡ tells.verdict (n + 1) now lines
  pub entries : (lines : List (List ℕ)) → tells.entries before (line ∷ lines) ≡ tells.entries now lines
  pub ready : tells.Ready (n + 1) now

-- behind a line nothing is written, and this is told
pub record EndsAt {P : Type 0} (tells : Telling P) (n : ℕ) (before : P) (line : List ℕ) (told : Status) : Type 0 where
  pub text : (lines : List (List ℕ)) → tells.text before (line ∷ lines) ≡ []
  pub verdict : (lines : List (List ℕ)) → tells.verdict n before (line ∷ lines) ≡ told

-- a line was treated: the script goes on or ends, or the line is refused, or there was no memory
abbrev pub HasTreatedLine : {P : Type 0} → Telling P → ℕ → P → P → List ℕ → Result (Option (List ℕ)) Status → Type 0
HasTreatedLine tells n before now line (Ok (Some written)) = ScriptGoesOn tells n before now line written
HasTreatedLine tells n before now line (Ok None) = EndsAt tells n before line Done
    × ((lines : List (List ℕ)) → tells.entries before (line ∷ lines) ≡ tells.entries now [])
HasTreatedLine tells n before now line (Err status) = (status ≡ Want) ⊎ (TellsOfLine status × EndsAt tells n before line status)

-- there are no more lines: all were treated, or one is lacking
abbrev pub HasMetEnd : {P : Type 0} → Telling P → ℕ → P → Result (Unit {0}) Status → Type 0
HasMetEnd tells n player (Ok _) = (tells.text player [] ≡ []) × (tells.verdict n player [] ≡ Done)
HasMetEnd tells n player (Err status) = (tells.text player [] ≡ []) × (tells.verdict n player [] ≡ status) × TellsOfLine status

-- lines were treated to the end or to the first that is refused, and what is written for them was written, or a front of
-- it
abbrev pub HasPlayed : List ℕ → List ℕ → ℕ → ℕ → (List ℕ → List ℕ) → List ℕ → Status → Result (Unit {0}) Status → Type 0
HasPlayed before now faults_before faults_now transcript script verdict (Ok _) = (verdict ≡ Done) × Appends before now (transcript script)
HasPlayed before now faults_before faults_now transcript script verdict (Err WriteFault) = Rose faults_before faults_now
    × HasWritten before now (transcript script)
HasPlayed before now faults_before faults_now transcript script verdict (Err Want) = IsPlayedInPart transcript script before now
HasPlayed before now faults_before faults_now transcript script verdict (Err status) = TellsOfLine status
    × (verdict ≡ status) × Appends before now (transcript script)

-- the bytes in an answer
abbrev pub bytes_in_text : {E Z : Type 0} → Result (Option (Vec ℕ Z)) E → Result (Option (List ℕ)) E
bytes_in_text (Ok (Some text)) = Ok (Some text.items)
bytes_in_text (Ok None) = Ok None
bytes_in_text (Err e) = Err e
