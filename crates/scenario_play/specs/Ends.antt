use Rattle.std.specs.Prelude.{◌≡◌, ℕ, ◌+◌, ◌≤◌, List, length, Result, Ok, Err, ◌⊎◌}
use Rattle.edge_io.specs.Faults.{Rose}
use Rattle.edge_io.specs.Moving.{Appends, Input, IsEnded, Takes}
use Rattle.edge_io.specs.Reading.{IsReadWhole, TakesAtMost, TakesExactly}
use Rattle.edge_io.specs.Writing.{HasWritten}
use Rattle.scenario_play.specs.Language.{Language, status_told}
use Rattle.scenario_play.specs.Outside.{Outside}
use Rattle.scenario_play.specs.Part.{IsPlayedInPart}
use Rattle.scenario_play.specs.Status.{TellsOfLine, longest_script}
use Rattle.scenario_play.specs.declared.status.Status.{Status}
use Rattle.scenario_play.specs.declared.status.Status.TheVariants.{Done, TooLong, ReadFault, WriteFault, Want}

-- the script was read to its end, or it has more bytes than the limit, or a read failed, or there was no memory
abbrev pub HasReadInput : Input → Input → ℕ → ℕ → Result (List ℕ) Status → Type 0
HasReadInput before now faults_before faults_now (Ok text) = IsReadWhole before now text
HasReadInput before now faults_before faults_now (Err TooLong) = TakesExactly (longest_script + 1) before now
HasReadInput before now faults_before faults_now (Err ReadFault) = Rose faults_before faults_now × TakesAtMost longest_script before now
HasReadInput before now faults_before faults_now (Err Want) = TakesAtMost (longest_script + 1) before now
HasReadInput before now faults_before faults_now (Err _) = ⊥

-- a script of these bytes, in this language, was read and played: to its end, up to a line that is refused, or until it was known to be
-- too long, a read or a write failed, or there was no memory
abbrev pub HasPlayedScript : Language → List ℕ → Outside → Outside → Result (Unit {0}) Status → Type 0
HasPlayedScript l script before now (Ok _) = (status_told l script ≡ Done) × IsEnded now.input × Appends before.held now.held (l.transcript script)
HasPlayedScript l script before now (Err TooLong) = (now.held ≡ before.held) × (length script ≡ longest_script + 1)
HasPlayedScript l script before now (Err ReadFault) = (now.held ≡ before.held) × Rose before.reads now.reads × (length script ≤ longest_script)
HasPlayedScript l script before now (Err WriteFault) =
    Rose before.writes now.writes × (length script ≤ longest_script) × IsEnded now.input × HasWritten before.held now.held (l.transcript script)
HasPlayedScript l script before now (Err Want) = (now.held ≡ before.held) ⊎ (IsEnded now.input × IsPlayedInPart l.transcript script before.held now.held)
HasPlayedScript l script before now (Err status) =
    TellsOfLine status × (status_told l script ≡ status) × IsEnded now.input × Appends before.held now.held (l.transcript script)

-- the bytes that were taken are a script, which was read and played
pub record HasTreatedScript (l : Language) (before now : Outside) (result : Result (Unit {0}) Status) : Type 0 where
  pub script : List ℕ
  pub taken : Takes before.input now.input script
  pub few : length script ≤ longest_script + 1
  pub ends : HasPlayedScript l script before now result
