-- What comes of a script, and of a command that reads nothing.
use Rattle.std.specs.Prelude.{◌≡◌, ℕ, ◌≤◌, List, [], length, ◌⊎◌}
use Rattle.edge_io.specs.Faults.{Rose}
use Rattle.edge_io.specs.Moving.{Appends, Input, IsEnded, Takes}
use Rattle.scenario_play.specs.Language.{Language, status_told}
use Rattle.scenario_play.specs.Outside.{EndsWith, Outside, StopsWithin, TellsFront}
use Rattle.scenario_play.specs.Part.{WantsWithin, WantsWithinText}
use Rattle.scenario_play.specs.Status.{IsEarly, IsStatusTold, IsUnread, TellsOfLine, last_line}
use Rattle.scenario_play.specs.declared.status.Status.{Status}
use Rattle.scenario_play.specs.declared.status.Status.TheVariants.{Done, TooLong, Want, WriteFault}

-- a script of this language was taken from the source, and played: it is too long exactly where one byte more than a script may have was
-- taken, and a line of it is treated only where the end of input was met
pub record IsPlayed (l : Language) (before now : Outside) (status : Status) : Type 0 where
  pub script : List ℕ
  pub taken : Takes before.input now.input script
  pub told : IsStatusTold (status_told l script) before.reads now.reads before.writes now.writes status
  pub wanted : status ≡ Want → status_told l script ≡ Done → WantsWithin l.transcript script before.held now.held
  pub most : length script ≤ 16777217
  pub too_long : status ≡ TooLong → length script ≡ 16777217
  pub long : length script ≡ 16777217 → (status ≡ TooLong) ⊎ (status ≡ Want)
  pub done_ended : status ≡ Done → IsEnded now.input
  pub done_bytes : status ≡ Done → Appends before.held now.held (l.transcript script)
  pub promises : status ≡ Done → l.Promise script
  pub refused_bytes : TellsOfLine status → EndsWith before.held now.held before.writes now.writes (l.transcript script) (last_line status)
  pub unread_bytes : IsUnread status → EndsWith before.held now.held before.writes now.writes [] (last_line status)
  pub bytes : (IsEnded now.input × StopsWithin before.held now.held (l.transcript script) status) ⊎ (IsEarly status × TellsFront before.held now.held status)

-- a text was written, where this status is wanted
pub record IsTextWritten (wanted : Status) (text before now : List ℕ) (faults_before faults_now : ℕ) (status : Status) : Type 0 where
  pub told : (status ≡ wanted) ⊎ (status ≡ Want) ⊎ ((status ≡ WriteFault) × Rose faults_before faults_now)
  pub short : status ≡ Want → WantsWithinText text before now
  pub done_bytes : status ≡ Done → Appends before now text
  pub bytes : StopsWithin before now text status

-- the bytes taken up to the end of input are a script that was played to its end: its transcript was written, and
-- its promise is kept
pub record HasPlayedWhole (l : Language) (before now : Input) (held held_now : List ℕ) : Type 0 where
  pub script : List ℕ
  pub taken : Takes before now script
  pub ended : IsEnded now
  pub written : Appends held held_now (l.transcript script)
  pub promises : l.Promise script
