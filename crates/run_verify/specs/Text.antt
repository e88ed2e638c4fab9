-- What comes of a text that is read, verified and told of.
use Rattle.std.specs.Prelude.{ℕ, ◌≡◌, ◌⊎◌, ◌≤◌, ◌+◌, List, ◌++◌, codes, length, Result, Ok, Err, ⊤}
use Rattle.std.specs.Fmt.{decimal}
use Rattle.edge_io.specs.Faults.{Rose}
use Rattle.edge_io.specs.Moving.{Appends, Input, IsEnded, Takes}
use Rattle.edge_io.specs.Reading.{IsReadWhole, TakesAtMost, TakesExactly}
use Rattle.edge_io.specs.Writing.{HasWritten}
use Rattle.edge_io.specs.declared.fault.SinkFault.{SinkFault}
use Rattle.edge_io.specs.declared.fault.SinkFault.TheVariants as sink
use Rattle.edge_io.specs.declared.fault.ReadFault as edge
use Rattle.edge_io.specs.declared.fault.ReadFault.TheVariants as read
use Rattle.run_verify.specs.Verdict.{IsVerdictOf}
use Rattle.run_verify.specs.declared.status.VerifyStatus.{VerifyStatus}
use Rattle.run_verify.specs.declared.status.VerifyStatus.TheVariants.{Done, Refused, BadLine, BadShape, TooLong, ReadFault, WriteFault, Want}
use Rattle.run_verify.specs.declared.verdict.Verdict.TheVariants as verdict
use Rattle.run_verify.specs.declared.verdict.VerifyFault.{VerifyFault}
use Rattle.run_verify.specs.declared.verdict.VerifyFault.TheVariants as fault

-- the most bytes that a script and its transcript have together
abbrev pub longest_sheet : ℕ
longest_sheet = 67108864

-- what is written where all is checked
abbrev pub verified_line : ℕ → ℕ → List ℕ
verified_line entries shown = codes "verified " ++ decimal entries ++ codes " " ++ decimal shown ++ codes "\n"

-- a text was read to its end
pub record IsRead (before now : Input) (text : List ℕ) : Type 0 where
  pub taken : Takes before now text
  pub ended : IsEnded now
  pub short : length text ≤ longest_sheet

-- all is checked of a text that was read, with so many entries and lines that show bytes
pub record IsVerifiedText (before now : Input) (entries shown : ℕ) : Type 0 where
  pub text : List ℕ
  pub is_read : IsRead before now text
  pub verdict : IsVerdictOf text (Ok (verdict.Verified entries shown))

-- what stands at each status
abbrev pub HasJudged : Input → Input → List ℕ → List ℕ → VerifyStatus → Type 0
HasJudged before now held held_now Done = (entries shown : ℕ) × IsVerifiedText before now entries shown × Appends held held_now (verified_line entries shown)
HasJudged before now held held_now (Refused n) = (text : List ℕ) × IsRead before now text × IsVerdictOf text (Ok (verdict.Refused n)) × (held_now ≡ held)
HasJudged before now held held_now (BadLine n) = (text : List ℕ) × IsRead before now text × IsVerdictOf text (Err (fault.BadLine n)) × (held_now ≡ held)
HasJudged before now held held_now (BadShape field) = (text : List ℕ) × IsRead before now text
    × IsVerdictOf text (Err (fault.BadShape field)) × (held_now ≡ held)
HasJudged before now held held_now TooLong = (text : List ℕ) × Takes before now text × (length text ≡ longest_sheet + 1) × (held_now ≡ held)
HasJudged before now held held_now ReadFault = TakesAtMost longest_sheet before now × (held_now ≡ held)
HasJudged before now held held_now WriteFault = (entries shown : ℕ) × IsVerifiedText before now entries shown
    × HasWritten held held_now (verified_line entries shown)
HasJudged before now held held_now Want =
    (TakesAtMost (longest_sheet + 1) before now × (held_now ≡ held))
    ⊎ ((entries shown : ℕ) × IsVerifiedText before now entries shown × HasWritten held held_now (verified_line entries shown))

-- the status that tells a fault
abbrev pub status_of_write_fault : SinkFault → VerifyStatus
status_of_write_fault sink.Failed = WriteFault
status_of_write_fault sink.Want = Want

abbrev pub status_of_read_fault : edge.ReadFault → VerifyStatus
status_of_read_fault read.TooLong = TooLong
status_of_read_fault read.Failed = ReadFault
status_of_read_fault read.Want = Want

abbrev pub status_of_fault : VerifyFault → VerifyStatus
status_of_fault (fault.BadLine n) = BadLine n
status_of_fault (fault.BadShape field) = BadShape field
status_of_fault fault.Want = Want

-- the status of a text that was verified so
abbrev pub status_of_result : Result (Unit {0}) VerifyStatus → VerifyStatus
status_of_result (Ok _) = Done
status_of_result (Err status) = status

-- a text was read to its end, or it has more bytes than the limit, or a read failed, or there was no memory
abbrev pub HasReadText : Input → Input → ℕ → ℕ → Result (List ℕ) VerifyStatus → Type 0
HasReadText before now faults faults_now (Ok text) = IsReadWhole before now text
HasReadText before now faults faults_now (Err TooLong) = TakesExactly (longest_sheet + 1) before now
HasReadText before now faults faults_now (Err ReadFault) = Rose faults faults_now × TakesAtMost longest_sheet before now
HasReadText before now faults faults_now (Err Want) = TakesAtMost (longest_sheet + 1) before now
HasReadText before now faults faults_now (Err _) = ⊥

-- what is found of a text: how many entries and lines that show bytes there are, or why not all is checked
abbrev pub IsFoundOf : List ℕ → Result (ℕ × ℕ) VerifyStatus → Type 0
IsFoundOf text (Ok (entries, shown)) = IsVerdictOf text (Ok (verdict.Verified entries shown))
IsFoundOf text (Err (Refused n)) = IsVerdictOf text (Ok (verdict.Refused n))
IsFoundOf text (Err (BadLine n)) = IsVerdictOf text (Err (fault.BadLine n))
IsFoundOf text (Err (BadShape field)) = IsVerdictOf text (Err (fault.BadShape field))
IsFoundOf text (Err Want) = ⊤
IsFoundOf text (Err _) = ⊥

-- a line was written, or a front of it where that failed
abbrev pub HasToldLine : List ℕ → List ℕ → List ℕ → Result (Unit {0}) VerifyStatus → Type 0
HasToldLine held held_now line (Ok _) = Appends held held_now line
HasToldLine held held_now line (Err WriteFault) = HasWritten held held_now line
HasToldLine held held_now line (Err Want) = HasWritten held held_now line
HasToldLine held held_now line (Err _) = ⊥
