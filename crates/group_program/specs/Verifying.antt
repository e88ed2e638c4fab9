-- What comes of the command `verify`.
use Rattle.std.specs.Prelude.{◌≡◌, ◌≤◌}
use Rattle.run_verify.specs.Text.{HasJudged}
use Rattle.run_verify.specs.declared.status.VerifyStatus.{VerifyStatus}
use Rattle.run_verify.specs.declared.status.VerifyStatus.TheVariants as end
use Rattle.scenario_play.specs.Outside.{Outside}
use Rattle.scenario_play.specs.declared.status.Status.{Status}
use Rattle.scenario_play.specs.declared.status.Status.TheVariants.{Done, Refused, BadLine, BadShape, TooLong, ReadFault, WriteFault, Want}
use Rattle.group_program.specs.Session.{HasToldLast}

-- the status of a transcript that was judged so
abbrev pub status_of : VerifyStatus → Status
status_of end.Done = Done
status_of (end.Refused line) = Refused line
status_of (end.BadLine line) = BadLine line
status_of (end.BadShape field) = BadShape field
status_of end.TooLong = TooLong
status_of end.ReadFault = ReadFault
status_of end.WriteFault = WriteFault
status_of end.Want = Want

-- a script and a transcript were read and judged, and what came of it was told
pub record IsTranscriptJudged (before now : Outside) (status : Status) : Type 0 where
  pub end : VerifyStatus
  pub middle : Outside
  pub judged : HasJudged before.input middle.input before.held middle.held end
  pub kept : now.input ≡ middle.input
  pub later : before.writes ≤ middle.writes
  pub told : HasToldLast (status_of end) middle now status
