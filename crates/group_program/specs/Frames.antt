-- What comes of the command `frames`.
use Rattle.std.specs.Prelude.{◌≡◌, ◌≤◌}
use Rattle.scenario_play.specs.Outside.{Outside}
use Rattle.scenario_play.specs.declared.status.Status.{Status}
use Rattle.scenario_play.specs.declared.status.Status.TheVariants.{Done, ReadFault, WriteFault, Want, Cut, Worn, BadFrame}
use Rattle.wire_frames.specs.Framed.{HasFramed}
use Rattle.wire_frames.specs.declared.status.FramesStatus.{FramesStatus}
use Rattle.wire_frames.specs.declared.status.FramesStatus.TheVariants as end
use Rattle.group_program.specs.Session.{HasToldLast}

-- the status of a stream of frames that ended so
abbrev pub status_of : FramesStatus → Status
status_of end.Done = Done
status_of end.Cut = Cut
status_of (end.BadFrame at) = BadFrame at
status_of end.Worn = Worn
status_of end.ReadFault = ReadFault
status_of end.WriteFault = WriteFault
status_of end.Want = Want

-- a stream of frames was read and its messages' lines written, and how it ended was told
pub record IsListed (before now : Outside) (status : Status) : Type 0 where
  pub end : FramesStatus
  pub middle : Outside
  pub framed : HasFramed before.input middle.input before.held middle.held end
  pub kept : now.input ≡ middle.input
  pub later : before.writes ≤ middle.writes
  pub told : HasToldLast (status_of end) middle now status
