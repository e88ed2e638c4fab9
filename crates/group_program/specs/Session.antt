-- What comes of the command `session`.
use Rattle.std.specs.Prelude.{ℕ, ◌≡◌, ◌⊎◌, ◌≤◌, [], Option}
use Rattle.group_types.specs.Dimensions.{Dimensions}
use Rattle.group_types.specs.Shape.{IsShape, IsFirstOutOfRange}
use Rattle.group_types.specs.declared.shape.Field.{Field}
use Rattle.scenario_play.specs.Outside.{EndsWith, Outside, TellsFront}
use Rattle.scenario_play.specs.Status.{last_line}
use Rattle.scenario_play.specs.declared.status.Status.{Status}
use Rattle.scenario_play.specs.declared.status.Status.TheVariants.{Done, BadShape, ReadFault, WriteFault, Want, Cut, LineTooLong, Worn}
use Rattle.scenario_session.specs.Session.{HasEndedSession}
use Rattle.scenario_session.specs.declared.end.SessionEnd.{SessionEnd}
use Rattle.scenario_session.specs.declared.end.SessionEnd.TheVariants as end

-- the status of a session that ended so
abbrev pub status_of : SessionEnd → Status
status_of end.Done = Done
status_of end.Cut = Cut
status_of end.LineTooLong = LineTooLong
status_of end.Worn = Worn
status_of end.ReadFault = ReadFault
status_of end.WriteFault = WriteFault
status_of end.Want = Want

-- this was to be told: it is the status and its last line is written, or there was no memory; a status without a last line
-- needs none
pub record HasToldLast (wanted : Status) (before now : Outside) (status : Status) : Type 0 where
  pub is : (status ≡ wanted) ⊎ (status ≡ Want)
  pub silent : last_line wanted ≡ [] → status ≡ wanted
  pub line : (status ≡ Want) ⊎ EndsWith before.held now.held before.writes now.writes [] (last_line status)
  pub front : TellsFront before.held now.held status

-- a connection was served over a fresh group of this shape, and how it ended was told
pub record HasServedFresh (s : Dimensions) (moment : Option ℕ) (before now : Outside) (status : Status) : Type 0 where
  pub end : SessionEnd
  pub middle : Outside
  pub ended : HasEndedSession s moment before.input middle.input before.held middle.held end
  pub kept : now.input ≡ middle.input
  pub later : before.writes ≤ middle.writes
  pub told : HasToldLast (status_of end) middle now status

-- a session was asked with these numbers: the first that is out of range is told, or a connection is served
abbrev pub IsSession : Dimensions → Option ℕ → Outside → Outside → Status → Type 0
IsSession d moment before now status =
    ((field : Field) × IsFirstOutOfRange d field × HasToldLast (BadShape field) before now status)
    ⊎ (IsShape d × HasServedFresh d moment before now status)
