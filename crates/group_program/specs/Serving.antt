-- What comes of the command `serve`.
use Rattle.std.specs.Prelude.{◌≡◌, ◌≤◌, ℕ, List, Result, Ok, Err}
use Rattle.group_server.specs.Service.{HasServedGroup, Tally}
use Rattle.group_server.specs.declared.fault.ServiceFault.{ServiceFault}
use Rattle.group_server.specs.declared.fault.ServiceFault.TheVariants as fault
use Rattle.scenario_play.specs.Outside.{Outside}
use Rattle.scenario_play.specs.declared.status.Status.{Status}
use Rattle.scenario_play.specs.declared.status.Status.TheVariants.{Done, TooLong, BadConfig, ReadFault, WriteFault, AcceptFault, Want}
use Rattle.group_program.specs.Session.{HasToldLast}

-- the status of a group that was served so
abbrev pub status_of : Result ℕ ServiceFault → Status
status_of (Ok n) = Done
status_of (Err fault.TooLong) = TooLong
status_of (Err (fault.BadConfig key)) = BadConfig key
status_of (Err fault.ReadFault) = ReadFault
status_of (Err fault.WriteFault) = WriteFault
status_of (Err fault.AcceptFault) = AcceptFault
status_of (Err fault.Want) = Want

-- a group was served by the settings that were read, and how that ended was told
pub record IsGroupServed {L : Type 0} (listened : L → List ℕ → L → Type 0) (tells : L → Tally) (l l_now : L)
    (before now : Outside) (status : Status) : Type 0 where
  pub end : Result ℕ ServiceFault
  pub middle : Outside
  pub served : HasServedGroup listened tells before.input middle.input before.held middle.held l l_now end
  pub kept : now.input ≡ middle.input
  pub later : before.writes ≤ middle.writes
  pub told : HasToldLast (status_of end) middle now status

-- a group was served to its end
abbrev pub HasServedWhole : {L : Type 0} → (L → List ℕ → L → Type 0) → (L → Tally) → L → L → Outside → Outside → Type 0
HasServedWhole listened tells l l_now before now = (n : ℕ) × HasServedGroup listened tells before.input now.input before.held now.held l l_now (Ok n)
