-- What comes of the command `carry`.
use Rattle.std.specs.Prelude.{◌≡◌, ◌⊎◌, ℕ, List, [], codes, Result, Ok, Err, ⊤}
use Rattle.edge_io.specs.Moving.{Input}
use Rattle.edge_io.specs.Writing.{HasWritten}
use Rattle.group_config.specs.Carrying.{GivesCarry, RefusesCarry}
use Rattle.group_config.specs.Text.{HasReadSettings, HasReadTooMuch}
use Rattle.group_config.specs.declared.carry_fault.CarryKeyFault.{CarryKeyFault}
use Rattle.group_config.specs.declared.carry_fault.CarryKeyFault.TheVariants as fault
use Rattle.group_config.specs.declared.carry_key.CarryKey.{CarryKey}
use Rattle.group_config.specs.declared.carry_key.CarryKey.TheVariants as carry
use Rattle.group_config.specs.declared.carry_settings.CarrySettings.{CarrySettings}
use Rattle.group_config.specs.declared.fault.TextFault.TheVariants as text
use Rattle.group_config.specs.declared.member_key.MemberKey.{MemberKey}
use Rattle.group_config.specs.declared.member_key.MemberKey.TheVariants as key
use Rattle.group_types.specs.declared.config_key.ConfigKey.{ConfigKey}
use Rattle.group_types.specs.declared.config_key.ConfigKey.TheVariants as config
use Rattle.member_machine.specs.declared.carry_end.CarryEnd.{CarryEnd}
use Rattle.member_machine.specs.declared.carry_end.CarryEnd.TheVariants as end
use Rattle.scenario_play.specs.Outside.{EndsWith, Outside}
use Rattle.scenario_play.specs.declared.status.Status.{Status}
use Rattle.scenario_play.specs.declared.status.Status.TheVariants.{Done, BadConfig, Want, Cut}
use Rattle.group_program.specs.Member.{status_of_text}
use Rattle.group_program.specs.Session.{HasToldLast}
use Rattle.group_program.specs.declared.carry_stop.CarryStop.{CarryStop}
use Rattle.group_program.specs.declared.carry_stop.CarryStop.TheVariants.{BadKey, Unread}

-- why nothing was carried, by why there are no settings
abbrev pub stop_of : CarryKeyFault → CarryStop
stop_of (fault.BadKey key) = BadKey key
stop_of fault.Want = Unread text.Want

-- the source was read to its end, and its text gives these settings
pub record HasGivenCarry (before now : Input) (settings : CarrySettings) : Type 0 where
  pub text : List ℕ
  pub read : HasReadSettings before now text
  pub gives : GivesCarry text settings

-- the source was read to its end, and this is the first key at which its text is refused
pub record HasRefusedCarry (before now : Input) (key : CarryKey) : Type 0 where
  pub text : List ℕ
  pub read : HasReadSettings before now text
  pub refuses : RefusesCarry text key

-- what a source gave from which settings of a carry were to be read
abbrev pub IsGivenCarryOr : Input → Input → Result CarrySettings CarryStop → Type 0
IsGivenCarryOr before now (Ok settings) = HasGivenCarry before now settings
IsGivenCarryOr before now (Err (BadKey key)) = HasRefusedCarry before now key
IsGivenCarryOr before now (Err (Unread text.TooLong)) = HasReadTooMuch before now
IsGivenCarryOr before now (Err (Unread text.ReadFault)) = ⊤
IsGivenCarryOr before now (Err (Unread text.Want)) = ⊤

-- the status of a carry that ended so
abbrev pub status_of_carry : CarryEnd → Status
status_of_carry (end.Carried items) = Done
status_of_carry end.Stopped = Cut
status_of_carry end.Want = Want

-- the key that a status has for one of these settings
abbrev pub status_key : CarryKey → ConfigKey
status_key carry.Syntax = config.Syntax
status_key carry.K = config.K
status_key _ = config.Unknown

-- the last line of settings that are refused at a key of the old group's members, and of the new group's
abbrev pub from_line : MemberKey → List ℕ
from_line key.MemberName = codes "fault: config from.name\n"
from_line key.MemberLink = codes "fault: config from.link\n"
from_line key.MemberClient = codes "fault: config from.client\n"
from_line key.MemberControl = codes "fault: config from.control\n"
from_line key.MemberUnknown = codes "fault: config from.unknown\n"
from_line _ = codes "fault: config from\n"

abbrev pub to_line : MemberKey → List ℕ
to_line key.MemberName = codes "fault: config to.name\n"
to_line key.MemberLink = codes "fault: config to.link\n"
to_line key.MemberClient = codes "fault: config to.client\n"
to_line key.MemberControl = codes "fault: config to.control\n"
to_line key.MemberUnknown = codes "fault: config to.unknown\n"
to_line _ = codes "fault: config to\n"

abbrev pub carry_line : CarryKey → List ℕ
carry_line carry.Syntax = codes "fault: config syntax\n"
carry_line carry.K = codes "fault: config k\n"
carry_line (carry.From k) = from_line k
carry_line (carry.To k) = to_line k
carry_line carry.Lanes = codes "fault: config lanes\n"
carry_line carry.Unknown = codes "fault: config unknown\n"

-- that settings are refused at a key is the status and was written, or there was no memory
pub record HasToldCarryKey (key : CarryKey) (before now : List ℕ) (faults_before faults_now : ℕ) (status : Status) : Type 0 where
  pub is : (status ≡ BadConfig (status_key key)) ⊎ (status ≡ Want)
  pub line : (status ≡ Want) ⊎ EndsWith before now faults_before faults_now [] (carry_line key)
  pub front : HasWritten before now (carry_line key)

-- how a carry ended is told, or why there was none
abbrev pub HasToldCarry : Result CarryEnd CarryStop → Outside → Outside → Status → Type 0
HasToldCarry (Ok ended) before now status = HasToldLast (status_of_carry ended) before now status
HasToldCarry (Err (BadKey key)) before now status = HasToldCarryKey key before.held now.held before.writes now.writes status
HasToldCarry (Err (Unread fault)) before now status = HasToldLast (status_of_text fault) before now status

-- over a machine of which `carried` tells what a carry makes
module _ {M : Type 0} (carried : M → CarrySettings → CarryEnd → M → Type 0) (m m_now : M) where
  -- the machine carried by the settings that were read, or there were none, and the machine is as it was
  abbrev pub HasCarriedGroup : Input → Input → Result CarryEnd CarryStop → Type 0
  HasCarriedGroup before now (Ok ended) = (settings : CarrySettings) × HasGivenCarry before now settings × carried m settings ended m_now
  HasCarriedGroup before now (Err stop) = IsGivenCarryOr before now (Err stop) × (m_now ≡ m)

  -- items were carried by the settings that were read, or none were, and how that ended was told
  pub record IsCarry (before now : Outside) (status : Status) : Type 0 where
    pub end : Result CarryEnd CarryStop
    pub run : HasCarriedGroup before.input now.input end
    pub told : HasToldCarry end before now status
