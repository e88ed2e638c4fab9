-- What comes of the command `member`.
use Rattle.std.specs.Prelude.{◌≡◌, ◌⊎◌, ℕ, List, [], codes, Option, Result, Ok, Err, ⊤}
use Rattle.edge_io.specs.Moving.{Input}
use Rattle.edge_io.specs.Writing.{HasWritten}
use Rattle.group_config.specs.MemberReading.{GivesMember, RefusesMember}
use Rattle.group_config.specs.Text.{HasReadSettings, HasReadTooMuch}
use Rattle.group_config.specs.declared.fault.TextFault.{TextFault}
use Rattle.group_config.specs.declared.fault.TextFault.TheVariants as text
use Rattle.group_config.specs.declared.member_fault.MemberFault.{MemberFault}
use Rattle.group_config.specs.declared.member_fault.MemberFault.TheVariants as fault
use Rattle.group_config.specs.declared.member_key.MemberKey.{MemberKey}
use Rattle.group_config.specs.declared.member_key.MemberKey.TheVariants as key
use Rattle.group_config.specs.declared.member_settings.MemberSettings.{MemberSettings}
use Rattle.group_types.specs.declared.config_key.ConfigKey.{ConfigKey}
use Rattle.group_types.specs.declared.config_key.ConfigKey.TheVariants as config
use Rattle.member_machine.specs.declared.end.MemberEnd.{MemberEnd}
use Rattle.member_machine.specs.declared.end.MemberEnd.TheVariants as end
use Rattle.scenario_play.specs.Outside.{EndsWith, Outside}
use Rattle.scenario_play.specs.Status.{config_line}
use Rattle.scenario_play.specs.declared.status.Status.{Status}
use Rattle.scenario_play.specs.declared.status.Status.TheVariants.{Done, TooLong, BadConfig, ReadFault, Want, Cut, BadFrame, Refused}
use Rattle.group_program.specs.Session.{HasToldLast}
use Rattle.group_program.specs.declared.member_run.MemberRun.{MemberRun}
use Rattle.group_program.specs.declared.member_stop.MemberStop.{MemberStop}
use Rattle.group_program.specs.declared.member_stop.MemberStop.TheVariants.{BadKey, Unread}

-- why no member was run, by why there are no settings
abbrev pub stop_of : MemberFault → MemberStop
stop_of (fault.BadKey key) = BadKey key
stop_of fault.Want = Unread text.Want

-- the source was read to its end, and its text gives these settings of a member, of the member of this name where there is one
pub record HasGivenMember (name : Option (List ℕ)) (before now : Input) (settings : MemberSettings) : Type 0 where
  pub text : List ℕ
  pub read : HasReadSettings before now text
  pub gives : GivesMember name text settings

-- the source was read to its end, and this is the first key at which its text is refused
pub record HasRefusedMember (name : Option (List ℕ)) (before now : Input) (key : MemberKey) : Type 0 where
  pub text : List ℕ
  pub read : HasReadSettings before now text
  pub refuses : RefusesMember name text key

-- what a source gave from which settings of a member were to be read
abbrev pub IsGivenMemberOr : Option (List ℕ) → Input → Input → Result MemberSettings MemberStop → Type 0
IsGivenMemberOr name before now (Ok settings) = HasGivenMember name before now settings
IsGivenMemberOr name before now (Err (BadKey key)) = HasRefusedMember name before now key
IsGivenMemberOr name before now (Err (Unread text.TooLong)) = HasReadTooMuch before now
IsGivenMemberOr name before now (Err (Unread text.ReadFault)) = ⊤
IsGivenMemberOr name before now (Err (Unread text.Want)) = ⊤

-- the status of a run that ended so
abbrev pub status_of_end : ℕ → MemberEnd → Status
status_of_end own end.Ended = Done
status_of_end own end.Refused = Refused own
status_of_end own (end.Misfit peer) = BadFrame peer
status_of_end own end.LinkFault = Cut
status_of_end own end.AddressFault = BadConfig config.Address
status_of_end own end.Want = Want

abbrev pub status_of : MemberRun → Status
status_of run = status_of_end run.own run.end

-- the status where no settings could be looked at
abbrev pub status_of_text : TextFault → Status
status_of_text text.TooLong = TooLong
status_of_text text.ReadFault = ReadFault
status_of_text text.Want = Want

-- the key that a status has for one of a member's settings: those that a served group's settings lack count as unknown there
abbrev pub status_key : MemberKey → ConfigKey
status_key key.Syntax = config.Syntax
status_key (key.Shape k) = k
status_key _ = config.Unknown

-- the last line of settings that are refused at a key
abbrev pub key_line : MemberKey → List ℕ
key_line key.Syntax = config_line config.Syntax
key_line (key.Shape k) = config_line k
key_line key.Unknown = config_line config.Unknown
key_line key.Group = codes "fault: config group\n"
key_line key.Members = codes "fault: config members\n"
key_line key.MemberName = codes "fault: config members.name\n"
key_line key.MemberLink = codes "fault: config members.link\n"
key_line key.MemberClient = codes "fault: config members.client\n"
key_line key.MemberControl = codes "fault: config members.control\n"
key_line key.MemberUnknown = codes "fault: config members.unknown\n"
key_line key.Name = codes "fault: config name\n"
key_line key.Order = codes "fault: config order\n"
key_line key.Patience = codes "fault: config patience\n"
key_line key.OneWord = codes "fault: config one_word\n"
key_line key.Groups = codes "fault: config groups\n"
key_line key.Base = codes "fault: config base\n"
key_line key.Watch = codes "fault: config watch\n"
key_line key.WatchEtcd = codes "fault: config watch.etcd\n"
key_line key.WatchSeconds = codes "fault: config watch.seconds\n"
key_line key.WatchUnknown = codes "fault: config watch.unknown\n"

-- that settings are refused at a key is the status and was written, or there was no memory
pub record HasToldKey (key : MemberKey) (before now : List ℕ) (faults_before faults_now : ℕ) (status : Status) : Type 0 where
  pub is : (status ≡ BadConfig (status_key key)) ⊎ (status ≡ Want)
  pub line : (status ≡ Want) ⊎ EndsWith before now faults_before faults_now [] (key_line key)
  pub front : HasWritten before now (key_line key)

-- how the run of a member ended is told, or why there was none
abbrev pub HasToldRun : Result MemberRun MemberStop → Outside → Outside → Status → Type 0
HasToldRun (Ok run) before now status = HasToldLast (status_of run) before now status
HasToldRun (Err (BadKey key)) before now status = HasToldKey key before.held now.held before.writes now.writes status
HasToldRun (Err (Unread fault)) before now status = HasToldLast (status_of_text fault) before now status

-- over a machine of which `ran` tells what a run makes
module _ {M : Type 0} (ran : M → MemberSettings → MemberEnd → M → Type 0) (m m_now : M) where
  -- the machine ran the member by the settings that were read, or there were none, and the machine is as it was
  abbrev pub HasRunMember : Option (List ℕ) → Input → Input → Result MemberRun MemberStop → Type 0
  HasRunMember name before now (Ok run) =
      (settings : MemberSettings) × HasGivenMember name before now settings × (run.own ≡ settings.own) × ran m settings run.end m_now
  HasRunMember name before now (Err stop) = IsGivenMemberOr name before now (Err stop) × (m_now ≡ m)

  -- a member was run by the settings that were read, or none was, and how that ended was told
  pub record IsMember (name : Option (List ℕ)) (before now : Outside) (status : Status) : Type 0 where
    pub end : Result MemberRun MemberStop
    pub run : HasRunMember name before.input now.input end
    pub told : HasToldRun end before now status
