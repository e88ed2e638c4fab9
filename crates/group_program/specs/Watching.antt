-- What comes of the command `watch`.
use Rattle.std.specs.Prelude.{◌≡◌, ◌⊎◌, ℕ, List, Option, Result, Ok, Err, ⊤}
use Rattle.edge_io.specs.Moving.{Input}
use Rattle.group_config.specs.MemberReading.{GivesMember, RefusesMember}
use Rattle.group_config.specs.Text.{HasReadSettings, HasReadTooMuch}
use Rattle.group_config.specs.Watching.{GivesWatch, RefusesWatch}
use Rattle.group_config.specs.declared.fault.TextFault.TheVariants as text
use Rattle.group_config.specs.declared.member_key.MemberKey.{MemberKey}
use Rattle.group_config.specs.declared.member_settings.MemberSettings.{MemberSettings}
use Rattle.group_config.specs.declared.watch_settings.WatchSettings.{WatchSettings}
use Rattle.member_machine.specs.declared.end.MemberEnd.{MemberEnd}
use Rattle.scenario_play.specs.Outside.{Outside}
use Rattle.scenario_play.specs.declared.status.Status.{Status}
use Rattle.group_program.specs.Member.{HasToldRun}
use Rattle.group_program.specs.declared.member_run.MemberRun.{MemberRun}
use Rattle.group_program.specs.declared.member_stop.MemberStop.{MemberStop}
use Rattle.group_program.specs.declared.member_stop.MemberStop.TheVariants.{BadKey, Unread}

-- the source was read to its end, and its text gives these settings of a member and of how it is watched
pub record HasGivenWatch (name : Option (List ℕ)) (before now : Input) (settings : MemberSettings) (watch : WatchSettings) : Type 0 where
  pub text : List ℕ
  pub read : HasReadSettings before now text
  pub gives : GivesMember name text settings
  pub gives_watch : GivesWatch text watch

-- the source was read to its end, and this is the first key at which its text is refused, by a member or else by who watches it
pub record HasRefusedWatch (name : Option (List ℕ)) (before now : Input) (key : MemberKey) : Type 0 where
  pub text : List ℕ
  pub read : HasReadSettings before now text
  pub refuses : RefusesMember name text key ⊎ ((settings : MemberSettings) × GivesMember name text settings × RefusesWatch text key)

-- what a source gave from which such settings were to be read
abbrev pub IsGivenWatchOr : Option (List ℕ) → Input → Input → Result (MemberSettings × WatchSettings) MemberStop → Type 0
IsGivenWatchOr name before now (Ok given) = HasGivenWatch name before now given.0 given.1
IsGivenWatchOr name before now (Err (BadKey key)) = HasRefusedWatch name before now key
IsGivenWatchOr name before now (Err (Unread text.TooLong)) = HasReadTooMuch before now
IsGivenWatchOr name before now (Err (Unread text.ReadFault)) = ⊤
IsGivenWatchOr name before now (Err (Unread text.Want)) = ⊤

-- over a machine of which `watched` tells what watching makes
module _ {M : Type 0} (watched : M → MemberSettings → WatchSettings → MemberEnd → M → Type 0) (m m_now : M) where
  -- the machine watched the member by the settings that were read, or there were none, and the machine is as it was
  abbrev pub HasWatched : Option (List ℕ) → Input → Input → Result MemberRun MemberStop → Type 0
  HasWatched name before now (Ok run) =
      (settings : MemberSettings) × (watch : WatchSettings) × HasGivenWatch name before now settings watch
      × (run.own ≡ settings.own) × watched m settings watch run.end m_now
  HasWatched name before now (Err stop) = IsGivenWatchOr name before now (Err stop) × (m_now ≡ m)

  -- a member was watched by the settings that were read, or none was, and how that ended was told
  pub record IsWatched (name : Option (List ℕ)) (before now : Outside) (status : Status) : Type 0 where
    pub end : Result MemberRun MemberStop
    pub run : HasWatched name before.input now.input end
    pub told : HasToldRun end before now status
