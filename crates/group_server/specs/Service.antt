-- What comes of a group that is served by settings: by its end, what was read and written, and what became of the listener.
use Rattle.std.specs.Prelude.{◌≡◌, ◌⊎◌, ℕ, Bool, List, ◌++◌, codes, Option, Some, Result, Ok, Err}
use Rattle.std.specs.Fmt.{decimal}
use Rattle.edge_io.specs.Moving.{Appends, Input}
use Rattle.edge_io.specs.Writing.{HasWritten}
use Rattle.group_config.specs.Reading.{GivesSettings, RefusesAtKey}
use Rattle.group_config.specs.Text.{HasReadSettings, HasReadTooMuch}
use Rattle.group_config.specs.declared.settings.Settings.{Settings}
use Rattle.group_types.specs.declared.config_key.ConfigKey.{ConfigKey}
use Rattle.node_worker.specs.Served.{HasAccepted, IsDone}
use Rattle.group_server.specs.declared.fault.ServiceFault.{ServiceFault}
use Rattle.group_server.specs.declared.fault.ServiceFault.TheVariants.{TooLong, BadConfig, ReadFault, WriteFault, AcceptFault, Want}

-- the line that says that connections can come, and the one that says how many came
abbrev pub listening : List ℕ
listening = codes "listening\n"

abbrev pub served : ℕ → List ℕ
served n = codes "served " ++ decimal n ++ codes "\n"

-- where a listener listens, how many connections it handed out, and whether it said that no further one comes
pub record Tally : Type 0 where
  pub at : Option (List ℕ)
  pub accepted : ℕ
  pub over : Bool

abbrev pub tally_with : Option (List ℕ) → ℕ → Bool → Tally
tally_with at accepted over = record { at = at; accepted = accepted; over = over }

-- the source was read to its end, and its text gives these settings
pub record HasGivenSettings (before now : Input) (settings : Settings) : Type 0 where
  pub text : List ℕ
  pub read : HasReadSettings before now text
  pub gives : GivesSettings text settings

-- the source was read to its end, and its text is refused at this key
pub record HasRefused (before now : Input) (key : ConfigKey) : Type 0 where
  pub text : List ℕ
  pub read : HasReadSettings before now text
  pub refuses : RefusesAtKey text key

-- what `listen` tells, and what a listener tells of itself
module _ {L : Type 0} (listened : L → List ℕ → L → Type 0) (tells : L → Tally) where
  -- the listener listened at the settings' address, from there on handed out so many connections, and still listens there alone
  pub record HasHandedOut (settings : Settings) (n : ℕ) (before now : L) : Type 0 where
    pub middle : L
    pub listens : listened before settings.address middle
    pub at : (tells now).at ≡ Some settings.address
    pub accepted : HasAccepted (tells middle).accepted (tells now).accepted settings.connections n

  -- of a group with these settings: what was written and what became of the listener, where it was served to its end,
  -- where no connection could be accepted, and where the sink failed; nothing else ends it but want of memory
  abbrev pub HasServedBy : Settings → List ℕ → List ℕ → L → L → Result ℕ ServiceFault → Type 0
  HasServedBy settings held held_now l l_now (Ok n) =
      HasHandedOut settings n l l_now × IsDone settings.connections n (tells l_now).over × Appends held held_now (listening ++ served n)
  HasServedBy settings held held_now l l_now (Err AcceptFault) =
      (((tells l_now).accepted ≡ (tells l).accepted) × ((tells l_now).at ≡ (tells l).at) × (held_now ≡ held))
      ⊎ ((n : ℕ) × HasHandedOut settings n l l_now × Appends held held_now listening)
  HasServedBy settings held held_now l l_now (Err WriteFault) = (n : ℕ) × HasHandedOut settings n l l_now × HasWritten held held_now (listening ++ served n)
  HasServedBy settings held held_now l l_now (Err Want) = (n : ℕ) × HasWritten held held_now (listening ++ served n)
  HasServedBy settings held held_now l l_now (Err _) = ⊥

  -- the same of a source that gives settings; where it gives none nothing is written, and the listener stays
  abbrev pub HasServedGroup : Input → Input → List ℕ → List ℕ → L → L → Result ℕ ServiceFault → Type 0
  HasServedGroup input input_now held held_now l l_now (Err TooLong) = HasReadTooMuch input input_now × (held_now ≡ held) × (l_now ≡ l)
  HasServedGroup input input_now held held_now l l_now (Err (BadConfig key)) = HasRefused input input_now key × (held_now ≡ held) × (l_now ≡ l)
  HasServedGroup input input_now held held_now l l_now (Err ReadFault) = (held_now ≡ held) × (l_now ≡ l)
  HasServedGroup input input_now held held_now l l_now (Err Want) = (n : ℕ) × HasWritten held held_now (listening ++ served n)
  HasServedGroup input input_now held held_now l l_now result = (settings : Settings)
      × HasGivenSettings input input_now settings × HasServedBy settings held held_now l l_now result
