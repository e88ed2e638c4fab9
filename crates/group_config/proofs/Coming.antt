-- What a result that the checks give says of its text.
use Rattle.std.proofs.Common.{◌≡◌, inl, inr, List, ℕ, Option, Result, Ok, Err, refl, sym, subst}
use Rattle.toml.specs.Data.{Members}
use Rattle.group_config.specs.Carrying.{CarryComesOf, Settles, carry_of}
use Rattle.group_config.specs.MemberReading as member
use Rattle.group_config.specs.MemberReading.{IsMemberOutcome, MemberComesOf}
use Rattle.group_config.specs.Watching.{WatchComesOf, watch_of}
use Rattle.group_config.specs.declared.watch_settings.WatchSettings.{WatchSettings}
use Rattle.group_config.specs.Reading.{ComesOf, IsConfigOutcome, IsDocument, settings_of}
use Rattle.group_config.specs.declared.carry_fault.CarryKeyFault.{CarryKeyFault}
use Rattle.group_config.specs.declared.carry_key.CarryKey.{CarryKey}
use Rattle.group_config.specs.declared.carry_settings.CarrySettings.{CarrySettings}
use Rattle.group_config.specs.declared.fault.ConfigFault.{ConfigFault}
use Rattle.group_config.specs.declared.member_fault.MemberFault.{MemberFault}
use Rattle.group_config.specs.declared.member_key.MemberKey.{MemberKey}
use Rattle.group_config.specs.declared.member_settings.MemberSettings.{MemberSettings}
use Rattle.group_config.specs.declared.settings.Settings.{Settings}
use Rattle.group_types.specs.declared.config_key.ConfigKey.{ConfigKey}

pub comes : (text : List ℕ) (ms : Members) (result : Result Settings ConfigFault) → IsDocument text ms → IsConfigOutcome result (settings_of ms)
    → ComesOf text result
comes text ms result document = by (settings_of ms) refl where
  by : (checked : Result Settings ConfigKey) → settings_of ms ≡ checked → IsConfigOutcome result checked → ComesOf text result
  by (Ok settings) are (inl is) = subst (ComesOf text) (sym is) (record { members = ms; document = document; are = are })
  by (Ok settings) are (inr is) = subst (ComesOf text) (sym is) tt
  by (Err key) are (inl is) = subst (ComesOf text) (sym is) (inr (ms, document, are))
  by (Err key) are (inr is) = subst (ComesOf text) (sym is) tt

-- and of a member's
pub member_comes : (word : Option (List ℕ)) (text : List ℕ) (ms : Members) (result : Result MemberSettings MemberFault)
    → IsDocument text ms → IsMemberOutcome (member.settings_of word ms) result → MemberComesOf word text result
member_comes word text ms result document = by (member.settings_of word ms) refl where
  by : (checked : Result MemberSettings MemberKey) → member.settings_of word ms ≡ checked → IsMemberOutcome checked result → MemberComesOf word text result
  by (Ok settings) are (inl is) = subst (MemberComesOf word text) (sym is) (record { members = ms; document = document; are = are })
  by (Ok settings) are (inr is) = subst (MemberComesOf word text) (sym is) tt
  by (Err key) are (inl is) = subst (MemberComesOf word text) (sym is) (inr (ms, document, are))
  by (Err key) are (inr is) = subst (MemberComesOf word text) (sym is) tt

-- and of how a member is watched
pub watch_comes : (text : List ℕ) (ms : Members) (result : Result WatchSettings MemberFault) → IsDocument text ms
    → IsMemberOutcome (watch_of ms) result → WatchComesOf text result
watch_comes text ms result document = by (watch_of ms) refl where
  by : (checked : Result WatchSettings MemberKey) → watch_of ms ≡ checked → IsMemberOutcome checked result → WatchComesOf text result
  by (Ok settings) are (inl is) = subst (WatchComesOf text) (sym is) (record { members = ms; document = document; are = are })
  by (Ok settings) are (inr is) = subst (WatchComesOf text) (sym is) tt
  by (Err key) are (inl is) = subst (WatchComesOf text) (sym is) (inr (ms, document, are))
  by (Err key) are (inr is) = subst (WatchComesOf text) (sym is) tt

-- and of how items are carried
pub carry_comes : (text : List ℕ) (ms : Members) (result : Result CarrySettings CarryKeyFault) → IsDocument text ms
    → Settles (carry_of ms) result → CarryComesOf text result
carry_comes text ms result document = by (carry_of ms) refl where
  by : (checked : Result CarrySettings CarryKey) → carry_of ms ≡ checked → Settles checked result → CarryComesOf text result
  by (Ok settings) are (inl is) = subst (CarryComesOf text) (sym is) (record { members = ms; document = document; are = are })
  by (Ok settings) are (inr is) = subst (CarryComesOf text) (sym is) tt
  by (Err key) are (inl is) = subst (CarryComesOf text) (sym is) (inr (ms, document, are))
  by (Err key) are (inr is) = subst (CarryComesOf text) (sym is) tt
