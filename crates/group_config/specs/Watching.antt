-- What a text says of how a member is watched: the first of its checks that fails, in their order, or the settings.
use Rattle.std.specs.Prelude.{ℕ, ◌≡◌, ◌≤◌, ◌⊎◌, nat_le, Bool, true, ◌&&◌, List, [], ◌∷◌, length, codes, if◌then◌else◌}
use Rattle.std.specs.Prelude.{Option, Some, None, option_and_then, option_map, Result, Ok, Err, ⊤}
use Rattle.std.specs.Option.{is_some}
use Rattle.toml.specs.Data.{Data, string, Items, no_items, item, Members, as_array, as_table, get_member}
use Rattle.group_config.specs.Keys.{all_among, number, only, or_else, short_text}
use Rattle.group_config.specs.Reading.{IsDocument, IsNoDocument, check}
use Rattle.group_config.specs.declared.member_fault.MemberFault.{MemberFault}
use Rattle.group_config.specs.declared.member_fault.MemberFault.TheVariants.{BadKey, Want}
use Rattle.group_config.specs.declared.member_key.MemberKey.{MemberKey}
use Rattle.group_config.specs.declared.member_key.MemberKey.TheVariants as key
use Rattle.group_config.specs.declared.watch_settings.WatchSettings.{WatchSettings}

-- the keys of the table
abbrev pub watch_keys : List (List ℕ)
watch_keys = codes "etcd" ∷ codes "seconds" ∷ []

-- one more address, where a value is one
abbrev pub with_address : Option (List ℕ) → List (List ℕ) → List (List ℕ)
with_address None rest = rest
with_address (Some a) rest = a ∷ rest

-- the addresses among the values of a list
abbrev pub member_addresses : Items → List (List ℕ)
member_addresses no_items = []
member_addresses (item d ds) = with_address (short_text (Some d)) (member_addresses ds)

-- each value of a list is an address
abbrev pub all_addresses : Items → Bool
all_addresses no_items = true
all_addresses (item d ds) = is_some (short_text (Some d)) && all_addresses ds

-- 1 to 16 addresses
abbrev pub are_few : List (List ℕ) → Bool
are_few found = nat_le 1 (length found) && nat_le (length found) 16

-- where etcd is
abbrev pub etcd : Option Data → Option (List (List ℕ))
etcd found = only are_few (option_map member_addresses (only all_addresses (option_and_then as_array found)))

abbrev pub etcd_in : Members → Option (List (List ℕ))
etcd_in ms = etcd (get_member (codes "etcd") ms)

abbrev pub seconds_in : Members → Option ℕ
seconds_in ms = or_else 3 (number 2 60) (get_member (codes "seconds") ms)

-- a lease of so many seconds is one that settings may ask for
pub record HasLease (seconds : ℕ) : Type 0 where
  pub some : 2 ≤ seconds
  pub few : seconds ≤ 60

-- what the table gives: the first key whose check fails, or how a member is watched
abbrev pub watch_in : Members → Result WatchSettings MemberKey
watch_in ms =
    check key.WatchEtcd (etcd_in ms) (λ etcd.
    check key.WatchSeconds (seconds_in ms) (λ seconds.
    if all_among watch_keys ms
    then Ok (record { etcd = etcd; seconds = seconds })
    else Err key.WatchUnknown))

-- and what a document gives
abbrev pub watch_of : Members → Result WatchSettings MemberKey
watch_of ms = check key.Watch (option_and_then as_table (get_member (codes "watch") ms)) watch_in

-- the text gives these settings
pub record GivesWatch (text : List ℕ) (settings : WatchSettings) : Type 0 where
  pub members : Members
  pub document : IsDocument text members
  pub are : watch_of members ≡ Ok settings

-- the first check of the text that fails is that of this key
abbrev pub RefusesWatch : List ℕ → MemberKey → Type 0
RefusesWatch text k = (IsNoDocument text × (k ≡ key.Syntax)) ⊎ ((ms : Members) × IsDocument text ms × (watch_of ms ≡ Err k))

-- what a result says of its text
abbrev pub WatchComesOf : List ℕ → Result WatchSettings MemberFault → Type 0
WatchComesOf text (Ok settings) = GivesWatch text settings
WatchComesOf text (Err (BadKey key)) = RefusesWatch text key
WatchComesOf text (Err Want) = ⊤
