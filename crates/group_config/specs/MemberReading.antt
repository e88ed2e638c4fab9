-- What a text of a member's settings gives: the first of its checks that fails, in their order, or the settings.
use Rattle.std.specs.Prelude.{ℕ, ◌≡◌, ◌⊎◌, ◌<◌, ◌≤◌, List, length, codes, if◌then◌else◌, Option, Result, Ok, Err, ⊤}
use Rattle.toml.specs.Data.{Members, get_member}
use Rattle.group_types.specs.Dimensions.{Dimensions, processes_of}
use Rattle.group_types.specs.declared.config_key.ConfigKey.{ConfigKey}
use Rattle.group_config.specs.Bases.{bases_in}
use Rattle.group_config.specs.Keys.{all_among}
use Rattle.group_config.specs.MemberKeys.{group_in, groups_in, one_word_in, order_in, patience_in, settings_keys}
use Rattle.group_config.specs.MemberTable.{members_of, own_of}
use Rattle.group_config.specs.Reading.{IsDocument, IsNoDocument, check, checked_shape, follow}
use Rattle.group_config.specs.declared.member_entry.MemberEntry.{MemberEntry}
use Rattle.group_config.specs.declared.member_fault.MemberFault.{MemberFault}
use Rattle.group_config.specs.declared.member_fault.MemberFault.TheVariants.{BadKey, Want}
use Rattle.group_config.specs.declared.member_key.MemberKey.{MemberKey}
use Rattle.group_config.specs.declared.member_key.MemberKey.TheVariants as key
use Rattle.group_config.specs.declared.member_settings.MemberSettings.{MemberSettings}

-- the checks of the shape, as in other settings
abbrev pub with_shape : {A : Type 0} → Result Dimensions ConfigKey → (Dimensions → Result A MemberKey) → Result A MemberKey
with_shape (Ok shape) next = next shape
with_shape (Err k) next = Err (key.Shape k)

-- the checks behind those of the members, where the name may be given
abbrev pub behind_members : Option (List ℕ) → Members → List ℕ → Dimensions → List MemberEntry → Result MemberSettings MemberKey
behind_members word ms group shape members =
    check key.Name (own_of word (get_member (codes "name") ms) members) (λ own.
    check key.Order (order_in ms) (λ order.
    check key.Patience (patience_in ms) (λ patience.
    check key.OneWord (one_word_in shape ms) (λ one_word.
    check key.Groups (groups_in ms) (λ groups.
    check key.Base (bases_in groups shape ms) (λ base.
    if all_among settings_keys ms
    then Ok (record {
      group = group;
      shape = shape;
      members = members;
      own = own;
      order = order;
      patience = patience;
      one_word = one_word;
      groups = groups;
      base = base;
    })
    else Err key.Unknown))))))

-- what a document gives: the first key whose check fails, or settings
abbrev pub settings_of : Option (List ℕ) → Members → Result MemberSettings MemberKey
settings_of word ms =
    check key.Group (group_in ms) (λ group.
    with_shape (checked_shape ms) (λ shape.
    follow (members_of (processes_of shape) (get_member (codes "members") ms)) (λ members.
    behind_members word ms group shape members)))

-- a result is what the checks give, or there was no memory
abbrev pub IsMemberOutcome : {A : Type 0} → Result A MemberKey → Result A MemberFault → Type 0
IsMemberOutcome (Ok given) result = (result ≡ Ok given) ⊎ (result ≡ Err Want)
IsMemberOutcome (Err key) result = (result ≡ Err (BadKey key)) ⊎ (result ≡ Err Want)

-- the text gives these settings
pub record GivesMember (word : Option (List ℕ)) (text : List ℕ) (settings : MemberSettings) : Type 0 where
  pub members : Members
  pub document : IsDocument text members
  pub are : settings_of word members ≡ Ok settings

-- the first check of the text that fails is that of this key
abbrev pub RefusesMember : Option (List ℕ) → List ℕ → MemberKey → Type 0
RefusesMember word text k = (IsNoDocument text × (k ≡ key.Syntax)) ⊎ ((ms : Members) × IsDocument text ms × (settings_of word ms ≡ Err k))

-- what a result says of its text
abbrev pub MemberComesOf : Option (List ℕ) → List ℕ → Result MemberSettings MemberFault → Type 0
MemberComesOf word text (Ok settings) = GivesMember word text settings
MemberComesOf word text (Err (BadKey key)) = RefusesMember word text key
MemberComesOf word text (Err Want) = ⊤

-- there is a member for each process, and this one among them
pub record HasMembers (settings : MemberSettings) : Type 0 where
  pub count : length settings.members ≡ processes_of settings.shape
  pub own : settings.own < processes_of settings.shape
  pub some : 1 ≤ settings.groups
  pub few : settings.groups ≤ 16
