-- What a text says of how items are carried: the first of its checks that fails, in their order, or the settings.
use Rattle.std.specs.Prelude.{ℕ, ◌≡◌, ◌≤◌, ◌⊎◌, ◌||◌, nat_lt, List, [], ◌∷◌, length, codes, if◌then◌else◌, Option, option_and_then, Result, Ok, Err, ⊤}
use Rattle.toml.specs.Data.{Data, Members, as_array, get_member}
use Rattle.group_config.specs.Keys.{all_among, k_in, number, or_else}
use Rattle.group_config.specs.MemberTable.{entries_of, names_differ}
use Rattle.group_config.specs.Reading.{IsDocument, IsNoDocument, check, follow}
use Rattle.group_config.specs.declared.carry_fault.CarryKeyFault.{CarryKeyFault}
use Rattle.group_config.specs.declared.carry_fault.CarryKeyFault.TheVariants as fault
use Rattle.group_config.specs.declared.carry_key.CarryKey.{CarryKey}
use Rattle.group_config.specs.declared.carry_key.CarryKey.TheVariants as carry
use Rattle.group_config.specs.declared.carry_settings.CarrySettings.{CarrySettings}
use Rattle.group_config.specs.declared.member_entry.MemberEntry.{MemberEntry}
use Rattle.group_config.specs.declared.member_fault.MemberFault.{MemberFault}
use Rattle.group_config.specs.declared.member_fault.MemberFault.TheVariants.{BadKey, Want}
use Rattle.group_config.specs.declared.member_key.MemberKey.{MemberKey}
use Rattle.group_config.specs.declared.member_key.MemberKey.TheVariants as key

-- the keys of the settings
abbrev pub carry_keys : List (List ℕ)
carry_keys = codes "k" ∷ codes "from" ∷ codes "to" ∷ codes "lanes" ∷ []

-- at least k members and at most 20, whose names differ
abbrev pub enough : ℕ → List MemberEntry → Result (List MemberEntry) MemberKey
enough k es = if nat_lt (length es) k || nat_lt 20 (length es) then Err key.Members else (if names_differ es then Ok es else Err key.MemberName)

abbrev pub group_in : ℕ → Option Data → Result (List MemberEntry) MemberKey
group_in k found = check key.Members (option_and_then as_array found) (λ ds. follow (entries_of ds) (enough k))

-- the checks of one of both groups, whose keys are told with it
abbrev pub check_in_group : {A B : Type 0} → (MemberKey → CarryKey) → Result A MemberKey → (A → Result B CarryKey) → Result B CarryKey
check_in_group name (Ok a) next = next a
check_in_group name (Err k) next = Err (name k)

-- the checks behind those of both groups
abbrev pub behind_groups : Members → ℕ → List MemberEntry → List MemberEntry → Result CarrySettings CarryKey
behind_groups ms k old new =
    check carry.Lanes (or_else 8 (number 1 64) (get_member (codes "lanes") ms)) (λ lanes.
    if all_among carry_keys ms
    then Ok (record { k = k; from = old; to = new; lanes = lanes })
    else Err carry.Unknown)

-- what a document gives: the first key whose check fails, or settings
abbrev pub carry_of : Members → Result CarrySettings CarryKey
carry_of ms =
    check carry.K (k_in ms) (λ k.
    check_in_group carry.From (group_in k (get_member (codes "from") ms)) (λ old.
    check_in_group carry.To (group_in k (get_member (codes "to") ms)) (λ new.
    behind_groups ms k old new)))

-- a fault of the members of one of both groups
abbrev pub carry_fault_of : (MemberKey → CarryKey) → MemberFault → CarryKeyFault
carry_fault_of name (BadKey k) = fault.BadKey (name k)
carry_fault_of name Want = fault.Want

-- a result is what the checks give, or there was no memory
abbrev pub Settles : {A : Type 0} → Result A CarryKey → Result A CarryKeyFault → Type 0
Settles (Ok given) result = (result ≡ Ok given) ⊎ (result ≡ Err fault.Want)
Settles (Err k) result = (result ≡ Err (fault.BadKey k)) ⊎ (result ≡ Err fault.Want)

-- the text gives these settings
pub record GivesCarry (text : List ℕ) (settings : CarrySettings) : Type 0 where
  pub members : Members
  pub document : IsDocument text members
  pub are : carry_of members ≡ Ok settings

-- the first check of the text that fails is that of this key
abbrev pub RefusesCarry : List ℕ → CarryKey → Type 0
RefusesCarry text k = (IsNoDocument text × (k ≡ carry.Syntax)) ⊎ ((ms : Members) × IsDocument text ms × (carry_of ms ≡ Err k))

-- what a result says of its text
abbrev pub CarryComesOf : List ℕ → Result CarrySettings CarryKeyFault → Type 0
CarryComesOf text (Ok settings) = GivesCarry text settings
CarryComesOf text (Err (fault.BadKey k)) = RefusesCarry text k
CarryComesOf text (Err fault.Want) = ⊤
