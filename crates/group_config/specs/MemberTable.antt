-- What the table of a group's members gives: the members, or the first key that is wrong.
use Rattle.std.specs.Prelude.{ℕ, ◌==◌, Bool, true, ◌&&◌, List, [], ◌∷◌, length, codes, Option, Some, None}
use Rattle.std.specs.Prelude.{option_and_then, option_map, Result, Ok, Err, if◌then◌else◌, suc}
use Rattle.std.specs.Option.{is_none}
use Rattle.std.specs.Str.{bytes_eq}
use Rattle.toml.specs.Data.{Data, Items, no_items, item, Members, as_array, as_table, get_member}
use Rattle.group_config.specs.Keys.{all_among, short_text}
use Rattle.group_config.specs.MemberKeys.{name, text}
use Rattle.group_config.specs.Reading.{check, follow}
use Rattle.group_config.specs.declared.member_entry.MemberEntry.{MemberEntry}
use Rattle.group_config.specs.declared.member_key.MemberKey.{MemberKey}
use Rattle.group_config.specs.declared.member_key.MemberKey.TheVariants as key

-- the keys of a member
abbrev pub entry_keys : List (List ℕ)
entry_keys = codes "name" ∷ codes "link" ∷ codes "client" ∷ codes "control" ∷ []

-- the member that a table says
abbrev pub entry_in : Members → Result MemberEntry MemberKey
entry_in ms =
    check key.MemberName (name (get_member (codes "name") ms)) (λ name.
    check key.MemberLink (short_text (get_member (codes "link") ms)) (λ link.
    check key.MemberClient (short_text (get_member (codes "client") ms)) (λ client.
    check key.MemberControl (short_text (get_member (codes "control") ms)) (λ control.
    if all_among entry_keys ms
    then Ok (record { name = name; link = link; client = client; control = control })
    else Err key.MemberUnknown))))

abbrev pub entry_of : Data → Result MemberEntry MemberKey
entry_of d = check key.Members (as_table d) entry_in

-- a member for each value
abbrev pub entries_of : Items → Result (List MemberEntry) MemberKey
entries_of no_items = Ok []
entries_of (item d ds) = follow (entry_of d) (λ e. follow (entries_of ds) (λ es. Ok (e ∷ es)))

-- the index of the first member of this name
abbrev pub member_index : List ℕ → List MemberEntry → Option ℕ
member_index name [] = None
member_index name (e ∷ es) = if bytes_eq e.name name then Some 0 else option_map suc (member_index name es)

-- no two have one name
abbrev pub names_differ : List MemberEntry → Bool
names_differ [] = true
names_differ (e ∷ es) = is_none (member_index e.name es) && names_differ es

-- so many, whose names differ
abbrev pub counted : ℕ → List MemberEntry → Result (List MemberEntry) MemberKey
counted count es = if length es == count then (if names_differ es then Ok es else Err key.MemberName) else Err key.Members

abbrev pub members_of : ℕ → Option Data → Result (List MemberEntry) MemberKey
members_of count found = check key.Members (option_and_then as_array found) (λ ds. follow (entries_of ds) (counted count))

-- the index of the member of the name that is given, or else stands in the settings
abbrev pub own_of : Option (List ℕ) → Option Data → List MemberEntry → Option ℕ
own_of (Some word) found es = member_index word es
own_of None found es = option_and_then (λ name. member_index name es) (text found)
