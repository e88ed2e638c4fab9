-- What each key of a member's settings may be, of the members of a TOML table.
use Rattle.std.specs.Prelude.{ℕ, ◌==◌, nat_le, nat_lt, Bool, false, ◌&&◌, ◌||◌, List, [], ◌∷◌, length, codes, Option}
use Rattle.std.specs.Prelude.{Some, None, option_and_then, if◌then◌else◌}
use Rattle.std.specs.Char.{is_ascii_alphanumeric}
use Rattle.std.specs.List.{list_all}
use Rattle.std.specs.Result.{result_ok}
use Rattle.std.specs.Str.{bytes_eq}
use Rattle.hex.specs.Hex.{decode_sized}
use Rattle.toml.specs.Data.{Data, Members, as_str, get_member}
use Rattle.group_types.specs.Dimensions.{Dimensions}
use Rattle.group_config.specs.Keys.{number, only, or_else, truth}
use Rattle.group_config.specs.declared.member_settings.CallOrder.{CallOrder}
use Rattle.group_config.specs.declared.member_settings.CallOrder.TheVariants.{Strict, Keys}

-- a text
abbrev pub text : Option Data → Option (List ℕ)
text found = option_and_then as_str found

-- the 16 bytes that 32 hexadecimal digits say
abbrev pub group_id : Option Data → Option (List ℕ)
group_id found = option_and_then (λ s. result_ok (decode_sized s 16)) (text found)

-- a letter, a digit, `-`, `_` or `.`
abbrev pub is_name_byte : ℕ → Bool
is_name_byte b = is_ascii_alphanumeric b || b == 45 || b == 95 || b == 46

abbrev pub is_name : List ℕ → Bool
is_name s = nat_le 1 (length s) && nat_le (length s) 64 && list_all is_name_byte s

-- the name of a member
abbrev pub name : Option Data → Option (List ℕ)
name found = only is_name (text found)

-- the order in which calls are shown
abbrev pub order : Option Data → Option CallOrder
order found = option_and_then (λ s. if bytes_eq s (codes "strict") then Some Strict else (if bytes_eq s (codes "keys") then Some Keys else None)) (text found)

abbrev pub group_in : Members → Option (List ℕ)
group_in ms = group_id (get_member (codes "group") ms)

abbrev pub order_in : Members → Option CallOrder
order_in ms = or_else Strict order (get_member (codes "order") ms)

abbrev pub patience_in : Members → Option ℕ
patience_in ms = or_else 10 (number 1 3600) (get_member (codes "patience") ms)

-- whether all members are told the same of who is dead: where k is not above m they have to be
abbrev pub one_word_in : Dimensions → Members → Option Bool
one_word_in shape ms = only (λ b. nat_lt shape.m shape.k || b) (or_else false truth (get_member (codes "one_word") ms))

-- how many groups the members make up
abbrev pub groups_in : Members → Option ℕ
groups_in ms = or_else 1 (number 1 16) (get_member (codes "groups") ms)

-- the keys of a member's settings
abbrev pub settings_keys : List (List ℕ)
settings_keys = codes "group" ∷ codes "k" ∷ codes "m" ∷ codes "blocks" ∷ codes "block" ∷ codes "members" ∷ codes "name"
    ∷ codes "order" ∷ codes "patience" ∷ codes "one_word" ∷ codes "groups" ∷ codes "base" ∷ codes "watch" ∷ []
