-- What each key of the settings may be, of the members of a TOML table.
use Rattle.std.specs.Prelude.{ℕ, ◌*◌, ◌≤◌, nat_le, Bool, true, false, ◌&&◌, List, [], ◌∷◌, length, codes, pos, if◌then◌else◌, Option, Some, None, option_map}
use Rattle.std.specs.Borrow.{Bor}
use Rattle.std.specs.Int.{is_power_of_two}
use Rattle.std.specs.List.{list_any}
use Rattle.std.specs.Str.{bytes_eq}
use Rattle.toml.specs.View.{view}
use Rattle.toml.specs.declared.value.Value.{Value}
use Rattle.toml.specs.Data.{Data, integer, boolean, string, Members, no_members, member, get_member}
use Rattle.group_types.specs.Shape.{most_space}

-- the data of a value, where there is one
abbrev pub data_of : Option (Bor Value) → Option Data
data_of value = option_map (λ v. view v.now) value

-- what passes a test
abbrev pub only : {A : Type 0} → (A → Bool) → Option A → Option A
only test None = None
only test (Some a) = if test a then Some a else None

-- what was found, where something was, or else what is taken in its place
abbrev pub or_else : {A : Type 0} → A → (Option Data → Option A) → Option Data → Option A
or_else given read None = Some given
or_else given read (Some d) = read (Some d)

-- a whole number from 0 on
abbrev pub natural : Option Data → Option ℕ
natural (Some (integer (pos n))) = Some n
natural _ = None

-- a whole number from the least to the most
abbrev pub number : ℕ → ℕ → Option Data → Option ℕ
number least most found = only (λ n. nat_le least n && nat_le n most) (natural found)

-- a text of 1 to 255 bytes
abbrev pub short_text : Option Data → Option (List ℕ)
short_text (Some (string s)) = only (λ bytes. nat_le 1 (length bytes) && nat_le (length bytes) 255) (Some s)
short_text _ = None

-- a truth value
abbrev pub truth : Option Data → Option Bool
truth (Some (boolean b)) = Some b
truth _ = None

abbrev pub k_in : Members → Option ℕ
k_in ms = number 1 16 (get_member (codes "k") ms)

abbrev pub m_in : Members → Option ℕ
m_in ms = number 0 4 (get_member (codes "m") ms)

abbrev pub block_length_in : Members → Option ℕ
block_length_in ms = only is_power_of_two (number 16 65536 (get_member (codes "block") ms))

-- the number of blocks of this length
abbrev pub blocks_in : ℕ → Members → Option ℕ
blocks_in block ms = only (λ n. nat_le (n * block) most_space) (number 1 most_space (get_member (codes "blocks") ms))

abbrev pub address_in : Members → Option (List ℕ)
address_in ms = short_text (get_member (codes "address") ms)

abbrev pub workers_in : Members → Option ℕ
workers_in ms = or_else 4 (number 1 64) (get_member (codes "workers") ms)

-- so many workers as settings may ask for
pub record HasWorkers (workers : ℕ) : Type 0 where
  pub some : 1 ≤ workers
  pub few : workers ≤ 64

abbrev pub connections_in : Members → Option ℕ
connections_in ms = or_else 0 (number 0 4611686018427387904) (get_member (codes "connections") ms)

abbrev pub control_in : Members → Option Bool
control_in ms = or_else false truth (get_member (codes "control") ms)

-- the keys of the settings
abbrev pub known_keys : List (List ℕ)
known_keys = codes "k" ∷ codes "m" ∷ codes "blocks" ∷ codes "block" ∷ codes "address" ∷ codes "workers" ∷ codes "connections" ∷ codes "control" ∷ []

-- every key of a table is one of these
abbrev pub all_among : List (List ℕ) → Members → Bool
all_among keys no_members = true
all_among keys (member key d ms) = list_any (λ k. bytes_eq k key) keys && all_among keys ms

abbrev pub all_known : Members → Bool
all_known ms = all_among known_keys ms
