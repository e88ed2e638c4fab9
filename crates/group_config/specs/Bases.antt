-- The bases of a group's partitions, with which its numbers go on from those of an earlier group.
use Rattle.std.specs.Prelude.{ℕ, ◌*◌, ◌==◌, Bool, true, ◌&&◌, List, [], ◌∷◌, length, codes, Option, Some, None, option_and_then, option_map}
use Rattle.std.specs.Option.{is_some}
use Rattle.toml.specs.Data.{Data, Items, no_items, item, Members, as_array, get_member}
use Rattle.group_types.specs.Dimensions.{Dimensions}
use Rattle.group_config.specs.Keys.{number, only, or_else}

-- the largest base
abbrev pub most_base : ℕ
most_base = 4611686018427387904

-- one more base, where a value is one
abbrev pub with_number : Option ℕ → List ℕ → List ℕ
with_number None rest = rest
with_number (Some n) rest = n ∷ rest

-- the bases among the values of a list
abbrev pub numbers : Items → List ℕ
numbers no_items = []
numbers (item d ds) = with_number (number 0 most_base (Some d)) (numbers ds)

-- each value of a list is a base
abbrev pub all_numbers : Items → Bool
all_numbers no_items = true
all_numbers (item d ds) = is_some (number 0 most_base (Some d)) && all_numbers ds

-- the bases of so many partitions
abbrev pub bases : ℕ → Option Data → Option (List ℕ)
bases count found = only (λ ns. length ns == count) (option_map numbers (only all_numbers (option_and_then as_array found)))

-- a base for each partition of so many groups, or none
abbrev pub bases_in : ℕ → Dimensions → Members → Option (List ℕ)
bases_in groups shape ms = or_else [] (bases (groups * shape.k)) (get_member (codes "base") ms)
