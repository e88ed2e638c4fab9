use Rattle.std.proofs.Common.{◌≡◌, map}
use Rattle.toml.specs.View.{table_view}
use Rattle.group_config.specs.Keys.{all_among}
use Rattle.group_config.proofs.Knowing.{each_among}
use Rattle.group_config.proofs.known.all_known_in.Given as goal

abbrev pub invariant-keys : goal.invariant-keys
invariant-keys l =
    (goal.iterator-keys).can_next l.key-iterator × (goal.iterator-keys).is_finite l.key-iterator
    × (each_among (map (λ k. k.now) l.fn.keys) l.key-iterator ≡ all_among (map (λ k. k.now) l.fn.keys) (table_view l.fn.table))
