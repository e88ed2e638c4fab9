-- The entries of one era's log.
use Rattle.std.specs.Prelude.{ℕ, ◌==◌, List, [], ◌∷◌, if◌then◌else◌}
use Rattle.group_calls.specs.declared.entry.Entry.{Entry}
use Rattle.group_eras.specs.Eras.{EraEntry}

-- those of the log over eras that are of this era
abbrev pub entries_of_era : ℕ → List EraEntry → List Entry
entries_of_era era [] = []
entries_of_era era (x ∷ xs) = if x.0 == era then x.1 ∷ entries_of_era era xs else entries_of_era era xs
