-- The runs of the updates that a group has logged, as they are written.
use Rattle.std.specs.Prelude.{ℕ, ◌+◌, List, [], ◌∷◌, ◌++◌, codes}
use Rattle.std.specs.Fmt.{decimal}
use Rattle.std.specs.List.{range_with_len}
use Rattle.group_types.specs.Lists.{at}
use Rattle.group_run.specs.World.{World}
use Rattle.scenario_text.specs.Texts.{many_placed, places_text}

-- the runs of these partitions' updates, by number, which goes on from a base
abbrev pub runs_text : List ℕ → World → List ℕ → List ℕ
runs_text bases w [] = []
runs_text bases w (d ∷ ds) = places_text d (at 0 bases d) (at [] w.places d) ++ runs_text bases w ds

-- how many there are
abbrev pub many_runs : World → List ℕ → ℕ
many_runs w [] = 0
many_runs w (d ∷ ds) = many_placed (at [] w.places d) + many_runs w ds

-- the runs of all partitions' updates, and how many there are
abbrev pub placed_text : List ℕ → World → List ℕ
placed_text bases w = runs_text bases w (range_with_len 0 w.shape.k) ++ (codes "placed " ++ (decimal (many_runs w (range_with_len 0 w.shape.k)) ++ codes "\n"))
