-- The run that the machine gives a value is the front of the best run: the lowest of the shortest free ones.
use Rattle.std.specs.Prelude.{ℕ, ◌≡◌, ◌≤◌, Option, Some, None}
use Rattle.group_types.specs.declared.run.Run.{Run}
use Rattle.run_alloc.specs.Free.{NoPlace, IsPlace}
use Rattle.group_run.specs.Free.{is_free, place_for}
use Rattle.group_run.specs.Replica.{Replica}

-- a value of `len` bytes gets the front of that run
abbrev pub IsPlaced : ℕ → Replica → ℕ → Option Run → Type 0
IsPlaced space r len None = NoPlace space (is_free space r) len
IsPlaced space r len (Some run) = (run.len ≡ len) × IsPlace space (is_free space r) len run.at

abbrev pub PlacesAreBest : Type 0
PlacesAreBest = (space : ℕ) (r : Replica) (len : ℕ) → 1 ≤ len → IsPlaced space r len (place_for space r len)
