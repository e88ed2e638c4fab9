-- What the walk over a space gives.
use Rattle.std.specs.Prelude.{ℕ, ◌≤◌, Bool, Option, Some, None}
use Rattle.group_types.specs.declared.run.Run.{Run}
use Rattle.run_alloc.specs.Free.{IsBestRun, NoPlace}
use Rattle.group_run.specs.Free.{walk}

-- the best free run for `want` addresses, or none where no free run has them
abbrev pub IsChosen : ℕ → (ℕ → Bool) → ℕ → Option Run → Type 0
IsChosen size free want None = NoPlace size free want
IsChosen size free want (Some run) = IsBestRun size free want run.at run.len

-- a walk over a space finds the best run
abbrev pub WalkFindsBest : Type 0
WalkFindsBest = (size : ℕ) (free : ℕ → Bool) (want : ℕ) → 1 ≤ want → IsChosen size free want (walk free want size 0 0 None)
