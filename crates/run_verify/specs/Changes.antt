-- What updates do to the space of their partition, and to the runs of its items.
use Rattle.std.specs.Prelude.{ℕ, ◌+◌, Bool, true, false, List, [], ◌∷◌, ◌++◌, drop, replicate, take, Option, Some, None}
use Rattle.group_types.specs.Dimensions.{Dimensions, space_of}
use Rattle.group_types.specs.Lists.{same_key}
use Rattle.group_types.specs.declared.run.Run.{Run}
use Rattle.run_verify.specs.declared.change.Change.{Change}
use Rattle.run_verify.specs.declared.change.Effect.{Effect}
use Rattle.run_verify.specs.declared.change.Effect.TheVariants.{Writes, Removes, Keeps}

-- a space with a value written at its run; where the text tells no run, nothing changes
abbrev pub written_by : Effect → List ℕ → List ℕ
written_by (Writes value (Some run)) space = take run.at space ++ value ++ drop (run.at + run.len) space
written_by (Writes value None) space = space
written_by Removes space = space
written_by Keeps space = space

-- a space after changes
abbrev pub space_after_changes : List ℕ → List Change → List ℕ
space_after_changes space [] = space
space_after_changes space (change ∷ more) = space_after_changes (written_by change.effect space) more

-- the space behind changes, all zeros at first
abbrev pub space_behind : Dimensions → List Change → List ℕ
space_behind s changes = space_after_changes (replicate (space_of s) 0) changes

-- the run of an item after a change of it
abbrev pub run_by : Effect → Option Run → Option Run
run_by (Writes value (Some run)) old = Some run
run_by (Writes value None) old = old
run_by Removes old = None
run_by Keeps old = old

-- after a change, which is of this key or not
abbrev pub run_if : Bool → Effect → Option Run → Option Run
run_if true effect old = run_by effect old
run_if false effect old = old

-- the run of a key's item behind changes
abbrev pub run_after_changes : List ℕ → Option Run → List Change → Option Run
run_after_changes key old [] = old
run_after_changes key old (change ∷ more) = run_after_changes key (run_if (same_key change.key key) change.effect old) more
