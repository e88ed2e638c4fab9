-- The runs of a partition's items, and the marks at their addresses.
use Rattle.std.specs.BTreeMap.{get}
use Rattle.std.specs.Cmp.Lexicographic.{slice_cmp}
use Rattle.std.specs.Ordering.{nat_cmp}
use Rattle.std.specs.Prelude.{ℕ, ◌≡◌, ◌≢◌, ◌≤◌, ◌+◌, true, List, ◌++◌, drop, length, replicate, slice_index, take, Option, Some, None, if◌then◌else◌}
use Rattle.group_types.specs.Dimensions.{space_of}
use Rattle.group_types.specs.Lists.{same_key}
use Rattle.group_types.specs.declared.run.Run.{Run}
use Rattle.group_run.specs.Free.{in_run}
use Rattle.group_run.specs.Headline.{AreApart}
use Rattle.run_verify.specs.Changes.{run_after_changes}
use Rattle.run_verify.specs.declared.change.Change.{Change}
use Rattle.run_verify.specs.declared.items.Items.{Items}

-- the run of each key's item
abbrev pub item_runs_of : Items → List ℕ → Option Run
item_runs_of items key = get (slice_cmp nat_cmp) items.runs key

-- the runs with another one, or none, of this key
abbrev pub with_run : List ℕ → Option Run → (List ℕ → Option Run) → List ℕ → Option Run
with_run key run runs other = if same_key key other then run else runs other

-- a run has no address in common with any of these
abbrev pub IsOff : (List ℕ → Option Run) → Run → Type 0
IsOff runs run = (key : List ℕ) (other : Run) → runs key ≡ Some other → AreApart run other

-- marks with this one at the addresses of a run
abbrev pub filled : ℕ → Run → List ℕ → List ℕ
filled mark run marks = take run.at marks ++ replicate run.len mark ++ drop (run.at + run.len) marks

-- marks with none at the addresses of a run, if there is one
abbrev pub cleared : Option Run → List ℕ → List ℕ
cleared None marks = marks
cleared (Some run) marks = filled 0 run marks

-- runs lie in a space and stand apart, and where they are, and nowhere else, stands the mark 1
pub record AreMarked (space : ℕ) (runs : List ℕ → Option Run) (marks : List ℕ) : Type 0 where
  pub long : length marks ≡ space
  pub inside : (key : List ℕ) (run : Run) → runs key ≡ Some run → run.at + run.len ≤ space
  pub apart : (a b : List ℕ) (r q : Run) → runs a ≡ Some r → runs b ≡ Some q → a ≢ b → AreApart r q
  pub marked : (key : List ℕ) (run : Run) (x : ℕ) → runs key ≡ Some run → in_run x run ≡ true → slice_index marks x ≡ 1
  pub only : (x : ℕ) → slice_index marks x ≡ 1 → (key : List ℕ) × (run : Run) × (runs key ≡ Some run) × (in_run x run ≡ true)

abbrev pub IsMarked : Items → Type 0
IsMarked items = AreMarked (space_of items.shape) (item_runs_of items) items.marks.items

-- the items are those behind changes
abbrev pub StandBehind : List Change → Items → Type 0
StandBehind before items = (key : List ℕ) → item_runs_of items key ≡ run_after_changes key None before
