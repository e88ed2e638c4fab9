-- The updates of partitions as a log and the runs of their values tell them, and what processes hold by them.
use Rattle.std.specs.Prelude.{ℕ, ◌≡◌, ◌<◌, ◌≤◌, ◌+◌, Bool, true, false, List, [], ◌∷◌, ◌++◌, length, take, replicate, Option, Some, None}
use Rattle.erasure_code.specs.Code.{coded}
use Rattle.erasure_code.specs.Spaces.{bytes_at}
use Rattle.group_types.specs.Dimensions.{Dimensions, space_of}
use Rattle.group_types.specs.Lists.{at}
use Rattle.group_types.specs.declared.process.ProcessId.{ProcessId}
use Rattle.group_types.specs.declared.process.ProcessId.TheVariants.{DataNode, ParityNode}
use Rattle.group_types.specs.declared.run.Run.{Run}
use Rattle.memc_table.specs.Contents.{empty_table}
use Rattle.memc_table.specs.declared.act.Act.{Act}
use Rattle.memc_table.specs.declared.act.Act.TheVariants.{Get, Delete, Touch}
use Rattle.memc_table.specs.declared.holding.Holding.{Holding}
use Rattle.group_calls.specs.declared.entry.Entry.{Entry}
use Rattle.group_run.specs.Headline.{AreApart}
use Rattle.group_run.specs.Meaning.{Logged, run_on, space_from, updates_from}

-- an act whose update has a run: all but a deletion and a touch
abbrev pub brings_value : Act → Bool
brings_value (Get _) = false
brings_value (Delete _) = false
brings_value (Touch _ _) = false
brings_value _ = true

-- the updates of partition d in a log, where these are the runs of each partition's updates, by number
abbrev pub updates_by : Dimensions → List (List (Option Run)) → List Entry → ℕ → List Logged
updates_by s runs log d = updates_from s.k d (empty_table s.k) (at [] runs d) log

-- a space after its first n updates
abbrev pub space_after_updates : Dimensions → List Logged → ℕ → List ℕ
space_after_updates s updates n = space_from (replicate (space_of s) 0) (take n updates)

-- a stamp that a process can have, where so many updates of each partition were logged: its partition's number, or one for
-- each partition, none above what was logged
abbrev pub IsStampOf : Dimensions → (ℕ → ℕ) → ProcessId → List ℕ → Type 0
IsStampOf s counts (DataNode d) stamp = (n : ℕ) × (stamp ≡ n ∷ []) × (n ≤ counts d)
IsStampOf s counts (ParityNode i) stamp = (length stamp ≡ s.k) × ((d : ℕ) → d < s.k → at 0 stamp d ≤ counts d)

-- the spaces of all partitions from d on, each after as many of its updates as a stamp says, where these are the spaces after
-- any number
abbrev pub spaces_by : (ℕ → ℕ → List ℕ) → ℕ → List ℕ → List (List ℕ)
spaces_by spaces d [] = []
spaces_by spaces d (n ∷ ns) = spaces d n ∷ spaces_by spaces (d + 1) ns

-- the space that a process has at a stamp
abbrev pub space_at : Dimensions → (ℕ → ℕ → List ℕ) → ProcessId → List ℕ → List ℕ
space_at s spaces (DataNode d) stamp = spaces d (at 0 stamp 0)
space_at s spaces (ParityNode i) stamp = coded s.m i (space_of s) (spaces_by spaces 0 stamp)

-- the bytes of a run of it
abbrev pub shown_at : Dimensions → (ℕ → ℕ → List ℕ) → ProcessId → Run → List ℕ → List ℕ
shown_at s spaces p run stamp = bytes_at run.at run.len (space_at s spaces p stamp)

-- a run is clear for a value of this length, where these are the runs of the items: it lies in the space, is as long as the
-- value, and has no address in common with any of them
pub record IsClearRun (s : Dimensions) (items : List ℕ → Option Run) (run : Run) (len : ℕ) : Type 0 where
  pub inside : run.at + run.len ≤ space_of s
  pub long : run.len ≡ len
  pub apart : (key : List ℕ) (other : Run) → items key ≡ Some other → AreApart run other

-- the runs of the items behind updates
abbrev pub item_run_behind : List Logged → List ℕ → Option Run
item_run_behind updates key = run_on key None updates

-- an update stands right behind others: its value at a clear run, or no run where it brings none
abbrev pub StandsRight : Dimensions → List Logged → Logged → Bool → Type 0
StandsRight s before u true = (run : Run) × (value : Holding) × (u.run ≡ Some run) × (u.item ≡ Some value)
    × IsClearRun s (item_run_behind before) run (length value.item.value)
StandsRight s before u false = u.run ≡ None

-- so do updates, one after the other
abbrev pub StandRight : Dimensions → List Logged → List Logged → Type 0
StandRight s before [] = Unit {0}
StandRight s before (u ∷ us) = StandsRight s before u (brings_value u.entry.op.act) × StandRight s (before ++ u ∷ []) us
