-- What holds of every replica beside its free runs: each address belongs to one value, and each update
-- of the log could come.
use Rattle.std.specs.Prelude.{◌≡◌, ℕ, ◌+◌, ◌<◌, ◌≤◌, ⊤, List, [], ◌∷◌, ◌++◌, map, count_by, All, Option, Some, None}
use Rattle.group_types.specs.declared.run.Run.{Run}
use Rattle.group_message.specs.declared.update.Update.{Update}
use Rattle.group_run.specs.Free.{in_run}
use Rattle.group_run.specs.Replica.{Items, Replica, callers, slot_in, run_in, run_of, item_settled}
use Rattle.group_run.specs.Replica.{freed_by}
use Rattle.group_run.specs.Fitting.{Writes}

-- the runs of items
abbrev pub item_runs : Items → List Run
item_runs items = map (λ x. run_in x.1) items

-- the list with a run in front, if there is one
abbrev pub front_run : Option Run → List Run → List Run
front_run None runs = runs
front_run (Some run) runs = run ∷ runs

-- the runs that updates write
abbrev pub log_runs : List Update → List Run
log_runs [] = []
log_runs (u ∷ us) = front_run (run_of u.body) (log_runs us)

-- the runs that the settled items have, and those that the log's updates write
abbrev pub runs_of : Replica → List Run
runs_of r = item_runs r.items ++ log_runs r.log

-- how many of the runs have the address
abbrev pub owners : ℕ → List Run → ℕ
owners a runs = count_by (in_run a) runs

-- each run lies in the space, and no address in two of them
pub record AreDisjointRuns (space : ℕ) (runs : List Run) : Type 0 where
  pub inside : All (λ run. run.at + run.len ≤ space) runs
  pub apart : (a : ℕ) → owners a runs ≤ 1

-- each update gives back the run of the item that the updates before it leave on its key
abbrev pub FreeTheirs : Items → List Update → Type 0
FreeTheirs items [] = ⊤
FreeTheirs items (u ∷ us) = (u.frees ≡ freed_by u.body (slot_in items u.key)) × FreeTheirs (item_settled u items) us

pub record IsSoundReplica (space : ℕ) (r : Replica) : Type 0 where
  pub runs : AreDisjointRuns space (runs_of r)
  pub frees : FreeTheirs r.items r.log
  pub writes : All (λ u. Writes space u.body) r.log
  pub callers : All (λ u. u.caller < callers) r.log
