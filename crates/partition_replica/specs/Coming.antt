-- What becomes of free addresses and of the runs of items once a log is applied up to a number.
use Rattle.std.specs.Prelude.{ℕ, ◌≡◌, ◌<◌, nat_le, Bool, true, false, List, [], ◌∷◌, Option, Some, None, if◌then◌else◌, IfSome}
use Rattle.std.specs.List.{list_any}
use Rattle.std.specs.Option.{option_map}
use Rattle.group_types.specs.Lists.{same_key}
use Rattle.group_types.specs.declared.run.Run.{Run}
use Rattle.group_message.specs.declared.update.Body.{Body}
use Rattle.group_message.specs.declared.update.Body.TheVariants.{Put, Remove, Touch}
use Rattle.group_message.specs.declared.update.Update.{Update}
use Rattle.run_alloc.specs.Free.{AllFree}
use Rattle.group_run.specs.Free.{in_run, in_some_run, is_free}
use Rattle.group_run.specs.Fitting.{Writes}
use Rattle.group_run.specs.Replica.{Items, Replica, applied_to, callers, run_in, run_of, slot_in, with_log}
use Rattle.partition_replica.specs.Sound.{log_runs}

-- the replica with everything up to a number applied, and the rest of its log dropped, or not
abbrev pub once_applied : Bool → ℕ → Replica → Replica
once_applied true n r = with_log [] (applied_to n r)
once_applied false n r = applied_to n r

-- the replica with everything up to a number applied, and these updates in place of the rest of its log
abbrev pub replaced : ℕ → List Update → Replica → Replica
replaced n us r = with_log us (applied_to n r)

-- the run that an update of the log then gives back: the one that it frees, or where it is dropped, the one it writes
abbrev pub returned_by : Bool → ℕ → Update → Option Run
returned_by drops n u = if nat_le u.number n then u.frees else (if drops then run_of u.body else None)

-- whether an update of the log then gives the address back
abbrev pub is_returned : Bool → ℕ → List Update → ℕ → Bool
is_returned drops n log a = list_any (λ u. in_some_run a (returned_by drops n u)) log

-- the run of the item on a key
abbrev pub item_run_on : Items → List ℕ → Option Run
item_run_on items key = option_map run_in (slot_in items key)

-- the run that an update leaves, from the one that the item on its key had
abbrev pub run_after : Body → Option Run → Option Run
run_after (Put _ _ run _) old = Some run
run_after Remove old = None
run_after (Touch _) old = old

-- the run that an update leaves on a key
abbrev pub run_behind : List ℕ → Update → Option Run → Option Run
run_behind key u old = if same_key u.key key then run_after u.body old else old

-- the run that updates leave on a key, in order
abbrev pub runs_behind : List ℕ → List Update → Option Run → Option Run
runs_behind key [] old = old
runs_behind key (u ∷ us) old = runs_behind key us (run_behind key u old)

-- the run that an update gives back, from the one that the item on its key had
abbrev pub freed_from : Body → Option Run → Option Run
freed_from (Touch _) old = None
freed_from _ old = old

-- an update's caller, its run, and what it gives back where the item on its key has this run
pub record IsWritten (space : ℕ) (u : Update) (left : Option Run) : Type 0 where
  pub caller : u.caller < callers
  pub writes : Writes space u.body
  pub frees : u.frees ≡ freed_from u.body left

-- each address of the run is free
abbrev pub AreFree : ℕ → Replica → Option Run → Type 0
AreFree space r run = IfSome run (λ run. AllFree (is_free space r) run.at run.len)

-- no address of the run is in one that these updates write
abbrev pub IsClearOf : Option Run → List Update → Type 0
IsClearOf run us = (a : ℕ) → in_some_run a run ≡ true → list_any (in_run a) (log_runs us) ≡ false

-- no address is in both
abbrev pub ShareNoAddress : Option Run → Option Run → Type 0
ShareNoAddress x y = (a : ℕ) → in_some_run a x ≡ true → in_some_run a y ≡ false
