-- Free addresses of a partition's space at a process, and the run that a new value gets.
use Rattle.std.specs.Prelude.{ℕ, zero, suc, ◌+◌, ◌-◌, ◌==◌, nat_lt, nat_le, Bool, true, false, not, ◌&&◌, Option, Some, None, if◌then◌else◌}
use Rattle.std.specs.List.{list_any}
use Rattle.group_types.specs.declared.run.Run.{Run}
use Rattle.group_run.specs.Replica.{Replica, run_in, run_of}

-- the address lies in the run
abbrev pub in_run : ℕ → Run → Bool
in_run a run = nat_le run.at a && nat_lt a (run.at + run.len)

-- the address lies in the run, if there is one
abbrev pub in_some_run : ℕ → Option Run → Bool
in_some_run a None = false
in_some_run a (Some run) = in_run a run

-- an address is free when it lies in no run of a settled item, in no run of an update in the log, and
-- in no run that such an update frees
abbrev pub is_free : ℕ → Replica → ℕ → Bool
is_free space r a = nat_lt a space
    && not (list_any (λ x. in_run a (run_in x.1)) r.items)
    && not (list_any (λ u. in_some_run a (run_of u.body)) r.log)
    && not (list_any (λ u. in_some_run a u.frees) r.log)

-- the shorter run, the earlier one on a tie
abbrev pub shorter : Option Run → Run → Option Run
shorter None run = Some run
shorter (Some best) run = if nat_lt run.len best.len then Some run else Some best

-- a maximal free run of c addresses ends before address a: it may be the best so far for `want`
abbrev pub closed : ℕ → ℕ → ℕ → Option Run → Option Run
closed want a c best = if nat_lt 0 c && nat_le want c then shorter best (record { at = a - c; len = c }) else best

-- how many free addresses there are just before the next one
abbrev pub counted : Bool → ℕ → ℕ
counted true c = suc c
counted false c = 0

-- the best run so far, once address a was looked at
abbrev pub best_so_far : Bool → ℕ → ℕ → ℕ → Option Run → Option Run
best_so_far true want a c best = best
best_so_far false want a c best = closed want a c best

-- the best run, walking over n addresses from a on, with c free ones just before a
abbrev pub walk : (ℕ → Bool) → ℕ → ℕ → ℕ → ℕ → Option Run → Option Run
walk free want zero a c best = closed want a c best
walk free want (suc n) a c best = walk free want n (suc a) (counted (free a) c) (best_so_far (free a) want a c best)

-- the first `len` addresses of a run
abbrev pub front_of : ℕ → Option Run → Option Run
front_of len None = None
front_of len (Some run) = Some (record { at = run.at; len = len })

-- the run that `len` bytes get: the front of the shortest maximal free run that has them, the lowest
-- on a tie; no bytes get the run of length 0 at 0
abbrev pub place_for : ℕ → Replica → ℕ → Option Run
place_for space r len = if len == 0 then Some (record { at = 0; len = 0 }) else front_of len (walk (is_free space r) len space 0 0 None)
