use Rattle.std.proofs.Common.{◌≡◌, ℕ, ◌+◌, ◌-◌, ◌<◌, ◌≤◌, [], ◌∷◌, drop, ap, rules, arith}
use Rattle.group_message.specs.declared.update.Update.{Update}
use Rattle.run_alloc.specs.Free.{AllFree}
use Rattle.group_run.specs.Free.{is_free}
use Rattle.group_run.specs.Replica.{Replica, empty_replica, with_log}
use Rattle.group_run.specs.Fitting.{AllCanCome, CanCome}
use Rattle.part_tests.proofs.replica.steps.adopt.Goals as goal

-- where nothing is settled, the first update can come in place of the log
first_comes : (space : ℕ) (r : Replica) (u : Update) → with_log [] r ≡ empty_replica → CanCome space empty_replica u
    → AllCanCome space (with_log [] r) (drop (r.applied - 0) (u ∷ []))
first_comes space r u start comes =
    let none : r.applied ≡ 0 = ap (λ (r : Replica). r.applied) start in
    rw (start, none) (comes, tt)

-- at the start each address of the space is free
free_at_start : (space at len : ℕ) → at + len ≤ space → AllFree (is_free space empty_replica) at len
free_at_start space at len inside a from to =
    let below : a < space = omega (arith, inside, to) in
    search (rules, below)

pub adopt-requires-clause-fits : goal.adopt-requires-clause-fits
adopt-requires-clause-fits g c =
    rw (c.reserve_list.ensures.shape, c.reserve_list.ensures.replica, c.requires.space, c.list_of-list.ensures)
    (first_comes 16 c.args.replica.now.replica _ c.requires.start (record {
      caller = omega arith;
      writes = c.put.ensures.writes 16 (omega arith);
      free = rw c.put.ensures.run (free_at_start 16 0 6 (omega arith));
      frees = search rules;
    }))
