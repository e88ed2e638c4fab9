-- The log, the runs of each partition's logged updates, and the tickets, as updates are settled one after
-- another.
use Rattle.std.specs.Prelude.{ℕ, List, [], ◌∷◌, ◌++◌, Option, length, map}
use Rattle.group_types.specs.Lists.{at, put}
use Rattle.group_types.specs.declared.run.Run.{Run}
use Rattle.group_message.specs.declared.update.Update.{Update}
use Rattle.group_calls.specs.declared.entry.Entry.{Entry}
use Rattle.group_run.specs.Applying.{Settlement}
use Rattle.group_run.specs.Replica.{run_of}
use Rattle.group_run.specs.World.{Ticket, new_ones, settled_in}
use Rattle.group_ledger.specs.Taking.{entries_taken, ops_taken}

pub record Accounts : Type 0 where
  pub log : List Entry
  pub places : List (List (Option Run))
  pub tickets : List Ticket

abbrev pub accounts_of : List Entry → List (List (Option Run)) → List Ticket → Accounts
accounts_of log places tickets = record { log = log; places = places; tickets = tickets }

-- the updates of partition d that aren't logged yet, where the first `count` are
abbrev pub news_of : ℕ → ℕ → List Settlement → List Update
news_of d count settled = new_ones count (settled_in d settled)

-- the runs that updates write
abbrev pub update_runs : List Update → List (Option Run)
update_runs us = map (λ u. run_of u.body) us

-- once new updates of partition d are logged
abbrev pub with_news : ℕ → List Update → Accounts → Accounts
with_news d news a = record {
  log = a.log ++ entries_taken a.tickets news;
  places = put [] a.places d (at [] a.places d ++ update_runs news);
  tickets = ops_taken news a.tickets;
}

-- once what is settled of these partitions is logged, one partition after the other
abbrev pub accounts_after : List Settlement → List ℕ → Accounts → Accounts
accounts_after settled [] a = a
accounts_after settled (d ∷ ds) a = accounts_after settled ds (with_news d (news_of d (length (at [] a.places d)) settled) a)
