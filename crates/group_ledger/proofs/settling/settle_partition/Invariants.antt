use Rattle.std.proofs.Common.{◌≡◌, ◌≤◌, ◌+◌, ◌++◌, length, drop, vec_len, vec_capacity}
use Rattle.group_run.specs.World.{settled_in}
use Rattle.group_ledger.specs.Accounts.{news_of, update_runs}
use Rattle.group_ledger.specs.Taking.{entries_taken, ops_taken}
use Rattle.group_ledger.proofs.Settled.{IsLeft}
use Rattle.group_ledger.proofs.settling.settle_partition.Given as goal

abbrev pub invariant-settled : goal.invariant-settled
invariant-settled l = record {
  left : IsLeft l.partition l.count (drop l.settlement-index l.settled) l.log.items l.places.items l.tickets
      (l.initial.log.items ++ entries_taken l.initial.tickets (news_of l.partition l.count l.settled))
      (l.initial.places.items ++ update_runs (news_of l.partition l.count l.settled))
      (ops_taken (news_of l.partition l.count l.settled) l.initial.tickets);
  count : l.count ≡ l.initial.count;
  few : vec_len l.log + length (settled_in l.partition (drop l.settlement-index l.settled)) ≤ vec_len l.initial.log + length (settled_in l.partition l.settled);
  log_capacity : vec_capacity l.initial.log ≤ vec_capacity l.log;
  places_room : vec_len l.places + length (drop l.settlement-index l.settled) ≤ vec_capacity l.places;
}
