use Rattle.std.proofs.Common.{◌≡◌, ◌≤◌, ◌+◌, ◌-◌, length, drop, map, vec_len, vec_capacity}
use Rattle.std.specs.List.{range_with_len}
use Rattle.group_ledger.specs.Accounts.{accounts_after, accounts_of}
use Rattle.group_ledger.specs.Taking.{Differ}
use Rattle.group_ledger.proofs.Partitions.{still}
use Rattle.group_ledger.proofs.settling.settle_all.Given as goal

abbrev pub invariant-partitions : goal.invariant-partitions
invariant-partitions l = record {
  left : accounts_after l.settled (range_with_len l.d (length l.initial.places - l.d)) (accounts_of l.log.items (map (λ p. p.items) l.places) l.tickets)
      ≡ accounts_after l.settled (range_with_len 0 (length l.initial.places))
      (accounts_of l.initial.log.items (map (λ p. p.items) l.initial.places) l.initial.tickets);
  many : length l.places ≡ length l.initial.places;
  differ : Differ l.tickets;
  log_room : vec_len l.log + still l.d l.settled ≤ vec_capacity l.log;
  ahead : drop l.d l.places ≡ drop l.d l.initial.places;
}
