use Rattle.std.proofs.Common.{◌≡◌, ◌≤◌, length}
use Rattle.group_ledger.proofs.Taken.{NoneFrom}
use Rattle.group_ledger.proofs.tickets.take_op.Given as goal

abbrev pub invariant-tickets : goal.invariant-tickets
invariant-tickets l = record {
  kept : l.tickets ≡ l.initial.tickets;
  within : l.place ≤ length l.initial.tickets;
  none : NoneFrom (record { caller = l.caller; call = l.call }) l.initial.tickets l.place;
}

abbrev pub decreases-tickets : goal.decreases-tickets
decreases-tickets l = l.place
