use Rattle.std.proofs.Common.{◌≡◌, ℕ, ◌-◌, true, map, get_or, set, sym, ap, subst, ◌∙◌, arith}
use Rattle.std.proofs.lemmas.Grind.{common_steps}
use Rattle.group_calls.specs.Turns.{CallName}
use Rattle.group_run.specs.World.{op_in, same_call}
use Rattle.group_ledger.specs.Taking.{Differ, op_taken}
use Rattle.group_ledger.proofs.Taken.{none-in, none-taken, op-found, taken-found}
use Rattle.group_ledger.proofs.tickets.take_op.Goals as goal

pub returns-then-is_of-clause-op : goal.returns-then-is_of-clause-op
returns-then-is_of-clause-op c =
    let name : CallName = record { caller = c.args.caller; call = c.args.call } in
    let place : ℕ = c.tickets.place - 1 in
    let own : same_call (get_or c.tickets.tickets place c.index-tickets-place.result).name name ≡ true = sym c.is_of.ensures ∙ c.if-is_of.true in
    c.take_op.ensures.op
    ∙ op-found name c.tickets.tickets place c.index-tickets-place-then-is_of.result c.index-tickets-place.result
    (subst Differ (sym c.tickets.invariant.kept) c.requires.differ) (grind (arith, common_steps)) own
    ∙ ap (op_in name) c.tickets.invariant.kept

pub returns-then-is_of-clause-tickets : goal.returns-then-is_of-clause-tickets
returns-then-is_of-clause-tickets c =
    let name : CallName = record { caller = c.args.caller; call = c.args.call } in
    let place : ℕ = c.tickets.place - 1 in
    let own : same_call (get_or c.tickets.tickets place c.index-tickets-place.result).name name ≡ true = sym c.is_of.ensures ∙ c.if-is_of.true in
    ap (set c.tickets.tickets place) c.take_op.ensures.ticket
    ∙ taken-found name c.tickets.tickets place c.index-tickets-place-then-is_of.result c.index-tickets-place.result
    (subst Differ (sym c.tickets.invariant.kept) c.requires.differ) (grind (arith, common_steps)) own
    ∙ ap (map (op_taken name)) c.tickets.invariant.kept

pub returns-clause-op : goal.returns-clause-op
returns-clause-op c =
    let name : CallName = record { caller = c.args.caller; call = c.args.call } in
    sym (none-in name c.args.tickets.now (λ k d from below. c.tickets.invariant.none k d (grind (arith, common_steps)) below))

pub returns-clause-tickets : goal.returns-clause-tickets
returns-clause-tickets c =
    let name : CallName = record { caller = c.args.caller; call = c.args.call } in
    c.tickets.invariant.kept ∙ sym (none-taken name c.args.tickets.now (λ k d from below. c.tickets.invariant.none k d (grind (arith, common_steps)) below))
