use Rattle.partition_replica.proofs.Owed.{tidy_settled}
use Rattle.std.proofs.Common.{◌≡◌, ◌+◌, sym, subst, Some, arith, slice_set}
use Rattle.group_types.specs.Dimensions.{space_of}
use Rattle.group_run.specs.Replica.{Replica, applied_to}
use Rattle.partition_replica.specs.Inside.{PartsAgree, replica_in, state_in}
use Rattle.partition_replica.proofs.Agree.{agrees_settled, first_writes, replica_settled, first_caller, first_ready}
use Rattle.partition_replica.proofs.Keys.{items_in-sorted}
use Rattle.partition_replica.proofs.Sound.{freed_inside}
use Rattle.partition_replica.proofs.replica.Replica.settle_next.Goals as goal

pub settle-requires : goal.settle-requires
settle-requires c = first_ready (items_in-sorted c.self.inside.index) c.in_ok-update.ensures.updates c.self.invariant

pub index_mut-requires : goal.index_mut-requires
index_mut-requires c = omega (arith, first_caller (items_in-sorted c.self.inside.index) c.in_ok-update.ensures.updates c.self.invariant)

pub give_run-requires-clause-inside : goal.give_run-requires-clause-inside
give_run-requires-clause-inside c =
    let replica = replica_in c.self.inside.index c.self.inside.log c.self.inside.kept.items in
    rw c.self.invariant.size
    (freed_inside (space_of c.self.inside.shape) replica _ _ (items_in-sorted c.self.inside.index)
    c.in_ok-update.ensures.updates c.self.invariant.sound)

settled : (c : goal.After-give_run) → replica_in c.settle.new.index c.apply_next.new.self
    (slice_set c.self.inside.kept.items c.in_ok-update.update.caller
    (Some (record { call = c.in_ok-update.update.call; outcome = c.in_ok-update.update.outcome })))
    ≡ applied_to (c.self.inside.log.applied + 1) (replica_in c.self.inside.index c.self.inside.log c.self.inside.kept.items)
settled c =
    replica_settled _ _ c.self.inside.log c.apply_next.new.self _ c.in_ok-update.update c.in_ok-update.ensures.updates
    c.in_ok-update.ensures.applied c.settle.ensures.items
    (first_caller (items_in-sorted c.self.inside.index) c.in_ok-update.ensures.updates c.self.invariant)

pub invariant_of-self-2 : goal.invariant_of-self-2
invariant_of-self-2 c =
    let s = state_in c.self.inside.shape c.self.inside.index c.self.inside.log c.self.inside.kept.items c.self.inside.spare in
    let agree = agrees_settled (items_in-sorted c.self.inside.index) c.in_ok-update.ensures.updates c.self.invariant c.give_run.new.runs c.give_run.ensures in
    rw (c.settle.ensures.ready, c.apply_next.ensures.spare)
    (subst (λ (r : Replica). PartsAgree (record s { replica = r }) c.give_run.new.runs c.self.inside.log.spare) (sym (settled c)) agree)

pub returns-clause-replica : goal.returns-clause-replica
returns-clause-replica c = rw (← c.self.view_is) (settled c)

pub returns-clause-writes : goal.returns-clause-writes
returns-clause-writes c = rw (← c.self.view_is) (first_writes (items_in-sorted c.self.inside.index) c.in_ok-update.ensures.updates c.self.invariant)

pub returns-clause-owed : goal.returns-clause-owed
returns-clause-owed c owed tidy q is =
    let was = rw (← c.self.view_is) at tidy in
    let ready = rw c.settle.ensures.ready at is in
    rw c.settle.ensures.items
    (tidy_settled (state_in c.self.inside.shape c.self.inside.index c.self.inside.log c.self.inside.kept.items
    c.self.inside.spare) c.in_ok-update.update c.apply_next.new.self.updates owed c.in_ok-update.ensures.updates was q
    ready)
