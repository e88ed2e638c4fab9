use Rattle.std.proofs.Common.{◌≡◌, None, refl, sym, [], replicate, rules, ◌∙◌}
use Rattle.group_run.specs.Replica.{callers, empty_replica}
use Rattle.partition_replica.specs.Inside.{replica_in, state_in}
use Rattle.partition_replica.proofs.Agree.{agrees_at_start}
use mathlib.Core.Bool.{false≢true}
use Rattle.partition_replica.proofs.Keys.{items_in-empty, ready_in-is}
use Rattle.partition_replica.proofs.replica.Replica.new.Goals as goal

kept_none : (c : goal.In_ok-vec) → c.in_ok-vec.field-0.items ≡ replicate callers None
kept_none c = c.in_ok-vec.ensures.items_if_clones_equal (λ y same. search (rules))

started : (c : goal.In_ok-vec) → replica_in c.new.result c.new-3.result c.in_ok-vec.field-0.items ≡ empty_replica
started c = rw (c.new.ensures, items_in-empty, c.new-3.ensures.applied, c.new-3.ensures.updates, kept_none c) refl

pub invariant_of-result : goal.invariant_of-result
invariant_of-result c =
    rw (c.new-3.ensures.spare)
    (agrees_at_start (state_in c.args.shape c.new.result c.new-3.result c.in_ok-vec.field-0.items 0) c.in_ok-new.field-0
    (started c) refl (c.in_ok-new.ensures.size ∙ c.space.ensures.value)
    (rw c.space.ensures.value at c.in_ok-new.ensures.free))

pub returns-clause-replica : goal.returns-clause-replica
returns-clause-replica c = started c

pub returns-clause-owed : goal.returns-clause-owed
returns-clause-owed c q is =
    let none = rw c.new.ensures at is in
    absurd (false≢true (sym (ready_in-is [] q) ∙ none))
