use Rattle.std.proofs.Common.{◌≡◌, ℕ, List, ◌||◌, ◌&&◌, not, take}
use Rattle.std.specs.List.{list_any}
use Rattle.group_types.specs.Lists.{same_key}
use Rattle.partition_replica.specs.Inside.{items_in, ready_in}
use Rattle.partition_replica.specs.State.{is_among, is_needed}
use Rattle.partition_replica.proofs.items.tidy_dropped.Given as goal

abbrev pub invariant-dropped : goal.invariant-dropped
invariant-dropped l = record {
  items : items_in l.index ≡ items_in l.initial.index;
  ready : (q : List ℕ) → is_among (ready_in l.index) q
      ≡ (is_among (ready_in l.initial.index) q &&
      (not (list_any (λ u. same_key u.key q) (take l.update-index l.dropped)) || is_needed (items_in l.initial.index)
      l.log.updates q));
}
