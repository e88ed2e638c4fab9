use Rattle.std.proofs.Common.{true, ◌≡◌, ℕ, ◌||◌, List, All, take}
use Rattle.partition_replica.specs.Inside.{items_in, ready_in}
use Rattle.partition_replica.specs.State.{is_among, is_touched}
use Rattle.partition_replica.proofs.items.prepare.Given as goal

abbrev pub invariant-updates : goal.invariant-updates
invariant-updates l = record {
  items : items_in l.index ≡ items_in l.initial.index;
  kept : (q : List ℕ) → is_among (ready_in l.initial.index) q ≡ true → is_among (ready_in l.index) q ≡ true;
  most : (q : List ℕ) → is_among (ready_in l.index) q ≡ true → (is_among (ready_in l.initial.index) q || is_touched l.updates q) ≡ true;
  ready : All (λ u. is_among (ready_in l.index) u.key ≡ true) (take l.update-index l.updates);
}
