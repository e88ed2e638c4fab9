use Rattle.std.proofs.Common.{ℕ, List, ap, subst, ◌∙◌}
use Rattle.std.proofs.lemmas.Cmp.{nat_list_cmp_total}
use Rattle.std.proofs.lemmas.List.MinMax.{ranks_by}
use Rattle.std.proofs.lemmas.List.Sorted.{answers_always}
use Rattle.std.specs.List.Sorted.{IsPermutation}
use Rattle.std.specs.Ordering.{is_lt}
use Rattle.item_index.specs.declared.slot.Slot.{Slot}
use Rattle.partition_replica.specs.State.{ReplicaState}
use Rattle.partition_replica.proofs.Listing.{comes_before, items_sorted}
use Rattle.partition_replica.proofs.replica.Replica.items.Goals as goal

pub returns : goal.returns
returns c =
    let sorted = c.sort_unstable_by.ensures in
    let ys = c.sort_unstable_by.new.self.items in
    let moved = subst (λ (xs : List (List ℕ × Slot)). IsPermutation xs ys) c.into_vec-items.ensures sorted.permutation in
    let up = sorted.sorted comes_before (ranks_by nat_list_cmp_total (λ (x : List ℕ × Slot). x.0)) (answers_always _ _ _ (λ f a r f' k. ap is_lt k.met)) in
    items_sorted c.self.inside.index c.in_ok-entries.field-0 ys c.in_ok-entries.ensures moved up ∙ ap (λ (s : ReplicaState). s.replica.items) c.self.view_is
