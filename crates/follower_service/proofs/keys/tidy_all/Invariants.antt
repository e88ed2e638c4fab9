use Rattle.std.proofs.Common.{◌≡◌, ◌||◌, ℕ, Bool, List, drop}
use Rattle.partition_replica.specs.State.{IsTidyBut, is_touched}
use Rattle.follower_service.proofs.keys.tidy_all.Given as goal

abbrev pub invariant-updates : goal.invariant-updates
invariant-updates l = record {
  shape : l.replica.shape ≡ l.initial.replica.shape;
  replica : l.replica.replica ≡ l.initial.replica.replica;
  owed : (owed : List ℕ → Bool) → IsTidyBut l.initial.replica (λ q. owed q || is_touched l.updates q)
      → IsTidyBut l.replica (λ q. owed q || is_touched (drop l.update-index l.updates) q);
}
