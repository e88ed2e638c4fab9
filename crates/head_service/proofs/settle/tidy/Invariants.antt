use Rattle.std.proofs.Common.{◌≡◌, ◌||◌, ℕ, Bool, List, drop}
use Rattle.partition_replica.specs.State.{IsTidyBut, is_touched}
use Rattle.head_service.specs.Settling.{updates_settled}
use Rattle.head_service.proofs.settle.tidy.Given as goal

abbrev pub invariant-settled : goal.invariant-settled
invariant-settled l = record {
  shape : l.replica.shape ≡ l.initial.replica.shape;
  replica : l.replica.replica ≡ l.initial.replica.replica;
  owed : (owed : List ℕ → Bool) → IsTidyBut l.initial.replica (λ q. owed q || is_touched (updates_settled l.settled) q)
      → IsTidyBut l.replica (λ q. owed q || is_touched (updates_settled (drop l.settlement-index l.settled)) q);
}
