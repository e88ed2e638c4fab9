use Rattle.std.proofs.Common.{◌≡◌, ◌+◌, ◌≤◌, ◌||◌, ℕ, true, Bool, List, ◌++◌, length, vec_len, vec_capacity}
use Rattle.group_run.specs.Applying.{bytes_after}
use Rattle.group_run.specs.Heading.{settlements}
use Rattle.group_run.specs.Replica.{applied_to, up_to}
use Rattle.partition_replica.specs.State.{IsTidyBut, is_touched}
use Rattle.head_service.specs.Seat.{StandsOn}
use Rattle.head_service.specs.Storage.{StaysReady}
use Rattle.head_service.proofs.settle.settle_to.Given as goal

abbrev pub invariant-updates : goal.invariant-updates
invariant-updates g l = record {
  stands : StandsOn l.partition.0 l.replica (g.B.Beneath.storage l.below);
  stays : StaysReady (g.B.Beneath.storage l.initial.below) (g.B.Beneath.storage l.below);
  replica : applied_to l.number l.replica.replica ≡ applied_to l.number l.initial.replica.replica;
  bytes : bytes_after (g.B.Beneath.storage l.initial.below).shape l.partition.0 (up_to l.number l.replica.replica) (g.B.Beneath.storage l.below).process
      ≡ bytes_after (g.B.Beneath.storage l.initial.below).shape l.partition.0 (up_to l.number l.initial.replica.replica)
      (g.B.Beneath.storage l.initial.below).process;
  settled : l.settled.items ++ settlements l.partition.0 (up_to l.number l.replica.replica)
      ≡ l.initial.settled.items ++ settlements l.partition.0 (up_to l.number l.initial.replica.replica);
  room : l.replica.room ≡ l.initial.replica.room;
  capacity : vec_capacity l.initial.settled ≤ vec_capacity l.settled;
  fits : vec_len l.settled + length (up_to l.number l.replica.replica) ≤ vec_capacity l.settled;
  within : (q : List ℕ) → is_touched (up_to l.number l.replica.replica) q ≡ true → is_touched (up_to l.number l.initial.replica.replica) q ≡ true;
  owed : (owed : List ℕ → Bool) → IsTidyBut l.initial.replica owed
      → IsTidyBut l.replica (λ q. owed q || is_touched (up_to l.number l.initial.replica.replica) q);
}

abbrev pub decreases-updates : goal.decreases-updates
decreases-updates g l = length l.replica.replica.log
