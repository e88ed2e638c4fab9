use Rattle.std.proofs.Common.{◌≡◌, take, All}
use Rattle.head_service.specs.Paging.{AllMiss}
use Rattle.head_service.specs.Storage.{MakesReady}
use Rattle.follower_service.proofs.prepare.reserve_all.Given as goal

abbrev pub invariant-updates : goal.invariant-updates
invariant-updates g l = record {
  makes : MakesReady (AllMiss (g.B.Beneath.storage l.initial.below).shape.block l.updates) (g.B.Beneath.storage l.initial.below) (g.B.Beneath.storage l.below);
  bytes : (g.B.Beneath.storage l.below).process ≡ (g.B.Beneath.storage l.initial.below).process;
  ready : All (λ u. (g.B.Beneath.storage l.below).is_ready l.partition.0 u) (take l.update-index l.updates);
}
