use Rattle.std.proofs.Common.{◌≡◌, ◌++◌, drop, map}
use Rattle.head_service.specs.Flushing.{stables}
use Rattle.head_service.proofs.flush.flush.Given as goal

abbrev pub invariant-partitions : goal.invariant-partitions
invariant-partitions l = l.sent.items ++ stables l.peers l.d (drop l.d l.heads) (map (λ r. r.replica) (drop l.d l.replicas))
    ≡ stables l.peers 0 l.heads (map (λ r. r.replica) l.replicas)
