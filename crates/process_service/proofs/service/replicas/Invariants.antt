use Rattle.std.proofs.Common.{◌≡◌, false, All, map, replicate}
use Rattle.group_run.specs.Replica.{empty_replica}
use Rattle.partition_replica.specs.State.{IsTidyBut}
use Rattle.process_service.proofs.service.replicas.Given as goal

abbrev pub invariant-partitions : goal.invariant-partitions
invariant-partitions l = record {
  shape : l.shape ≡ l.fn.shape;
  content : map (λ r. r.replica) l.all.items ≡ replicate l.counter empty_replica;
  shapes : All (λ r. r.shape ≡ l.fn.shape) l.all.items;
  tidy : All (λ r. IsTidyBut r (λ _. false)) l.all.items;
}
