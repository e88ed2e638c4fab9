use Rattle.std.proofs.Common.{◌<◌, List, length, sym, ap, ◌∙◌, arith}
use Rattle.group_types.specs.Lists.{at}
use Rattle.group_types.proofs.Lists.{at-map, at_index}
use Rattle.group_run.specs.Applying.{replica_of}
use Rattle.group_run.specs.Replica.{Replica, empty_replica}
use Rattle.partition_replica.specs.State.{ReplicaState}
use Rattle.process_service.specs.Standing.{Standing}
use Rattle.data_process.proofs.process.DataProcessGroupProcess.replica.Goals as goal

pub returns : goal.returns
returns c =
    let d = c.args.partition.0 in
    let states : List ReplicaState = c.replicas.result.now in
    let lent = c.index-replicas-partition.result in
    let below : d < length states = omega (arith, c.requires, c.replicas.ensures.length, ap (λ (p : Standing). p.shape.k) c.self.view_is) in
    ap (λ (x : ReplicaState). x.replica) (c.index-replicas-partition.is ∙ sym (at_index lent lent states d below))
    ∙ sym (at-map lent empty_replica (λ (x : ReplicaState). x.replica) states d below)
    ∙ ap (λ (rs : List Replica). at empty_replica rs d) c.replicas.ensures.value
    ∙ ap (λ (p : Standing). replica_of p.process d) c.self.view_is
