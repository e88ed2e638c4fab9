use Rattle.std.proofs.Common.{◌≡◌, ◌∷◌, ◌++◌, [], List, false, map, replicate, ap, ◌∙◌}
use Rattle.std.proofs.lemmas.List.{map-append, replicate-append-replicate}
use Rattle.std.proofs.lemmas.List.Elements.{All-push}
use Rattle.std.specs.Prelude.{All}
use Rattle.group_run.specs.Replica.{Replica, empty_replica}
use Rattle.partition_replica.specs.State.{IsTidyBut, ReplicaState}
use Rattle.std.proofs.Common.{subst, sym}
use Rattle.process_service.proofs.service.replicas.Goals as goal

pub partitions-preserved : goal.partitions-preserved
partitions-preserved c =
    let one : ReplicaState = c.in_ok-new.field-0 in
    record {
      shape = c.partitions.invariant.shape;
      content = ap (map (λ (r : ReplicaState). r.replica)) c.in_ok-push.ensures.items ∙ map-append (λ (r : ReplicaState). r.replica) c.partitions.all.items
          (one ∷ [])
          ∙ ap (λ (xs : List Replica). xs ++ one.replica ∷ []) c.partitions.invariant.content
          ∙ ap (λ (x : Replica). replicate c.partitions.counter empty_replica ++ x ∷ []) c.in_ok-new.ensures.replica
          ∙ replicate-append-replicate c.partitions.counter 1 empty_replica;
      shapes = subst (All (λ (r : ReplicaState). r.shape ≡ c.args.shape)) (sym c.in_ok-push.ensures.items)
          (All-push (λ (r : ReplicaState). r.shape ≡ c.args.shape) c.partitions.all.items one c.partitions.invariant.shapes c.in_ok-new.ensures.shape);
      tidy = subst (All (λ (r : ReplicaState). IsTidyBut r (λ _. false))) (sym c.in_ok-push.ensures.items)
          (All-push (λ (r : ReplicaState). IsTidyBut r (λ _. false)) c.partitions.all.items one c.partitions.invariant.tidy c.in_ok-new.ensures.owed);
    }
