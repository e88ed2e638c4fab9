-- What stands on bytes stands on them where nothing that it needs has changed.
use Rattle.std.proofs.Common.{ℕ, ◌≡◌, ◌<◌, length, All, sym, subst, ◌∙◌}
use Rattle.std.proofs.lemmas.List.Elements.{All-push}
use Rattle.group_types.specs.Dimensions.{Dimensions}
use Rattle.group_message.specs.declared.update.Update.{Update}
use Rattle.group_run.specs.Process.{Process}
use Rattle.group_run.specs.Replica.{Replica, with_update}
use Rattle.partition_replica.specs.State.{ReplicaState}
use Rattle.head_service.specs.Paging.{MakesNoneOf}
use Rattle.head_service.specs.Seat.{StandsOn}
use Rattle.head_service.specs.Storage.{MakesReady, StaysReady, Storage}

-- a replica that holds the same
pub stands-as : {d : ℕ} {r s : ReplicaState} {b : Storage} → StandsOn d r b → s.shape ≡ r.shape → s.replica ≡ r.replica → StandsOn d s b
stands-as {d} {r} {s} {b} stands shape same = record {
  partition = stands.partition;
  shape = stands.shape ∙ sym shape;
  blocks = stands.blocks;
  ready = subst (λ (x : Replica). All (b.is_ready d) x.log) (sym same) stands.ready;
}

-- and the same bytes, of which more is ready
pub stands-more : {d : ℕ} {r s : ReplicaState} {b c : Storage} {IsMissed : ℕ → Type 0} → StandsOn d r b → s.shape ≡ r.shape → s.replica ≡ r.replica
    → MakesReady IsMissed b c → c.process ≡ b.process → StandsOn d s c
stands-more {d} {r} {s} {b} {c} stands shape same makes bytes =
    let before : StandsOn d r c = record {
      partition = subst (λ (x : Dimensions). d < x.k) (sym makes.shape) stands.partition;
      shape = makes.shape ∙ stands.shape;
      blocks = subst (λ (p : Process). d < length p.as_leader.rebuilt) (sym bytes) stands.blocks;
      ready = λ k u lt. makes.kept d _ (stands.ready k u lt);
    } in
    stands-as before shape same

-- with an update more in the log, of which all is ready
pub stands-with : {d : ℕ} {r s : ReplicaState} {b : Storage} → StandsOn d r b → (u : Update) → s.shape ≡ r.shape
    → s.replica ≡ with_update u r.replica → b.is_ready d u → StandsOn d s b
stands-with {d} {r} {s} {b} stands u shape same ready = record {
  partition = stands.partition;
  shape = stands.shape ∙ sym shape;
  blocks = stands.blocks;
  ready = subst (λ (x : Replica). All (b.is_ready d) x.log) (sym same) (All-push (b.is_ready d) r.replica.log u stands.ready ready);
}

-- what was made ready stays so
pub makes-stays : {IsMissed : ℕ → Type 0} {a b c : Storage} → MakesReady IsMissed a b → StaysReady b c → MakesReady IsMissed a c
makes-stays {IsMissed} {a} {b} {c} makes stays = record {
  shape = stays.shape ∙ makes.shape;
  pages = subst (MakesNoneOf IsMissed a.made) (sym stays.pages) makes.pages;
  kept = λ d u is. stays.kept d u (makes.kept d u is);
}
