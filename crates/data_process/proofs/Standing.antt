-- What of its partitions a data process's values stand under.
use Rattle.std.proofs.Common.{ℕ, ◌≡◌, ◌<◌, [], List, replicate, refl, sym, ap, subst, ◌∙◌}
use Rattle.std.specs.Prelude.{All}
use Rattle.std.proofs.lemmas.List.{length-replicate}
use Rattle.std.proofs.lemmas.List.Elements.{All-nil}
use Rattle.group_types.specs.Dimensions.{Dimensions, space_of}
use Rattle.group_types.specs.declared.process.ProcessId.TheVariants.{DataNode}
use Rattle.group_types.proofs.Lists.{at-replicate}
use Rattle.group_types.specs.Lists.{at}
use Rattle.group_run.specs.Replica.{Replica, empty_replica}
use Rattle.head_service.specs.Serving.{Serving}
use Rattle.process_service.specs.Standing.{at_start}
use Rattle.data_process.specs.Standing.{IsReadyFor}
use Rattle.data_process.specs.Values.{DataHolding, ValuesAreReady}

-- values of zeros, with no page
abbrev pub no_values : Dimensions → ℕ → DataHolding
no_values s number = record { number = number; space = record { shape = s; bytes = replicate (space_of s) 0; made = [] } }

opening-ready : (s : Dimensions) (number : ℕ) → number < s.k → IsReadyFor (at_start s (DataNode number)) (no_values s number)
opening-ready s number within = record {
  beneath = record {
    shape = refl;
    name = refl;
    blocks = length-replicate s.k _;
    ready = λ d inside. subst (λ (r : Replica). All (ValuesAreReady (no_values s number) d) r.log)
        (sym (at-replicate empty_replica s.k d)) (All-nil (ValuesAreReady (no_values s number) d));
  };
  within = within;
}

-- at the start nothing has to be ready
pub starts-ready : (s : Dimensions) (number : ℕ) (v : Serving) (h : DataHolding) → number < s.k
    → v ≡ at_start s (DataNode number) → h ≡ no_values s number → IsReadyFor v h
starts-ready s number v h within service values =
    subst (λ (x : Serving). IsReadyFor x h) (sym service)
    (subst (λ (x : DataHolding). IsReadyFor (at_start s (DataNode number)) x) (sym values)
    (opening-ready s number within))

-- the values are ready for the same replicas
pub same-replicas : (v w : Serving) (h : DataHolding) → w.shape ≡ v.shape → w.name ≡ v.name → w.replicas ≡ v.replicas → IsReadyFor v h → IsReadyFor w h
same-replicas v w h shape name replicas ready = record {
  beneath = record {
    shape = ready.beneath.shape ∙ sym shape;
    name = ready.beneath.name ∙ sym name;
    blocks = ready.beneath.blocks ∙ ap (λ (s : Dimensions). s.k) (sym shape);
    ready = λ d within. subst (λ (rs : List Replica). All (ValuesAreReady h d) (at empty_replica rs d).log) (sym replicas)
        (ready.beneath.ready d (subst (λ (s : Dimensions). d < s.k) shape within));
  };
  within = subst (λ (s : Dimensions). h.number < s.k) (sym shape) ready.within;
}
