use Rattle.std.proofs.Common.{ℕ, ◌≡◌, ◌<◌, List, [], Option, None, Some, length, map, replicate, All, IfSome, ap, sym, subst, ◌∙◌, arith}
use Rattle.std.proofs.lemmas.List.{length-replicate}
use Rattle.std.proofs.lemmas.List.Elements.{All-replicate, All-set}
use Rattle.std.specs.Prelude.{set}
use Rattle.group_types.specs.Dimensions.{Dimensions}
use Rattle.group_types.specs.Lists.{put}
use Rattle.group_types.proofs.Lists.{length-put, set_put}
use Rattle.group_types.specs.Names.{IsProcess}
use Rattle.group_types.specs.declared.process.ProcessId.{ProcessId}
use Rattle.group_types.specs.declared.process.ProcessId.TheVariants.{DataNode, ParityNode}
use Rattle.membership.specs.Members.{Membership}
use Rattle.group_run.specs.Process.{Head, Held, heads_at_start, new_head}
use Rattle.group_run.specs.Replica.{Replica, empty_replica}
use Rattle.head_service.specs.Serving.{Serving}
use Rattle.process_service.specs.Standing.{at_start}
use Rattle.process_service.proofs.Lists.{long-map}
use Rattle.process_service.proofs.service.Service.new.Goals as goal

-- the first heads: as many as partitions, and each counts the acknowledgements of m parity processes
module _ (s : Dimensions) where
  abbrev Counts : Option Head → Type 0
  Counts head = IfSome head (λ h. length h.acks ≡ s.m)

  nobody : All Counts (replicate s.k None)
  nobody = All-replicate Counts s.k None tt

  first-put : (d : _) → d < s.k → set (replicate s.k None) d (Some (new_head s 0 0)) ≡ put None (replicate s.k None) d (Some (new_head s 0 0))
  first-put d below = set_put None (replicate s.k None) d (Some (new_head s 0 0)) (omega (arith, below, long)) where
    none : Option Head
    none = None

    long : length (replicate s.k none) ≡ s.k
    long = length-replicate s.k none

  first-counts : (name : ProcessId) → IsProcess s name → All Counts (heads_at_start s name)
  first-counts (ParityNode i) is = nobody
  first-counts (DataNode d) is =
      subst (All Counts) (first-put d is) (All-set Counts (replicate s.k None) d (Some (new_head s 0 0))
      (length-replicate s.m None) nobody)

  first-long : (name : ProcessId) → IsProcess s name → length (heads_at_start s name) ≡ s.k
  first-long (ParityNode i) is = none-long None where
    none-long : (none : Option Head) → length (replicate s.k none) ≡ s.k
    none-long none = length-replicate s.k none
  first-long (DataNode d) is = length-put None (replicate s.k None) d (Some (new_head s 0 0)) (omega (arith, is, none-long None)) ∙ none-long None where
    none-long : (none : Option Head) → length (replicate s.k none) ≡ s.k
    none-long none = length-replicate s.k none

pub invariant_of-result : goal.invariant_of-result
invariant_of-result c = record {
  process = c.requires;
  members = ap (λ (x : Membership). x.shape) c.new.ensures;
  replicas_long = sym (long-map (λ r. r.replica) c.in_ok-replicas.field-0.items)
      ∙ ap length c.in_ok-replicas.ensures.content ∙ length-replicate c.args.shape.k empty_replica;
  ranks_long = sym (long-map (λ r. r.0) c.in_ok-ranks.field-0.items) ∙ ap length c.in_ok-ranks.ensures ∙ length-replicate c.k.result 0 ∙ c.k.ensures.value;
  heads_long = ap length c.in_ok-heads.ensures ∙ first-long c.args.shape c.args.name c.requires;
  held_long = sym (long-map (λ h. h.items) c.in_ok-held.field-0.items) ∙ ap length c.in_ok-held.ensures
      ∙ length-replicate c.k-2.result [] ∙ c.k-2.ensures.value;
  shapes = c.in_ok-replicas.ensures.shape;
  tidy = c.in_ok-replicas.ensures.tidy;
  acks = subst (All (λ (head : Option Head). IfSome head (λ h. length h.acks ≡ c.args.shape.m)))
      (sym c.in_ok-heads.ensures) (first-counts c.args.shape c.args.name c.requires);
}

pub returns-clause-value : goal.returns-clause-value
returns-clause-value c =
    let s : Dimensions = c.args.shape in
    let start : Serving = at_start s c.args.name in
    let replicas : List Replica = map (λ r. r.replica) c.in_ok-replicas.field-0.items in
    let ranks : List ℕ = map (λ r. r.0) c.in_ok-ranks.field-0.items in
    let held : List (List Held) = map (λ h. h.items) c.in_ok-held.field-0.items in
    ap (λ (x : Membership). record start { known = x; replicas = replicas; ranks = ranks; heads = c.in_ok-heads.field-0.items; held = held }) c.new.ensures
    ∙ ap (λ (xs : List Replica). record start {
      replicas = xs;
      ranks = ranks;
      heads = c.in_ok-heads.field-0.items;
      held = held;
    }) c.in_ok-replicas.ensures.content
    ∙ ap (λ (xs : List ℕ). record start { ranks = xs; heads = c.in_ok-heads.field-0.items; held = held })
    (c.in_ok-ranks.ensures ∙ ap (λ n. replicate n 0) c.k.ensures.value)
    ∙ ap (λ (xs : List (Option Head)). record start { heads = xs; held = held }) c.in_ok-heads.ensures
    ∙ ap (λ (xs : List (List Held)). record start { held = xs }) (c.in_ok-held.ensures ∙ ap (λ n. replicate n []) c.k-2.ensures.value)
