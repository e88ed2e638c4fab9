-- Groups of numbers that are within their limits, or the first of them that is not.
use Rattle.std.proofs.Common.{◌≡◌, ◌<◌, ◌≤◌, ◌+◌, ◌&&◌, ◌⊎◌, inl, inr, Bool, true, false, nat_le, nat_lt, Option, Some}
use Rattle.std.proofs.Common.{None, Ok, Err, if◌then◌else◌, refl, sym, ap, ◌∙◌, arith}
use Rattle.std.proofs.lemmas.Bool.Decides.{nat_tests}
use Rattle.group_types.specs.Shape.{IsFirstOutOfRange, IsShape}
use Rattle.group_types.specs.declared.shape.Field.{Field}
use Rattle.group_types.specs.declared.shape.Field.TheVariants.{Blocks}
use Rattle.group_cluster.specs.Plan.{AreGroups, AreNodes, IsFirstBad, IsPlan, Plan, cluster_bytes, most_bytes}
use Rattle.group_cluster.specs.declared.layout.LayoutField.{LayoutField}
use Rattle.group_cluster.specs.declared.layout.LayoutField.TheVariants.{Groups, Nodes, Shape}
use Rattle.scenario_text.specs.Meaning.{first_out_of_range}
use Rattle.scenario_play.proofs.Shapes.{shape-none, shape-some}
use Rattle.cluster_run.specs.Meaning.{field_of_shape, first_bad, plan_unless, plan_within}
use Rattle.cluster_run.specs.declared.fault.ClusterFault.TheVariants.{BadLayout}

module _ (p : Plan) where
  groups-in : AreGroups p → (nat_le 1 p.groups && nat_le p.groups 16) ≡ true
  groups-in groups = let low = groups.0 in let high = groups.1 in grind (arith, nat_tests)

  nodes-in : AreNodes p → (nat_le (p.shape.k + p.shape.m) p.nodes && nat_le p.nodes 64) ≡ true
  nodes-in nodes = let low = nodes.0 in let high = nodes.1 in grind (arith, nat_tests)

  abbrev rest : Option LayoutField → Bool → Bool → Option LayoutField
  rest o a b = if a then (if b then o else Some Nodes) else Some Groups

  judged : (a b : Bool) (o : Option LayoutField) → (nat_le 1 p.groups && nat_le p.groups 16) ≡ a
      → (nat_le (p.shape.k + p.shape.m) p.nodes && nat_le p.nodes 64) ≡ b
      → field_of_shape p (first_out_of_range p.shape) ≡ o → first_bad p ≡ rest o a b
  judged a b o isa isb iso =
      ap (λ (t : Bool). rest (field_of_shape p (first_out_of_range p.shape)) t (nat_le (p.shape.k + p.shape.m) p.nodes && nat_le p.nodes 64)) isa
      ∙ ap (λ (t : Bool). rest (field_of_shape p (first_out_of_range p.shape)) a t) isb ∙ ap (λ (x : Option LayoutField). rest x a b) iso

  few : cluster_bytes p ≤ most_bytes → nat_lt most_bytes (cluster_bytes p) ≡ false
  few bytes = grind (arith, nat_tests)

  many : most_bytes < cluster_bytes p → nat_lt most_bytes (cluster_bytes p) ≡ true
  many bytes = grind (arith, nat_tests)

  plan-none : IsPlan p → first_bad p ≡ None
  plan-none limits = judged true true None (groups-in limits.groups) (nodes-in limits.nodes)
      (ap (field_of_shape p) (shape-none p.shape limits.shape) ∙ ap (λ (t : Bool). if t then Some (Shape Blocks) else None) (few limits.bytes))

  plan-some : (field : LayoutField) → IsFirstBad p field → first_bad p ≡ Some field
  plan-some Groups bad = by (nat_le 1 p.groups && nat_le p.groups 16) refl where
    by : (a : Bool) → (nat_le 1 p.groups && nat_le p.groups 16) ≡ a → first_bad p ≡ Some Groups
    by true is = absurd (bad (grind (arith, nat_tests), grind (arith, nat_tests)))
    by false is = judged false _ _ is refl refl
  plan-some Nodes bad = by (nat_le (p.shape.k + p.shape.m) p.nodes && nat_le p.nodes 64) refl where
    by : (b : Bool) → (nat_le (p.shape.k + p.shape.m) p.nodes && nat_le p.nodes 64) ≡ b → first_bad p ≡ Some Nodes
    by true is = absurd (bad.1 (grind (arith, nat_tests), grind (arith, nat_tests)))
    by false is = judged true false _ (groups-in bad.0) is refl
  plan-some (Shape field) bad = judged true true (Some (Shape field)) (groups-in bad.0) (nodes-in bad.1) (by bad.2) where
    by : IsFirstOutOfRange p.shape field ⊎ ((field ≡ Blocks) × IsShape p.shape × (most_bytes < cluster_bytes p))
        → field_of_shape p (first_out_of_range p.shape) ≡ Some (Shape field)
    by (inl out) = ap (field_of_shape p) (shape-some p.shape field out)
    by (inr (same, limits, large)) =
        ap (field_of_shape p) (shape-none p.shape limits) ∙ ap (λ (t : Bool). if t then Some (Shape Blocks) else None)
        (many large) ∙ ap (λ (f : Field). Some (Shape f)) (sym same)

pub plan_within-ok : (p q : Plan) → q ≡ p → IsPlan p → plan_within p ≡ Ok q
unfolding plan_within
plan_within-ok p q same limits = ap (plan_unless p) (plan-none p limits) ∙ ap (λ (x : Plan). Ok x) (sym same)

pub plan_within-bad : (p : Plan) (field : LayoutField) → IsFirstBad p field → plan_within p ≡ Err (BadLayout field)
unfolding plan_within
plan_within-bad p field bad = ap (plan_unless p) (plan-some p field bad)
