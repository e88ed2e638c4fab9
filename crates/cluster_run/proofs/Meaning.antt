-- What is read of a line is within the limits of the groups.
use Rattle.std.proofs.Common.{ℕ, ◌≡◌, ◌<◌, ◌+◌, ◌==◌, ◌&&◌, Bool, true, false, nat_le, nat_lt, List, [], ◌∷◌, codes}
use Rattle.std.proofs.Common.{length, Option, Some, None, Ok, Err, if◌then◌else◌, refl, sym, subst, ◌∙◌, arith}
use Rattle.std.proofs.lemmas.Bool.Decides.{nat_tests}
use Rattle.std.specs.Str.{bytes_eq}
use Rattle.group_types.specs.declared.shape.Field.{Field}
use Rattle.group_types.specs.declared.shape.Field.TheVariants.{Blocks}
use Rattle.group_layout.specs.Cluster.{Cluster, MayHappen}
use Rattle.group_layout.specs.declared.event.ClusterEvent.{ClusterEvent}
use Rattle.group_layout.specs.declared.event.ClusterEvent.TheVariants.{FailNode}
use Rattle.group_cluster.specs.Plan.{IsPlan, Plan, cluster_bytes, most_bytes}
use Rattle.group_cluster.specs.declared.layout.LayoutField.{LayoutField}
use Rattle.group_cluster.specs.declared.layout.LayoutField.TheVariants.{Groups, Nodes, Shape}
use Rattle.memc_proto.specs.Words.{if_below}
use Rattle.memc_table.specs.Numeral.{number_of}
use Rattle.scenario_text.specs.Meaning.{first_out_of_range}
use Rattle.scenario_text.specs.Words.{keep_of_word, number_below}
use Rattle.scenario_text.proofs.Limits.{shape-of}
use Rattle.scenario_text.proofs.Read.{bound, mapped, passed}
use Rattle.cluster_run.specs.Meaning.{cut_at_space, failure_line, field_of_shape, first_bad, group_of_word, groups_line}
use Rattle.cluster_run.specs.Meaning.{in_group, named_by, plan_of, plan_unless, plan_within, within_or_bad}
use Rattle.cluster_run.specs.declared.fault.ClusterFault.TheVariants.{BadLine}

-- a number below a limit
if_below-under : (limit : ℕ) (number : Option ℕ) (n : ℕ) → if_below limit number ≡ Some n → n < limit
if_below-under limit None n is = cc is
if_below-under limit (Some m) n is =
    let p = passed (nat_lt m limit) (Some m) n is in
    let less = p.0 in
    let same : m ≡ n = cc (p.1) in
    grind (arith, nat_tests)

number_below-under : (limit : ℕ) (word : List ℕ) (n : ℕ) → number_below limit word ≡ Some n → n < limit
unfolding number_below
number_below-under limit word n is = if_below-under limit (number_of word) n is

module _ (p : Plan) where
  -- groups in range
  fits : (b c d : Bool) → (nat_le 1 p.groups && nat_le p.groups 16) ≡ b
      → (nat_le (p.shape.k + p.shape.m) p.nodes && nat_le p.nodes 64) ≡ c → nat_lt most_bytes (cluster_bytes p) ≡ d
      → (o : Option Field) → first_out_of_range p.shape ≡ o
      → (if b then (if c then elim o
      [ Some field ↦ Some (Shape field) | None ↦ (if d then Some (Shape Blocks) else None) ] else Some Nodes) else
      Some Groups) ≡ None → IsPlan p
  fits true true false isb isc isd None is same = record {
    groups = (grind (arith, nat_tests), grind (arith, nat_tests));
    nodes = (grind (arith, nat_tests), grind (arith, nat_tests));
    shape = shape-of p.shape is;
    bytes = grind (arith, nat_tests);
  }
  fits true true true isb isc isd None is same = absurd (cc same)
  fits b c d isb isc isd o is same = absurd (cc same)

plan-fits : (p : Plan) → first_bad p ≡ None → IsPlan p
plan-fits p is = fits p _ _ _ refl refl refl (first_out_of_range p.shape) refl (sym (by (first_out_of_range p.shape)) ∙ is) where
  by : (o : Option Field)
      → (if nat_le 1 p.groups && nat_le p.groups 16 then (if nat_le (p.shape.k + p.shape.m) p.nodes && nat_le p.nodes 64
      then field_of_shape p o else Some Nodes) else Some Groups)
      ≡ (if nat_le 1 p.groups && nat_le p.groups 16 then (if nat_le (p.shape.k + p.shape.m) p.nodes && nat_le p.nodes 64
      then elim o [
        | Some field ↦ Some (Shape field)
        | None ↦
            (if nat_lt most_bytes (cluster_bytes p) then Some (Shape Blocks) else None)
      ] else Some Nodes) else Some Groups)
  by (Some field) = refl
  by None = refl

plan-of : (p q : Plan) (o : Option LayoutField) → first_bad p ≡ o → plan_unless p o ≡ Ok q → IsPlan q
plan-of p q None is same = let both : p ≡ q = cc (same) in subst IsPlan both (plan-fits p is)
plan-of p q (Some field) is same = absurd (cc same)

plan-within : (p q : Plan) → plan_within p ≡ Ok q → IsPlan q
unfolding plan_within
plan-within p q is = plan-of p q (first_bad p) refl is

or-bad : (o : Option Plan) (q : Plan) → within_or_bad o ≡ Ok q → IsPlan q
or-bad None q is = absurd (cc is)
or-bad (Some p) q is = plan-within p q is

-- groups that a line names are within their limits
pub groups-within : (words : List (List ℕ)) (q : Plan) → groups_line words ≡ Ok q → IsPlan q
groups-within [] q is = absurd (cc is)
groups-within (name ∷ numbers) q is = by (bytes_eq name (codes "groups")) is where
  by : (b : Bool) → (if b then within_or_bad (plan_of numbers) else Err BadLine) ≡ Ok q → IsPlan q
  by true is = or-bad (plan_of numbers) q is
  by false is = absurd (cc is)

-- a group that a line names is there
word-below : (count : ℕ) (word : List ℕ) (j : ℕ) → group_of_word count word ≡ Some j → j < count
word-below count [] j is = absurd (cc is)
word-below count (letter ∷ digits) j is = number_below-under count digits j (passed (letter == 103) (number_below count digits) j is).1

named-below : (count : ℕ) (parts : Option (List ℕ × List ℕ)) (x : ℕ × List ℕ) → named_by count parts ≡ Some x → x.0 < count
named-below count None x is = absurd (cc is)
named-below count (Some parts) x is =
    let from = mapped (λ j. (j, parts.1)) (group_of_word count parts.0) x is in
    subst (λ (y : ℕ × List ℕ). y.0 < count) from.2 (word-below count parts.0 from.0 from.1)

pub in_group-below : (count : ℕ) (line : List ℕ) (x : ℕ × List ℕ) → in_group count line ≡ Some x → x.0 < count
in_group-below count line x is = named-below count (cut_at_space line) x is

-- a node that a line names is there
pub failure-below : (c : Cluster) (words : List (List ℕ)) (e : ClusterEvent) → failure_line (length c.failed) words ≡ Some e → MayHappen c e
failure-below c (name ∷ node ∷ keep ∷ []) e is =
    let read = (passed (bytes_eq name (codes "fail_node")) _ e is).1 in
    let first = bound (number_below (length c.failed) node) _ e read in
    let second = bound (keep_of_word keep) _ e first.2 in
    let same : FailNode first.0 second.0 ≡ e = cc (second.2) in
    subst (MayHappen c) same (number_below-under (length c.failed) node first.0 first.1)
failure-below c xs e is = absurd (cc is)
