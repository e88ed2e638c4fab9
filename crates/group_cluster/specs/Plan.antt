-- Groups on nodes as they are asked for, and the first field that is out of range.
use Rattle.std.specs.Prelude.{ℕ, ◌≡◌, ◌<◌, ◌≤◌, ◌+◌, ◌*◌, ◌⊎◌}
use Rattle.group_types.specs.Dimensions.{Dimensions, space_of}
use Rattle.group_types.specs.Shape.{IsShape, IsFirstOutOfRange}
use Rattle.group_types.specs.declared.shape.Field.TheVariants.{Blocks}
use Rattle.group_cluster.specs.declared.layout.LayoutField.{LayoutField}
use Rattle.group_cluster.specs.declared.layout.LayoutField.TheVariants as field

-- so many groups of a shape on so many nodes
pub record Plan : Type 0 where
  pub groups : ℕ
  pub nodes : ℕ
  pub shape : Dimensions

-- all spaces have at most 2 GiB together
abbrev pub most_bytes : ℕ
most_bytes = 2147483648

abbrev pub cluster_bytes : Plan → ℕ
cluster_bytes p = p.groups * (p.shape.k + p.shape.m) * space_of p.shape

abbrev pub AreGroups : Plan → Type 0
AreGroups p = (1 ≤ p.groups) × (p.groups ≤ 16)

abbrev pub AreNodes : Plan → Type 0
AreNodes p = (p.shape.k + p.shape.m ≤ p.nodes) × (p.nodes ≤ 64)

-- every field is within its limits
pub record IsPlan (p : Plan) : Type 0 where
  pub groups : AreGroups p
  pub nodes : AreNodes p
  pub shape : IsShape p.shape
  pub bytes : cluster_bytes p ≤ most_bytes

-- the field is the first out of range; the bound on all bytes, as one on the number of blocks, is judged last
abbrev pub IsFirstBad : Plan → LayoutField → Type 0
IsFirstBad p field.Groups = ¬ (AreGroups p)
IsFirstBad p field.Nodes = AreGroups p × (¬ (AreNodes p))
IsFirstBad p (field.Shape f) = AreGroups p × AreNodes p × (IsFirstOutOfRange p.shape f ⊎ ((f ≡ Blocks) × IsShape p.shape × (most_bytes < cluster_bytes p)))
