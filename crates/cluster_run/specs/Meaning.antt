-- What the words of a line say in a script of several groups; a group's own line is read as in a script of one.
use Rattle.std.specs.Prelude.{ℕ, ◌+◌, ◌^◌, ◌==◌, nat_le, nat_lt, ◌&&◌, List, [], ◌∷◌, codes, Option, Some, None, option_map, Result, Ok, Err, if◌then◌else◌}
use Rattle.std.specs.Str.{bytes_eq}
use Rattle.group_types.specs.declared.shape.Field.{Field}
use Rattle.group_types.specs.declared.shape.Field.TheVariants.{Blocks}
use Rattle.group_layout.specs.declared.event.ClusterEvent.{ClusterEvent}
use Rattle.group_layout.specs.declared.event.ClusterEvent.TheVariants.{FailNode}
use Rattle.group_cluster.specs.Plan.{Plan, cluster_bytes, most_bytes}
use Rattle.group_cluster.specs.declared.layout.LayoutField.{LayoutField}
use Rattle.group_cluster.specs.declared.layout.LayoutField.TheVariants.{Groups, Nodes, Shape}
use Rattle.scenario_text.specs.Meaning.{first_out_of_range}
use Rattle.scenario_text.specs.Words.{◌>>=◌, keep_of_word, number_below}
use Rattle.cluster_run.specs.declared.fault.ClusterFault.{ClusterFault}
use Rattle.cluster_run.specs.declared.fault.ClusterFault.TheVariants.{BadLayout, BadLine}

-- the field of the shape that is out of range, or the number of blocks where all spaces together are too large
abbrev pub field_of_shape : Plan → Option Field → Option LayoutField
field_of_shape p (Some field) = Some (Shape field)
field_of_shape p None = if nat_lt most_bytes (cluster_bytes p) then Some (Shape Blocks) else None

-- the first field out of range: groups, nodes, and then those of the shape
abbrev pub first_bad : Plan → Option LayoutField
first_bad p =
    if nat_le 1 p.groups && nat_le p.groups 16
    then (if nat_le (p.shape.k + p.shape.m) p.nodes && nat_le p.nodes 64 then field_of_shape p (first_out_of_range p.shape) else Some Nodes)
    else Some Groups

abbrev pub plan_unless : Plan → Option LayoutField → Result Plan ClusterFault
plan_unless p None = Ok p
plan_unless p (Some field) = Err (BadLayout field)

-- groups of these numbers, if they are within the limits
unfoldable pub plan_within : Plan → Result Plan ClusterFault
plan_within p = plan_unless p (first_bad p)

-- the numbers `<g> <n> <k> <m> <blocks> <block>`
abbrev pub plan_of : List (List ℕ) → Option Plan
plan_of (g ∷ n ∷ k ∷ m ∷ blocks ∷ block ∷ []) = do
  g ← number_below (2 ^ 32) g
  n ← number_below (2 ^ 32) n
  k ← number_below (2 ^ 32) k
  m ← number_below (2 ^ 32) m
  blocks ← number_below (2 ^ 32) blocks
  block ← number_below (2 ^ 32) block
  Some (record { groups = g; nodes = n; shape = record { k = k; m = m; blocks = blocks; block = block } })
plan_of _ = None

abbrev pub within_or_bad : Option Plan → Result Plan ClusterFault
within_or_bad None = Err BadLine
within_or_bad (Some p) = plan_within p

-- the words `groups <g> <n> <k> <m> <blocks> <block>`
abbrev pub groups_line : List (List ℕ) → Result Plan ClusterFault
groups_line [] = Err BadLine
groups_line (name ∷ numbers) = if bytes_eq name (codes "groups") then within_or_bad (plan_of numbers) else Err BadLine

-- what stands before the first space of a line, and what behind it
abbrev pub behind : ℕ → Option (List ℕ × List ℕ) → Option (List ℕ × List ℕ)
behind b parts = option_map (λ parts. (b ∷ parts.0, parts.1)) parts

abbrev pub cut_at_space : List ℕ → Option (List ℕ × List ℕ)
cut_at_space [] = None
cut_at_space (b ∷ bs) = if b == 32 then Some ([], bs) else behind b (cut_at_space bs)

-- the group that a word names: `g` and the number of one of so many groups
abbrev pub group_of_word : ℕ → List ℕ → Option ℕ
group_of_word count [] = None
group_of_word count (letter ∷ digits) = if letter == 103 then number_below count digits else None

-- a line `g<j> ` and a line of that group, which comes behind it
abbrev pub named_by : ℕ → Option (List ℕ × List ℕ) → Option (ℕ × List ℕ)
named_by count None = None
named_by count (Some parts) = option_map (λ j. (j, parts.1)) (group_of_word count parts.0)

abbrev pub in_group : ℕ → List ℕ → Option (ℕ × List ℕ)
in_group count line = named_by count (cut_at_space line)

-- the words `fail_node <node> <keep>`, of so many nodes
abbrev pub failure_line : ℕ → List (List ℕ) → Option ClusterEvent
failure_line nodes (name ∷ node ∷ keep ∷ []) =
    if bytes_eq name (codes "fail_node") then (do
      node ← number_below nodes node
      keep ← keep_of_word keep
      Some (FailNode node keep))
    else None
failure_line nodes _ = None
