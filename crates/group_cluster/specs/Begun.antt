-- Moves of which the first were made, and the moves of which the failure of a node is made.
use Rattle.std.specs.Prelude.{ℕ, ◌≡◌, ◌+◌, List, length, ◌++◌}
use Rattle.std.specs.List.{range_with_len}
use Rattle.group_layout.specs.Cluster.{Groups, Move, all_moved, failure_of, failures}
use Rattle.group_layout.specs.Layout.{process_on}

pub record Begun (g : Groups) (moves : List Move) (after : Groups) : Type 0 where
  pub made : List Move
  pub left : List Move
  pub whole : moves ≡ made ++ left
  pub is : after ≡ all_moved g made

-- the failures of the processes of all groups that stand on a node, of so many nodes, and that of one group's
abbrev pub node_moves : Groups → ℕ → ℕ → ℕ → List Move
node_moves g nodes node keep = failures g.shape nodes node keep (range_with_len 0 (length g.worlds))

abbrev pub group_moves : Groups → ℕ → ℕ → ℕ → ℕ → List Move
group_moves g nodes node keep j = failure_of g.shape keep j (process_on nodes (g.shape.k + g.shape.m) node j)
