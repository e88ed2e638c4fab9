-- Nodes that are held in one list, with room that was made for them.
use Rattle.std.specs.Prelude.{ℕ, List}
use Rattle.group_node.specs.Standing.{NodeStanding}

-- the nodes, and how many the list has room for in all
pub record NodeList : Type 0 where
  pub room : ℕ
  pub nodes : List NodeStanding
