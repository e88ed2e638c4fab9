-- The nodes of a group, and what an event makes of them.
use Rattle.std.specs.Prelude.{◌≡◌, ◌<◌, ◌+◌, ◌^◌, List, length, map, All}
use Rattle.group_types.specs.Dimensions.{Dimensions}
use Rattle.group_types.specs.declared.process.ProcessId.{ProcessId}
use Rattle.group_run.specs.Process.{Node, Process}
use Rattle.group_run.specs.Replica.{last_of}
use Rattle.group_run.specs.World.{DeliveryStep, GroupStep, NodeStep, node_in, with_node}
use Rattle.group_node.specs.Standing.{NodeStanding}
use Rattle.group_node.specs.declared.node.NodeOut.{NodeOut}

-- the shape of the group, and the machine's nodes in the order of processes
pub record Seats : Type 0 where
  pub shape : Dimensions
  pub nodes : List Node

abbrev pub nodes_of : List NodeStanding → List Node
nodes_of xs = map (λ x. x.node) xs

abbrev pub seats_of : Dimensions → List NodeStanding → Seats
seats_of s xs = record { shape = s; nodes = nodes_of xs }

-- all are nodes of a group of this shape
abbrev pub AreNodesOf : Dimensions → List NodeStanding → Type 0
AreNodesOf s xs = All (λ x. x.shape ≡ s) xs

pub record AreSeated (s : Dimensions) (xs : List NodeStanding) : Type 0 where
  pub many : length xs ≡ s.k + s.m
  pub shapes : AreNodesOf s xs

-- the node of a process
abbrev pub seat : Seats → ProcessId → Node
seat v p = node_in v.shape v.nodes p

-- the numbers of a process can rise
pub record IsKnownLow (p : Process) : Type 0 where
  pub updates : All (λ r. last_of r < 2 ^ 62) p.replicas
  pub sessions : p.as_leader.last_session < 2 ^ 62

-- the node of one process makes a step
abbrev pub one_changed : Seats → ProcessId → NodeStep → GroupStep
one_changed v p t = record { nodes = with_node v.shape p t.node v.nodes; answer = t.answer; settled = t.settled }

-- a sender's node changes, and then a receiver's
abbrev pub two_changed : Seats → ProcessId → ProcessId → DeliveryStep → GroupStep
two_changed v from to t = record {
  nodes = with_node v.shape to t.receiver.node (with_node v.shape from t.sender v.nodes);
  answer = t.receiver.answer;
  settled = t.receiver.settled;
}

-- the machine's step after which the nodes stand like this, and which makes what the code's has
abbrev pub made : Seats → NodeOut → GroupStep
made v out = record { nodes = v.nodes; answer = out.answer; settled = out.settled.items }
