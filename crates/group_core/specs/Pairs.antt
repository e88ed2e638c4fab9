-- Two nodes of a list, of which one receives a message from the other.
use Rattle.std.specs.Prelude.{ℕ, ◌≡◌, false, List, [], ◌∷◌, set, slice_index_or}
use Rattle.group_types.specs.Lists.{at}
use Rattle.group_types.specs.Names.{index_of}
use Rattle.group_message.specs.declared.message.Message.{Message}
use Rattle.group_run.specs.World.{deliver_nodes}
use Rattle.group_node.specs.Delivering.{Comes}
use Rattle.group_node.specs.Standing.{NodeStanding}
use Rattle.group_node.specs.Steps as node
use Rattle.group_node.specs.declared.node.NodeOut.{NodeOut}

-- the node at a place of the list
abbrev pub IsNodeAt : List NodeStanding → ℕ → NodeStanding → Type 0
IsNodeAt xs i x = (d : NodeStanding) → slice_index_or xs i d ≡ x

-- what comes first from one node to the other may come
pub record FirstCanCome (xs : List NodeStanding) (i j : ℕ) : Type 0 where
  pub sender : NodeStanding
  pub receiver : NodeStanding
  pub from : IsNodeAt xs i sender
  pub to : IsNodeAt xs j receiver
  pub same : sender.shape ≡ receiver.shape
  pub comes : receiver.node.down ≡ false → receiver.node.dead ≡ false → (m : Message) (rest : List Message)
      → at [] sender.node.links (index_of receiver.shape receiver.node.process.name) ≡ m ∷ rest
      → Comes receiver.shape sender.node.process.name m receiver.node.process

-- the nodes after a delivery from one to the other
pub record Delivered (sender receiver sender_after receiver_after : NodeStanding) (out : NodeOut) : Type 0 where
  pub sender_shape : sender_after.shape ≡ sender.shape
  pub receiver_shape : receiver_after.shape ≡ receiver.shape
  pub step : deliver_nodes receiver.shape sender.node.process.name receiver.node.process.name sender.node receiver.node
      ≡ record { sender = sender_after.node; receiver = node.made receiver_after.node out }

-- the list after it: all others stay
pub record Exchanged (xs ys : List NodeStanding) (i j : ℕ) (out : NodeOut) : Type 0 where
  pub sender : NodeStanding
  pub receiver : NodeStanding
  pub items : ys ≡ set (set xs i sender) j receiver
  pub delivered : (x y : NodeStanding) → IsNodeAt xs i x → IsNodeAt xs j y → Delivered x y sender receiver out
