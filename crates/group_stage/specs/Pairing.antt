-- Two nodes in hand, of which one receives a message from the other.
use Rattle.std.specs.Prelude.{◌≡◌, Bool, true, false, List, ◌∷◌, []}
use Rattle.group_types.specs.Lists.{at}
use Rattle.group_types.specs.Names.{index_of}
use Rattle.group_message.specs.declared.message.Message.{Message}
use Rattle.group_node.specs.Delivering.{Comes}
use Rattle.group_node.specs.Standing.{NodeStanding}

-- two in order, or turned
abbrev pub one_of : {X : Type 0} → Bool → X → X → X
one_of true x y = x
one_of false x y = y

abbrev pub other_of : {X : Type 0} → Bool → X → X → X
other_of true x y = y
other_of false x y = x

-- what comes first from one node to the other may come
pub record CanDeliver (sender receiver : NodeStanding) : Type 0 where
  pub same : sender.shape ≡ receiver.shape
  pub comes : receiver.node.down ≡ false → receiver.node.dead ≡ false → (m : Message) (rest : List Message)
      → at [] sender.node.links (index_of receiver.shape receiver.node.process.name) ≡ m ∷ rest
      → Comes receiver.shape sender.node.process.name m receiver.node.process
