-- A node as contracts see it.
use Rattle.std.specs.Prelude.{◌≡◌, ◌+◌, Bool, false, List, length}
use Rattle.group_types.specs.Dimensions.{Dimensions}
use Rattle.group_types.specs.Names.{IsProcess}
use Rattle.group_message.specs.declared.message.Message.{Message}
use Rattle.group_run.specs.Process.{Node}
use Rattle.process_service.specs.Standing as process
use Rattle.link_core.specs.Outgoing.{Link}
use Rattle.group_node.specs.Rooms.{HaveRoom, messages}

-- the shape of its group, and the machine's node
pub record NodeStanding : Type 0 where
  pub shape : Dimensions
  pub node : Node

-- the node of a process with these links, whatever room they have
abbrev pub node_standing : Dimensions → process.Standing → List (Link Message) → Bool → Bool → NodeStanding
node_standing s p links dead down = record { shape = s; node = record { process = p.process; links = messages links; dead = dead; down = down } }

-- a process of the group, with a link to each process; each link of a living one has room for the notice of its death
pub record IsNodeState (s : Dimensions) (p : process.Standing) (links : List (Link Message)) (dead : Bool) : Type 0 where
  pub shape : p.shape ≡ s
  pub named : IsProcess s p.process.name
  pub many : length links ≡ s.k + s.m
  pub room : dead ≡ false → HaveRoom 1 links
