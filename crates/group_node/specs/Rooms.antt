-- What the links of a node hold, and the room that they have.
use Rattle.std.specs.Prelude.{ℕ, suc, ◌≡◌, ◌<◌, ◌≤◌, false, List, length, map}
use Rattle.group_types.specs.Dimensions.{Dimensions}
use Rattle.group_types.specs.Names.{IsProcess, process_at}
use Rattle.group_types.specs.declared.process.ProcessId.{ProcessId}
use Rattle.membership.specs.Members.{Membership, knows_dead}
use Rattle.group_message.specs.declared.message.Message.{Message}
use Rattle.group_run.specs.Applying.{Sent}
use Rattle.group_run.specs.World.{sent_to}
use Rattle.link_core.specs.Outgoing.{Link, link_to}

-- the messages of each link
abbrev pub messages : List (Link Message) → List (List Message)
messages links = map (λ l. l.messages) links

-- each link has room for n messages
abbrev pub HaveRoom : ℕ → List (Link Message) → Type 0
HaveRoom n links = (x : ℕ) → x < length links → n ≤ (link_to links x).spare

-- each link has room for what is sent, and for one message more
abbrev pub HaveRoomFor : Dimensions → List Sent → List (Link Message) → Type 0
HaveRoomFor s sent links = (x : ℕ) → x < length links → suc (length (sent_to (process_at s x) sent)) ≤ (link_to links x).spare

-- the process is one of the group that isn't known dead
pub record IsLiving (s : Dimensions) (known : Membership) (p : ProcessId) : Type 0 where
  pub named : IsProcess s p
  pub unknown : knows_dead known p ≡ false
