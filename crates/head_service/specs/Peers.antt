-- For whom a head waits, and whom it tells.
use Rattle.std.specs.Prelude.{ℕ, List}
use Rattle.group_message.specs.declared.message.Message.{Message}
use Rattle.group_run.specs.Applying.{Sent}
use Rattle.group_run.specs.Heading.{least_acked, other_parities, to_parities}
use Rattle.group_run.specs.Process.{Head}
use Rattle.head_service.specs.declared.peers.Peers.{Peers}

-- the number up to which a head settles, where `last` is its last one
abbrev pub settles : Peers → Head → ℕ → ℕ
settles peers h last = least_acked h last (other_parities peers.m peers.name peers.known)

-- a message to each of them
abbrev pub to_all : Peers → Message → List Sent
to_all peers message = to_parities (other_parities peers.m peers.name peers.known) message
