-- By whom an action is, and which wire it reads.
use Rattle.std.proofs.Common.{◌≡◌, ◌≢◌, Bool, false, refl}
use Rattle.group_types.specs.Dimensions.{Dimensions}
use Rattle.group_types.specs.Names.{same_process}
use Rattle.group_types.specs.declared.process.ProcessId.{ProcessId}
use Rattle.group_types.proofs.Names.{same-ne}
use Rattle.group_wire.specs.Actions.{Action, Begin, Send, Read, Treat, Collect, Flush, Learn, Receive, GiveUp, Cut, Say}
use Rattle.group_wire.specs.Actions.{Hear, Permit, Take, Ping, Pong, Count, Show, LetGo, Stop}
use Rattle.group_wire.specs.State.{gateway_of}

-- the member that acts
abbrev pub by_of : Dimensions → Action → ProcessId
by_of s (Begin caller op) = gateway_of s caller
by_of s (Send caller to) = gateway_of s caller
by_of s (Read x p) = p
by_of s (Treat p place) = p
by_of s (Collect caller call p) = p
by_of s (Flush p) = p
by_of s (Learn x p) = p
by_of s (Receive x p) = p
by_of s (GiveUp caller) = gateway_of s caller
by_of s (Cut x p) = p
by_of s (Say p) = p
by_of s (Hear x p) = p
by_of s (Permit p) = p
by_of s (Take x p) = p
by_of s (Ping to p) = p
by_of s (Pong x p) = p
by_of s (Count x p) = p
by_of s (Show caller ping) = gateway_of s caller
by_of s (LetGo caller) = gateway_of s caller
by_of s (Stop p) = p

-- the member whose wire it reads, or itself
abbrev pub from_of : Dimensions → Action → ProcessId
from_of s (Read x p) = x
from_of s (Learn x p) = x
from_of s (Receive x p) = x
from_of s (Hear x p) = x
from_of s (Pong x p) = x
from_of s (Count x p) = x
from_of s (Begin caller op) = gateway_of s caller
from_of s (Send caller to) = gateway_of s caller
from_of s (Treat p place) = p
from_of s (Collect caller call p) = p
from_of s (Flush p) = p
from_of s (GiveUp caller) = gateway_of s caller
from_of s (Cut x p) = p
from_of s (Say p) = p
from_of s (Permit p) = p
from_of s (Take x p) = p
from_of s (Ping to p) = p
from_of s (Show caller ping) = gateway_of s caller
from_of s (LetGo caller) = gateway_of s caller
from_of s (Stop p) = p

-- whether it reads a wire of q, of each kind
abbrev pub reads_message : Action → ProcessId → Bool
reads_message (Receive x p) q = same_process q x
reads_message _ q = false

abbrev pub reads_set : Action → ProcessId → Bool
reads_set (Hear x p) q = same_process q x
reads_set _ q = false

abbrev pub reads_ping : Action → ProcessId → Bool
reads_ping (Pong x p) q = same_process q x
reads_ping _ q = false

abbrev pub reads_pong : Action → ProcessId → Bool
reads_pong (Count x p) q = same_process q x
reads_pong _ q = false

abbrev pub reads_request : Action → ProcessId → Bool
reads_request (Read x p) q = same_process q x
reads_request _ q = false

abbrev pub reads_answer : Action → ProcessId → Bool
reads_answer (Learn x p) q = same_process q x
reads_answer _ q = false

-- it reads none of them
abbrev pub LeavesWires : Action → ProcessId → Type 0
LeavesWires a q = (reads_message a q ≡ false) × (reads_set a q ≡ false) × (reads_ping a q ≡ false)
    × (reads_pong a q ≡ false) × (reads_request a q ≡ false) × (reads_answer a q ≡ false)

pub leaves-wires : (s : Dimensions) (a : Action) (q : ProcessId) → q ≢ from_of s a → LeavesWires a q
leaves-wires s (Read x p) q other = (refl, refl, refl, refl, same-ne q x other, refl)
leaves-wires s (Learn x p) q other = (refl, refl, refl, refl, refl, same-ne q x other)
leaves-wires s (Receive x p) q other = (same-ne q x other, refl, refl, refl, refl, refl)
leaves-wires s (Hear x p) q other = (refl, same-ne q x other, refl, refl, refl, refl)
leaves-wires s (Pong x p) q other = (refl, refl, same-ne q x other, refl, refl, refl)
leaves-wires s (Count x p) q other = (refl, refl, refl, same-ne q x other, refl, refl)
leaves-wires s (Begin caller op) q other = (refl, refl, refl, refl, refl, refl)
leaves-wires s (Send caller to) q other = (refl, refl, refl, refl, refl, refl)
leaves-wires s (Treat p place) q other = (refl, refl, refl, refl, refl, refl)
leaves-wires s (Collect caller call p) q other = (refl, refl, refl, refl, refl, refl)
leaves-wires s (Flush p) q other = (refl, refl, refl, refl, refl, refl)
leaves-wires s (GiveUp caller) q other = (refl, refl, refl, refl, refl, refl)
leaves-wires s (Cut x p) q other = (refl, refl, refl, refl, refl, refl)
leaves-wires s (Say p) q other = (refl, refl, refl, refl, refl, refl)
leaves-wires s (Permit p) q other = (refl, refl, refl, refl, refl, refl)
leaves-wires s (Take x p) q other = (refl, refl, refl, refl, refl, refl)
leaves-wires s (Ping to p) q other = (refl, refl, refl, refl, refl, refl)
leaves-wires s (Show caller ping) q other = (refl, refl, refl, refl, refl, refl)
leaves-wires s (LetGo caller) q other = (refl, refl, refl, refl, refl, refl)
leaves-wires s (Stop p) q other = (refl, refl, refl, refl, refl, refl)
