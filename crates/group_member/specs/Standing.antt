-- What a member keeps, and how it stands in a group on its machines.
use Rattle.std.specs.Prelude.{ℕ, ◌≡◌, ◌≢◌, nat_lt, Bool, false, List, [], ◌∷◌, ◌++◌, ⊤}
use Rattle.group_types.specs.Dimensions.{Dimensions}
use Rattle.group_types.specs.Lists.{at}
use Rattle.group_types.specs.Names.{IsProcess, index_of}
use Rattle.group_types.specs.declared.process.ProcessId.{ProcessId}
use Rattle.membership.specs.Members.{Membership, all_living, knows_dead}
use Rattle.group_message.specs.declared.message.Message.{Message}
use Rattle.group_run.specs.Process.{Node}
use Rattle.group_wire.specs.May.{IsHere}
use Rattle.group_wire.specs.Sets.{Processes}
use Rattle.group_wire.specs.State.{Request, Told, Words, Works, Gateways, Signs, Group}
use Rattle.group_member.specs.Callers.{AreCallersOf, IsItsCaller, OwnCallers, caller_of}

-- whom a member has cut, what each other has told it that it has cut, by index, and whose deaths it may take and has taken
pub record OwnWords : Type 0 where
  pub shape : Dimensions
  pub name : ProcessId
  pub cut : Membership
  pub heard : List Membership
  pub permitted : Membership
  pub taken : Membership

-- how many pings a member has sent, and how many of them each other has answered, by index
pub record OwnSigns : Type 0 where
  pub pinged : ℕ
  pub answered : List ℕ

-- beside these a member has its callers, the requests that it has read and not treated, in order, and its node
pub record Member : Type 0 where
  pub words : OwnWords
  pub signs : OwnSigns
  pub callers : OwnCallers
  pub parked : List Request
  pub node : Node

-- what a member has handed out for each other, and nobody has read there
pub record HandedFrames : Type 0 where
  pub messages : ProcessId → List Message
  pub said : ProcessId → List Membership
  pub pings : ProcessId → List ℕ
  pub pongs : ProcessId → List ℕ
  pub requests : ProcessId → List Request
  pub answers : ProcessId → List Told

-- what a member has heard of another
abbrev pub heard_of : OwnWords → ProcessId → Membership
heard_of w q = at (all_living w.shape) w.heard (index_of w.shape q)

-- a set of the group is that of a member
abbrev pub IsSetOf : Processes → Membership → Type 0
IsSetOf set known = (x : ProcessId) → set x ≡ knows_dead known x

-- so are sets, one by one
abbrev pub AreSets : List Processes → List Membership → Type 0
AreSets [] [] = ⊤
AreSets [] (known ∷ more) = ⊥
AreSets (set ∷ sets) [] = ⊥
AreSets (set ∷ sets) (known ∷ more) = IsSetOf set known × AreSets sets more

-- the group has the words of a member
pub record HasWords (g : Words) (out : HandedFrames) (w : OwnWords) : Type 0 where
  pub cut : IsSetOf (g.cut w.name) w.cut
  pub heard : (q : ProcessId) → IsProcess w.shape q → IsSetOf (g.heard w.name q) (heard_of w q)
  pub permitted : IsSetOf (g.permitted w.name) w.permitted
  pub taken : IsSetOf (g.taken w.name) w.taken
  pub said : (q : ProcessId) → AreSets (g.said w.name q) (out.said q)

-- what was handed out stands in front on a wire, and behind it what the node has for it, unless that is cut
pub record IsAhead (cut : Bool) (wire out held : List Message) : Type 0 where
  pub behind : List Message
  pub is : wire ≡ out ++ behind
  pub kept : cut ≡ false → behind ≡ held

-- the group has the process of a member, and its messages
pub record HasWorks (g : Works) (out : HandedFrames) (w : OwnWords) (node : Node) : Type 0 where
  pub process : g.process w.name ≡ node.process
  pub links : (q : ProcessId) → IsProcess w.shape q
      → IsAhead (knows_dead w.cut q) (g.messages w.name q) (out.messages q) (at [] node.links (index_of w.shape q))

-- the group has the pings and pongs of a member
pub record HasSigns (g : Signs) (out : HandedFrames) (w : OwnWords) (v : OwnSigns) : Type 0 where
  pub pinged : g.pinged w.name ≡ v.pinged
  pub answered : (q : ProcessId) (j : ℕ) → IsProcess w.shape q → g.answered w.name j q ≡ nat_lt j (at 0 v.answered (index_of w.shape q))
  pub pings : (q : ProcessId) → g.pings w.name q ≡ out.pings q
  pub pongs : (q : ProcessId) → g.pongs w.name q ≡ out.pongs q

-- the group has the open calls and positions of a member's callers
pub record HasCallers (g : Gateways) (v : OwnCallers) : Type 0 where
  pub call : (caller : ℕ) → IsItsCaller v caller → g.call caller ≡ (caller_of v caller).call
  pub next : (caller : ℕ) → IsItsCaller v caller → g.next caller ≡ (caller_of v caller).next

-- the group has the requests of a member and its answers, those that it has read and not treated, and what it has sent to
-- itself and not read
pub record HasRequests (g : Gateways) (out : HandedFrames) (name : ProcessId) (read asked : List Request) (told : List Told) : Type 0 where
  pub requests : (q : ProcessId) → q ≢ name → g.requests name q ≡ out.requests q
  pub answers : (q : ProcessId) → q ≢ name → g.answers name q ≡ out.answers q
  pub parked : g.parked name ≡ read
  pub own_requests : g.requests name name ≡ asked
  pub own_answers : g.answers name name ≡ told

-- a member stands in a group where it is here, and the group has its words, its process, its signs and its callers; what it
-- sends itself it reads at once
pub record MemberStands (g : Group) (out : HandedFrames) (v : Member) : Type 0 where
  pub shape : g.shape ≡ v.words.shape
  pub here : IsHere g v.words.name
  pub words : HasWords g.words out v.words
  pub works : HasWorks g.works out v.words v.node
  pub signs : HasSigns g.signs out v.words v.signs
  pub own : AreCallersOf v.words.shape v.words.name v.callers
  pub callers : HasCallers g.gateways v.callers
  pub requests : HasRequests g.gateways out v.words.name v.parked [] []
