-- What a member's calls are in a group on its machines: actions that may come there, after which it stands there again.
use Rattle.std.specs.Prelude.{ℕ, ◌≡◌, List, [], ◌∷◌, ◌++◌, Option, Some, None, ⊤}
use Rattle.group_types.specs.Dimensions.{Dimensions}
use Rattle.group_types.specs.declared.process.ProcessId.{ProcessId}
use Rattle.membership.specs.Members.{Membership, knows_dead}
use Rattle.group_message.specs.declared.message.Message.{Message}
use Rattle.group_wire.specs.Actions.{Action}
use Rattle.group_wire.specs.May.{MayAct}
use Rattle.group_wire.specs.Sets.{Processes, changed, one_or}
use Rattle.group_wire.specs.State.{Request, Told, Group, gateway_of}
use Rattle.group_wire.specs.Stepping.{group_after}
use Rattle.group_member.specs.Standing.{HandedFrames, IsSetOf, Member, MemberStands}

-- actions may come, one after the other
abbrev pub MayAllCome : Group → List Action → Type 0
MayAllCome g [] = ⊤
MayAllCome g (a ∷ actions) = MayAct g a × MayAllCome (group_after g a) actions

-- the group after actions
abbrev pub group_after_all : Group → List Action → Group
group_after_all g [] = g
group_after_all g (a ∷ actions) = group_after_all (group_after g a) actions

-- these actions may come, and after them the member stands so
pub record ActsAndStands (g : Group) (actions : List Action) (out : HandedFrames) (after : Member) : Type 0 where
  pub may : MayAllCome g actions
  pub stands : MemberStands (group_after_all g actions) out after

-- wherever a member stands so, and this holds of the group, it acts so, and then has handed out this
abbrev pub ActsWhere : (Group → Type 0) → List Action → (HandedFrames → HandedFrames) → Member → Member → Type 0
ActsWhere P actions hands before after = (g : Group) (out : HandedFrames) → MemberStands g out before → P g → ActsAndStands g actions (hands out) after

-- wherever a member stands so, it acts so, and then has handed out this
abbrev pub ActsHanding : List Action → (HandedFrames → HandedFrames) → Member → Member → Type 0
ActsHanding actions hands before after = (g : Group) (out : HandedFrames) → MemberStands g out before → ActsAndStands g actions (hands out) after

-- it hands out nothing
abbrev pub Acts : List Action → Member → Member → Type 0
Acts actions before after = ActsHanding actions (λ out. out) before after

-- an entry stands in front on a wire
abbrev pub IsFirst : {X : Type 0} → List X → X → Type 0
IsFirst {X} wire x = (rest : List X) × (wire ≡ x ∷ rest)

-- a message, a set, a ping, a pong, a request or an answer stands in front on the wire from x to p
abbrev pub MessageComes : ProcessId → ProcessId → Message → Group → Type 0
MessageComes x p m g = IsFirst (g.works.messages x p) m

abbrev pub SetComes : ProcessId → ProcessId → Membership → Group → Type 0
SetComes x p known g = (set : Processes) × IsFirst (g.words.said x p) set × IsSetOf set known

abbrev pub PingComes : ProcessId → ProcessId → ℕ → Group → Type 0
PingComes x p ping g = IsFirst (g.signs.pings x p) ping

abbrev pub PongComes : ProcessId → ProcessId → ℕ → Group → Type 0
PongComes x p ping g = IsFirst (g.signs.pongs x p) ping

abbrev pub RequestComes : ProcessId → ProcessId → Request → Group → Type 0
RequestComes x p r g = IsFirst (g.gateways.requests x p) r

abbrev pub AnswerComes : ProcessId → ProcessId → Told → Group → Type 0
AnswerComes x p t g = IsFirst (g.gateways.answers x p) t

-- a frame more is handed out for q
abbrev pub behind_at : {X : Type 0} → (ProcessId → List X) → ProcessId → X → ProcessId → List X
behind_at frames q x = changed frames q (frames q ++ x ∷ [])

-- a frame more is handed out for each of a set that isn't cut
abbrev pub behind_all : {X : Type 0} → (ProcessId → List X) → Processes → Membership → X → ProcessId → List X
behind_all frames to cut x q = one_or (knows_dead cut q) (frames q) (frames q ++ one_or (to q) (x ∷ []) [])

abbrev pub message_handed : ProcessId → Message → HandedFrames → HandedFrames
message_handed q m out = record out { messages = behind_at out.messages q m }

abbrev pub pong_handed : ProcessId → ℕ → HandedFrames → HandedFrames
pong_handed q ping out = record out { pongs = behind_at out.pongs q ping }

abbrev pub set_handed : Membership → HandedFrames → HandedFrames
set_handed cut out = record out { said = λ q. one_or (knows_dead cut q) (out.said q) (out.said q ++ cut ∷ []) }

abbrev pub ping_handed : Processes → Membership → ℕ → HandedFrames → HandedFrames
ping_handed to cut ping out = record out { pings = behind_all out.pings to cut ping }

abbrev pub request_handed : ProcessId → Request → HandedFrames → HandedFrames
request_handed q r out = record out { requests = behind_at out.requests q r }

-- an answer, if there is one, is handed out for its caller's gateway
abbrev pub answer_handed : Dimensions → Option Told → HandedFrames → HandedFrames
answer_handed s None out = out
answer_handed s (Some t) out = record out { answers = behind_at out.answers (gateway_of s t.caller) t }

-- nothing was handed out
abbrev pub nothing_out : HandedFrames
nothing_out = record { messages = λ q. []; said = λ q. []; pings = λ q. []; pongs = λ q. []; requests = λ q. []; answers = λ q. [] }
