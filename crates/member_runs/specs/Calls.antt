-- The calls of a member that act or hand out something: which actions each makes, and what it hands out.
use Rattle.std.specs.Prelude.{ℕ, List, [], ◌∷◌, Option}
use Rattle.group_types.specs.declared.process.ProcessId.{ProcessId}
use Rattle.membership.specs.Members.{Membership, knows_dead}
use Rattle.memc_table.specs.Asked.{Asked}
use Rattle.group_message.specs.declared.message.Message.{Message}
use Rattle.group_wire.specs.Actions.{Action, Begin, Send, Read, Treat, Collect, Flush, Learn, Receive, GiveUp, Cut, Say}
use Rattle.group_wire.specs.Actions.{Hear, Permit, Take, Ping, Pong, Count, Show, LetGo}
use Rattle.group_wire.specs.State.{Request, Told}
use Rattle.group_member.specs.Acting.{Acts, ActsHanding, ActsWhere, AnswerComes, MessageComes, PingComes, PongComes}
use Rattle.group_member.specs.Acting.{RequestComes, SetComes, answer_handed, message_handed, ping_handed, pong_handed}
use Rattle.group_member.specs.Acting.{request_handed, set_handed}
use Rattle.group_member.specs.Callers.{IsItsCaller}
use Rattle.group_member.specs.Standing.{HandedFrames, Member}
use Rattle.group_member.specs.Treating.{sent_here}

-- a call, with what is given to it and what it returns
pub data MemberCall : Type 0 where
  Receives : (from : ProcessId) → Message → MemberCall
  Cuts : (x : ProcessId) → MemberCall
  Says : (set : Membership) → MemberCall
  Hears : (from : ProcessId) → (set : Membership) → MemberCall
  Permits : MemberCall
  Takes : (x : ProcessId) → MemberCall
  Flushes : MemberCall
  HandsOut : (to : ProcessId) → Message → MemberCall
  TakesLost : MemberCall
  Pings : (to : Membership) → (ping : ℕ) → MemberCall
  Pongs : (from : ProcessId) → (ping : ℕ) → MemberCall
  Counts : (from : ProcessId) → (ping : ℕ) → MemberCall
  Begins : (caller : ℕ) → Asked → MemberCall
  -- a call is asked of another, or traced there
  Sends : (caller : ℕ) → (to : ProcessId) → Request → MemberCall
  -- a call is asked of the member's own process, or traced there
  SendsHere : (caller : ℕ) → MemberCall
  Reads : (from : ProcessId) → Request → MemberCall
  Treats : (place : ℕ) → Option Told → MemberCall
  Learns : (from : ProcessId) → Told → MemberCall
  Collects : (caller call : ℕ) → Option Told → MemberCall
  GivesUp : (caller : ℕ) → MemberCall
  Shows : (caller ping : ℕ) → MemberCall
  LetsGo : (caller : ℕ) → MemberCall

-- the call is made: the words of its clause, and whose a caller is that its clause requires to be one of the member's
abbrev pub HasCalled : MemberCall → Member → Member → Type 0
HasCalled (Receives from m) before after = ActsWhere (MessageComes from before.words.name m) (Receive from before.words.name ∷ []) (λ out. out) before after
HasCalled (Cuts x) before after = Acts (Cut x before.words.name ∷ []) before after
HasCalled (Says set) before after = ActsHanding (Say before.words.name ∷ []) (set_handed set) before after
HasCalled (Hears from set) before after = ActsWhere (SetComes from before.words.name set) (Hear from before.words.name ∷ []) (λ out. out) before after
HasCalled Permits before after = Acts (Permit before.words.name ∷ []) before after
HasCalled (Takes x) before after = Acts (Take x before.words.name ∷ []) before after
HasCalled Flushes before after = Acts (Flush before.words.name ∷ []) before after
HasCalled (HandsOut to m) before after = ActsHanding [] (message_handed to m) before after
HasCalled TakesLost before after = Acts [] before after
HasCalled (Pings to ping) before after = ActsHanding (Ping (knows_dead to) before.words.name ∷ [])
    (ping_handed (knows_dead to) before.words.cut ping) before after
HasCalled (Pongs from ping) before after = ActsWhere (PingComes from before.words.name ping)
    (Pong from before.words.name ∷ []) (pong_handed from ping) before after
HasCalled (Counts from ping) before after = ActsWhere (PongComes from before.words.name ping) (Count from before.words.name ∷ []) (λ out. out) before after
HasCalled (Begins caller op) before after = IsItsCaller before.callers caller × Acts (Begin caller op ∷ []) before after
HasCalled (Sends caller to r) before after = IsItsCaller before.callers caller × ActsHanding (Send caller to ∷ []) (request_handed to r) before after
HasCalled (SendsHere caller) before after = IsItsCaller before.callers caller × Acts (sent_here before caller) before after
HasCalled (Reads from r) before after = ActsWhere (RequestComes from before.words.name r) (Read from before.words.name ∷ []) (λ out. out) before after
HasCalled (Treats place told) before after =
    ActsHanding (Treat before.words.name place ∷ Learn before.words.name before.words.name ∷ []) (answer_handed before.words.shape told) before after
HasCalled (Learns from t) before after = ActsWhere (AnswerComes from before.words.name t) (Learn from before.words.name ∷ []) (λ out. out) before after
HasCalled (Collects caller call told) before after =
    ActsHanding (Collect caller call before.words.name ∷ Learn before.words.name before.words.name ∷ []) (answer_handed before.words.shape told) before after
HasCalled (GivesUp caller) before after = IsItsCaller before.callers caller × Acts (GiveUp caller ∷ []) before after
HasCalled (Shows caller ping) before after = IsItsCaller before.callers caller × Acts (Show caller ping ∷ []) before after
HasCalled (LetsGo caller) before after = IsItsCaller before.callers caller × Acts (LetGo caller ∷ []) before after

-- the actions that a call makes
abbrev pub actions_of : MemberCall → Member → List Action
actions_of (Receives from m) before = Receive from before.words.name ∷ []
actions_of (Cuts x) before = Cut x before.words.name ∷ []
actions_of (Says set) before = Say before.words.name ∷ []
actions_of (Hears from set) before = Hear from before.words.name ∷ []
actions_of Permits before = Permit before.words.name ∷ []
actions_of (Takes x) before = Take x before.words.name ∷ []
actions_of Flushes before = Flush before.words.name ∷ []
actions_of (HandsOut to m) before = []
actions_of TakesLost before = []
actions_of (Pings to ping) before = Ping (knows_dead to) before.words.name ∷ []
actions_of (Pongs from ping) before = Pong from before.words.name ∷ []
actions_of (Counts from ping) before = Count from before.words.name ∷ []
actions_of (Begins caller op) before = Begin caller op ∷ []
actions_of (Sends caller to r) before = Send caller to ∷ []
actions_of (SendsHere caller) before = sent_here before caller
actions_of (Reads from r) before = Read from before.words.name ∷ []
actions_of (Treats place told) before = Treat before.words.name place ∷ Learn before.words.name before.words.name ∷ []
actions_of (Learns from t) before = Learn from before.words.name ∷ []
actions_of (Collects caller call told) before = Collect caller call before.words.name ∷ Learn before.words.name before.words.name ∷ []
actions_of (GivesUp caller) before = GiveUp caller ∷ []
actions_of (Shows caller ping) before = Show caller ping ∷ []
actions_of (LetsGo caller) before = LetGo caller ∷ []

-- what is handed out behind it
abbrev pub hands_of : MemberCall → Member → HandedFrames → HandedFrames
hands_of (Says set) before = set_handed set
hands_of (HandsOut to m) before = message_handed to m
hands_of (Pings to ping) before = ping_handed (knows_dead to) before.words.cut ping
hands_of (Pongs from ping) before = pong_handed from ping
hands_of (Sends caller to r) before = request_handed to r
hands_of (Treats place told) before = answer_handed before.words.shape told
hands_of (Collects caller call told) before = answer_handed before.words.shape told
hands_of _ before = λ out. out
