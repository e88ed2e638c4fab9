-- What a run of the group on its machines is to the machine: who has failed, and the list of events that the members made.
use Rattle.std.specs.Prelude.{ℕ, ◌+◌, nat_le, Bool, true, false, ◌&&◌, not, List, [], ◌∷◌, ◌++◌, length, map, Option, Some, None}
use Rattle.std.specs.List.{range_with_len}
use Rattle.group_types.specs.Dimensions.{Dimensions}
use Rattle.group_types.specs.Names.{process_at}
use Rattle.group_types.specs.Shape.{IsShape}
use Rattle.group_types.specs.declared.process.ProcessId.{ProcessId}
use Rattle.memc_table.specs.Asked.{Asked}
use Rattle.group_message.specs.declared.message.Message.{Message}
use Rattle.group_calls.specs.declared.event.Answer.{Answer}
use Rattle.group_calls.specs.declared.event.Answer.TheVariants as says
use Rattle.group_calls.specs.declared.event.Event.{Event}
use Rattle.group_calls.specs.declared.event.Event.TheVariants as event
use Rattle.group_run.specs.Asking.{collect_from}
use Rattle.group_run.specs.Causes.{asks_among}
use Rattle.group_run.specs.Heading.{partition}
use Rattle.group_run.specs.World.{front_if}
use Rattle.group_wire.specs.Actions.{Action, Begin, Treat, Collect, Flush, Receive, GiveUp, Permit, Take}
use Rattle.group_wire.specs.May.{MayAct}
use Rattle.group_wire.specs.Sets.{Processes, changed_at, either, nobody, one_or}
use Rattle.group_wire.specs.State.{Request, AskFor, TraceOf, Stage, AskedOf, OpenCall, Group, gateway_of, opening_group}
use Rattle.group_wire.specs.Sending.{parked_at, treating}
use Rattle.group_wire.specs.Stepping.{group_after}

-- an event that a member made, with the answer that it gave there
pub record Made : Type 0 where
  pub event : Event
  pub answer : Answer

-- a group on its machines, beside what laws tell of it: who has failed, how many pings each had sent when it failed, the
-- events, and how many of these there were, and which position was the next, when each caller's last call began
pub record Composed : Type 0 where
  pub group : Group
  pub failed : Processes
  pub lived : ProcessId → ℕ
  pub made : List Made
  pub begun : ℕ → ℕ
  pub first : ℕ → ℕ

-- the events of the machine
abbrev pub events_of : Composed → List Event
events_of c = map (λ x. x.event) c.made

-- an event stands where its member hasn't failed
abbrev pub stands_if : Bool → List Made → List Made
stands_if true made = []
stands_if false made = made

-- the event that a request is
abbrev pub request_event : Request → ProcessId → Event
request_event (AskFor caller call op) p = event.Ask caller op p
request_event (TraceOf caller call d) p = event.Trace caller call (partition d) p

abbrev pub request_made : Group → ProcessId → Option Request → List Made
request_made g p None = []
request_made g p (Some r) = record { event = request_event r p; answer = (treating g.shape r (g.works.process p)).answer } ∷ []

-- the event that the message at the front of a wire is
abbrev pub message_made : ProcessId → ProcessId → List Message → List Made
message_made x p [] = []
message_made x p (m ∷ rest) = record { event = event.Deliver x p; answer = says.Done } ∷ []

-- a member that permits itself a set, and hasn't failed, makes all of the set fail, in the order of processes
abbrev pub failures_at : Dimensions → Processes → Processes → List ℕ → List Made
failures_at s failed set [] = []
failures_at s failed set (x ∷ xs) = front_if (set (process_at s x) && not (failed (process_at s x)))
    (record { event = event.Fail (process_at s x) 0; answer = says.Done }) (failures_at s failed set xs)

-- an ask that is given up and was never treated is asked of the dead
abbrev pub lost_ask : Bool → ℕ → Asked → ProcessId → List Made
lost_ask true caller op x = record { event = event.Ask caller op x; answer = says.Lost } ∷ []
lost_ask false caller op x = []

abbrev pub given_up : List Event → ℕ → OpenCall → Stage → List Made
given_up events caller opened (AskedOf x) = lost_ask (nat_le (asks_among caller events) opened.position) caller opened.op x
given_up events caller opened _ = []

abbrev pub call_given_up : List Event → ℕ → Option OpenCall → List Made
call_given_up events caller None = []
call_given_up events caller (Some opened) = given_up events caller opened opened.stage

-- the events that an action makes
abbrev pub made_by : Composed → Action → List Made
made_by c (Treat p place) = stands_if (c.failed p) (request_made c.group p (parked_at c.group p place))
made_by c (Collect caller call p) = stands_if (c.failed p)
    (record {
      event = event.Collect caller call p;
      answer = (collect_from caller call (c.group.works.process p) (range_with_len 0 c.group.shape.k)).answer;
    } ∷ [])
made_by c (Flush p) = stands_if (c.failed p) (record { event = event.Flush p; answer = says.Done } ∷ [])
made_by c (Receive x p) = stands_if (c.failed p) (message_made x p (c.group.works.messages x p))
made_by c (Take x p) = stands_if (c.failed p) (record { event = event.Deliver x p; answer = says.Done } ∷ [])
made_by c (Permit p) = stands_if (c.failed p) (failures_at c.group.shape c.failed (c.group.words.cut p) (range_with_len 0 (c.group.shape.k + c.group.shape.m)))
made_by c (GiveUp caller) = stands_if (c.failed (gateway_of c.group.shape caller)) (call_given_up (events_of c) caller (c.group.gateways.call caller))
made_by c _ = []

-- who has failed after an action: a member that permits itself a set, and hasn't failed, makes all of the set fail
abbrev pub failed_after : Composed → Action → Processes
failed_after c (Permit p) = one_or (c.failed p) c.failed (either c.failed (c.group.words.cut p))
failed_after c _ = c.failed

-- how many pings each had sent when it failed, or has sent by now
abbrev pub lived_after : Composed → Action → ProcessId → ℕ
lived_after c (Permit p) x = one_or (c.failed x) (c.lived x) (c.group.signs.pinged x)
lived_after c _ x = c.lived x

-- when each caller's last call began
abbrev pub begun_after : Composed → Action → ℕ → ℕ
begun_after c (Begin caller op) = changed_at c.begun caller (length c.made)
begun_after c _ = c.begun

-- the first position under which it may be asked
abbrev pub first_after : Composed → Action → ℕ → ℕ
first_after c (Begin caller op) = changed_at c.first caller (c.group.gateways.next caller)
first_after c _ = c.first

-- one action more
abbrev pub composed_with : Composed → Action → Composed
composed_with c a = record {
  group = group_after c.group a;
  failed = failed_after c a;
  lived = lived_after c a;
  made = c.made ++ made_by c a;
  begun = begun_after c a;
  first = first_after c a;
}

-- the start
abbrev pub opening_composed : Dimensions → Composed
opening_composed s = record { group = opening_group s; failed = nobody; lived = λ p. 0; made = []; begun = λ caller. 0; first = λ caller. 0 }

-- actions, one after the other
abbrev pub composed_from : Composed → List Action → Composed
composed_from c [] = c
composed_from c (a ∷ rest) = composed_from (composed_with c a) rest

abbrev pub composed : Dimensions → List Action → Composed
composed s actions = composed_from (opening_composed s) actions

-- actions that may come, one after the other
abbrev pub AreActionsFrom : Composed → List Action → Type 0
AreActionsFrom c [] = Unit {0}
AreActionsFrom c (a ∷ rest) = MayAct c.group a × AreActionsFrom (composed_with c a) rest

-- a run of the group on its machines
abbrev pub AreActions : Dimensions → List Action → Type 0
AreActions s actions = IsShape s × AreActionsFrom (opening_composed s) actions
