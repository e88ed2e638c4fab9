-- What clients are shown: replies that stand in the log of the members' events.
use Rattle.std.specs.Prelude.{ℕ, ◌≡◌, ◌≤◌, List, length, map, take, slice_get, Some}
use Rattle.group_types.specs.Dimensions.{Dimensions}
use Rattle.memc_table.specs.declared.reply.Reply.{Reply}
use Rattle.group_calls.specs.Turns.{call_entry, log_of}
use Rattle.group_calls.specs.declared.event.Answer.TheVariants as says
use Rattle.group_calls.specs.declared.event.Event.{Event}
use Rattle.group_calls.specs.declared.event.Event.TheVariants as event
use Rattle.group_run.specs.World.{turns_of}
use Rattle.group_wire.specs.Actions.{Action, Show}
use Rattle.group_run.specs.Causes.{asks_among}
use Rattle.group_wire.specs.Composed.{AreActions, Composed, Made, composed, events_of}
use Rattle.group_wire.specs.Composition.{machine}
use Rattle.group_wire.specs.Laws.{NoTwoHoldAll}
use Rattle.group_wire.specs.May.{MayAct}
use Rattle.group_wire.specs.State.{Told, Answered, OpenCall}

-- the events before a place
abbrev pub events_before : List Made → ℕ → List Event
events_before made place = map (λ x. x.event) (take place made)

-- the event asks or fetches the call that is told of, where its caller had asked n times before
abbrev pub IsOfCall : Event → Told → ℕ → Type 0
IsOfCall (event.Ask who op p) t n = (who ≡ t.caller) × (n ≡ t.call)
IsOfCall (event.Collect who call p) t n = (who ≡ t.caller) × (call ≡ t.call)
IsOfCall (event.Trace who call d p) t n = (who ≡ t.caller) × (call ≡ t.call)
IsOfCall (event.Deliver x p) t n = ⊥
IsOfCall (event.Fail p keep) t n = ⊥
IsOfCall (event.Flush p) t n = ⊥

-- what is told is the answer of one of the members' events, of that call
pub record WasMade (made : List Made) (t : Told) : Type 0 where
  pub place : ℕ
  pub event : Made
  pub there : slice_get made place ≡ Some event
  pub answer : event.answer ≡ t.answer
  pub of_call : IsOfCall event.event t (asks_among t.caller (events_before made place))

-- a reply that is shown is that of the entry of the call, for what the client asked, which was logged since the call began
pub record IsLoggedSinceBegun (c : Composed) (caller : ℕ) (o : OpenCall) (reply : Reply) : Type 0 where
  pub place : ℕ
  pub entry : slice_get (machine c).log place ≡ Some (call_entry (record { caller = caller; call = o.position }) o.op reply)
  pub since : length (log_of (take (c.begun caller) (turns_of c.group.shape (events_of c)))) ≤ place

-- what a call shows at its end
pub record Shows (c : Composed) (caller : ℕ) (o : OpenCall) (t : Told) : Type 0 where
  pub pinged : ℕ
  pub call : c.group.gateways.call caller ≡ Some o
  pub stage : o.stage ≡ Answered t pinged

-- where no two permitted sets together hold all members, all that is shown is the answer of a member's event of that call,
-- and a reply stands in the log, since the call began
abbrev pub ShownIsMade : Type 0
ShownIsMade = (s : Dimensions) (actions : List Action) (caller ping : ℕ) (o : OpenCall) (t : Told) → AreActions s actions
    → NoTwoHoldAll (composed s actions).group
    → MayAct (composed s actions).group (Show caller ping) → Shows (composed s actions) caller o t → WasMade (composed s actions).made t
    × (t.caller ≡ caller) × (t.call ≡ o.position)

abbrev pub ShownIsLogged : Type 0
ShownIsLogged = (s : Dimensions) (actions : List Action) (caller ping : ℕ) (o : OpenCall) (t : Told) (reply : Reply) → AreActions s actions
    → NoTwoHoldAll (composed s actions).group
    → MayAct (composed s actions).group (Show caller ping) → Shows (composed s actions) caller o t → t.answer ≡ says.Reply reply
    → IsLoggedSinceBegun (composed s actions) caller o reply
