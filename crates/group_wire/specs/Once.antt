-- A client's call changes the table at most once: of the positions under which it was asked at most one has an accepted
-- entry in the log of the members' events.
use Rattle.std.specs.Prelude.{ℕ, ◌≡◌, ◌≢◌, ◌<◌, ◌≤◌, true, false, List, ◌++◌, slice_get, Some}
use Rattle.group_types.specs.Dimensions.{Dimensions}
use Rattle.group_calls.specs.Turns.{accepts}
use Rattle.group_calls.specs.declared.entry.Entry.{Entry}
use Rattle.group_calls.specs.declared.event.Answer.TheVariants as says
use Rattle.group_wire.specs.Actions.{Action, Show}
use Rattle.group_wire.specs.Composed.{AreActions, Composed, composed}
use Rattle.group_wire.specs.Composition.{machine}
use Rattle.group_wire.specs.Laws.{NoTwoHoldAll}
use Rattle.group_wire.specs.May.{MayAct}
use Rattle.group_wire.specs.Shown.{Shows}
use Rattle.group_wire.specs.State.{Told, Unasked, OpenCall, gateway_of}

-- an accepted entry of a caller, at a position from this one on
pub record IsChange (log : List Entry) (caller from place : ℕ) (e : Entry) : Type 0 where
  pub there : slice_get log place ≡ Some e
  pub caller_is : e.caller ≡ caller
  pub since : from ≤ e.call
  pub accepted : accepts e.reply ≡ true

-- of the positions under which an open call was asked only its last may have one, and none has where it is to be asked again
abbrev pub AskedOnce : Type 0
AskedOnce = (s : Dimensions) (actions : List Action) (caller place : ℕ) (o : OpenCall) (e : Entry) → AreActions s actions
    → (composed s actions).failed (gateway_of s caller) ≡ false → (composed s actions).group.gateways.call caller ≡ Some o
    → IsChange (machine (composed s actions)).log caller ((composed s actions).first caller) place e
    → (o.stage ≢ Unasked) × (e.call ≡ o.position)

-- an entry that changed the table, of a position of the caller's last call that it was asked under by then; it may have been
-- logged later
pub record IsChangeBy (c later : Composed) (caller place : ℕ) (e : Entry) : Type 0 where
  pub change : IsChange (machine later).log caller (c.first caller) place e
  pub until : e.call < c.group.gateways.next caller

-- there is at most one of them, however the run goes on: so also of a call that has ended
abbrev pub ChangesOnce : Type 0
ChangesOnce = (s : Dimensions) (actions more : List Action) (caller i j : ℕ) (e f : Entry) → AreActions s (actions ++ more)
    → (composed s (actions ++ more)).failed (gateway_of s caller) ≡ false
    → IsChangeBy (composed s actions) (composed s (actions ++ more)) caller i e
    → IsChangeBy (composed s actions) (composed s (actions ++ more)) caller j f
    → i ≡ j

-- of a call that is shown it is the only one, of the last position, and its reply is what is shown
pub record IsShownChange (c later : Composed) (caller place : ℕ) (o : OpenCall) (t : Told) (e : Entry) : Type 0 where
  pub last : e.call ≡ o.position
  pub shown : t.answer ≡ says.Reply e.reply
  pub only : (j : ℕ) (f : Entry) → IsChangeBy c later caller j f → j ≡ place

-- so it is where no two permitted sets together hold all members as it is shown
abbrev pub ShownOnce : Type 0
ShownOnce = (s : Dimensions) (actions more : List Action) (caller ping place : ℕ) (o : OpenCall) (t : Told) (e : Entry)
    → AreActions s (actions ++ more) → NoTwoHoldAll (composed s actions).group
    → MayAct (composed s actions).group (Show caller ping) → Shows (composed s actions) caller o t
    → IsChangeBy (composed s actions) (composed s (actions ++ more)) caller place e
    → IsShownChange (composed s actions) (composed s (actions ++ more)) caller place o t e
