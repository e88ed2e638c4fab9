-- The machine's step, seen from the books.
use Rattle.std.specs.Prelude.{◌≡◌, Some}
use Rattle.group_types.specs.declared.process.ProcessId.{ProcessId}
use Rattle.group_calls.specs.declared.event.Event.{Event}
use Rattle.group_calls.specs.declared.event.Event.TheVariants.{Ask}
use Rattle.group_run.specs.World.{World, call_of, group_step, step}
use Rattle.group_ledger.specs.Books.{books_of, call_in, recorded, settled_by, world_of}
use Rattle.group_ledger.specs.declared.entering.NewCall.{NewCall}

-- the group after a step is the nodes after it, with the books that record what they made of the event
abbrev pub StepsAreRecorded : Type 0
StepsAreRecorded = (w : World) (e : Event)
    → (step w e).world ≡ world_of (group_step w e).nodes (recorded (call_of w e) (group_step w e).answer (group_step w e).settled (books_of w))

-- so is what the event logs
abbrev pub LogsAreRecorded : Type 0
LogsAreRecorded = (w : World) (e : Event)
    → (step w e).turn.logged ≡ (settled_by (call_of w e) (group_step w e).answer (group_step w e).settled (books_of w)).logged

-- the call of an ask is its caller's next
abbrev pub CallsAreTheNext : Type 0
CallsAreTheNext = (w : World) (c : NewCall) (p : ProcessId) → call_of w (Ask c.caller c.op p) ≡ call_in (books_of w).asked (Some c)
