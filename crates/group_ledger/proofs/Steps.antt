-- The machine's step, seen from the books.
use Rattle.std.proofs.Common.{◌≡◌, refl}
use Rattle.group_calls.specs.declared.event.Event.{Event}
use Rattle.group_run.specs.World.{World, call_of, group_step, step}
use Rattle.group_ledger.specs.Books.{books_of, recorded, world_of}
use Rattle.group_ledger.specs.Laws.{CallsAreTheNext, LogsAreRecorded, StepsAreRecorded}

pub step_recorded : StepsAreRecorded
step_recorded w e = refl

pub step_logged : LogsAreRecorded
step_logged w e = refl

pub call_next : CallsAreTheNext
call_next w c p = refl

-- the books after a step
pub step_books : (w : World) (e : Event) → books_of (step w e).world ≡ recorded (call_of w e) (group_step w e).answer (group_step w e).settled (books_of w)
step_books w e = refl

-- a group is its nodes and its books
pub world_whole : (w : World) → world_of w.nodes (books_of w) ≡ w
world_whole w = refl
