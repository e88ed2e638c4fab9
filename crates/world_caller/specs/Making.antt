-- What the steps of a call are, one after the other: deliveries, and then an event of the call's own.
use Rattle.std.specs.Prelude.{ℕ, ◌≡◌, ◌≤◌, List, Some}
use Rattle.memc_table.specs.Asked.{Asked}
use Rattle.group_calls.specs.declared.event.Event.{Event}
use Rattle.group_run.specs.World.{World, step, world_after}
use Rattle.world_caller.specs.Calling.{EventsBring, IsEvent, due}
use Rattle.world_caller.specs.Laws.{CanGoOn, CanGoOnFrom}
use Rattle.world_caller.specs.declared.stage.Next.{Next}
use Rattle.world_caller.specs.declared.stage.Next.TheVariants.{Goes}
use Rattle.world_caller.specs.declared.stage.Stage.{Stage}

-- the delivery that comes first was made
pub record IsFirstDelivered (w v : World) : Type 0 where
  pub event : Event
  pub first : due w ≡ Some event
  pub after : v ≡ (step w event).world

-- deliveries that come first leave every call at its stage
pub record AreDelivered (w v : World) : Type 0 where
  pub events : List Event
  pub after : v ≡ world_after w events
  pub later : w.events ≤ v.events
  pub brings : (caller : ℕ) (op : Asked) (stage : Stage) → EventsBring caller op w (Goes stage) events (Goes stage)
  pub stands : (caller : ℕ) (stage : Stage) → CanGoOnFrom caller w stage → CanGoOnFrom caller v stage

-- an event brings a call further
pub record IsStepMade (caller : ℕ) (op : Asked) (w : World) (stage : Stage) (v : World) (next : Next) : Type 0 where
  pub event : Event
  pub is : IsEvent caller op w stage event next
  pub after : v ≡ (step w event).world
  pub stands : CanGoOn caller v next
