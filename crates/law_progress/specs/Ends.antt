-- Draining ends: each delivery lowers the weight of what is on its way, so no more deliveries than that weight
-- follow one another; and a group that isn't down is drained where no delivery is left.
use Rattle.std.specs.Prelude.{◌≡◌, ◌≤◌, ◌⊎◌, List, [], ◌∷◌, length}
use Rattle.group_types.specs.Dimensions.{Dimensions}
use Rattle.group_types.specs.declared.process.ProcessId.{ProcessId}
use Rattle.group_calls.specs.declared.event.Answer.TheVariants as says
use Rattle.group_calls.specs.declared.event.Event.{Event}
use Rattle.group_calls.specs.declared.event.Event.TheVariants.{Deliver}
use Rattle.group_run.specs.Causes.{IsDelivery}
use Rattle.group_run.specs.Headline.{IsRun, IsRunFrom, MayCome}
use Rattle.group_run.specs.Meaning.{IsDown, IsDrained}
use Rattle.group_run.specs.Progress.{DeliveryLowers, load_of}
use Rattle.group_run.specs.World.{World, after, step, world_after}

-- the events are deliveries, and with each of them a message comes
abbrev pub AllDelivered : World → List Event → Type 0
AllDelivered w [] = Unit {0}
AllDelivered w (e ∷ es) = IsDelivery e × ((step w e).turn.answer ≡ says.Done) × AllDelivered (step w e).world es

-- draining ends: no more deliveries follow one another than the weight of what is on its way
abbrev pub DrainsEnd : World → Type 0
DrainsEnd w = (es : List Event) → IsRunFrom w es → AllDelivered w es → length es ≤ load_of w

-- there is a delivery with which a message comes
pub record HasDelivery (w : World) : Type 0 where
  pub from : ProcessId
  pub to : ProcessId
  pub may : MayCome w (Deliver from to)
  pub done : (step w (Deliver from to)).turn.answer ≡ says.Done

-- a group that isn't down is drained, or has a delivery
abbrev pub DrainedOrDelivers : World → Type 0
DrainedOrDelivers w = ¬ (IsDown w) → IsDrained w ⊎ HasDelivery w

-- deliveries after which the group is drained
pub record Drains (w : World) : Type 0 where
  pub events : List Event
  pub may : IsRunFrom w events
  pub delivered : AllDelivered w events
  pub drained : IsDrained (world_after w events)

-- a group that isn't down can be drained
abbrev pub CanBeDrained : World → Type 0
CanBeDrained w = ¬ (IsDown w) → Drains w

-- along every run each delivery lowers the weight
abbrev pub LowersAlways : Type 0
LowersAlways = (s : Dimensions) (es : List Event) → IsRun s es → DeliveryLowers (after s es)

-- after every run draining ends
abbrev pub EndsAlways : Type 0
EndsAlways = (s : Dimensions) (es : List Event) → IsRun s es → DrainsEnd (after s es)

-- after every run a group that isn't down is drained, or has a delivery
abbrev pub DeliversAlways : Type 0
DeliversAlways = (s : Dimensions) (es : List Event) → IsRun s es → DrainedOrDelivers (after s es)

-- after every run a group that isn't down can be drained
abbrev pub DrainedAlways : Type 0
DrainedAlways = (s : Dimensions) (es : List Event) → IsRun s es → CanBeDrained (after s es)
