-- What drains a group: an event adds little to the weight of what is on its way, the delivery that is next may come
-- with a message, and as many deliveries as the weight, each the next, leave none on its way.
use Rattle.std.specs.Prelude.{ℕ, ◌≡◌, ◌≤◌, ◌+◌, ◌^◌, List, Some, None}
use Rattle.group_types.specs.Dimensions.{Dimensions}
use Rattle.group_calls.specs.declared.event.Answer.TheVariants as says
use Rattle.group_calls.specs.declared.event.Event.{Event}
use Rattle.group_run.specs.Draining.{drain_events, next_delivery}
use Rattle.group_run.specs.Headline.{IsRun, MayCome}
use Rattle.group_run.specs.Meaning.{IsDown}
use Rattle.group_run.specs.Progress.{load_of}
use Rattle.group_run.specs.World.{World, after, step, world_after}
use Rattle.group_run.specs.Causes.{IsDelivery}

-- an event adds little to the weight of what is on its way
abbrev pub most_rise : ℕ
most_rise = 2 ^ 17

abbrev pub RisesLittle : World → Type 0
RisesLittle w = (e : Event) → MayCome w e → load_of (step w e).world ≤ load_of w + most_rise

-- so it is along every run
abbrev pub RisesLittleAlways : Type 0
RisesLittleAlways = (s : Dimensions) (es : List Event) → IsRun s es → RisesLittle (after s es)

-- the delivery that drains a group next may come, and a message comes with it
pub record NextComes (w : World) (e : Event) : Type 0 where
  pub delivery : IsDelivery e
  pub may : MayCome w e
  pub done : (step w e).turn.answer ≡ says.Done

-- so it is after every run, where the group isn't down
abbrev pub NextComesAlways : Type 0
NextComesAlways = (s : Dimensions) (es : List Event) → IsRun s es → ¬ (IsDown (after s es)) → (e : Event) → next_delivery (after s es) ≡ Some e
    → NextComes (after s es) e

-- as many deliveries as the weight, each from the lowest link that has a message, leave none on its way
abbrev pub DrainsWholeAlways : Type 0
DrainsWholeAlways = (s : Dimensions) (es : List Event) → IsRun s es → ¬ (IsDown (after s es))
    → next_delivery (world_after (after s es) (drain_events (load_of (after s es)) (after s es))) ≡ None
