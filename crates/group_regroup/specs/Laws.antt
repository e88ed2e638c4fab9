-- Numbers of a group stay so low that they fit with a base.
use Rattle.std.specs.Prelude.{◌<◌, ◌^◌, List, All}
use Rattle.group_types.specs.Dimensions.{Dimensions}
use Rattle.group_calls.specs.declared.event.Event.{Event}
use Rattle.group_run.specs.Headline.{IsRun, MayCome}
use Rattle.group_run.specs.World.{World, after, step}
use Rattle.group_eras.specs.Told.{Bases}
use Rattle.group_regroup.specs.Fitting.{FitsAsk}
use Rattle.group_regroup.specs.Kept.{IsLowBase}

-- while a group counts events each number of an answer fits with a low base
abbrev pub NumbersFit : World → Type 0
NumbersFit w = (bases : Bases) (e : Event) → All IsLowBase bases → w.events < 2 ^ 62 → MayCome w e → FitsAsk bases w.shape.k e (step w e).turn.answer

abbrev pub NumbersFitAlways : Type 0
NumbersFitAlways = (s : Dimensions) (es : List Event) → IsRun s es → NumbersFit (after s es)
