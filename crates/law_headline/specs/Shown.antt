-- What a process shows is true, after every run.
use Rattle.std.specs.Prelude.{List}
use Rattle.group_types.specs.Dimensions.{Dimensions}
use Rattle.group_calls.specs.declared.event.Event.{Event}
use Rattle.group_run.specs.Headline.{IsRun}
use Rattle.group_run.specs.Shown.{HoldsTruth}
use Rattle.group_run.specs.World.{after}

-- after every run
abbrev pub TruthAlways : Type 0
TruthAlways = (s : Dimensions) (es : List Event) → IsRun s es → HoldsTruth (after s es)
