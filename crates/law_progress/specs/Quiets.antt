-- What holds in a drained group that isn't down.
use Rattle.std.specs.Prelude.{List}
use Rattle.group_types.specs.Dimensions.{Dimensions}
use Rattle.group_calls.specs.declared.event.Event.{Event}
use Rattle.group_run.specs.Headline.{IsRun}
use Rattle.group_run.specs.Progress.{DrainedIsQuiet}
use Rattle.group_run.specs.World.{after}

-- it has nothing unfinished, along every run
abbrev pub QuietAlways : Type 0
QuietAlways = (s : Dimensions) (es : List Event) → IsRun s es → DrainedIsQuiet (after s es)
