-- A group that has lost more than m processes.
use Rattle.std.specs.Prelude.{List}
use Rattle.group_types.specs.Dimensions.{Dimensions}
use Rattle.group_calls.specs.declared.event.Event.{Event}
use Rattle.group_run.specs.Causes.{DownStandsStill}
use Rattle.group_run.specs.Headline.{IsRun}
use Rattle.group_run.specs.Keeping.{NodesKnowDown}
use Rattle.group_run.specs.World.{after}

-- along every run each node's word whether the group is down is right
abbrev pub WordsAlways : Type 0
WordsAlways = (s : Dimensions) (es : List Event) → IsRun s es → NodesKnowDown (after s es)

-- past m losses every event but a failure is answered so, and the log stands still
abbrev pub DownAlways : Type 0
DownAlways = (s : Dimensions) (es : List Event) → IsRun s es → DownStandsStill (after s es)
