-- What a group keeps of calls for those that ask later, told of its log.
use Rattle.std.specs.Prelude.{List}
use Rattle.group_types.specs.Dimensions.{Dimensions}
use Rattle.group_calls.specs.declared.event.Event.{Event}
use Rattle.group_run.specs.Headline.{IsRun}
use Rattle.group_run.specs.Keeping.{HeldIsHeld, KeptIsLast}
use Rattle.group_run.specs.World.{after}
use Rattle.law_log.specs.Stands.{StandsAlways}

-- along every run in which heads stand, replicas keep of each caller its last applied update of the log, and held
-- calls are of updates that are logged, or wait in the log of the head
abbrev pub CallsAreKnown : Type 0
CallsAreKnown = (s : Dimensions) → StandsAlways s → (es : List Event) → IsRun s es → KeptIsLast (after s es) × HeldIsHeld (after s es)
