-- The law of the log, along every run in which heads stand.
use Rattle.std.specs.Prelude.{List}
use Rattle.group_types.specs.Dimensions.{Dimensions}
use Rattle.group_calls.specs.declared.event.Event.{Event}
use Rattle.group_run.specs.Headline.{IsRun, OneLog}
use Rattle.law_log.specs.Stands.{GoneStays, StandsAlways}

-- one log: it is that of the turns, its answers are those of one table, and each answered call stands in it
-- once, within its time
abbrev pub LogIsOne : Type 0
LogIsOne = (s : Dimensions) → StandsAlways s → GoneStays s → (es : List Event) → IsRun s es → OneLog s es
