-- What is promised of block sessions, for every shape and every run.
use Rattle.std.specs.Prelude.{List}
use Rattle.group_types.specs.Dimensions.{Dimensions}
use Rattle.group_calls.specs.declared.event.Event.{Event}
use Rattle.group_run.specs.Headline.{IsRun}
use Rattle.group_run.specs.Recovery.{Recovers, SessionsHaveStamps}
use Rattle.group_run.specs.World.{after}

-- all that has come in for an open session, and the rows that are on their way to it, stand at one stamp
abbrev pub SessionsStandAlways : Type 0
SessionsStandAlways = (s : Dimensions) (es : List Event) → IsRun s es → SessionsHaveStamps (after s es)

-- rebuilt blocks, sessions and rows' copies are as promised
abbrev pub RecoversAlways : Type 0
RecoversAlways = (s : Dimensions) (es : List Event) → IsRun s es → Recovers s es
