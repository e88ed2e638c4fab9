-- How often a call has to wait for a block.
use Rattle.std.specs.Prelude.{List}
use Rattle.group_types.specs.Dimensions.{Dimensions}
use Rattle.group_calls.specs.declared.event.Event.{Event}
use Rattle.group_run.specs.Headline.{IsRun}
use Rattle.group_run.specs.Progress.{FewBlockWaits}
use Rattle.group_run.specs.World.{after}

-- from any group of a run on, at most as many calls as there are blocks, while no process fails and calls are asked
-- where the group is drained
abbrev pub FewWaitsAlways : Type 0
FewWaitsAlways = (s : Dimensions) (es : List Event) → IsRun s es → FewBlockWaits (after s es)
