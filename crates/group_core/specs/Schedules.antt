-- A group after a schedule of events, by the indices of its processes.
use Rattle.std.specs.Prelude.{ℕ, List}
use Rattle.group_types.specs.Dimensions.{Dimensions}
use Rattle.group_types.specs.Lists.{at}
use Rattle.group_types.specs.Names.{process_at}
use Rattle.group_calls.specs.declared.event.Event.{Event}
use Rattle.group_run.specs.Locality.{occurrences}
use Rattle.group_run.specs.Process.{Node}
use Rattle.group_run.specs.World.{after, names, opening_node}

-- the node of the process with this index, after the schedule
abbrev pub node_after_schedule : Dimensions → List Event → ℕ → Node
node_after_schedule s es x = at (opening_node s (process_at s x)) (after s es).nodes x

-- how often an event names the process with this index
abbrev pub naming : Dimensions → Event → ℕ → ℕ
naming s e x = occurrences x (names s e)
