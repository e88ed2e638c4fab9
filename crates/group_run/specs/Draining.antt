-- Draining a group: messages are delivered, always from the lowest link that has one, until none is
-- left on its way to a living process.
use Rattle.std.specs.Prelude.{ℕ, zero, suc, ◌+◌, Bool, true, false, not, ◌&&◌, List, [], ◌∷◌, Option, Some, None, if◌then◌else◌}
use Rattle.std.specs.List.{range_with_len}
use Rattle.group_types.specs.Lists.{at}
use Rattle.group_types.specs.Names.{process_at}
use Rattle.group_message.specs.declared.message.Message.{Message}
use Rattle.group_calls.specs.declared.event.Event.{Event}
use Rattle.group_calls.specs.declared.event.Event.TheVariants.{Deliver}
use Rattle.group_run.specs.Process.{Node}
use Rattle.group_run.specs.World.{World, process_node, step}

-- there is a message
abbrev pub some_message : List Message → Bool
some_message [] = false
some_message (_ ∷ _) = true

-- the node at an index
abbrev pub node_at : World → ℕ → Node
node_at w x = process_node w (process_at w.shape x)

-- a message is on its way from one index to another, whose process lives
abbrev pub is_waiting : World → ℕ → ℕ → Bool
is_waiting w x y = not (node_at w y).dead && some_message (at [] (node_at w x).links y)

-- the lowest of these indices that a message is on its way to
abbrev pub next_target : World → ℕ → List ℕ → Option ℕ
next_target w x [] = None
next_target w x (y ∷ ys) = if is_waiting w x y then Some y else next_target w x ys

-- the lowest link into a living process that has a message, as the delivery from it
abbrev pub next_from : World → ℕ → Option ℕ → Option Event
next_from w x None = None
next_from w x (Some y) = Some (Deliver (process_at w.shape x) (process_at w.shape y))

-- an event, or else another one
abbrev pub event_or : Option Event → Option Event → Option Event
event_or None other = other
event_or (Some e) other = Some e

-- the first delivery from one of these indices
abbrev pub next_among : World → List ℕ → Option Event
next_among w [] = None
next_among w (x ∷ xs) = event_or (next_from w x (next_target w x (range_with_len 0 (w.shape.k + w.shape.m)))) (next_among w xs)

-- the next delivery of a group that is drained
abbrev pub next_delivery : World → Option Event
next_delivery w = next_among w (range_with_len 0 (w.shape.k + w.shape.m))

-- the deliveries that drain a group, at most so many
abbrev pub drain_events : ℕ → World → List Event
drain_events zero w = []
drain_events (suc n) w = elim (next_delivery w) [ None ↦ [] | Some e ↦ e ∷ drain_events n (step w e).world ]
