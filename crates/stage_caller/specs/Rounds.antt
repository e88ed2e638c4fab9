-- The order in which a call goes to its answer: the links that it helps between two moves of its own, and the processes at which it
-- makes those.
use Rattle.std.specs.Prelude.{ℕ, ◌≡◌, ◌+◌, ◌*◌, ◌/◌, ◌%◌, ◌≤◌, ◌==◌, ◌||◌, ◌&&◌, Bool, ⊤, true, false}
use Rattle.group_types.specs.Dimensions.{Dimensions}
use Rattle.group_types.specs.Names.{of_rank, process_at}
use Rattle.group_types.specs.declared.process.ProcessId.{ProcessId}
use Rattle.stage_caller.specs.Moving.{links_of, receiver, sender}
use Rattle.stage_caller.specs.declared.progress.Progress.{Progress}
use Rattle.stage_caller.specs.declared.progress.Round.{Round}
use Rattle.stage_caller.specs.declared.progress.Round.TheVariants.{Onward, Over, Near, All}
use Rattle.stage_caller.specs.declared.route.Route.{Route}
use Rattle.stage_caller.specs.declared.step.Move.{Move}
use Rattle.stage_caller.specs.declared.step.Move.TheVariants.{Ask, Collect, Deliver, Look, Trace}

-- the process that a route has come to
abbrev pub server_of : Route → ProcessId
server_of route = of_rank route.partition.0 route.rank

-- another process of its partition: each two places have one, the first by the caller's number
abbrev pub neighbour : Route → ℕ → ℕ → ProcessId
neighbour route caller place = of_rank route.partition.0 ((route.rank + 1 + (caller + place / 2) % 4294967296 % route.shape.m) % (route.shape.m + 1))

-- the link at a place near a route: away from its process at even places, and back to it at odd ones
pub record IsNear (route : Route) (caller place : ℕ) (one other : ProcessId) : Type 0 where
  pub away : place % 2 ≡ 0 → (one ≡ server_of route) × (other ≡ neighbour route caller place)
  pub back : place % 2 ≡ 1 → (one ≡ neighbour route caller place) × (other ≡ server_of route)

-- the link that is next in a round of a call, by the round
abbrev pub IsLinkAt : Progress → ProcessId → ProcessId → Round → Type 0
IsLinkAt p one other Onward = ⊥
IsLinkAt p one other Over = ⊥
IsLinkAt p one other (Near place) = IsNear p.route p.caller place one other
IsLinkAt p one other (All place) = (one ≡ process_at p.route.shape (sender p.route.shape place))
    × (other ≡ process_at p.route.shape (receiver p.route.shape place))

abbrev pub IsNextLink : Progress → ProcessId → ProcessId → Type 0
IsNextLink p one other = IsLinkAt p one other p.round

-- no link of a round is left
abbrev pub IsHelped : Dimensions → Round → Type 0
IsHelped s Onward = ⊤
IsHelped s Over = ⊤
IsHelped s (Near place) = 2 * s.m ≤ place
IsHelped s (All place) = links_of s ≤ place

-- whether a message is taken to wait in the next link: a look found it, or the link is one of the call's own update, in a round
-- before which something moved
abbrev pub is_near : Round → Bool
is_near (Near place) = true
is_near _ = false

abbrev pub expects : Progress → Bool
expects p = p.waits || (is_near p.round && p.idle == 0)

-- the next move: at the next link of the round, a delivery where a message is taken to wait, and else a look; and where no link is
-- left the call's own, at the process of the route
abbrev pub IsNextMove : Progress → Move → Type 0
IsNextMove p (Look one other) = (expects p ≡ false) × IsNextLink p one other
IsNextMove p (Deliver one other) = (expects p ≡ true) × IsNextLink p one other
IsNextMove p (Ask at) = IsHelped p.route.shape p.round × (at ≡ server_of p.route)
IsNextMove p (Collect _ at) = IsHelped p.route.shape p.round × (at ≡ server_of p.route) × (p.traces ≡ false)
IsNextMove p (Trace _ at) = IsHelped p.route.shape p.round × (at ≡ server_of p.route) × (p.traces ≡ true)
