-- What an event may change, and what its answer may depend on: the nodes that it names.
use Rattle.std.specs.Prelude.{ℕ, ◌≡◌, ◌≢◌, ◌<◌, ◌≤◌, ◌+◌, ◌==◌, ◌⊎◌, List, [], ◌∷◌, length, drop, if◌then◌else◌}
use Rattle.group_types.specs.Lists.{at}
use Rattle.group_types.specs.Names.{index_of}
use Rattle.group_types.specs.declared.process.ProcessId.{ProcessId}
use Rattle.group_calls.specs.declared.event.Event.{Event}
use Rattle.group_calls.specs.declared.event.Event.TheVariants.{Ask, Collect, Deliver, Fail, Flush, Trace}
use Rattle.group_run.specs.Process.{Node}
use Rattle.group_run.specs.World.{World, GroupStep, group_step, names, process_node, next_name, with_link, with_down}

-- how often a number stands in a list
abbrev pub occurrences : ℕ → List ℕ → ℕ
occurrences k [] = 0
occurrences k (x ∷ xs) = (if x == k then 1 else 0) + occurrences k xs

-- every node that an event doesn't name stays as it is
abbrev pub OthersStay : Type 0
OthersStay = (w : World) (e : Event) (k : ℕ) (default : Node)
    → length w.nodes ≤ w.shape.k + w.shape.m → k < length w.nodes → occurrences k (names w.shape e) ≡ 0
    → at default (group_step w e).nodes k ≡ at default w.nodes k

-- a node that lost the first message of one link, or nothing
abbrev pub LosesFirst : World → ProcessId → Node → Node → Type 0
LosesFirst w to old new = (new ≡ old) ⊎ (new ≡ with_link w.shape to (drop 1 (at [] old.links (index_of w.shape to))) old)

-- a delivery changes of its sender only the link that it takes from
abbrev pub SenderKeeps : Type 0
SenderKeeps = (w : World) (from to : ProcessId) (default : Node) → index_of w.shape from ≢ index_of w.shape to
    → LosesFirst w to (process_node w from) (at default (group_step w (Deliver from to)).nodes (index_of w.shape from))

-- a node that was told whether the group is down, and nothing else
abbrev pub LearnsDown : Node → Node → Type 0
LearnsDown old new = new ≡ with_down new.down old

-- a failure changes of the others only the words whether the group is down
abbrev pub OthersAreTold : Type 0
OthersAreTold = (w : World) (p : ProcessId) (keep k : ℕ) (default : Node) → k < length w.nodes → k ≢ index_of w.shape p
    → LearnsDown (at default w.nodes k) (at default (group_step w (Fail p keep)).nodes k)

-- two groups of one shape have the same nodes where an event names them, and the same position of its call
abbrev pub AreSameFor : World → World → Event → Type 0
AreSameFor w v (Ask caller _ p) = (w.shape ≡ v.shape) × (process_node w p ≡ process_node v p) × (next_name w caller ≡ next_name v caller)
AreSameFor w v (Collect _ _ p) = (w.shape ≡ v.shape) × (process_node w p ≡ process_node v p)
AreSameFor w v (Deliver from to) = (w.shape ≡ v.shape) × (process_node w from ≡ process_node v from) × (process_node w to ≡ process_node v to)
AreSameFor w v (Fail _ _) = (w.shape ≡ v.shape) × (w.nodes ≡ v.nodes)
AreSameFor w v (Flush p) = (w.shape ≡ v.shape) × (process_node w p ≡ process_node v p)
AreSameFor w v (Trace _ _ _ p) = (w.shape ≡ v.shape) × (process_node w p ≡ process_node v p)

-- what two groups make of an event has the same answer, settles the same updates, and has this one node in common
pub record SameAt (d : Node) (a b : GroupStep) (k : ℕ) : Type 0 where
  pub answer : a.answer ≡ b.answer
  pub settled : a.settled ≡ b.settled
  pub node : at d a.nodes k ≡ at d b.nodes k

-- an event's answer and the new nodes that it names depend on nothing else
abbrev pub NamesDecide : Type 0
NamesDecide = (w v : World) (e : Event) (k : ℕ) (default : Node)
    → AreSameFor w v e → k < length w.nodes → k < length v.nodes → 0 < occurrences k (names w.shape e)
    → SameAt default (group_step w e) (group_step v e) k
