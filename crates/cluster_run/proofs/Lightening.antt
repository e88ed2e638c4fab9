-- How much the events of a cluster add to each of its groups.
use Rattle.std.proofs.Common.{ℕ, zero, suc, ◌≡◌, ◌≤◌, ◌+◌, ◌*◌, ◌^◌, ◌==◌, Bool, true, false, List, [], ◌∷◌, length}
use Rattle.std.proofs.Common.{Option, Some, None, if◌then◌else◌, refl, ap, length-append, arith}
use Rattle.std.specs.List.{range_with_len}
use Rattle.group_types.specs.Dimensions.{Dimensions}
use Rattle.group_types.specs.Lists.{at}
use Rattle.group_calls.specs.declared.event.Event.{Event}
use Rattle.group_run.specs.Headline.{IsRunFrom}
use Rattle.group_run.specs.World.{World, front_if, step, world_after}
use Rattle.group_layout.specs.Cluster.{Cluster, MayHappen, Move, cluster_step, failure_of, failures, move_unless, moves_of, node_failure, other_group, world_in}
use Rattle.group_layout.specs.Layout.{process_on}
use Rattle.group_layout.specs.Promise.{events_in}
use Rattle.group_layout.specs.declared.event.ClusterEvent.{ClusterEvent}
use Rattle.group_layout.specs.declared.event.ClusterEvent.TheVariants.{FailNode, InGroup}
use Rattle.group_layout.proofs.Happening.{Even, moves-may}
use Rattle.group_layout.proofs.Moves.{run-moved, world-moved}
use Rattle.scenario_run.proofs.Draining.{burden, event-light, line_burden}
use Rattle.scenario_run.proofs.Leading.{IsLedTo, led-step}

-- what a line adds to each group at most
abbrev pub most_added : ℕ
most_added = 2 ^ 22

-- a run adds so much for each of its events
run-light : (s : Dimensions) (w : World) (es : List Event) → IsLedTo s w → IsRunFrom w es → burden (world_after w es) ≤ burden w + length es * line_burden
run-light s w [] led run = omega arith
run-light s w (e ∷ es) led run =
    let one = event-light s w e led run.0 in
    let rest = run-light s (step w e).world es (led-step s w e led run.0) run.1 in
    omega (arith, one, rest)

-- a group has no more of the moves than there are
few-in : (j : ℕ) (ms : List Move) → length (events_in j ms) ≤ length ms
few-in j [] = omega arith
few-in j (m ∷ ms) = by (m.group == j) (few-in j ms) where
  by : (b : Bool) → length (events_in j ms) ≤ length ms → length (front_if b m.event (events_in j ms)) ≤ suc (length ms)
  by true few = omega (arith, few)
  by false few = omega (arith, few)

-- the failure of a node is at most one move for each group
few-failures : (s : Dimensions) (n node keep : ℕ) (js : List ℕ) → length (failures s n node keep js) ≤ length js
few-failures s n node keep [] = omega arith
few-failures s n node keep (j ∷ js) =
    let split = length-append (failure_of s keep j (process_on n (s.k + s.m) node j)) (failures s n node keep js) in
    let rest = few-failures s n node keep js in
    let one = by (process_on n (s.k + s.m) node j) in
    omega (arith, split, rest, one)
  where
    by : (q : Option ℕ) → length (failure_of s keep j q) ≤ 1
    by None = omega arith
    by (Some q) = omega arith

long-range : (a n : ℕ) → length (range_with_len a n) ≡ n
long-range a zero = refl
long-range a (suc n) = ap suc (long-range (a + 1) n)

-- an event is few moves
few-moves : (s : Dimensions) (count : ℕ) (c : Cluster) (e : ClusterEvent) → Even s count c.groups → count ≤ 16 → length (moves_of c e) ≤ 16
few-moves s count c (InGroup j event) even few = by (other_group c.groups j event) where
  by : (o : Option ℕ) → length (move_unless o (record { group = j; event = event })) ≤ 16
  by None = omega arith
  by (Some own) = omega arith
few-moves s count c (FailNode node keep) even few = by (at false c.failed node) where
  by : (b : Bool) → length (if b then [] else node_failure c node keep) ≤ 16
  by true = omega arith
  by false =
      let most = few-failures c.groups.shape (length c.failed) node keep (range_with_len 0 (length c.groups.worlds)) in
      let long = long-range 0 (length c.groups.worlds) in
      let many = even.many in
      omega (arith, most, long, many, few)

pub event-adds : (s : Dimensions) (count : ℕ) (c : Cluster) (e : ClusterEvent) (j : ℕ) → Even s count c.groups
    → count ≤ 16 → IsLedTo s (world_in c.groups j) → MayHappen c e
    → burden (world_in (cluster_step c e).cluster.groups j) ≤ burden (world_in c.groups j) + most_added
event-adds s count c e j even few led may =
    let moves : List Move = moves_of c e in
    let run = run-moved c.groups moves j (moves-may s count c e even may) in
    let light = run-light s (world_in c.groups j) (events_in j moves) led run in
    let own = few-in j moves in
    let all = few-moves s count c e even few in
    let same = ap burden (world-moved c.groups moves j) in
    omega (arith, light, own, all, same)
