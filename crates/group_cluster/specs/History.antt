-- What led to a cluster: events, and beginnings of events that want of memory cut short.
use Rattle.std.specs.Prelude.{ℕ, ◌≡◌, ◌<◌, ◌^◌, Bool, List, [], ◌∷◌, ◌++◌, length, take, Option, Some, None}
use Rattle.group_types.specs.Dimensions.{Dimensions}
use Rattle.group_types.specs.Shape.{IsShape}
use Rattle.group_calls.specs.declared.event.Event.{Event}
use Rattle.group_layout.specs.Cluster.{Cluster, ClusterStep, GroupTurn, Groups, IsLayout, MayHappen, Move, all_moved}
use Rattle.group_layout.specs.Cluster.{failed_nodes_after, logged_in, moves_of, opening_cluster, turns_made, world_in}
use Rattle.group_layout.specs.declared.event.ClusterEvent.{ClusterEvent}
use Rattle.group_layout.specs.declared.event.ClusterEvent.TheVariants.{FailNode, InGroup}

-- fewer than 2^62 events were made in the worlds in which an event is made
abbrev pub HasFewEvents : Groups → ℕ → Type 0
HasFewEvents g j = (world_in g j).events < 2 ^ 62

abbrev pub AllHaveFew : Groups → Type 0
AllHaveFew g = (j : ℕ) → j < length g.worlds → HasFewEvents g j

abbrev pub HaveFewEvents : Cluster → ClusterEvent → Type 0
HaveFewEvents c (InGroup j event) = HasFewEvents c.groups j
HaveFewEvents c (FailNode node keep) = AllHaveFew c.groups

-- an event of a group
abbrev pub move_of : ℕ → Event → Move
move_of j event = record { group = j; event = event }

-- how many entries a step logged
abbrev pub logged_by : ClusterStep → ℕ
logged_by step = length (logged_in step.turns)

-- an event that happened, or of which want of memory let so many moves be made
pub record Happening : Type 0 where
  pub event : ClusterEvent
  pub made : Option ℕ

abbrev pub first_made : Option ℕ → List Move → List Move
first_made None moves = moves
first_made (Some made) moves = take made moves

abbrev pub moves_made : Cluster → Happening → List Move
moves_made c h = first_made h.made (moves_of c h.event)

-- a node counts as failed only where its failure happened
abbrev pub failed_by : Option ℕ → List Bool → ClusterEvent → List Bool
failed_by None failed e = failed_nodes_after failed e
failed_by (Some made) failed e = failed

abbrev pub happened : Cluster → Happening → Cluster
happened c h = record { failed = failed_by h.made c.failed h.event; groups = all_moved c.groups (moves_made c h) }

-- after want of memory: a group's event has changed nothing, and of a node's failure the first groups may have lost
-- their process
abbrev pub IsCutShort : Cluster → ClusterEvent → Cluster → Type 0
IsCutShort c (InGroup j event) after = after ≡ c
IsCutShort c (FailNode node keep) after = (made : ℕ) × (after ≡ happened c (record { event = FailNode node keep; made = Some made }))

-- one after the other, and the turns that the groups made
abbrev pub all_happened : Cluster → List Happening → Cluster
all_happened c [] = c
all_happened c (h ∷ hs) = all_happened (happened c h) hs

abbrev pub all_turns : Cluster → List Happening → List GroupTurn
all_turns c [] = []
all_turns c (h ∷ hs) = turns_made c.groups (moves_made c h) ++ all_turns (happened c h) hs

abbrev pub MayAll : Cluster → List Happening → Type 0
MayAll c [] = Unit {0}
MayAll c (h ∷ hs) = MayHappen c h.event × MayAll (happened c h) hs

-- what led to a cluster: from the start, of so many groups of a shape on n nodes
pub record HasHistory (c : Cluster) : Type 0 where
  pub s : Dimensions
  pub n : ℕ
  pub count : ℕ
  pub limits : IsShape s
  pub layout : IsLayout s n count
  pub history : List Happening
  pub may : MayAll (opening_cluster s n count) history
  pub is : c ≡ all_happened (opening_cluster s n count) history
  -- the shape and the numbers stay what they were
  pub shape : c.groups.shape ≡ s
  pub nodes : length c.failed ≡ n
  pub many : length c.groups.worlds ≡ count
