-- Several groups on nodes as a machine: each event of the cluster is made of events of its groups.
use Rattle.std.specs.Prelude.{ℕ, ◌<◌, ◌≤◌, ◌+◌, ◌==◌, Bool, true, false, List, [], ◌∷◌, ◌++◌, length, map, replicate, Option, Some, None, if◌then◌else◌}
use Rattle.std.specs.List.{range_with_len}
use Rattle.group_types.specs.Dimensions.{Dimensions}
use Rattle.group_types.specs.Lists.{at, put}
use Rattle.group_types.specs.Names.{process_at}
use Rattle.memc_table.specs.Act.{key_of}
use Rattle.group_calls.specs.Turns.{Turn}
use Rattle.group_calls.specs.declared.entry.Entry.{Entry}
use Rattle.group_calls.specs.declared.event.Event.{Event}
use Rattle.group_calls.specs.declared.event.Event.TheVariants.{Ask, Fail}
use Rattle.group_run.specs.Causes.{IsFailure}
use Rattle.group_run.specs.Headline.{MayCome}
use Rattle.group_run.specs.World.{World, opening, step}
use Rattle.group_layout.specs.Layout.{group_of, process_on}
use Rattle.group_layout.specs.declared.event.ClusterAnswer.{ClusterAnswer}
use Rattle.group_layout.specs.declared.event.ClusterAnswer.TheVariants as says
use Rattle.group_layout.specs.declared.event.ClusterEvent.{ClusterEvent}
use Rattle.group_layout.specs.declared.event.ClusterEvent.TheVariants.{FailNode, InGroup}

-- an entry of the cluster's log: its group, and the entry there
abbrev pub ClusterEntry : Type 0
ClusterEntry = ℕ × Entry

-- groups of one shape, and the log of them all
pub record Groups : Type 0 where
  pub shape : Dimensions
  pub worlds : List World
  pub log : List ClusterEntry

-- groups at the start
abbrev pub opening_groups : Dimensions → ℕ → Groups
opening_groups s count = record { shape = s; worlds = replicate count (opening s); log = [] }

-- one of the groups
abbrev pub world_in : Groups → ℕ → World
world_in g j = at (opening g.shape) g.worlds j

-- an event of one group
pub record Move : Type 0 where
  pub group : ℕ
  pub event : Event

-- entries of a group, as the cluster logs them
abbrev pub tagged : ℕ → List Entry → List ClusterEntry
tagged j entries = map (λ entry. (j, entry)) entries

-- the turn of a group's event
pub record GroupTurn : Type 0 where
  pub group : ℕ
  pub turn : Turn

abbrev pub turn_of : Groups → Move → Turn
turn_of g move = (step (world_in g move.group) move.event).turn

-- one group makes an event, and all others stay
abbrev pub moved : Groups → Move → Groups
moved g move = record {
  shape = g.shape;
  worlds = put (opening g.shape) g.worlds move.group (step (world_in g move.group) move.event).world;
  log = g.log ++ tagged move.group (turn_of g move).logged;
}

-- events are made one after the other
abbrev pub all_moved : Groups → List Move → Groups
all_moved g [] = g
all_moved g (move ∷ moves) = all_moved (moved g move) moves

-- their turns
abbrev pub turns_made : Groups → List Move → List GroupTurn
turns_made g [] = []
turns_made g (move ∷ moves) = record { group = move.group; turn = turn_of g move } ∷ turns_made (moved g move) moves

-- nodes, of which some have failed, and the groups on them
pub record Cluster : Type 0 where
  pub failed : List Bool
  pub groups : Groups

-- the cluster at the start, of n nodes
abbrev pub opening_cluster : Dimensions → ℕ → ℕ → Cluster
opening_cluster s n count = record { failed = replicate n false; groups = opening_groups s count }

-- the group of an ask's key, where it isn't this one
abbrev pub unless_own : ℕ → ℕ → Option ℕ
unless_own j own = if own == j then None else Some own

abbrev pub other_group : Groups → ℕ → Event → Option ℕ
other_group g j (Ask _ op _) = unless_own j (group_of (key_of op.act) g.shape.k (length g.worlds))
other_group g j _ = None

-- the failure of a group's process, if it has one
abbrev pub failure_of : Dimensions → ℕ → ℕ → Option ℕ → List Move
failure_of s keep j None = []
failure_of s keep j (Some q) = record { group = j; event = Fail (process_at s q) keep } ∷ []

-- the failures of the processes of groups that stand on a node
abbrev pub failures : Dimensions → ℕ → ℕ → ℕ → List ℕ → List Move
failures s n node keep [] = []
failures s n node keep (j ∷ js) = failure_of s keep j (process_on n (s.k + s.m) node j) ++ failures s n node keep js

-- the failure of a node, in ascending groups
abbrev pub node_failure : Cluster → ℕ → ℕ → List Move
node_failure c node keep = failures c.groups.shape (length c.failed) node keep (range_with_len 0 (length c.groups.worlds))

-- an event is made in its group, unless its key has another
abbrev pub move_unless : Option ℕ → Move → List Move
move_unless (Some own) move = []
move_unless None move = move ∷ []

-- the moves of which an event is made: one, or those of the failure of a node that hasn't failed
abbrev pub moves_of : Cluster → ClusterEvent → List Move
moves_of c (InGroup j event) = move_unless (other_group c.groups j event) (record { group = j; event = event })
moves_of c (FailNode node keep) = if at false c.failed node then [] else node_failure c node keep

-- the answer to an event
abbrev pub inner_unless : Option ℕ → Turn → ClusterAnswer
inner_unless (Some own) turn = says.WrongGroup own
inner_unless None turn = says.Inner turn.answer

abbrev pub cluster_answer_to : Cluster → ClusterEvent → ClusterAnswer
cluster_answer_to c (InGroup j event) = inner_unless (other_group c.groups j event) (turn_of c.groups (record { group = j; event = event }))
cluster_answer_to c (FailNode node keep) = if at false c.failed node then says.AlreadyDead else says.Done

-- which nodes have failed after an event
abbrev pub failed_nodes_after : List Bool → ClusterEvent → List Bool
failed_nodes_after failed (InGroup j event) = failed
failed_nodes_after failed (FailNode node keep) = put false failed node true

-- what a cluster makes of an event
pub record ClusterStep : Type 0 where
  pub cluster : Cluster
  pub answer : ClusterAnswer
  pub turns : List GroupTurn

abbrev pub cluster_step : Cluster → ClusterEvent → ClusterStep
cluster_step c e = record {
  cluster = record { failed = failed_nodes_after c.failed e; groups = all_moved c.groups (moves_of c e) };
  answer = cluster_answer_to c e;
  turns = turns_made c.groups (moves_of c e);
}

-- what turns logged, in order
abbrev pub logged_in : List GroupTurn → List ClusterEntry
logged_in [] = []
logged_in (t ∷ ts) = tagged t.group t.turn.logged ++ logged_in ts

-- the cluster after events, and the turns that its groups made
abbrev pub cluster_after : Cluster → List ClusterEvent → Cluster
cluster_after c [] = c
cluster_after c (e ∷ es) = cluster_after (cluster_step c e).cluster es

abbrev pub cluster_turns : Cluster → List ClusterEvent → List GroupTurn
cluster_turns c [] = []
cluster_turns c (e ∷ es) = (cluster_step c e).turns ++ cluster_turns (cluster_step c e).cluster es

-- a move that may come: its group is there, and its event may come there
abbrev pub MayMove : Groups → Move → Type 0
MayMove g move = (move.group < length g.worlds) × MayCome (world_in g move.group) move.event

-- moves that may come, one after the other
abbrev pub MayAllMove : Groups → List Move → Type 0
MayAllMove g [] = Unit {0}
MayAllMove g (move ∷ moves) = MayMove g move × MayAllMove (moved g move) moves

-- an event that may happen: its group or node is there, and what happens in a group may come there, and is no failure of a
-- process, which only comes with its node's
abbrev pub MayHappen : Cluster → ClusterEvent → Type 0
MayHappen c (InGroup j event) = MayMove c.groups (record { group = j; event = event }) × (¬ (IsFailure event))
MayHappen c (FailNode node keep) = node < length c.failed

abbrev pub MayAllHappen : Cluster → List ClusterEvent → Type 0
MayAllHappen c [] = Unit {0}
MayAllHappen c (e ∷ es) = MayHappen c e × MayAllHappen (cluster_step c e).cluster es

-- groups on nodes: each of a shape, and a node for each process of a group
pub record IsLayout (s : Dimensions) (n count : ℕ) : Type 0 where
  pub wide : s.k + s.m ≤ n
  pub nodes : n ≤ 64
  pub some : 1 ≤ count
  pub groups : count ≤ 16
