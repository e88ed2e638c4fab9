-- What a line of a script of several groups makes of them, and what is written for it.
use Rattle.std.specs.Prelude.{ℕ, nat_lt, List, [], ◌∷◌, ◌++◌, codes, length, map, Option, Some, None, Result, Ok, Err, if◌then◌else◌}
use Rattle.std.specs.Fmt.{decimal}
use Rattle.std.specs.List.{range_with_len}
use Rattle.group_types.specs.Lists.{at}
use Rattle.group_types.specs.declared.process.ProcessId.{ProcessId}
use Rattle.group_types.specs.declared.run.Run.{Run}
use Rattle.group_calls.specs.declared.event.Event.{Event}
use Rattle.group_calls.specs.declared.event.Event.TheVariants as happens
use Rattle.group_run.specs.Shown.{held}
use Rattle.group_run.specs.World.{World}
use Rattle.group_layout.specs.Cluster.{Cluster, ClusterEntry, GroupTurn, cluster_after, cluster_step, logged_in, opening_cluster, world_in}
use Rattle.group_layout.specs.declared.event.ClusterAnswer.{ClusterAnswer}
use Rattle.group_layout.specs.declared.event.ClusterEvent.{ClusterEvent}
use Rattle.group_layout.specs.declared.event.ClusterEvent.TheVariants.{InGroup}
use Rattle.group_cluster.specs.Plan.{Plan}
use Rattle.scenario_text.specs.Meaning.{is_skipped, line_meaning}
use Rattle.scenario_text.specs.Words.{split_words}
use Rattle.scenario_text.specs.declared.line.Line.{Line}
use Rattle.scenario_text.specs.declared.line.Line.TheVariants.{Skipped, Group, Ask, Collect, Deliver, Fail, Flush, Trace, Drain, Show, Places, Time, Stop}
use Rattle.scenario_text.specs.declared.line.LineFault.{LineFault}
use Rattle.scenario_run.specs.Course.{Next, Goes, Ends, Refused}
use Rattle.scenario_run.specs.Playing.{draining_unless_down, look}
use Rattle.cluster_run.specs.Meaning.{failure_line, groups_line, in_group}
use Rattle.cluster_run.specs.Texts.{cluster_answer_text, cluster_entries_text}
use Rattle.cluster_run.specs.declared.fault.ClusterFault.{ClusterFault}
use Rattle.cluster_run.specs.declared.fault.ClusterFault.TheVariants.{BadLine}

-- the groups of a script on their nodes, and the moment of the asks that follow
pub record ClusterPlay : Type 0 where
  pub cluster : Cluster
  pub moment : ℕ

-- an event, what it was answered, and the turns that its groups made
pub record ClusterTurn : Type 0 where
  pub event : ClusterEvent
  pub answer : ClusterAnswer
  pub turns : List GroupTurn

-- what a line of its script does
abbrev pub ClusterNext : Type 0
ClusterNext = Next ClusterPlay ClusterTurn ClusterFault

-- a line that writes nothing and makes no event
abbrev pub quietly : Option ClusterPlay → ClusterNext
quietly play = Goes play [] []

-- what a cluster makes of an event, and of events one after the other
abbrev pub cluster_turn : Cluster → ClusterEvent → ClusterTurn
cluster_turn c e = record { event = e; answer = (cluster_step c e).answer; turns = (cluster_step c e).turns }

abbrev pub cluster_turns_from : Cluster → List ClusterEvent → List ClusterTurn
cluster_turns_from c [] = []
cluster_turns_from c (e ∷ es) = cluster_turn c e ∷ cluster_turns_from (cluster_step c e).cluster es

-- what turns logged, in order
abbrev pub cluster_log_of : List ClusterTurn → List ClusterEntry
cluster_log_of [] = []
cluster_log_of (t ∷ ts) = logged_in t.turns ++ cluster_log_of ts

-- the answer of an event on a line, and then what it logged
abbrev pub turn_text : ClusterTurn → List ℕ
turn_text turn = cluster_answer_text turn.answer ++ 10 ∷ cluster_entries_text (logged_in turn.turns)

-- an event is made
abbrev pub by_event : ClusterPlay → ClusterEvent → ClusterNext
by_event p e = Goes (Some (record { cluster = (cluster_step p.cluster e).cluster; moment = p.moment }))
    (cluster_turn p.cluster e ∷ []) (turn_text (cluster_turn p.cluster e))

-- one of the groups
abbrev pub group_world : ClusterPlay → ℕ → World
group_world p j = world_in p.cluster.groups j

-- only a call that was asked in the group is traced
abbrev pub by_trace : ClusterPlay → ℕ → ℕ → ℕ → Event → ClusterNext
by_trace p j caller call e = if nat_lt call (at 0 (group_world p j).asked caller) then by_event p (InGroup j e) else Refused BadLine

-- the deliveries of a drain: those of each group, one group after the other
abbrev pub deliveries_in : Cluster → ℕ → List ClusterEvent
deliveries_in c j = map (InGroup j) (draining_unless_down (world_in c.groups j))

abbrev pub deliveries : Cluster → List ℕ → List ClusterEvent
deliveries c [] = []
deliveries c (j ∷ js) = deliveries_in c j ++ deliveries (cluster_after c (deliveries_in c j)) js

abbrev pub all_deliveries : Cluster → List ClusterEvent
all_deliveries c = deliveries c (range_with_len 0 (length c.groups.worlds))

-- what the deliveries of a drain logged, and how many there were
abbrev pub drained_text : List ClusterTurn → List ℕ
drained_text turns = cluster_entries_text (cluster_log_of turns) ++ (codes "drained " ++ (decimal (length turns) ++ codes "\n"))

abbrev pub by_drain : ClusterPlay → List ClusterEvent → ClusterNext
by_drain p es = Goes (Some (record { cluster = cluster_after p.cluster es; moment = p.moment }))
    (cluster_turns_from p.cluster es) (drained_text (cluster_turns_from p.cluster es))

abbrev pub by_show : ClusterPlay → ℕ → ProcessId → Run → ClusterNext
by_show p j from run = Goes (Some p) [] (look (group_world p j) from (held (group_world p j) from run) ++ 10 ∷ [])

-- what a line of this meaning does in a group
abbrev pub then_in : ClusterPlay → ℕ → Line → ClusterNext
then_in p j (Ask caller from act) = by_event p (InGroup j (happens.Ask caller (record { moment = p.moment; act = act }) from))
then_in p j (Collect caller call from) = by_event p (InGroup j (happens.Collect caller call from))
then_in p j (Deliver from to) = by_event p (InGroup j (happens.Deliver from to))
then_in p j (Flush from) = by_event p (InGroup j (happens.Flush from))
then_in p j (Trace caller call partition from) = by_trace p j caller call (happens.Trace caller call partition from)
then_in p j (Show from run) = by_show p j from run
then_in p j Skipped = Refused BadLine
then_in p j (Group shape) = Refused BadLine
then_in p j (Fail from keep) = Refused BadLine
then_in p j Drain = Refused BadLine
then_in p j Places = Refused BadLine
then_in p j (Time moment) = Refused BadLine
then_in p j Stop = Refused BadLine

-- what a line of this meaning does that names no group
abbrev pub then_by : ClusterPlay → Line → ClusterNext
then_by p Skipped = quietly (Some p)
then_by p Drain = by_drain p (all_deliveries p.cluster)
then_by p (Time moment) = quietly (Some (record { cluster = p.cluster; moment = moment }))
then_by p Stop = Ends
then_by p _ = Refused BadLine

-- a line that a group reads so
abbrev pub by_line : (Line → ClusterNext) → Result Line LineFault → ClusterNext
by_line next (Ok line) = next line
by_line next (Err fault) = Refused BadLine

-- a line in a group, or the failure of a node, or a line that names neither
abbrev pub by_words : ClusterPlay → List ℕ → Option (ℕ × List ℕ) → Option ClusterEvent → ClusterNext
by_words p line (Some named) failure = by_line (then_in p named.0) (line_meaning (Some p.cluster.groups.shape) named.1)
by_words p line None (Some failure) = by_event p failure
by_words p line None None = by_line (then_by p) (line_meaning (Some p.cluster.groups.shape) line)

-- the groups that a line names, at their start
abbrev pub opening_of : Plan → Cluster
opening_of plan = opening_cluster plan.shape plan.nodes plan.groups

abbrev pub cluster_from : Plan → ClusterPlay
cluster_from plan = record { cluster = opening_of plan; moment = 0 }

abbrev pub by_plan : Result Plan ClusterFault → ClusterNext
by_plan (Ok plan) = quietly (Some (cluster_from plan))
by_plan (Err fault) = Refused fault

-- what a line does
abbrev pub next_of : Option ClusterPlay → List ℕ → ClusterNext
next_of None line = if is_skipped line then quietly None else by_plan (groups_line (split_words line))
next_of (Some p) line = by_words p line (in_group (length p.cluster.groups.worlds) line) (failure_line (length p.cluster.failed) (split_words line))
