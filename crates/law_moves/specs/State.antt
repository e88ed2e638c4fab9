-- What laws look at of a group: functions of a process, so that no law looks at nodes or at lists of links; and
-- what it is that a sentence on them holds along every run.
use Rattle.std.specs.Prelude.{ℕ, ◌≤◌, ◌+◌, Bool, List, [], map}
use Rattle.std.specs.List.{range_with_len}
use Rattle.group_types.specs.Dimensions.{Dimensions}
use Rattle.group_types.specs.Lists.{at}
use Rattle.group_types.specs.Names.{index_of, process_at}
use Rattle.group_types.specs.declared.process.ProcessId.{ProcessId}
use Rattle.membership.specs.Members.{count_dead_words}
use Rattle.group_message.specs.declared.message.Message.{Message}
use Rattle.group_message.specs.declared.update.Update.{Update}
use Rattle.group_calls.specs.declared.event.Event.{Event}
use Rattle.group_run.specs.History.{History, history_of}
use Rattle.group_run.specs.Process.{Process, Node}
use Rattle.group_run.specs.World.{node_in}
use Rattle.group_run.specs.Headline.{IsRun}

-- the processes, who of them is dead, the links between them, and the settled updates of each partition
pub record State : Type 0 where
  pub process : ProcessId → Process
  pub dead : ProcessId → Bool
  pub link : ProcessId → ProcessId → List Message
  pub settled : ℕ → List Update

-- what laws look at of nodes, with the settled updates of each partition
abbrev pub state_from : Dimensions → List Node → List (List Update) → State
state_from s nodes settled = record {
  process = λ p. (node_in s nodes p).process;
  dead = λ p. (node_in s nodes p).dead;
  link = λ p q. at [] (node_in s nodes p).links (index_of s q);
  settled = λ d. at [] settled d;
}

-- what they look at of a history
abbrev pub state_of : History → State
state_of h = state_from h.world.shape h.world.nodes h.settled

-- how many processes are dead
abbrev pub lost_in : Dimensions → State → ℕ
lost_in s v = count_dead_words (map (λ x. v.dead (process_at s x)) (range_with_len 0 (s.k + s.m)))

-- at most m processes are dead
abbrev pub IsGroupUp : Dimensions → State → Type 0
IsGroupUp s v = lost_in s v ≤ s.m

-- the sentence holds along every run
abbrev pub HoldsAlways : Dimensions → (State → Type 0) → Type 0
HoldsAlways s P = (es : List Event) → IsRun s es → P (state_of (history_of s es))
