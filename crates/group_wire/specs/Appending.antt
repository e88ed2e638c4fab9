-- What a node appends to its links depends on its process alone, and not on what stands there: so a member that has
-- sent what stood in its links sends from then on what the machine's node sends.
use Rattle.std.specs.Prelude.{ℕ, ◌≡◌, ◌≢◌, ◌+◌, ◌<◌, List, [], ◌++◌}
use Rattle.group_types.specs.Dimensions.{Dimensions}
use Rattle.group_types.specs.Lists.{at}
use Rattle.group_types.specs.Names.{IsProcess, index_of, process_at}
use Rattle.group_types.specs.declared.process.ProcessId.{ProcessId}
use Rattle.memc_table.specs.Asked.{Asked}
use Rattle.group_message.specs.declared.message.Message.{Message}
use Rattle.group_message.specs.declared.message.Message.TheVariants as tells
use Rattle.group_calls.specs.Turns.{CallName}
use Rattle.group_run.specs.Process.{Node}
use Rattle.group_run.specs.World.{NodeStep, ask_node, collect_node, flush_node, receive_node, trace_node}

-- two nodes that differ in what stands in their links alone
pub record AreAlike (a b : Node) : Type 0 where
  pub process : a.process ≡ b.process
  pub dead : a.dead ≡ b.dead
  pub down : a.down ≡ b.down

-- two steps, one of each, make the same but for the links
pub record MakeAlike (t u : NodeStep) : Type 0 where
  pub process : t.node.process ≡ u.node.process
  pub answer : t.answer ≡ u.answer
  pub settled : t.settled ≡ u.settled

-- they append the same messages to a link
abbrev pub AppendTo : ℕ → Node → Node → NodeStep → NodeStep → Type 0
AppendTo x a b t u = (more : List Message) × (at [] t.node.links x ≡ at [] a.links x ++ more) × (at [] u.node.links x ≡ at [] b.links x ++ more)

-- they are alike, and append the same to each link
pub record StepAlike (s : Dimensions) (a b : Node) (t u : NodeStep) : Type 0 where
  pub made : MakeAlike t u
  pub links : (x : ℕ) → x < s.k + s.m → AppendTo x a b t u

-- so are their steps for each call
pub record TreatAlike (s : Dimensions) (a b : Node) : Type 0 where
  pub ask : (name : CallName) (op : Asked) → StepAlike s a b (ask_node s name op a) (ask_node s name op b)
  pub collect : (caller call : ℕ) → StepAlike s a b (collect_node s caller call a) (collect_node s caller call b)
  pub flush : StepAlike s a b (flush_node s a) (flush_node s b)
  pub trace : (caller call d : ℕ) → StepAlike s a b (trace_node s caller call d a) (trace_node s caller call d b)

abbrev pub CallsAppendAlike : Type 0
CallsAppendAlike = (s : Dimensions) (a b : Node) → AreAlike a b → TreatAlike s a b

-- and so are their steps for a message, but that the link to a process whose death is told is emptied
pub record HearAlike (s : Dimensions) (m : Message) (a b : Node) (t u : NodeStep) : Type 0 where
  pub made : MakeAlike t u
  pub links : (x : ℕ) → x < s.k + s.m → m ≢ tells.Notice (process_at s x) → AppendTo x a b t u
  pub emptied : (dead : ProcessId) → IsProcess s dead → m ≡ tells.Notice dead
      → (at [] t.node.links (index_of s dead) ≡ []) × (at [] u.node.links (index_of s dead) ≡ [])

abbrev pub MessagesAppendAlike : Type 0
MessagesAppendAlike = (s : Dimensions) (from : ProcessId) (m : Message) (a b : Node) → AreAlike a b
    → HearAlike s m a b (receive_node s from m a) (receive_node s from m b)
