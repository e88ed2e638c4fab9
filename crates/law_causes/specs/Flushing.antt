-- What a flush tells the others.
use Rattle.std.specs.Prelude.{ℕ, ◌≡◌, ◌≢◌, ◌<◌, ◌++◌, false, true, List, [], ◌∷◌, flat_map, Option, Some, None}
use Rattle.std.specs.List.{range_with_len}
use Rattle.group_types.specs.Dimensions.{Dimensions}
use Rattle.group_types.specs.Names.{IsProcess}
use Rattle.group_types.specs.declared.process.ProcessId.{ProcessId}
use Rattle.group_types.specs.declared.process.ProcessId.TheVariants.{DataNode, ParityNode}
use Rattle.membership.specs.Members.{knows_dead}
use Rattle.group_message.specs.declared.message.Message.{Message}
use Rattle.group_message.specs.declared.message.Message.TheVariants.{Stable}
use Rattle.group_calls.specs.declared.event.Answer.TheVariants.{Done}
use Rattle.group_calls.specs.declared.event.Event.{Event}
use Rattle.group_calls.specs.declared.event.Event.TheVariants.{Flush}
use Rattle.group_run.specs.Applying.{head_at, replica_of}
use Rattle.group_run.specs.Causes.{KeepsLedger}
use Rattle.group_run.specs.Headline.{IsRun, MayCome}
use Rattle.group_run.specs.Heading.{partition, rank}
use Rattle.group_run.specs.Meaning.{is_dead, link, process_of}
use Rattle.group_run.specs.Process.{Head, Process}
use Rattle.group_run.specs.World.{World, after, process_node, step}

-- what is told of partition d, if it is headed: its settled number, under the head's rank
abbrev pub stable_told : Process → ℕ → Option Head → List Message
stable_told p d None = []
stable_told p d (Some h) = Stable (rank h.rank) (partition d) (replica_of p d).applied ∷ []

-- what is told of all k partitions, in order
abbrev pub stables_told : Process → ℕ → List Message
stables_told p k = flat_map (λ d. stable_told p d (head_at p d)) (range_with_len 0 k)

-- the process has told this, behind each link to another parity process that it doesn't know dead, and nothing else
-- has changed
pub record HasToldStables (w after : World) (p : ProcessId) : Type 0 where
  pub told : (i : ℕ) → i < w.shape.m → ParityNode i ≢ p → knows_dead (process_of w p).known (ParityNode i) ≡ false
      → link after p (ParityNode i) ≡ link w p (ParityNode i) ++ stables_told (process_of w p) w.shape.k
  pub to_data : (d : ℕ) → d < w.shape.k → link after p (DataNode d) ≡ link w p (DataNode d)
  pub to_dead : (q : ProcessId) → IsProcess w.shape q → knows_dead (process_of w p).known q ≡ true → link after p q ≡ link w p q
  pub to_itself : link after p p ≡ link w p p
  pub process : process_of after p ≡ process_of w p
  pub lives : is_dead after p ≡ is_dead w p
  pub others : (q : ProcessId) → IsProcess w.shape q → q ≢ p → process_node after q ≡ process_node w q
  pub ledger : KeepsLedger w after

-- a flush that is done
abbrev pub FlushesTell : World → Type 0
FlushesTell w = (p : ProcessId) → MayCome w (Flush p) → (step w (Flush p)).turn.answer ≡ Done → HasToldStables w (step w (Flush p)).world p

-- along every run
abbrev pub TellsAlways : Type 0
TellsAlways = (s : Dimensions) (es : List Event) → IsRun s es → FlushesTell (after s es)
