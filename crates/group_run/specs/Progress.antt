-- What is promised where messages are delivered: draining ends, and a drained group has nothing
-- unfinished.
use Rattle.std.specs.Prelude.{ℕ, ◌≡◌, ◌≢◌, ◌+◌, ◌<◌, ◌≤◌, List, [], ◌∷◌, Some, sum_by, if◌then◌else◌}
use Rattle.std.specs.List.{range_with_len}
use Rattle.group_types.specs.Lists.{at}
use Rattle.group_types.specs.Names.{of_rank, same_process}
use Rattle.group_types.specs.declared.process.ProcessId.{ProcessId}
use Rattle.group_types.specs.declared.process.ProcessId.TheVariants.{ParityNode}
use Rattle.group_message.specs.declared.message.Message.{Message}
use Rattle.group_message.specs.declared.message.Message.TheVariants.{Adopt, Mark, Notice, ReadBlock, Update}
use Rattle.group_calls.specs.Turns.{Turn}
use Rattle.group_calls.specs.declared.event.Answer.{Answer}
use Rattle.group_calls.specs.declared.event.Answer.TheVariants.{Done, NotYet, Retry}
use Rattle.group_calls.specs.declared.event.Cause.TheVariants.{Block, Pending}
use Rattle.group_calls.specs.declared.event.Event.{Event}
use Rattle.group_calls.specs.declared.event.Event.TheVariants.{Ask, Deliver, Fail, Trace}
use Rattle.group_types.specs.declared.process.Partition.{Partition}
use Rattle.memc_table.specs.Asked.{Asked}
use Rattle.group_run.specs.Applying.{replica_of, head_at}
use Rattle.group_run.specs.Draining.{node_at}
use Rattle.group_run.specs.Headline.{MayCome, IsRunFrom}
use Rattle.group_run.specs.Meaning.{Heads, HasTakenOver, IsDown, IsDrained, Lives, process_of}
use Rattle.group_run.specs.Process.{Head}
use Rattle.group_run.specs.World.{World, step, turns_from}

-- what a message weighs: more than all messages together that it can make its receiver send
abbrev pub weight_of : Message → ℕ
weight_of (Notice _) = 200
weight_of (ReadBlock _ _ _) = 10
weight_of (Update _ _ _ _) = 2
weight_of (Adopt _ _ _ _) = 2
weight_of (Mark _ _ _ _ _) = 2
weight_of _ = 1

-- the weight of what is on its way from a process to those that live
abbrev pub load_from : World → ℕ → ℕ
load_from w x = sum_by (λ y. if (node_at w y).dead then 0 else sum_by weight_of (at [] (node_at w x).links y)) (range_with_len 0 (w.shape.k + w.shape.m))

-- the weight of all messages that are on their way to a living process
abbrev pub load_of : World → ℕ
load_of w = sum_by (load_from w) (range_with_len 0 (w.shape.k + w.shape.m))

-- each delivery lowers the weight, so draining ends
abbrev pub DeliveryLowers : World → Type 0
DeliveryLowers w = (from to : ProcessId) → MayCome w (Deliver from to) → (step w (Deliver from to)).turn.answer ≡ Done
    → load_of (step w (Deliver from to)).world < load_of w

-- an ask is not answered that an update has to be finished first
abbrev pub IsPending : Answer → Type 0
IsPending answer = (d : Partition) × (n : ℕ) × (answer ≡ Retry (Pending d n))

-- in a drained group every partition's head has taken over and has nothing unfinished, no session is open
-- and no copy left, and neither a trace nor an ask has to wait for an update
pub record IsQuiet (w : World) : Type 0 where
  pub headed : (d : ℕ) → d < w.shape.k → (r : ℕ) × Heads w d r × HasTakenOver w d r
  pub finished : (d r : ℕ) → d < w.shape.k → Heads w d r → (h : Head)
      × (head_at (process_of w (of_rank d r)) d ≡ Some h) × ((replica_of (process_of w (of_rank d r)) d).log ≡ [])
  pub sessions : (i : ℕ) → Lives w (ParityNode i) → (process_of w (ParityNode i)).as_leader.sessions ≡ []
  pub copies : (i : ℕ) → Lives w (ParityNode i) → (process_of w (ParityNode i)).as_row.copies ≡ []
  pub traced : (caller call : ℕ) (d : Partition) (p : ProcessId) → MayCome w (Trace caller call d p) → (step w (Trace caller call d p)).turn.answer ≢ NotYet
  pub asked : (caller : ℕ) (op : Asked) (p : ProcessId) → MayCome w (Ask caller op p) → ¬ (IsPending (step w (Ask caller op p)).turn.answer)

-- a drained group that isn't down has nothing unfinished
abbrev pub DrainedIsQuiet : World → Type 0
DrainedIsQuiet w = IsDrained w → ¬ (IsDown w) → IsQuiet w

-- the event is no failure
abbrev pub IsNoFailure : Event → Type 0
IsNoFailure (Fail _ _) = ⊥
IsNoFailure _ = Unit {0}

-- the event is asked in a drained group, if it is an ask
abbrev pub AsksDrained : World → Event → Type 0
AsksDrained w (Ask _ _ _) = IsDrained w
AsksDrained w _ = Unit {0}

-- no process fails, and calls are asked where the group is drained
abbrev pub AskedDrained : World → List Event → Type 0
AskedDrained w [] = Unit {0}
AskedDrained w (e ∷ es) = IsNoFailure e × AsksDrained w e × AskedDrained (step w e).world es

-- 1 for a call at this process that has to wait for a block
abbrev pub waits_here : ProcessId → Event → Answer → ℕ
waits_here p (Ask _ _ q) (Retry (Block _)) = if same_process p q then 1 else 0
waits_here p _ _ = 0

-- how many calls at a process have to wait for a block
abbrev pub block_waits : ProcessId → List Turn → ℕ
block_waits p turns = sum_by (λ turn. waits_here p turn.event turn.answer) turns

-- at most as many calls as there are blocks have to wait for one at a process, between two failures
abbrev pub FewBlockWaits : World → Type 0
FewBlockWaits w = (es : List Event) (p : ProcessId) → IsRunFrom w es → AskedDrained w es → block_waits p (turns_from w es) ≤ w.shape.blocks
