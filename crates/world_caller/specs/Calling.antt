-- What a call makes of a group, event by event: where a message can be delivered, that is done first; else the call is
-- asked at the head of its key's partition, and asked again where a block has to be rebuilt; and a ticket is collected
-- where it was issued.
use Rattle.std.specs.Prelude.{ℕ, ◌≡◌, ◌≤◌, ◌<◌, ◌+◌, ◌^◌, ◌⊎◌, List, [], ◌∷◌, Option, Some, None, if◌then◌else◌}
use Rattle.group_types.specs.Lists.{at}
use Rattle.group_types.specs.Names.{of_rank}
use Rattle.group_types.specs.declared.process.ProcessId.{ProcessId}
use Rattle.group_types.specs.declared.process.ProcessId.TheVariants.{DataNode}
use Rattle.memc_table.specs.Asked.{Asked}
use Rattle.memc_proto.specs.declared.end.CallEnd.{CallEnd}
use Rattle.memc_proto.specs.declared.end.CallEnd.TheVariants as ends
use Rattle.group_calls.specs.declared.event.Answer.{Answer}
use Rattle.group_calls.specs.declared.event.Answer.TheVariants as says
use Rattle.group_calls.specs.declared.event.Cause.TheVariants as cause
use Rattle.group_calls.specs.declared.event.Event.{Event}
use Rattle.group_calls.specs.declared.event.Event.TheVariants.{Ask, Collect}
use Rattle.group_run.specs.Causes.{home_in}
use Rattle.group_run.specs.Draining.{next_delivery}
use Rattle.group_run.specs.Headline.{MayCome}
use Rattle.group_run.specs.Meaning.{Heads}
use Rattle.group_run.specs.World.{World, step, world_after}
use Rattle.group_run.specs.Shown.{is_down}
use Rattle.world_caller.specs.declared.stage.Next.{Next}
use Rattle.world_caller.specs.declared.stage.Next.TheVariants.{Goes, Ends}
use Rattle.world_caller.specs.declared.stage.Stage.{Stage}
use Rattle.world_caller.specs.declared.stage.Stage.TheVariants.{Asks, Collects}

-- so many events a group counts
abbrev pub most_events : ℕ
most_events = 2 ^ 62

-- the delivery that comes first: none while the group is down
abbrev pub due : World → Option Event
due w = if is_down w then None else next_delivery w

-- the process that is asked of a partition: its head or, where it has none, its data process
abbrev pub Serves : World → ℕ → ProcessId → Type 0
Serves w d p = ((r : ℕ) × Heads w d r × (p ≡ of_rank d r)) ⊎ (((r : ℕ) → ¬ (Heads w d r)) × (p ≡ DataNode d))

-- where an ask leads that is answered so, of the caller's call of this number at this process; no other answer comes
abbrev pub next_of_ask : ℕ → ProcessId → Answer → Option Next
next_of_ask call p (says.Reply reply) = Some (Ends (ends.Reply reply))
next_of_ask call p (says.Ticket number) = Some (Goes (Collects call p))
next_of_ask call p (says.Retry (cause.Block block)) = Some (Goes Asks)
next_of_ask call p says.NoSpace = Some (Ends ends.NoSpace)
next_of_ask call p says.Down = Some (Ends ends.Down)
next_of_ask call p _ = None

-- where a collect leads: no answer but the reply comes
abbrev pub next_of_collect : Answer → Option Next
next_of_collect (says.Reply reply) = Some (Ends (ends.Reply reply))
next_of_collect _ = None

-- the call's own event at a stage, and where it leads
abbrev pub IsOwnStep : ℕ → Asked → World → Stage → Event → Next → Type 0
IsOwnStep caller op w Asks e next =
    (p : ProcessId) × Serves w (home_in w op) p × (e ≡ Ask caller op p) × (next_of_ask (at 0 w.asked caller) p (step w e).turn.answer ≡ Some next)
IsOwnStep caller op w (Collects call p) e next = (e ≡ Collect caller call p) × (next_of_collect (step w e).turn.answer ≡ Some next)

-- the delivery that comes first, or else the call's own event
abbrev pub IsFirstOrOwn : Option Event → ℕ → Asked → World → Stage → Event → Next → Type 0
IsFirstOrOwn (Some delivery) caller op w stage e next = (e ≡ delivery) × (next ≡ Goes stage)
IsFirstOrOwn None caller op w stage e next = IsOwnStep caller op w stage e next

-- an event of a call, as long as one can be counted
pub record IsEvent (caller : ℕ) (op : Asked) (w : World) (stage : Stage) (e : Event) (next : Next) : Type 0 where
  pub counted : w.events < most_events
  pub may : MayCome w e
  pub done : IsFirstOrOwn (due w) caller op w stage e next

-- events of a call bring it further
abbrev pub EventsBring : ℕ → Asked → World → Next → List Event → Next → Type 0
EventsBring caller op w next [] last = last ≡ next
EventsBring caller op w (Goes stage) (e ∷ es) last = (next : Next) × IsEvent caller op w stage e next × EventsBring caller op (step w e).world next es last
EventsBring caller op w (Ends end) (e ∷ es) last = ⊥

-- what a call has made of a group so far
pub record HasMovedGroup (caller : ℕ) (op : Asked) (w v : World) (next : Next) : Type 0 where
  pub events : List Event
  pub after : v ≡ world_after w events
  pub brings : EventsBring caller op w (Goes Asks) events next

-- what a call for an op made of a group before want of memory cut it short
pub record IsCallCutShort (caller : ℕ) (op : Asked) (w v : World) : Type 0 where
  pub last : Next
  pub come : HasMovedGroup caller op w v last

-- the call is over: it has ended so, or no further event can be counted
abbrev pub IsCallOver : World → Next → CallEnd → Type 0
IsCallOver v (Ends by) end = end ≡ by
IsCallOver v (Goes stage) end = (most_events ≤ v.events) × (end ≡ ends.Worn)

-- a call of a caller for an op: it is asked once for each block at most, and once more
pub record IsCallMade (caller : ℕ) (op : Asked) (w : World) (end : CallEnd) (v : World) : Type 0 where
  pub events : List Event
  pub last : Next
  pub brings : EventsBring caller op w (Goes Asks) events last
  pub after : v ≡ world_after w events
  pub over : IsCallOver v last end
  pub few : at 0 v.asked caller ≤ at 0 w.asked caller + (w.shape.blocks + 1)
