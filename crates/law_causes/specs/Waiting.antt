-- What a call that is told to wait waits for.
use Rattle.std.specs.Prelude.{ℕ, ◌≡◌, ◌⊎◌, true, List, Some, Contains}
use Rattle.group_types.specs.Dimensions.{Dimensions}
use Rattle.group_types.specs.declared.process.Partition.{Partition}
use Rattle.group_types.specs.declared.process.ProcessId.{ProcessId}
use Rattle.memc_table.specs.Asked.{Asked}
use Rattle.group_message.specs.declared.update.Update.{Update}
use Rattle.group_calls.specs.declared.event.Answer.TheVariants.{NotYet, Retry}
use Rattle.group_calls.specs.declared.event.Cause.TheVariants.{Pending}
use Rattle.group_calls.specs.declared.event.Event.{Event}
use Rattle.group_calls.specs.declared.event.Event.TheVariants.{Ask, Collect, Trace}
use Rattle.group_run.specs.Applying.{head_at, replica_of}
use Rattle.group_run.specs.Causes.{HoldsCall, IsAdopted, IsInherited, IsOpen}
use Rattle.group_run.specs.Deciding.{is_get}
use Rattle.group_run.specs.Headline.{IsRun, MayCome}
use Rattle.group_run.specs.Meaning.{IsUnfinished, process_of}
use Rattle.group_run.specs.Process.{Head, Held}
use Rattle.group_run.specs.World.{World, after, step}

-- an ask is told that update n of partition d has to be finished first: it is unfinished, and for a get one that was
-- inherited
pub record AskWaits (w : World) (p : ProcessId) (op : Asked) (d n : ℕ) : Type 0 where
  pub head : Head
  pub unfinished : IsUnfinished w p d n head
  pub inherited : is_get op.act ≡ true → IsInherited w p d n

-- a collect is told to come again: the update of the call that is held is unfinished
pub record CollectWaits (w : World) (p : ProcessId) (caller call : ℕ) : Type 0 where
  pub partition : ℕ
  pub held : Held
  pub holds : HoldsCall w p caller call partition held
  pub head : Head
  pub unfinished : IsUnfinished w p partition held.number head

-- a trace is told to come again: an update of the call is unfinished
pub record TraceWaits (w : World) (p : ProcessId) (caller call d : ℕ) : Type 0 where
  pub update : Update
  pub in_log : Contains (replica_of (process_of w p) d).log update
  pub caller_is : update.caller ≡ caller
  pub call_is : update.call ≡ call
  pub head : Head
  pub unfinished : IsUnfinished w p d update.number head

-- or none is here, and not all others have acknowledged this head, so that another process may still have one
pub record MayBeElsewhere (w : World) (p : ProcessId) (caller call d : ℕ) : Type 0 where
  pub is_open : IsOpen w p caller call d
  pub head : Head
  pub heads : head_at (process_of w p) d ≡ Some head
  pub not_adopted : ¬ (IsAdopted w p head)

-- whoever is told to wait waits for this
pub record WaitsForUnfinished (w : World) : Type 0 where
  pub asks : (caller : ℕ) (op : Asked) (p : ProcessId) (d : Partition) (n : ℕ) → MayCome w (Ask caller op p)
      → (step w (Ask caller op p)).turn.answer ≡ Retry (Pending d n) → AskWaits w p op d.0 n
  pub collects : (caller call : ℕ) (p : ProcessId) → MayCome w (Collect caller call p)
      → (step w (Collect caller call p)).turn.answer ≡ NotYet → CollectWaits w p caller call
  pub traces : (caller call : ℕ) (d : Partition) (p : ProcessId) → MayCome w (Trace caller call d p)
      → (step w (Trace caller call d p)).turn.answer ≡ NotYet → TraceWaits w p caller call d.0 ⊎ MayBeElsewhere w p caller call d.0

-- at every moment of every run
abbrev pub WaitsAlways : Type 0
WaitsAlways = (s : Dimensions) (es : List Event) → IsRun s es → WaitsForUnfinished (after s es)
