-- Where the events of a call lead in a group that a run led to.
use Rattle.std.specs.Prelude.{ℕ, ◌≡◌, ◌≤◌, ◌<◌, ◌+◌, List, Option, Some, None}
use Rattle.group_types.specs.Dimensions.{Dimensions}
use Rattle.group_types.specs.Lists.{at}
use Rattle.group_types.specs.Names.{of_rank}
use Rattle.group_types.specs.declared.process.ProcessId.{ProcessId}
use Rattle.memc_table.specs.Asked.{Asked}
use Rattle.group_calls.specs.declared.event.Event.{Event}
use Rattle.group_calls.specs.declared.event.Event.TheVariants.{Ask, Collect}
use Rattle.group_run.specs.Causes.{HoldsCall, home_in}
use Rattle.group_run.specs.Headline.{IsRun, MayCome}
use Rattle.group_run.specs.Meaning.{Heads, IsDown}
use Rattle.group_run.specs.Process.{Held}
use Rattle.group_run.specs.Progress.{load_of}
use Rattle.group_run.specs.World.{World, after, step, world_after}
use Rattle.world_caller.specs.Calling.{EventsBring, Serves, due, next_of_ask, next_of_collect}
use Rattle.world_caller.specs.declared.stage.Next.{Next}
use Rattle.world_caller.specs.declared.stage.Next.TheVariants.{Goes, Ends}
use Rattle.world_caller.specs.declared.stage.Stage.{Stage}
use Rattle.world_caller.specs.declared.stage.Stage.TheVariants.{Asks, Collects}

-- a ticket can be collected: the group isn't down, and the head that issued it holds the call
pub record IsTicketed (w : World) (caller call : ℕ) (p : ProcessId) : Type 0 where
  pub up : ¬ (IsDown w)
  pub partition : ℕ
  pub rank : ℕ
  pub inside : partition < w.shape.k
  pub named : p ≡ of_rank partition rank
  pub heads : Heads w partition rank
  pub held : Held
  pub holds : HoldsCall w p caller call partition held

-- a call can go on from a stage
abbrev pub CanGoOnFrom : ℕ → World → Stage → Type 0
CanGoOnFrom caller w (Collects call p) = IsTicketed w caller call p
CanGoOnFrom caller w Asks = Unit {0}

-- a call has ended, or can go on
abbrev pub CanGoOn : ℕ → World → Next → Type 0
CanGoOn caller w (Goes stage) = CanGoOnFrom caller w stage
CanGoOn caller w (Ends end) = Unit {0}

-- an event leads somewhere, from where the call can go on
pub record EventLeadsOn (caller : ℕ) (after : World) (to : Option Next) : Type 0 where
  pub next : Next
  pub is : to ≡ Some next
  pub stands : CanGoOn caller after next

-- where nothing is left to deliver an ask of the right process leads on
abbrev pub AsksLeadOn : World → Type 0
AsksLeadOn w = (caller : ℕ) (op : Asked) (p : ProcessId) → due w ≡ None → MayCome w (Ask caller op p) → Serves w (home_in w op) p
    → EventLeadsOn caller (step w (Ask caller op p)).world (next_of_ask (at 0 w.asked caller) p (step w (Ask caller op p)).turn.answer)

-- and so does a collect of a ticket
abbrev pub CollectsLeadOn : World → Type 0
CollectsLeadOn w = (caller call : ℕ) (p : ProcessId) → due w ≡ None → MayCome w (Collect caller call p) → IsTicketed w caller call p
    → EventLeadsOn caller (step w (Collect caller call p)).world (next_of_collect (step w (Collect caller call p)).turn.answer)

-- the delivery that comes first may come, leaves tickets to be collected, and lowers the weight of what is on its way
pub record Delivers (w : World) (e : Event) : Type 0 where
  pub may : MayCome w e
  pub lower : load_of (step w e).world < load_of w
  pub keeps : (caller : ℕ) (stage : Stage) → CanGoOnFrom caller w stage → CanGoOnFrom caller (step w e).world stage

abbrev pub DueDelivers : World → Type 0
DueDelivers w = (e : Event) → due w ≡ Some e → Delivers w e

-- a call is asked once for each block at most, and once more
abbrev pub AsksFew : World → Type 0
AsksFew w = (caller : ℕ) (op : Asked) (es : List Event) (last : Next) → EventsBring caller op w (Goes Asks) es last
    → at 0 (world_after w es).asked caller ≤ at 0 w.asked caller + (w.shape.blocks + 1)

-- so it is after every run
abbrev pub AsksLeadOnAlways : Type 0
AsksLeadOnAlways = (s : Dimensions) (es : List Event) → IsRun s es → AsksLeadOn (after s es)

abbrev pub CollectsLeadOnAlways : Type 0
CollectsLeadOnAlways = (s : Dimensions) (es : List Event) → IsRun s es → CollectsLeadOn (after s es)

abbrev pub DueDeliversAlways : Type 0
DueDeliversAlways = (s : Dimensions) (es : List Event) → IsRun s es → DueDelivers (after s es)

abbrev pub FewAlways : Type 0
FewAlways = (s : Dimensions) (es : List Event) → IsRun s es → AsksFew (after s es)
