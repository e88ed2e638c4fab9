-- What a look at a link found.
use Rattle.std.specs.Prelude.{◌≡◌, ◌==◌, Bool, true, false, List, [], length}
use Rattle.group_types.specs.Lists.{at}
use Rattle.group_types.specs.Names.{index_of}
use Rattle.group_types.specs.declared.process.ProcessId.{ProcessId}
use Rattle.group_calls.specs.declared.event.Event.{Event}
use Rattle.group_calls.specs.declared.event.Event.TheVariants.{Deliver}
use Rattle.group_run.specs.Headline.{IsRun}
use Rattle.group_core.specs.Schedules.{node_after_schedule}
use Rattle.group_types.specs.Each.{Each}
use Rattle.group_stage.specs.Ended.{HasReturned, IsBusy, IsUnmade, IsWorn}
use Rattle.group_stage.specs.Kept.{IsAnswered}
use Rattle.group_stage.specs.Schedules.{StartsWith}
use Rattle.group_stage.specs.declared.looking.Looked.{Looked}
use Rattle.group_stage.specs.declared.looking.Looked.TheVariants.{Busy, Empty, Waits, Worn}
use Rattle.group_stage.specs.declared.view.View.{View}

-- whether a link was empty after the schedule es. All events of the seat stand in es, and it made none
pub record HasFoundEmpty (sender receiver : ProcessId) (v : View) (empty : Bool) (w : View) (es : List Event) : Type 0 where
  pub run : IsRun v.shape es
  pub seen : StartsWith es v.seen
  pub earlier : Each (IsAnswered v.shape es) v.made
  pub found : empty ≡ (length (at [] (node_after_schedule v.shape es (index_of v.shape sender)).links (index_of v.shape receiver)) == 0)
  pub unmade : IsUnmade v w

-- what a look ended in, from one view of its seat to the next
abbrev pub HasLooked : ProcessId → ProcessId → View → Looked → View → Type 0
HasLooked sender receiver v Empty w = (es : List Event) × HasFoundEmpty sender receiver v true w es
HasLooked sender receiver v Waits w = (es : List Event) × HasFoundEmpty sender receiver v false w es
HasLooked sender receiver v Busy w = HasReturned v w × IsBusy (Deliver sender receiver) v sender w
HasLooked sender receiver v Worn w = IsWorn v w

-- what a look says of a link that was empty, or that was not
abbrev pub IsFoundSo : Bool → Looked → Type 0
IsFoundSo empty Empty = empty ≡ true
IsFoundSo empty Waits = empty ≡ false
IsFoundSo empty Busy = ⊥
IsFoundSo empty Worn = ⊥
