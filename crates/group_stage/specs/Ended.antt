-- What a call of a stage ended in.
use Rattle.std.specs.Prelude.{◌≡◌, ℕ, ◌+◌, ◌<◌, ◌≤◌, false, List, [], ◌∷◌, ◌++◌, length, Result, MatchResult}
use Rattle.std.specs.declared.alloc.AllocError.{AllocError}
use Rattle.group_types.specs.Dimensions.{callers}
use Rattle.group_types.specs.Names.{index_of}
use Rattle.group_types.specs.declared.process.ProcessId.{ProcessId}
use Rattle.group_calls.specs.declared.event.Answer.{Answer}
use Rattle.group_calls.specs.declared.event.Event.{Event}
use Rattle.group_run.specs.Headline.{IsRun}
use Rattle.group_run.specs.Locality.{occurrences}
use Rattle.group_run.specs.World.{names}
use Rattle.group_core.specs.Schedules.{node_after_schedule}
use Rattle.group_types.specs.Each.{Each}
use Rattle.group_stage.specs.Kept.{IsAnswered, most_calls}
use Rattle.group_stage.specs.Schedules.{StartsWith, answer_at, asked_at}
use Rattle.group_stage.specs.Steps.{Sat}
use Rattle.group_stage.specs.Views.{asks_by, cleared_of}
use Rattle.group_stage.specs.declared.answer.StageAnswer.{StageAnswer}
use Rattle.group_stage.specs.declared.answer.StageAnswer.TheVariants.{Busy, Made, Worn}
use Rattle.group_stage.specs.declared.view.View.{View}

-- the view after a call that began: one call more, and no node is held
pub record HasReturned (v w : View) : Type 0 where
  pub shape : w.shape ≡ v.shape
  pub parts : w.parts ≡ v.parts
  pub numbers : w.numbers ≡ v.numbers
  pub calls : w.calls ≡ v.calls + 1
  pub idle : w.held ≡ []

-- the event was added behind the schedule es, and the answer is the machine's there. All events of the seat before it
-- stand in es, and a caller number that the seat has asked there as often as the seat did
pub record IsEventAdded (e : Event) (v : View) (a : Answer) (w : View) (es : List Event) : Type 0 where
  pub run : IsRun v.shape (es ++ e ∷ [])
  pub seen : StartsWith es v.seen
  pub earlier : Each (IsAnswered v.shape es) v.made
  pub position : (c : ℕ) → 0 < occurrences c v.numbers → asked_at v.shape es c ≡ asks_by c v.made
  pub answer : a ≡ answer_at v.shape es e
  pub made : w.made ≡ v.made ++ record { number = length es; event = e; answer = a } ∷ []
  pub after : w.seen ≡ es ++ e ∷ []
  pub met : w.met ≡ v.met

-- the seat's own addition found the word of a process held that the call names, and not by itself, and no event was made
pub record IsBusy (e : Event) (v : View) (p : ProcessId) (w : View) : Type 0 where
  pub named : 0 < occurrences (index_of v.shape p) (names v.shape e)
  pub met : w.met ≡ v.met ++ index_of v.shape p ∷ []
  pub cleared : cleared_of (index_of v.shape p) w ≡ cleared_of (index_of v.shape p) v
  pub made : w.made ≡ v.made
  pub seen : w.seen ≡ v.seen

-- there was no memory, and no event was made
pub record IsUnmade (v w : View) : Type 0 where
  pub returned : HasReturned v w
  pub made : w.made ≡ v.made
  pub seen : w.seen ≡ v.seen
  pub met : w.met ≡ v.met

-- after the schedule es, in which all events of the seat stand, the process lived and the group wasn't down
pub record WasUpAfter (es : List Event) (v : View) (p : ProcessId) : Type 0 where
  pub run : IsRun v.shape es
  pub seen : StartsWith es v.seen
  pub earlier : Each (IsAnswered v.shape es) v.made
  pub up : (node_after_schedule v.shape es (index_of v.shape p)).down ≡ false
  pub lives : (node_after_schedule v.shape es (index_of v.shape p)).dead ≡ false

abbrev pub WasUp : View → ProcessId → Type 0
WasUp v p = (es : List Event) × WasUpAfter es v p

-- the seat had made all its calls, and is as it was
pub record IsWorn (v w : View) : Type 0 where
  pub spent : v.calls ≡ most_calls
  pub same : w ≡ v

-- what a call of an event ended in, from one view of its seat to the next
abbrev pub Ended : Event → View → StageAnswer → View → Type 0
Ended e v (Made a) w = HasReturned v w × ((es : List Event) × IsEventAdded e v a w es)
Ended e v (Busy p) w = HasReturned v w × IsBusy e v p w
Ended e v Worn w = IsWorn v w

-- the same, or there was no memory
abbrev pub HasEnded : Event → View → Result StageAnswer AllocError → View → Type 0
HasEnded e v result w = MatchResult result (λ a. Ended e v a w) (λ _. IsUnmade v w)

-- a seat between two calls, with its caller number and how often it called and asked
pub record IsSeat (m : Sat) (caller calls asks : ℕ) : Type 0 where
  pub part : m.0.parts ≡ 1
  pub number : m.0.numbers ≡ caller ∷ []
  pub low : caller < callers
  pub counted : calls ≡ m.0.calls
  pub asked : asks ≡ asks_by caller m.0.made
  pub few : calls ≤ most_calls
  pub fewer : asks ≤ calls
  pub idle : m.0.held ≡ []
  pub slots : m.1 ≡ []
