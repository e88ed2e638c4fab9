-- What holds of a stage between any two steps.
use Rattle.std.specs.Prelude.{◌≡◌, ℕ, ◌+◌, ◌*◌, ◌<◌, ◌≤◌, nat_lt, List, [], length, take, slice_get, slice_index, Option, Some}
use mathlib.Core.Option as maybe
use lib.ListN.{get_elem?}
use Rattle.atomic_table.specs.Table.{State}
use Rattle.group_types.specs.Dimensions.{Dimensions, callers, processes_of}
use Rattle.group_calls.specs.declared.event.Event.{Event}
use Rattle.group_run.specs.Headline.{IsRun}
use Rattle.group_run.specs.Locality.{occurrences}
use Rattle.group_run.specs.World.{names}
use Rattle.group_node.specs.Standing.{NodeStanding}
use Rattle.group_types.specs.Each.{Each}
use Rattle.group_stage.specs.Counts.{bit, flag, total}
use Rattle.group_stage.specs.Places.{drawing_of, history_word, slot_of, word_in, word_of}
use Rattle.group_stage.specs.Schedules.{StartsWith, answer_at, asked_at, standing_at}
use Rattle.group_stage.specs.Views.{asks_by, cleared_of, holding, met_of, times_numbered}
use Rattle.group_stage.specs.declared.view.Numbered.{Numbered}
use Rattle.group_stage.specs.declared.view.Plan.{Plan}
use Rattle.group_stage.specs.declared.view.View.{View}

-- the most calls of one seat
abbrev pub most_calls : ℕ
most_calls = 18014398509481984

-- the event of this number in the schedule, with the machine's answer to it after the events of lower numbers
pub record IsAnswered (s : Dimensions) (es : List Event) (x : Numbered) : Type 0 where
  pub event : slice_get es x.number ≡ Some x.event
  pub answer : x.answer ≡ answer_at s (take x.number es) x.event

-- nothing is known of it, and nothing is held
pub record IsSpent (v : View) : Type 0 where
  pub held : v.held ≡ []
  pub met : v.met ≡ []
  pub cleared : v.cleared ≡ []
  pub made : v.made ≡ []
  pub numbers : v.numbers ≡ []

-- a view fits the schedule: what it holds are the nodes of the run, of processes that its call names, and its events
-- are in the schedule with the machine's answers
pub record FitsStage (s : Dimensions) (es : List Event) (next : ℕ) (v : View) : Type 0 where
  pub shape : 0 < v.parts → v.shape ≡ s
  pub inside : Each (λ h. h.0 < processes_of s) v.held
  pub held : Each (λ h. h.1 ≡ standing_at s es h.0) v.held
  pub named : Each (λ h. 0 < occurrences h.0 (names s v.call)) v.held
  pub made : Each (IsAnswered s es) v.made
  pub few : length v.made + length v.met + v.due ≤ v.calls
  pub calls : v.calls ≤ v.parts * most_calls
  pub numbers : length v.numbers ≤ v.parts
  pub no_parts : v.parts ≡ 0 → IsSpent v
  pub seen : StartsWith es v.seen
  pub own : (c : ℕ) → occurrences c v.numbers ≡ 0 → asks_by c v.made ≡ 0
  pub pen : 0 < v.pens → v.next ≡ next

-- the rule: there is a schedule, of which each node at home is the run's, and the counts of all seats together are
-- those of the words
pub record KeepsPlan (plan : Plan) (st : State (Option NodeStanding) View) : Type 0 where
  pub schedule : List Event
  pub run : IsRun plan.shape schedule
  pub wide : length st.words ≡ word_of (processes_of plan.shape + 2)
  pub long : length st.homes ≡ slot_of (processes_of plan.shape)
  pub seats : plan.callers ≤ callers
  -- each seat has a part of all, and one may draw
  pub parts : total (λ v. v.parts) st.views ≡ plan.callers
  pub pens : total (λ v. v.pens) st.views ≤ 1
  -- each number of the schedule is of one event
  pub history : slice_index st.words (history_word plan.shape) ≡ length schedule
  pub many : total (λ v. length v.made) st.views ≡ length schedule
  pub once : (k : ℕ) → total (λ v. times_numbered k v.made) st.views ≡ bit (nat_lt k (length schedule))
  -- each caller number that was drawn is of one seat, and all that was asked of it
  pub drawing : total (λ v. length v.numbers) st.views ≡ slice_index st.words (drawing_of plan.shape)
  pub owners : (c : ℕ) → total (λ v. occurrences c v.numbers) st.views ≡ bit (nat_lt c (slice_index st.words (drawing_of plan.shape)))
  pub asked : (c : ℕ) → asked_at plan.shape schedule c ≡ total (λ v. asks_by c v.made) st.views
  -- a process's word is above 0 exactly where one seat holds its node
  pub taken : (p : ℕ) → p < processes_of plan.shape → total (holding p) st.views ≡ flag (word_in st.words p)
  -- what was met is what was cleared and what the word has above 1
  pub counts : (p : ℕ) → p < processes_of plan.shape → total (met_of p) st.views + flag (word_in st.words p)
      ≡ total (cleared_of p) st.views + word_in st.words p
  pub home : (p : ℕ) → p < processes_of plan.shape → word_in st.words p ≡ 0
      → get_elem? st.homes (slot_of p) ≡ maybe.some (maybe.some (Some (standing_at plan.shape schedule p)))
  pub each : (j : ℕ) (v : View) → get_elem? st.views j ≡ maybe.some v → FitsStage plan.shape schedule (slice_index st.words (drawing_of plan.shape)) v

-- the schedule is exactly that of these views: each number of it is of one of their events, with the machine's answer
pub record IsWholeSchedule (s : Dimensions) (es : List Event) (views : List View) : Type 0 where
  pub many : total (λ v. length v.made) views ≡ length es
  pub once : (k : ℕ) → total (λ v. times_numbered k v.made) views ≡ bit (nat_lt k (length es))
  pub answers : Each (λ v. Each (IsAnswered s es) v.made) views
