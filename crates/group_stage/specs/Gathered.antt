-- A call that holds the nodes of all processes up to one, and how they go back.
use Rattle.std.specs.Prelude.{◌≡◌, ℕ, suc, ◌<◌, ◌≤◌, List, [], ◌∷◌, ◌++◌, length, map, Option, Some, None}
use Rattle.group_types.specs.Dimensions.{processes_of}
use Rattle.group_types.specs.Names.{IsProcess, index_of}
use Rattle.group_types.specs.declared.process.ProcessId.{ProcessId}
use Rattle.group_calls.specs.declared.event.Answer.{Answer}
use Rattle.group_calls.specs.declared.event.Event.TheVariants.{Fail}
use Rattle.group_calls.specs.declared.event.Event.{Event}
use Rattle.group_run.specs.Locality.{occurrences}
use Rattle.group_run.specs.World.{names}
use Rattle.group_node.specs.Standing.{NodeStanding}
use Rattle.group_types.specs.Each.{Each}
use Rattle.group_stage.specs.Places.{slot_of}
use Rattle.group_stage.specs.Schedules.{answer_at}
use Rattle.group_stage.specs.Steps.{Knows, Sat}
use Rattle.group_stage.specs.Views.{committed, with_met}
use Rattle.group_stage.specs.declared.answer.StageAnswer.{StageAnswer}
use Rattle.group_stage.specs.declared.answer.StageAnswer.TheVariants.{Busy, Made, Worn}
use Rattle.group_stage.specs.declared.view.Plan.{Plan}
use Rattle.group_stage.specs.declared.view.View.{View}

-- nodes of the processes from an index on, each taken behind those before it
abbrev pub stacked : ℕ → List NodeStanding → List (ℕ × NodeStanding) → List (ℕ × NodeStanding)
stacked x [] below = below
stacked x (y ∷ ys) below = stacked (suc x) ys ((x, y) ∷ below)

-- the nodes of the first processes, the last first
abbrev pub hand_of : List NodeStanding → List (ℕ × NodeStanding)
hand_of ys = stacked 0 ys []

-- the slots that they left
abbrev pub slots_left : List (ℕ × NodeStanding) → List (ℕ × Option NodeStanding)
slots_left hand = map (λ h. (slot_of h.0, None)) hand

-- the view with these nodes in hand
abbrev pub holding_all : View → List NodeStanding → View
holding_all v ys = record v { held = hand_of ys }

abbrev pub sat_with : View → List NodeStanding → Sat
sat_with v ys = (holding_all v ys, slots_left (hand_of ys))

-- these nodes, of the first processes, are in hand
pub record HasAll (plan : Plan) (m : Sat) (ys : List NodeStanding) : Type 0 where
  pub part : m.0.parts ≡ 1
  pub within : length ys ≤ processes_of plan.shape
  pub seat : m ≡ sat_with m.0 ys

-- a call that names all processes is on its way
pub record NamesAll (plan : Plan) (v : View) : Type 0 where
  pub part : v.parts ≡ 1
  pub due : v.due ≡ 1
  pub named : (q : ℕ) → q < processes_of plan.shape → 0 < occurrences q (names plan.shape v.call)

-- they went back, and only their own words were cleared
pub record GaveBack (m w : Sat) (n : ℕ) : Type 0 where
  pub cleared : List (ℕ × ℕ)
  pub below : Each (λ c. c.0 < n) cleared
  pub seat : w ≡ (record m.0 { held = []; cleared = m.0.cleared ++ cleared }, [])

-- all nodes are in hand, as they stand in the run of the schedule; or the word of the next process was met held
abbrev pub TookAll : Plan → View → List NodeStanding → Sat → Option ℕ → Type 0
TookAll plan v ys w None = (length ys ≡ processes_of plan.shape) × (w ≡ sat_with v ys) × ((es : List Event) × Knows es (holding_all v ys))
TookAll plan v ys w (Some p) = (length ys ≡ p) × (p < processes_of plan.shape) × (w ≡ (with_met (holding_all v ys) p, slots_left (hand_of ys)))

-- the first node is in hand, and the call is that a process dies
pub record CanFail (plan : Plan) (p : ProcessId) (keep : ℕ) (m : Sat) (first : NodeStanding) : Type 0 where
  pub process : IsProcess plan.shape p
  pub shape : m.0.shape ≡ plan.shape
  pub call : m.0.call ≡ Fail p keep
  pub all : NamesAll plan m.0
  pub seat : m ≡ sat_with m.0 (first ∷ [])
  pub knows : (es : List Event) × Knows es m.0

-- the call became the event behind this schedule, and all nodes went back
pub record AllFailed (v : View) (answer : Answer) (w : Sat) (es : List Event) : Type 0 where
  pub knows : Knows es (record v { held = [] })
  pub said : answer ≡ answer_at v.shape es v.call
  pub cleared : List (ℕ × ℕ)
  pub seat : w ≡ (record (committed es v) { held = []; cleared = v.cleared ++ cleared }, [])

-- the word of a process was met held, and what was taken went back
pub record OneMet (v : View) (p : ProcessId) (w : Sat) : Type 0 where
  pub process : IsProcess v.shape p
  pub cleared : List (ℕ × ℕ)
  pub below : Each (λ c. c.0 < index_of v.shape p) cleared
  pub seat : w ≡ (record (with_met v (index_of v.shape p)) { held = []; cleared = v.cleared ++ cleared }, [])

abbrev pub Failed : View → StageAnswer → Sat → Type 0
Failed v (Made answer) w = (es : List Event) × AllFailed v answer w es
Failed v (Busy p) w = OneMet v p w
Failed v Worn w = ⊥
