-- What each step of a stage tells its seat.
use Rattle.std.specs.Prelude.{◌≡◌, ℕ, zero, suc, ◌<◌, List, ◌∷◌, length, Option, Some}
use Rattle.atomic_table.specs.Table.{Me, Step, rest}
use Rattle.group_calls.specs.declared.event.Event.{Event}
use Rattle.group_run.specs.Headline.{IsRun}
use Rattle.group_run.specs.Locality.{occurrences}
use Rattle.group_node.specs.Standing.{NodeStanding}
use Rattle.group_types.specs.Each.{Each}
use Rattle.group_stage.specs.Kept.{IsAnswered}
use Rattle.group_stage.specs.Places.{slot_of, word_process}
use Rattle.group_stage.specs.Schedules.{StartsWith, asked_at, standing_at}
use Rattle.group_stage.specs.Views.{asks_by, begun, committed, numbered, released, with_met, with_node_held}
use Rattle.group_stage.specs.declared.view.View.{View}

-- a seat: its view, and the slots that it has
abbrev pub Sat : Type 0
Sat = Me (Option NodeStanding) View

-- what a view knows of the schedule at a moment at which its call is due
pub record Knows (es : List Event) (v : View) : Type 0 where
  pub run : IsRun v.shape es
  pub few : length es < 4611686018427387904
  pub held : Each (λ h. h.1 ≡ standing_at v.shape es h.0) v.held
  pub asked : (c : ℕ) → 0 < occurrences c v.numbers → asked_at v.shape es c ≡ asks_by c v.made
  pub seen : StartsWith es v.seen
  pub made : Each (IsAnswered v.shape es) v.made

-- the node of a process is held, as it stands in the run of the schedule
pub record IsNodeTaken (v : View) (p : ℕ) (slots : List (ℕ × Option NodeStanding)) (w : Sat) (es : List Event) : Type 0 where
  pub knows : Knows es (with_node_held v p (standing_at v.shape es p))
  pub seat : w ≡ (with_node_held v p (standing_at v.shape es p), (slot_of p, Some (standing_at v.shape es p)) ∷ slots)

-- a process's word is taken where 0 was found, and met where more was
abbrev pub TakesWord : View → ℕ → List (ℕ × Option NodeStanding) → ℕ → Sat → Type 0
TakesWord v p slots zero w = (es : List Event) × IsNodeTaken v p slots w es
TakesWord v p slots (suc n) w = w ≡ (with_met v p, slots)

-- the first word of the call of an event
abbrev pub TakesFirstWord : Event → Step (Option NodeStanding) → Sat → ℕ → Sat → Type 0
TakesFirstWord e st m found w = TakesWord (begun e m.0) (word_process st.word) m.1 found w

-- a further word
abbrev pub TakesNextWord : Step (Option NodeStanding) → Sat → ℕ → Sat → Type 0
TakesNextWord st m found w = TakesWord m.0 (word_process st.word) m.1 found w

-- the call becomes the event behind the schedule so far
abbrev pub Commits : Step (Option NodeStanding) → Sat → ℕ → Sat → Type 0
Commits st m found w = (es : List Event) × Knows es m.0 × (w ≡ (committed es m.0, m.1))

-- the node that was taken last is at home again
abbrev pub Releases : Step (Option NodeStanding) → Sat → ℕ → Sat → Type 0
Releases st m found w = w ≡ (released m.0 (word_process st.word) found, rest m.1)

-- the caller number is the one that was next
abbrev pub Draws : Step (Option NodeStanding) → Sat → ℕ → Sat → Type 0
Draws st m found w = (found ≡ m.0.next) × (w ≡ (numbered m.0 found, m.1))
