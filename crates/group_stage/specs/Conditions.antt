-- What a seat needs for each of its steps.
use Rattle.std.specs.Prelude.{◌≡◌, ℕ, ◌+◌, ◌<◌, ◌≤◌, List, [], ◌∷◌, ◌++◌, length, replicate, Option, Some, None}
use mathlib.Core.Option as maybe
use lib.ListN.{get_elem?}
use Rattle.atomic_table.specs.Table.{rest}
use Rattle.group_types.specs.Dimensions.{callers, processes_of}
use Rattle.group_types.specs.Each.{Each}
use Rattle.group_types.specs.Lists.{at}
use Rattle.group_types.specs.Shape.{IsShape}
use Rattle.group_calls.specs.declared.event.Event.{Event}
use Rattle.group_run.specs.Headline.{MayCome}
use Rattle.group_run.specs.Locality.{occurrences}
use Rattle.group_run.specs.World.{World, names}
use Rattle.group_node.specs.Standing.{NodeStanding}
use Rattle.group_stage.specs.Kept.{most_calls}
use Rattle.group_stage.specs.Places.{slot_of, word_of}
use Rattle.group_stage.specs.Schedules.{ask_by, standing_at}
use Rattle.group_stage.specs.Steps.{Knows, Sat}
use Rattle.group_stage.specs.Views.{asks_by, held_rest, holding, with_met, with_node_held}
use Rattle.group_stage.specs.declared.view.Plan.{Plan}
use Rattle.group_stage.specs.declared.view.View.{View}

-- a seat that is between two calls, and may make one more
pub record IsIdle (m : Sat) : Type 0 where
  pub part : m.0.parts ≡ 1
  pub calls : m.0.calls < most_calls
  pub idle : m.0.held ≡ []
  pub slots : m.1 ≡ []

-- the call of an event may begin at a process
pub record CanBegin (plan : Plan) (v : View) (e : Event) (p : ℕ) : Type 0 where
  pub part : v.parts ≡ 1
  pub calls : v.calls < most_calls
  pub idle : v.held ≡ []
  pub within : p < processes_of plan.shape
  pub named : 0 < occurrences p (names plan.shape e)

-- a call may go on with a further process, which comes behind all whose nodes it holds
pub record CanTake (plan : Plan) (v : View) (p : ℕ) : Type 0 where
  pub part : v.parts ≡ 1
  pub due : v.due ≡ 1
  pub within : p < processes_of plan.shape
  pub named : 0 < occurrences p (names plan.shape v.call)
  pub order : Each (λ h. h.0 < p) v.held

-- a call may become an event: all nodes that it names are held, and it may come
pub record CanCommit (plan : Plan) (v : View) : Type 0 where
  pub part : v.parts ≡ 1
  pub due : v.due ≡ 1
  pub holds : (q : ℕ) → q < processes_of plan.shape → 0 < occurrences q (names plan.shape v.call) → 0 < holding q v
  pub own : (c : ℕ) → occurrences c v.numbers ≡ 0 → ask_by c v.call ≡ 0
  pub may : (w : World) → w.shape ≡ plan.shape → ((c : ℕ) → 0 < occurrences c v.numbers → at 0 w.asked c ≡ asks_by c v.made) → MayCome w v.call

-- a node is the one that was taken last, and its slot, whatever is there, is the seat's
pub record HasLast (plan : Plan) (m : Sat) (p : ℕ) (y : NodeStanding) (there : Option NodeStanding) : Type 0 where
  pub part : m.0.parts ≡ 1
  pub within : p < processes_of plan.shape
  pub held : m.0.held ≡ (p, y) ∷ held_rest m.0.held
  pub slot : m.1 ≡ (slot_of p, there) ∷ rest m.1

-- a caller number may be drawn
pub record CanDraw (v : View) : Type 0 where
  pub parts : 0 < v.parts
  pub pen : 0 < v.pens
  pub numbers : v.numbers ≡ []

-- a seat may be cut in two
pub record CanPart (v : View) : Type 0 where
  pub parts : 1 < v.parts
  pub calls : v.calls ≤ most_calls
  pub numbers : length v.numbers ≤ 1

-- two seats may be joined
pub record CanJoin (v : View) (w : View) : Type 0 where
  pub parts : 0 < v.parts
  pub idle : v.held ≡ []
  pub other_parts : 0 < w.parts
  pub other_idle : w.held ≡ []

-- the words and the slots at the start
pub record IsAtStart (plan : Plan) (ws : List ℕ) (xs : List (Option NodeStanding)) : Type 0 where
  pub limits : IsShape plan.shape
  pub seats : plan.callers ≤ callers
  pub words : ws ≡ replicate (word_of (processes_of plan.shape + 2)) 0
  pub long : length xs ≡ slot_of (processes_of plan.shape)
  pub home : (p : ℕ) → p < processes_of plan.shape → get_elem? xs (slot_of p) ≡ maybe.some (Some (standing_at plan.shape [] p))

-- a node is in hand, as it stands in the run of the schedule
pub record InHand (v : View) (p : ℕ) (slots : List (ℕ × Option NodeStanding)) (y : NodeStanding) (w : Sat) (es : List Event) : Type 0 where
  pub node : y ≡ standing_at v.shape es p
  pub knows : Knows es (with_node_held v p y)
  pub seat : w ≡ (with_node_held v p y, (slot_of p, None) ∷ slots)

-- a process's node is in hand, or its word was met held
abbrev pub Took : View → ℕ → List (ℕ × Option NodeStanding) → Option NodeStanding → Sat → Type 0
Took v p slots (Some y) w = (es : List Event) × InHand v p slots y w es
Took v p slots None w = w ≡ (with_met v p, slots)

-- a call of one process may become an event: the node in hand has treated it as the machine does
pub record CanFinish (plan : Plan) (m : Sat) (p : ℕ) (new : NodeStanding) : Type 0 where
  pub old : NodeStanding
  pub within : p < processes_of plan.shape
  pub can : CanCommit plan m.0
  pub held : m.0.held ≡ (p, old) ∷ []
  pub slot : m.1 ≡ (slot_of p, None) ∷ []
  pub treated : (es : List Event) → Knows es m.0 → new ≡ standing_at m.0.shape (es ++ m.0.call ∷ []) p

-- a call of two processes may become an event: both nodes in hand, the second taken last, have treated it as the machine does
pub record CanFinishTwo (plan : Plan) (m : Sat) (p q : ℕ) (first second : NodeStanding) : Type 0 where
  pub old : NodeStanding
  pub next : NodeStanding
  pub within : p < processes_of plan.shape
  pub next_within : q < processes_of plan.shape
  pub can : CanCommit plan m.0
  pub held : m.0.held ≡ (q, next) ∷ (p, old) ∷ []
  pub slot : m.1 ≡ (slot_of q, None) ∷ (slot_of p, None) ∷ []
  pub treated : (es : List Event) → Knows es m.0 → first ≡ standing_at m.0.shape (es ++ m.0.call ∷ []) p
  pub next_treated : (es : List Event) → Knows es m.0 → second ≡ standing_at m.0.shape (es ++ m.0.call ∷ []) q

-- both nodes are those that were taken last
pub record HasTwo (plan : Plan) (m : Sat) (p q : ℕ) (first second : NodeStanding) : Type 0 where
  pub part : m.0.parts ≡ 1
  pub within : p < processes_of plan.shape
  pub next_within : q < processes_of plan.shape
  pub held : m.0.held ≡ (q, second) ∷ (p, first) ∷ []
  pub slot : m.1 ≡ (slot_of q, None) ∷ (slot_of p, None) ∷ []
