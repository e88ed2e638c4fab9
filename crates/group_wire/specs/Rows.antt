-- What rows say: schedules of actions, and what comes of them by computation.
use Rattle.std.specs.Prelude.{ℕ, ◌≡◌, ◌+◌, List, [], ◌∷◌, ◌++◌, map, filter, Option, Some, None, slice_get, take}
use Rattle.std.specs.List.{range_with_len}
use Rattle.group_types.specs.Dimensions.{Dimensions}
use Rattle.group_types.specs.Names.{process_at}
use Rattle.group_types.specs.declared.process.ProcessId.{ProcessId}
use Rattle.group_types.specs.declared.process.ProcessId.TheVariants.{DataNode, ParityNode}
use Rattle.memc_table.specs.Asked.{Asked}
use Rattle.memc_table.specs.declared.act.Act.{Act}
use Rattle.group_message.specs.declared.message.Message.{Message}
use Rattle.group_message.specs.declared.message.Message.TheVariants as tells
use Rattle.group_calls.specs.declared.event.Answer.{Answer}
use Rattle.group_run.specs.Meaning.{link}
use Rattle.group_run.specs.World.{turns_of}
use Rattle.group_wire.specs.Actions.{Action, Cut, Permit, Show, Take}
use Rattle.group_wire.specs.Composed.{AreActions, Composed, composed, composed_with, events_of, opening_composed}
use Rattle.group_wire.specs.Composition.{machine}
use Rattle.group_wire.specs.May.{MayAct}
use Rattle.group_wire.specs.State.{Stage, Answered, OpenCall}

abbrev pub d0 : ProcessId
d0 = DataNode 0

abbrev pub d1 : ProcessId
d1 = DataNode 1

abbrev pub d2 : ProcessId
d2 = DataNode 2

abbrev pub p0 : ProcessId
p0 = ParityNode 0

abbrev pub p1 : ProcessId
p1 = ParityNode 1

-- a group of three blocks of 16 bytes
abbrev pub small : ℕ → ℕ → Dimensions
small k m = record { k = k; m = m; blocks = 3; block = 16 }

abbrev pub op : Act → Asked
op a = record { moment = 0; act = a }

-- what an action shows: the caller, and the answer
abbrev pub answer_shown : ℕ → Stage → List (ℕ × Answer)
answer_shown caller (Answered t pinged) = (caller, t.answer) ∷ []
answer_shown caller _ = []

abbrev pub answer_of : ℕ → Option OpenCall → List (ℕ × Answer)
answer_of caller None = []
answer_of caller (Some o) = answer_shown caller o.stage

abbrev pub shown_by : Composed → Action → List (ℕ × Answer)
shown_by c (Show caller ping) = answer_of caller (c.group.gateways.call caller)
shown_by c _ = []

abbrev pub shown_from : Composed → List Action → List (ℕ × Answer)
shown_from c [] = []
shown_from c (a ∷ rest) = shown_by c a ++ shown_from (composed_with c a) rest

-- the members that have failed, in order
abbrev pub lost_at : Composed → List ProcessId
lost_at c = filter c.failed (map (process_at c.group.shape) (range_with_len 0 (c.group.shape.k + c.group.shape.m)))

-- a schedule, of actions that may come: the answers of the events that it makes, what it shows, and who has failed in the end
pub record ScheduleRow (s : Dimensions) (actions : List Action) (answers : List Answer) (shown : List (ℕ × Answer)) (lost : List ProcessId) : Type 0 where
  pub may : AreActions s actions
  pub answered : map (λ x. x.answer) (composed s actions).made ≡ answers
  pub same : map (λ t. t.answer) (turns_of s (events_of (composed s actions))) ≡ answers
  pub shows : shown_from (opening_composed s) actions ≡ shown
  pub fails : lost_at (composed s actions) ≡ lost

-- the kind of a message, as frames have it
abbrev pub message_kind : Message → ℕ
message_kind (tells.Update _ _ _ _) = 1
message_kind (tells.Ack _ _ _) = 2
message_kind (tells.Stable _ _ _) = 3
message_kind (tells.Adopt _ _ _ _) = 4
message_kind (tells.ReadBlock _ _ _) = 5
message_kind (tells.Block _ _ _) = 6
message_kind (tells.Mark _ _ _ _ _) = 7
message_kind (tells.Row _ _ _) = 8
message_kind (tells.Cease _) = 9
message_kind (tells.Notice _) = 10

-- the action at a place of a schedule may not come, while all those before it may
pub record RefusesAction (s : Dimensions) (actions : List Action) (place : ℕ) (wrong : Action) : Type 0 where
  pub there : slice_get actions place ≡ Some wrong
  pub before : AreActions s (take place actions)
  pub refused : ¬ (MayAct (composed s (take place actions)).group wrong)

-- a schedule that doesn't compose: the machine answers other than the members
pub record BreaksAnswers (s : Dimensions) (actions : List Action) (place : ℕ) (wrong : Action) (members machine : List Answer) : Type 0 where
  pub refuses : RefusesAction s actions place wrong
  pub here : map (λ x. x.answer) (composed s actions).made ≡ members
  pub there : map (λ t. t.answer) (turns_of s (events_of (composed s actions))) ≡ machine

-- one that shows what isn't in the log: the callers whose answers were shown, and those of the entries
pub record BreaksShown (s : Dimensions) (actions : List Action) (place : ℕ) (wrong : Action) (shown : List (ℕ × Answer)) (logged : List ℕ) : Type 0 where
  pub refuses : RefusesAction s actions place wrong
  pub shows : shown_from (opening_composed s) actions ≡ shown
  pub log : map (λ e. e.caller) (machine (composed s actions)).log ≡ logged

-- one in which a wire has other messages than the machine's link
pub record BreaksLink (s : Dimensions) (actions : List Action) (place : ℕ) (wrong : Action) (x p : ProcessId) (wire linked : List ℕ) : Type 0 where
  pub refuses : RefusesAction s actions place wrong
  pub here : map message_kind ((composed s actions).group.works.messages x p) ≡ wire
  pub there : map message_kind (link (machine (composed s actions)) x p) ≡ linked

-- a run in which a data process is cut and fails, and its death is taken
abbrev pub AFailureMayCome : Type 0
AFailureMayCome = AreActions (small 1 1) (Cut d0 p0 ∷ Permit p0 ∷ Take d0 p0 ∷ [])
