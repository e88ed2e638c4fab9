-- What a run of a group on its machines is to the machine: a run, in which those who haven't failed are what they are here.
use Rattle.std.specs.Prelude.{ℕ, ◌≡◌, ◌≢◌, ◌≤◌, ◌⊎◌, Bool, true, false, List, [], ◌∷◌, ◌++◌, map, Some}
use Rattle.group_types.specs.Dimensions.{Dimensions}
use Rattle.group_types.specs.Names.{IsProcess}
use Rattle.group_types.specs.declared.process.ProcessId.{ProcessId}
use Rattle.group_message.specs.declared.message.Message.{Message}
use Rattle.group_message.specs.declared.message.Message.TheVariants as tells
use Rattle.group_run.specs.Fitting.{Fits}
use Rattle.group_run.specs.Headline.{Headline, IsRun}
use Rattle.group_run.specs.Meaning.{IsDown, is_dead, link, process_of}
use Rattle.group_run.specs.World.{World, after, turns_of}
use Rattle.group_wire.specs.Actions.{Action, Receive, Take}
use Rattle.group_run.specs.Causes.{asks_among}
use Rattle.group_wire.specs.Composed.{AreActions, Composed, composed, events_of}
use Rattle.group_wire.specs.May.{MayAct}
use Rattle.group_wire.specs.Sets.{one_or, size_of}
use Rattle.group_wire.specs.State.{OpenCall, AskedOf, gateway_of}

-- a member that hasn't failed
pub record HasNotFailed (c : Composed) (p : ProcessId) : Type 0 where
  pub member : IsProcess c.group.shape p
  pub lives : c.failed p ≡ false

-- the machine after the events that the members made
abbrev pub machine : Composed → World
machine c = after c.group.shape (events_of c)

-- the machine's link has what is on the wire, and behind it what was sent behind the sender's cut
pub record Carried (cut : Bool) (link wire : List Message) : Type 0 where
  pub lost : List Message
  pub is : link ≡ wire ++ lost
  pub whole : cut ≡ false → lost ≡ []

-- the members' events are a run of the machine
pub record IsComposed (c : Composed) : Type 0 where
  -- of events that may come, with the answers that the members gave
  pub run : IsRun c.group.shape (events_of c)
  pub answers : map (λ t. t.answer) (turns_of c.group.shape (events_of c)) ≡ map (λ x. x.answer) c.made
  -- whose dead are those who have failed, at most m, so that it isn't down
  pub dead : (p : ProcessId) → IsProcess c.group.shape p → is_dead (machine c) p ≡ c.failed p
  pub few : size_of c.group.shape c.failed ≤ c.group.shape.m
  pub up : ¬ (IsDown (machine c))
  -- in which a member that hasn't failed is the process that it has
  pub processes : (p : ProcessId) → HasNotFailed c p → process_of (machine c) p ≡ c.group.works.process p
  -- the links between such members are the wires', and one from a member that has failed holds its notice until it is taken
  pub links : (p q : ProcessId) → HasNotFailed c p → HasNotFailed c q → p ≢ q
      → Carried (c.group.words.cut p q) (link (machine c) p q) (c.group.works.messages p q)
  pub notices : (x p : ProcessId) → IsProcess c.group.shape x → c.failed x ≡ true → HasNotFailed c p
      → link (machine c) x p ≡ one_or (c.group.words.taken p x) [] (tells.Notice x ∷ [])
  -- from when on the link to the one that has failed is empty
  pub gone : (p x : ProcessId) → HasNotFailed c p → IsProcess c.group.shape x → c.group.words.taken p x ≡ true
      → link (machine c) p x ≡ []
  -- so that all is promised of it that is promised of runs
  pub headline : Headline c.group.shape (events_of c)

-- so it is of every run
abbrev pub RunsCompose : Type 0
RunsCompose = (s : Dimensions) (actions : List Action) → AreActions s actions → IsComposed (composed s actions)

-- a caller whose gateway hasn't failed has asked as often as its gateway says, or once less while the last ask hasn't been
-- treated
abbrev pub IsPositioned : Composed → ℕ → Type 0
IsPositioned c caller = (asks_among caller (events_of c) ≡ c.group.gateways.next caller)
    ⊎ ((o : OpenCall) × (x : ProcessId) × (c.group.gateways.call caller ≡ Some o) × (o.stage ≡ AskedOf x) × (asks_among caller (events_of c) ≡ o.position))

abbrev pub PositionsAlways : Type 0
PositionsAlways = (s : Dimensions) (actions : List Action) (caller : ℕ) → AreActions s actions
    → (composed s actions).failed (gateway_of s caller) ≡ false → IsPositioned (composed s actions) caller

-- a message that may be received by a member that hasn't failed fits what its process holds, and so does the notice of a
-- death that it may take: no such member stops for a misfit
abbrev pub MisfitsNeverCome : Type 0
MisfitsNeverCome = (s : Dimensions) (actions : List Action) (x p : ProcessId) (m : Message) (rest : List Message) → AreActions s actions
    → HasNotFailed (composed s actions) p
    → MayAct (composed s actions).group (Receive x p) → (composed s actions).group.works.messages x p ≡ m ∷ rest
    → Fits s x m ((composed s actions).group.works.process p)

abbrev pub NoticesFit : Type 0
NoticesFit = (s : Dimensions) (actions : List Action) (x p : ProcessId) → AreActions s actions → HasNotFailed (composed s actions) p
    → MayAct (composed s actions).group (Take x p) → Fits s x (tells.Notice x) ((composed s actions).group.works.process p)
