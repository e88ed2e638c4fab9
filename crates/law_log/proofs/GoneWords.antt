-- Calls that were told to be gone from a partition: no history of it has an update of theirs, then or later.
use Rattle.std.specs.Prelude.{ℕ, ◌≡◌, ◌≢◌, ◌<◌, List, [], Contains}
use Rattle.group_types.specs.Dimensions.{Dimensions}
use Rattle.group_types.specs.Lists.{at}
use Rattle.group_types.specs.Each.{Each}
use Rattle.group_message.specs.declared.update.Update.{Update}
use Rattle.group_calls.specs.Turns.{CallName, Turn}
use Rattle.group_calls.specs.Within.{Traces}
use Rattle.group_calls.specs.declared.event.Answer.TheVariants as says
use Rattle.group_run.specs.History.{History}
use Rattle.group_run.specs.World.{update_name}
use Rattle.law_moves.specs.State.{state_of}
use Rattle.law_moves.proofs.Members.{Members}
use Rattle.law_histories.proofs.Reach.{Reach}
use Rattle.law_log.specs.Stands.{GoneStays, StandsAlways}

-- no update of a history is of this call
abbrev pub IsUnnamed : CallName → List Update → Type 0
IsUnnamed name history = Each (λ u. update_name u ≢ name) history

-- a history of partition d has no update of a call that a turn told to be gone from there
abbrev pub IsClean : List Turn → ℕ → ℕ → List Update → Type 0
IsClean turns d applied history = (turn : Turn) (name : CallName) → Contains turns turn → Traces turn.event name d
    → turn.answer ≡ says.Gone → IsUnnamed name history

-- a traced call was asked, and its partition is one of the group
abbrev pub TracesAsked : ℕ → List ℕ → List Turn → Type 0
TracesAsked k asked turns = (turn : Turn) (name : CallName) (d : ℕ) → Contains turns turn → Traces turn.event name d
    → (d < k) × (name.call < at 0 asked name.caller)

-- every replica, every link and what is settled are clean of what was told to be gone, of calls that were asked
pub record GoneStand (h : History) (turns : List Turn) : Type 0 where
  pub members : Members h.world.shape (state_of h)
  pub reach : Reach (IsClean turns) h.world.shape (state_of h)
  pub settled : (d : ℕ) → d < h.world.shape.k → IsClean turns d 0 (at [] h.settled d)
  pub asked : TracesAsked h.world.shape.k h.world.asked turns

-- where heads stand along every run, what is told to be gone stays so
abbrev pub GoneIsKept : Type 0
GoneIsKept = (s : Dimensions) → StandsAlways s → GoneStays s
