-- What becomes of a request that a member has read, or has sent itself.
use Rattle.std.specs.Prelude.{ℕ, ◌≡◌, ◌↔◌, true, false, IsTrue, List, [], ◌∷◌, length, Option, Some, None}
use Rattle.group_types.specs.Dimensions.{Dimensions}
use Rattle.group_run.specs.Applying.{Settlement}
use Rattle.group_run.specs.Process.{Node, Process}
use Rattle.group_run.specs.World.{NodeStep, ask_node, trace_node}
use Rattle.group_node.specs.Asking.{HasOpened}
use Rattle.group_wire.specs.Actions.{Action, Learn, Read, Send, Treat}
use Rattle.group_wire.specs.Sending.{treating}
use Rattle.group_wire.specs.State.{Request, AskFor, TraceOf}
use Rattle.group_member.specs.Acting.{ActsHanding, answer_handed}
use Rattle.group_member.specs.Callers.{CanBeAsked, ask_of}
use Rattle.group_member.specs.Requests.{CanTreat, is_early}
use Rattle.group_member.specs.Standing.{Member}
use Rattle.group_member.specs.declared.serving.Treatment.{Treatment}
use Rattle.group_member.specs.declared.serving.Treatment.TheVariants.{Early, Made}

-- a request is treated at a node
abbrev pub treat_node : Dimensions → Request → Node → NodeStep
treat_node s (AskFor caller call op) node = ask_node s (record { caller = caller; call = call }) op node
treat_node s (TraceOf caller call d) node = trace_node s caller call d node

-- the updates that settle by a request
abbrev pub settled_at_request : Dimensions → Process → Option Request → List Settlement
settled_at_request s p None = []
settled_at_request s p (Some r) = (treating s r p).step.settled

-- it came too early, and waits on; or it was treated, and its answer is handed out, unless the caller is the member's own,
-- which learns it at once
abbrev pub HasTreatedIt : ℕ → Request → Member → Member → Treatment → Type 0
HasTreatedIt place r before after (Early answer) =
    (answer ≡ (treating before.words.shape r before.node.process).answer) × (is_early r answer ≡ true) × (after ≡ before)
HasTreatedIt place r before after (Made told settled opened) =
    ActsHanding (Treat before.words.name place ∷ Learn before.words.name before.words.name ∷ []) (answer_handed before.words.shape told) before after
    × (settled.items ≡ (treating before.words.shape r before.node.process).step.settled)
    × (IsTrue opened ↔ HasOpened before.node.process after.node.process)
    × (is_early r (treating before.words.shape r before.node.process).answer ≡ false)

abbrev pub HasTreated : ℕ → Option Request → Member → Member → Treatment → Type 0
HasTreated place None before after made = ⊥
HasTreated place (Some r) before after made = HasTreatedIt place r before after made

-- a member that sends a request to itself reads it, treats it, behind what it has read, and learns its answer
abbrev pub sent_here : Member → ℕ → List Action
sent_here v caller =
    Send caller v.words.name ∷ Read v.words.name v.words.name ∷ Treat v.words.name (length v.parked) ∷ Learn v.words.name v.words.name ∷ []

-- a call can be asked of the member's own process
pub record CanAskHere (v : Member) (caller : ℕ) : Type 0 where
  pub call : CanBeAsked v.callers caller
  pub numbers : CanTreat v.words.shape v.node.process (ask_of v.callers caller)
