-- The law of bytes: every move keeps them right, where what it applies is settled, what it marks is new, and
-- what it rebuilds is right.
use Rattle.std.specs.Prelude.{ℕ, ◌≡◌, ◌≢◌, false, List}
use Rattle.group_types.specs.Dimensions.{Dimensions}
use Rattle.group_types.specs.Names.{IsProcess}
use Rattle.group_types.specs.Shape.{IsShape}
use Rattle.group_types.specs.declared.process.ProcessId.{ProcessId}
use Rattle.group_message.specs.declared.message.Message.{Message}
use Rattle.group_message.specs.declared.update.Update.{Update}
use Rattle.group_run.specs.Applying.{ProcessStep}
use Rattle.group_run.specs.Process.{Process}
use Rattle.group_run.specs.Receiving.{receive}
use Rattle.law_moves.proofs.Moves.{Acted, Died, Popped, Treats}
use Rattle.law_moves.specs.State.{State}
use Rattle.law_moves.proofs.State.{Opens}
use Rattle.law_moves.proofs.Members.{Members}
use Rattle.law_bytes.proofs.Held.{HoldsBytes}
use Rattle.law_bytes.proofs.Premises.{AppliesSettled, SettlesNext, MarksNew, NextIsNew, RebuildsRight}
use Rattle.law_bytes.specs.Areas.{SettledWrite}

-- what other laws say of a step of a process, with the updates that are settled after it
pub record StepIsRight (s : Dimensions) (settled : ℕ → List Update) (p : Process) (t : ProcessStep) : Type 0 where
  pub write : SettledWrite s settled
  pub applies : AppliesSettled s settled p t
  pub rebuilds : RebuildsRight s settled p t.process

-- every move keeps the bytes right
pub record BytesKept (s : Dimensions) : Type 0 where
  pub opens : (v : State) → Opens s v → HoldsBytes s v
  pub treats : (v w : State) (p : ProcessId) (t : ProcessStep) → IsProcess s p → v.dead p ≡ false → Treats s (v.process p) t → Members s v → HoldsBytes s v
      → NextIsNew s (v.process p) → StepIsRight s w.settled (v.process p) t → SettlesNext s w.settled (v.process p) t → Acted s v w p t → HoldsBytes s w
  pub receives : (v u w : State) (x p : ProcessId) (m : Message) → IsProcess s x → IsProcess s p → x ≢ p → v.dead p ≡ false → Members s v → HoldsBytes s v
      → MarksNew m (v.process p) → StepIsRight s w.settled (v.process p) (receive s x m (v.process p))
      → Popped s v u x p m → Acted s u w p (receive s x m (v.process p)) → HoldsBytes s w
  pub dies : (v w : State) (p : ProcessId) (keep : ℕ) → IsProcess s p → HoldsBytes s v → Died s v w p keep → HoldsBytes s w

-- so it is for every shape
abbrev pub BytesAlwaysKept : Type 0
BytesAlwaysKept = (s : Dimensions) → IsShape s → BytesKept s
