-- What marks, blocks and rows carry on their way: settled numbers, and the bytes of a block at them.
use Rattle.std.specs.Prelude.{ℕ, ◌≡◌, ◌≢◌, ◌<◌, ◌≤◌, false, List, length, take}
use Rattle.group_types.specs.Dimensions.{Dimensions}
use Rattle.group_types.specs.Lists.{at}
use Rattle.group_types.specs.Names.{IsProcess}
use Rattle.group_types.specs.Shape.{IsShape}
use Rattle.group_types.specs.declared.process.ProcessId.{ProcessId}
use Rattle.group_types.specs.declared.process.ProcessId.TheVariants.{DataNode, ParityNode}
use Rattle.group_types.specs.Each.{Each}
use Rattle.group_message.specs.declared.message.Message.{Message}
use Rattle.group_message.specs.declared.message.Message.TheVariants as tells
use Rattle.group_message.specs.declared.update.Update.{Update}
use Rattle.group_run.specs.Applying.{ProcessStep}
use Rattle.group_run.specs.Receiving.{receive}
use Rattle.law_moves.proofs.Moves.{Acted, Died, Popped, Treats}
use Rattle.law_moves.specs.State.{State}
use Rattle.law_moves.proofs.State.{Opens}
use Rattle.law_moves.proofs.Members.{Members}
use Rattle.law_bytes.specs.Areas.{IsBlock, code, value}
use Rattle.law_bytes.proofs.Held.{HoldsBytes}
use Rattle.law_bytes.proofs.Law.{StepIsRight}
use Rattle.law_bytes.proofs.Premises.{MarksNew}

-- the settled updates of each partition up to the numbers of a stamp
abbrev pub stamp_stand : (ℕ → List Update) → List ℕ → ℕ → List Update
stamp_stand settled stamp d = take (at 0 stamp d) (settled d)

-- a data process's block has its values up to the number, which is settled
abbrev pub BlockIs : Dimensions → (ℕ → List Update) → ProcessId → List ℕ → ℕ → Type 0
BlockIs s settled (DataNode d) bytes n = (n ≤ length (settled d)) × ((b : ℕ) × IsBlock s b (value (take n (settled d))) bytes)
BlockIs s settled (ParityNode i) bytes n = Unit {0}

-- a row is the code at its stamp, which is settled
abbrev pub RowIs : Dimensions → (ℕ → List Update) → ProcessId → List ℕ → List ℕ → Type 0
RowIs s settled (DataNode d) bytes stamp = Unit {0}
RowIs s settled (ParityNode i) bytes stamp = ((d : ℕ) → d < s.k → at 0 stamp d ≤ length (settled d))
    × ((b : ℕ) × IsBlock s b (code s i (stamp_stand settled stamp)) bytes)

-- a message from x carries what it should
abbrev pub Exact : Dimensions → (ℕ → List Update) → ProcessId → Message → Type 0
Exact s settled x (tells.Mark session r block d n) = n ≤ length (settled d.0)
Exact s settled x (tells.Block session bytes n) = BlockIs s settled x bytes n
Exact s settled x (tells.Row session bytes stamp) = RowIs s settled x bytes stamp
Exact s settled x _ = Unit {0}

-- every message in a link into a living process does
abbrev pub MessagesExact : Dimensions → State → Type 0
MessagesExact s v = (x q : ProcessId) → IsProcess s x → IsProcess s q → x ≢ q → v.dead q ≡ false → Each (Exact s v.settled x) (v.link x q)

-- every move keeps it, under the premises of the law of bytes
pub record ExactKept (s : Dimensions) : Type 0 where
  pub opens : (v : State) → Opens s v → MessagesExact s v
  pub treats : (v w : State) (p : ProcessId) (t : ProcessStep) → IsProcess s p → v.dead p ≡ false
      → Treats s (v.process p) t → Members s v → Members s w → HoldsBytes s v → MessagesExact s v
      → StepIsRight s w.settled (v.process p) t → Acted s v w p t → MessagesExact s w
  pub receives : (v u w : State) (x p : ProcessId) (m : Message) → IsProcess s x → IsProcess s p → x ≢ p
      → v.dead p ≡ false → Members s v → Members s w → HoldsBytes s v → MessagesExact s v
      → MarksNew m (v.process p) → StepIsRight s w.settled (v.process p) (receive s x m (v.process p))
      → Popped s v u x p m → Acted s u w p (receive s x m (v.process p)) → MessagesExact s w
  pub dies : (v w : State) (p : ProcessId) (keep : ℕ) → IsProcess s p → MessagesExact s v → Died s v w p keep → MessagesExact s w

-- so it is for every shape
abbrev pub ExactAlwaysKept : Type 0
ExactAlwaysKept = (s : Dimensions) → IsShape s → ExactKept s
