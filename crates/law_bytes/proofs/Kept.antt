-- Every move keeps each session at one block and one stamp, under what other laws say.
use Rattle.std.specs.Prelude.{ℕ, ◌≡◌, ◌≢◌, ◌<◌, false, List, Some}
use Rattle.group_types.specs.Dimensions.{Dimensions, space_of}
use Rattle.group_types.specs.Names.{IsProcess}
use Rattle.group_types.specs.Shape.{IsShape}
use Rattle.group_types.specs.declared.process.ProcessId.{ProcessId}
use Rattle.group_types.specs.Each.{Each}
use Rattle.group_message.specs.declared.message.Message.{Message}
use Rattle.group_message.specs.declared.message.Message.TheVariants as tells
use Rattle.group_message.specs.declared.update.Update.{Update}
use Rattle.group_calls.specs.declared.decision.Decision.TheVariants as decides
use Rattle.memc_table.specs.Asked.{Asked}
use Rattle.group_run.specs.Applying.{ProcessStep, head_at, replica_of}
use Rattle.group_run.specs.Asking.{found_at}
use Rattle.group_run.specs.Deciding.{decide}
use Rattle.group_run.specs.Process.{Head, Process}
use Rattle.group_run.specs.Receiving.{receive}
use Rattle.law_moves.proofs.Moves.{Acted, Died, Popped, Treats}
use Rattle.law_moves.specs.State.{State}
use Rattle.law_moves.proofs.State.{Opens}
use Rattle.law_moves.proofs.Members.{IsParity, Members}
use Rattle.law_bytes.proofs.Held.{HoldsBytes}
use Rattle.law_bytes.proofs.Premises.{AppliesSettled, MarksNew, NextIsNew}
use Rattle.law_bytes.proofs.LeadingWords.{SessionsFit}
use Rattle.law_bytes.proofs.Tokens.{TokensHold}
use Rattle.law_bytes.proofs.Stamps.{SessionsStand}
use Rattle.law_bytes.specs.Areas.{SettledWrite}

-- what other laws say of a step of a process, with the updates that are settled after it
pub record StepSettles (s : Dimensions) (settled : ℕ → List Update) (p : Process) (t : ProcessStep) : Type 0 where
  pub write : SettledWrite s settled
  pub applies : AppliesSettled s settled p t

-- a block that a head needs rebuilt first is one of its space
abbrev pub NeedsInside : Dimensions → Process → Type 0
NeedsInside s p = (d : ℕ) (h : Head) (op : Asked) (b : ℕ) → d < s.k → head_at p d ≡ Some h
    → decide (space_of s) h.inherited (replica_of p d) op (found_at s d p p.name) ≡ decides.NeedBlock b → b < s.blocks

-- marks, blocks and rows are of a parity process's session
abbrev pub IsLed : Message → Type 0
IsLed (tells.Mark session r block d n) = IsParity session.leader
IsLed (tells.Block session bytes n) = IsParity session.leader
IsLed (tells.Row session bytes stamp) = IsParity session.leader
IsLed _ = Unit {0}

-- all that are in a link into a living process are so
abbrev pub MessagesLed : Dimensions → State → Type 0
MessagesLed s v = (x q : ProcessId) → IsProcess s x → IsProcess s q → x ≢ q → v.dead q ≡ false → Each IsLed (v.link x q)

-- what other laws say of a state: who is in the group, what bytes there are, that a session has at most one token
-- for a partition and a row, and what sessions are for
pub record Backed (s : Dimensions) (v : State) : Type 0 where
  pub members : Members s v
  pub led : MessagesLed s v
  pub tokens : TokensHold s v
  pub fits : SessionsFit s v
  pub bytes : HoldsBytes s v

-- every move keeps it
pub record StampsKept (s : Dimensions) : Type 0 where
  pub opens : (v : State) → Opens s v → SessionsStand s v
  pub treats : (v w : State) (p : ProcessId) (t : ProcessStep) → IsProcess s p → v.dead p ≡ false → Treats s (v.process p) t → Backed s v → Members s w
      → NextIsNew s (v.process p) → NeedsInside s (v.process p)
      → StepSettles s w.settled (v.process p) t → Acted s v w p t → SessionsStand s v → SessionsStand s w
  pub receives : (v u w : State) (x p : ProcessId) (m : Message) → IsProcess s x → IsProcess s p → x ≢ p
      → v.dead p ≡ false → Backed s v → Members s w → MarksNew m (v.process p)
      → StepSettles s w.settled (v.process p) (receive s x m (v.process p)) → Popped s v u x p m
      → Acted s u w p (receive s x m (v.process p)) → SessionsStand s v → SessionsStand s w
  pub dies : (v w : State) (p : ProcessId) (keep : ℕ) → IsProcess s p → Died s v w p keep → SessionsStand s v → SessionsStand s w

-- so it is for every shape
abbrev pub StampsAlwaysKept : Type 0
StampsAlwaysKept = (s : Dimensions) → IsShape s → StampsKept s
