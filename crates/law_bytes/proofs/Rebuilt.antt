-- A block that is newly rebuilt is one of the settled values of a lost partition, at a number which the leader has
-- applied, and which isn't below what it inherited.
use Rattle.std.specs.Prelude.{ℕ, ◌≡◌, ◌≢◌, ◌<◌, ◌≤◌, true, false, List, take, Some, None, IfSome}
use Rattle.group_types.specs.Dimensions.{Dimensions}
use Rattle.group_types.specs.Names.{IsProcess}
use Rattle.group_types.specs.Shape.{IsShape}
use Rattle.group_types.specs.declared.process.ProcessId.{ProcessId}
use Rattle.group_types.specs.declared.process.ProcessId.TheVariants.{DataNode, ParityNode}
use Rattle.membership.specs.Members.{Membership, knows_dead}
use Rattle.group_message.specs.declared.message.Message.{Message}
use Rattle.group_message.specs.declared.update.Update.{Update}
use Rattle.group_run.specs.Applying.{ProcessStep, head_at, replica_of}
use Rattle.group_run.specs.Leaders.{open_session, rebuilt_block}
use Rattle.group_run.specs.Process.{Gathering, Process}
use Rattle.group_run.specs.Receiving.{receive}
use Rattle.law_moves.proofs.Moves.{Acted, Popped, Treats}
use Rattle.law_moves.specs.State.{IsGroupUp, State}
use Rattle.law_moves.proofs.Members.{Members}
use Rattle.law_bytes.specs.Areas.{IsBlock, value, SettledWrite}
use Rattle.law_bytes.specs.Decoding.{GathersRight}
use Rattle.law_bytes.proofs.Premises.{MarksNew, NextIsNew}
use Rattle.law_bytes.specs.Leading.{SessionsSound}
use Rattle.law_bytes.proofs.Kept.{Backed, NeedsInside, StepSettles}
use Rattle.law_bytes.proofs.Stamps.{Plan, SessionFollows, SessionsStand, planned}

-- what is known of a rebuilt block at its process, which knows who is dead
pub record GivenAt (s : Dimensions) (settled : ℕ → List Update) (known : Membership) (p : Process) (d b : ℕ) (bytes : List ℕ) : Type 0 where
  pub number : ℕ
  pub values : IsBlock s b (value (take number (settled d))) bytes
  pub lost : knows_dead known (DataNode d) ≡ true
  pub applied : number ≤ (replica_of p d).applied
  pub inherited : IfSome (head_at p d) (λ h. h.inherited ≤ number)

-- a block that wasn't rebuilt before a step, and is after it, is given so
abbrev pub RebuildsGiven : Dimensions → (ℕ → List Update) → Process → Process → Type 0
RebuildsGiven s settled p q = (d b : ℕ) (bytes : List ℕ) → d < s.k → rebuilt_block p.as_leader d b ≡ None
    → rebuilt_block q.as_leader d b ≡ Some bytes → GivenAt s settled p.known q d b bytes

-- every step rebuilds so
pub record StepsRebuild (s : Dimensions) : Type 0 where
  pub treats : (v w : State) (p : ProcessId) (t : ProcessStep) → IsProcess s p → IsGroupUp s v → v.dead p ≡ false → Treats s (v.process p) t → Backed s v
      → Members s w → NextIsNew s (v.process p) → NeedsInside s (v.process p)
      → StepSettles s w.settled (v.process p) t → Acted s v w p t → SessionsStand s v → RebuildsGiven s w.settled (v.process p) t.process
  pub receives : (v u w : State) (x p : ProcessId) (m : Message) → IsProcess s x → IsProcess s p → x ≢ p → IsGroupUp s v
      → v.dead p ≡ false → Backed s v → Members s w → MarksNew m (v.process p)
      → StepSettles s w.settled (v.process p) (receive s x m (v.process p)) → Popped s v u x p m
      → Acted s u w p (receive s x m (v.process p)) → SessionsStand s v
      → RebuildsGiven s w.settled (v.process p) (receive s x m (v.process p)).process

-- so it is for every shape
abbrev pub StepsAlwaysRebuild : Type 0
StepsAlwaysRebuild = (s : Dimensions) → IsShape s → StepsRebuild s

-- an open session of a living leader gathers right, at the numbers of a plan
abbrev pub SessionsGather : Type 0
SessionsGather = (s : Dimensions) (v : State) → SessionsSound s v → IsGroupUp s v → SettledWrite s v.settled
    → SessionsStand s v → (l n : ℕ) (g : Gathering) → l < s.m → v.dead (ParityNode l) ≡ false
    → (v.process (ParityNode l)).name ≡ ParityNode l → open_session (v.process (ParityNode l)).as_leader n ≡ Some g
    → (plan : Plan) × SessionFollows s v l n plan × GathersRight s (planned v.settled plan) g
