-- A living parity process that makes a step, of which what it issued is told partition by partition: what was
-- rebuilt stays so, and the other processes' histories are as they were.
use Rattle.std.proofs.Common.{ℕ, ◌≡◌, ◌≢◌, ◌<◌, false, List, drop, Some, ◌⊎◌, inl, inr, refl, sym, subst, ◌∙◌, arith}
use Rattle.group_types.specs.Dimensions.{Dimensions}
use Rattle.group_types.specs.Names.{IsProcess}
use Rattle.group_types.specs.Shape.{IsShape}
use Rattle.group_types.specs.declared.process.ProcessId.{ProcessId}
use Rattle.group_types.specs.declared.process.ProcessId.TheVariants.{ParityNode}
use Rattle.group_types.proofs.Names.{same-cases}
use Rattle.group_types.specs.Each.{Each}
use Rattle.group_message.specs.declared.message.Message.{Message}
use Rattle.group_message.specs.declared.update.Update.{Update}
use Rattle.group_run.specs.Applying.{ProcessStep, head_at, replica_of}
use Rattle.group_run.specs.Process.{Head, Process}
use Rattle.group_run.specs.Receiving.{receive}
use Rattle.group_run.specs.World.{AskedCall}
use Rattle.group_run.specs.History.{history}
use Rattle.law_moves.proofs.Moves.{Acted, Popped, Treats}
use Rattle.law_moves.specs.State.{State}
use Rattle.law_moves.proofs.Members.{MayStand, Members}
use Rattle.law_histories.proofs.Histories.{history-grown}
use Rattle.law_histories.proofs.Reach.{IsKeeper, Reach, ReplicaReaches}
use Rattle.law_histories.proofs.LaneWords.{Prolongs}
use Rattle.law_bytes.proofs.Held.{HoldsBytes}
use Rattle.law_bytes.proofs.Premises.{AppliesSettled, MarksNew, NextIsNew, SettlesNext}
use Rattle.law_bytes.proofs.Applying.{Holding, holding-from, rebuilt_at}
use Rattle.law_bytes.proofs.BytesKeeping.{addressed, before-holds}
use Rattle.law_bytes.proofs.Receipts.{Addresses, received-holds}
use Rattle.law_bytes.proofs.Stepping.{Ready}
use Rattle.law_bytes.proofs.Treating.{treats-hold}
use Rattle.law_bytes.proofs.Values.{Concerns, Inside}
use Rattle.law_bytes.specs.Areas.{SettledWrite}
use Rattle.law_headline.proofs.Issues.{FineIn}
use Rattle.law_headline.proofs.Joint.{LeavesEach}
use Rattle.law_headline.proofs.Apart.{HeadOff, HeadsOff, StaysOff}
use Rattle.law_headline.proofs.Histories.{StaysBuilt, off-long}
use Rattle.law_headline.proofs.Longs.{Long}

-- what a parity process needs for its bytes
module _ (s : Dimensions) (settled : ℕ → List Update) (p : Process) (i : ℕ) (named : p.name ≡ ParityNode i) where
  parity-ready : (t : ProcessStep) → AppliesSettled s settled p t → Ready s settled p
  parity-ready t applies = record { goes = applies.log; own = λ d h below heads. subst (λ (x : ProcessId). Concerns s x d) (sym named) below }

  parity-inside : Inside s p.name
  parity-inside = subst (Inside s) (sym named) tt

-- what a process that treats something has rebuilt stays so
pub treats-built : (s : Dimensions) → IsShape s → (v w : State) (p : ProcessId) (t : ProcessStep) (i : ℕ) → p ≡ ParityNode i → IsProcess s p → v.dead p ≡ false
    → Treats s (v.process p) t → Members s v → HoldsBytes s v
    → NextIsNew s (v.process p) → SettledWrite s w.settled → AppliesSettled s w.settled (v.process p) t → SettlesNext s w.settled (v.process p) t
    → Acted s v w p t → (d : ℕ) → d < s.k → StaysBuilt d (v.process p) t.process
treats-built s shaped v w p t i is pin lives treated members holds new write applies next acts d below b was = holding.there d b below was where
  named : (v.process p).name ≡ ParityNode i
  named = members.named p pin ∙ is

  some : 0 < s.k
  some = let first = shaped.k in omega (arith, first)

  holding : Holding s w.settled (rebuilt_at (v.process p)) t.process
  holding =
      treats-hold s w.settled write (rebuilt_at (v.process p)) (v.process p) p t
      (record { name = members.named p pin; some = some; sits = λ e low. members.sits p e pin lives low }) pin (members.not_self p pin lives) treated
      (parity-ready s w.settled (v.process p) i named t applies) (parity-inside s w.settled (v.process p) i named) new applies next
      (holding-from s w.settled (v.process p) (before-holds s v v w p t pin members (λ q qin. refl) (λ q qin. refl) (λ e. refl) acts lives holds))

-- and so of one that receives a message
pub received-built : (s : Dimensions) (v u w : State) (x p : ProcessId) (m : Message) (i : ℕ) → p ≡ ParityNode i
    → IsProcess s p → v.dead p ≡ false → Members s v → HoldsBytes s v → MayStand s v x p m
    → MarksNew m (v.process p) → SettledWrite s w.settled
    → AppliesSettled s w.settled (v.process p) (receive s x m (v.process p)) → Popped s v u x p m
    → Acted s u w p (receive s x m (v.process p))
    → (d : ℕ) → d < s.k → StaysBuilt d (v.process p) (receive s x m (v.process p)).process
received-built s v u w x p m i is pin lives members holds may marks write applies pops acts d below b was = holding.there d b below was where
  named : (v.process p).name ≡ ParityNode i
  named = members.named p pin ∙ is

  holding : Holding s w.settled (rebuilt_at (v.process p)) (receive s x m (v.process p)).process
  holding =
      received-holds s w.settled write (rebuilt_at (v.process p)) x m (v.process p)
      (subst (Addresses s m) (sym (members.named p pin)) (addressed s v x p m may))
      (parity-ready s w.settled (v.process p) i named (receive s x m (v.process p)) applies) marks applies
      (holding-from s w.settled (v.process p) (before-holds s v u w p (receive s x m (v.process p)) pin members
      pops.processes pops.dead pops.settled acts lives holds))

-- one process made a step
module _ (s : Dimensions) (calls more : List AskedCall) (v w : State) (p : ProcessId) (pin : IsProcess s p)
    (lives : v.dead p ≡ false) (reach : Reach (FineIn s calls) s v)
    (others : (q : ProcessId) → IsProcess s q → q ≢ p → w.process q ≡ v.process q)
    (dead : (q : ProcessId) → IsProcess s q → w.dead q ≡ v.dead q)
    (begins : (d : ℕ) → d < s.k → Prolongs (v.settled d) (w.settled d)) where
  -- another process's history is as it was
  other-off : (i d : ℕ) → i < s.m → v.dead (ParityNode i) ≡ false → d < s.k → ParityNode i ≢ p → HeadOff s d (v.settled d) (v.process (ParityNode i))
      → HeadOff s d (w.settled d) (w.process (ParityNode i))
  other-off i d iin living below apart off = subst (HeadOff s d (w.settled d)) (sym (others (ParityNode i) iin apart)) (λ h b heads unbuilt.
      subst (λ (us : List Update). Each (StaysOff s b) (drop h.inherited us)) (sym same) (off h b heads unbuilt))
    where
      same : history (w.settled d) (replica_of (v.process (ParityNode i)) d) ≡ history (v.settled d) (replica_of (v.process (ParityNode i)) d)
      same = history-grown (v.settled d) (replica_of (v.process (ParityNode i)) d)
          ((reach d below).replicas (ParityNode i) iin living tt).applied (w.settled d) (begins d below)

  -- where its own is right, all are
  pub all-off : ((i d : ℕ) → p ≡ ParityNode i → d < s.k → HeadOff s d (v.settled d) (v.process p)
      → HeadOff s d (w.settled d) (w.process p)) → HeadsOff s v → HeadsOff s w
  all-off own off i d iin living below = by (same-cases (ParityNode i) p) where
    lived : v.dead (ParityNode i) ≡ false
    lived = sym (dead (ParityNode i) iin) ∙ living

    by : (ParityNode i ≡ p) ⊎ (ParityNode i ≢ p) → HeadOff s d (w.settled d) (w.process (ParityNode i))
    by (inr apart) = other-off i d iin lived below apart (off i d iin lived below)
    by (inl same) =
        subst (λ (y : ProcessId). HeadOff s d (w.settled d) (w.process y)) (sym same)
        (own i d (sym same) below (subst (λ (y : ProcessId). HeadOff s d (v.settled d) (v.process y)) same (off i d iin lived below)))

  module _ (both : LeavesEach s more v w p) (i d : ℕ) (is : p ≡ ParityNode i) (below : d < s.k) where
    pub parity-keeps : IsKeeper d p
    parity-keeps = subst (IsKeeper d) (sym is) tt

    pub was-reached : ReplicaReaches (FineIn s calls) d (v.settled d) (v.process p)
    was-reached = (reach d below).replicas p pin lives parity-keeps

    pub is-reached : ReplicaReaches (FineIn s more) d (w.settled d) (w.process p)
    is-reached = (both d below).0.replicas p pin (dead p pin ∙ lives) parity-keeps

    -- nothing was put behind its log
    pub long-off : ((h : Head) → head_at (w.process p) d ≡ Some h → Long d (v.process p) (w.process p)) → StaysBuilt d (v.process p) (w.process p)
        → HeadOff s d (v.settled d) (v.process p) → HeadOff s d (w.settled d) (w.process p)
    long-off long stays off =
        off-long s d (v.settled d) (w.settled d) (v.process p) (w.process p) was-reached.applied is-reached.applied
        stays long (λ h heads. (both d below).3 h heads) off
