-- A process receives a message: it puts nothing behind the log of a partition that it heads.
use Rattle.std.proofs.Common.{ℕ, ◌≡◌, ◌≢◌, ◌<◌, ◌≤◌, ◌+◌, nat_le, Bool, true, false, List, length, Some, refl, sym, ap, subst, ◌∙◌, arith}
use Rattle.std.proofs.lemmas.Grind.{common_steps}
use Rattle.group_types.specs.Dimensions.{Dimensions}
use Rattle.group_types.specs.Lists.{at}
use Rattle.group_types.specs.Names.{IsProcess}
use Rattle.group_types.specs.Shape.{IsShape}
use Rattle.group_types.specs.declared.process.ProcessId.{ProcessId}
use Rattle.group_types.specs.declared.process.ProcessId.TheVariants.{ParityNode}
use Rattle.group_types.specs.Each.{Each}
use Rattle.group_message.specs.declared.message.Message.{Message}
use Rattle.group_message.specs.declared.message.Message.TheVariants as tells
use Rattle.group_message.specs.declared.update.Update.{Update}
use Rattle.group_run.specs.Applying.{ProcessStep, head_at, when}
use Rattle.group_run.specs.Process.{Head, Process}
use Rattle.group_run.specs.Receiving.{ack_to, log_adopted, receive, update_taken}
use Rattle.group_run.specs.World.{AskedCall, new_ones, settled_in}
use Rattle.law_moves.proofs.Moves.{Acted, Popped}
use Rattle.law_moves.specs.State.{IsGroupUp, State}
use Rattle.law_moves.proofs.Members.{MayStand}
use Rattle.law_histories.proofs.Lanes.{begins-append}
use Rattle.law_histories.proofs.Around.{enters}
use Rattle.law_histories.proofs.Ranks.{Used, head-from, lower-rank, used}
use Rattle.law_histories.proofs.LaneWords.{Prolongs}
use Rattle.law_bytes.proofs.Premises.{AppliesSettled}
use Rattle.law_bytes.specs.Areas.{SettledWrite}
use Rattle.law_headline.proofs.Issues.{FineIn}
use Rattle.law_headline.proofs.Joint.{LeavesEach, Whole, applies-after, both_received, dead_received, marks-received}
use Rattle.law_headline.proofs.Joint.{members_received, same_received, write-after}
use Rattle.law_headline.proofs.Apart.{HeadOff, HeadsOff}
use Rattle.law_headline.proofs.Histories.{StaysBuilt}
use Rattle.law_headline.proofs.Longs.{Long, Spares, long-receive}
use Rattle.law_headline.proofs.WholeSteps.{all-off, long-off, received-built}

module _ (s : Dimensions) (shaped : IsShape s) (calls : List AskedCall) (v u w : State) (x p : ProcessId) (m : Message)
    (xin : IsProcess s x) (pin : IsProcess s p) (apart : x ≢ p) (up : IsGroupUp s v) (lives : v.dead p ≡ false)
    (whole : Whole s calls v)
    (pops : Popped s v u x p m) (acts : Acted s u w p (receive s x m (v.process p))) where
  -- the head hears no rank of another that it would take
  pub never : (d : ℕ) → d < s.k → (h : Head) → head_at (v.process p) d ≡ Some h → (r : ℕ) → Used s v d x r → at 0 (v.process p).ranks d ≤ r → ⊥
  never d below h heads r from low =
      let own : Used s v d p h.rank = head-from s v d whole.carried.members below p h pin lives heads in
      let less : r < h.rank = lower-rank s v d p x h.rank r own.0 lives apart from in
      let sits = (enters (FineIn s calls) s v whole.carried.members d below p pin lives (whole.reach d below)).sits h heads in
      let now = sits.rank in
      absurd (omega (arith, less, low, now))

  untaken : (d e r : ℕ) → d < s.k → (h : Head) → head_at (v.process p) d ≡ Some h → (e ≡ d → Used s v d x r) → e ≡ d
      → nat_le (at 0 (v.process p).ranks e) r ≡ true → ⊥
  untaken d e r below h heads from here takes =
      let low : at 0 (v.process p).ranks e ≤ r = grind (arith, common_steps) in
      never d below h heads r (from here) (subst (λ (k : ℕ). at 0 (v.process p).ranks k ≤ r) here low)

  same-head : (b : Bool) (d : ℕ) (t : ProcessStep) → head_at t.process d ≡ head_at (v.process p) d
      → head_at (when b (v.process p) t).process d ≡ head_at (v.process p) d
  same-head true d t same = same
  same-head false d t same = refl

  -- where it heads a partition afterwards, the message left that partition's log
  head-spared : (z : Message) → MayStand s v x p z → (d : ℕ) → d < s.k → (h : Head)
      → head_at (receive s x z (v.process p)).process d ≡ Some h → Spares s d z (v.process p)
  head-spared (tells.Update r e y stable) may d below h heads = untaken d e.0 r.0 below h
      (sym (same-head (nat_le (at 0 (v.process p).ranks e.0) r.0) d
      (ack_to x r.0 e.0 y.number (update_taken s e.0 y stable (v.process p))) refl) ∙ heads)
      (λ here. used s v d x e.0 r.0 here may.0)
  head-spared (tells.Adopt r e base list) may d below h heads = untaken d e.0 r.0 below h
      (sym (same-head (nat_le (at 0 (v.process p).ranks e.0) r.0) d
      (ack_to x r.0 e.0 (base + length list) (log_adopted s r.0 e.0 base list (v.process p))) refl) ∙ heads)
      (λ here. used s v d x e.0 r.0 here may.0)
  head-spared (tells.Ack r e n) may d below h heads = tt
  head-spared (tells.Stable r e n) may d below h heads = tt
  head-spared (tells.ReadBlock session block rows) may d below h heads = tt
  head-spared (tells.Block session bytes n) may d below h heads = tt
  head-spared (tells.Mark session r block e n) may d below h heads = tt
  head-spared (tells.Row session bytes stamp) may d below h heads = tt
  head-spared (tells.Cease upto) may d below h heads = tt
  head-spared (tells.Notice dead) may d below h heads = tt

  pub may : MayStand s v x p m
  may = (subst (Each (MayStand s v x p)) pops.first (whole.carried.members.may x p xin pin apart lives)).0

  abbrev both : LeavesEach s calls v w p
  both = both_received s shaped calls v u w x p m xin pin apart up lives whole pops acts

  abbrev same : (q : ProcessId) → IsProcess s q → q ≢ p → w.process q ≡ v.process q
  same = same_received s shaped calls v u w x p m xin pin apart up lives whole pops acts

  abbrev dead : (q : ProcessId) → IsProcess s q → w.dead q ≡ v.dead q
  dead = dead_received s shaped calls v u w x p m xin pin apart up lives whole pops acts

  pub begins : (d : ℕ) → d < s.k → Prolongs (v.settled d) (w.settled d)
  begins d below = subst (λ (us : List Update). Prolongs us (w.settled d)) (pops.settled d)
      (subst (Prolongs (u.settled d)) (sym (acts.settled d below))
      (begins-append (u.settled d)
      (new_ones (length (u.settled d)) (settled_in d (receive s x m (v.process p)).settled))))

  write : SettledWrite s w.settled
  write =
      write-after s shaped calls calls (λ d a h fine. fine) v w p (receive s x m (v.process p)) pin lives whole acts.process same dead
      (members_received s shaped calls v u w x p m xin pin apart up lives whole pops acts) both

  applies : AppliesSettled s w.settled (v.process p) (receive s x m (v.process p))
  applies =
      applies-after s shaped calls calls (λ d a h fine. fine) v w p (receive s x m (v.process p)) pin lives whole acts.process same dead
      (members_received s shaped calls v u w x p m xin pin apart up lives whole pops acts) both

  own : (i d : ℕ) → p ≡ ParityNode i → d < s.k → HeadOff s d (v.settled d) (v.process p) → HeadOff s d (w.settled d) (w.process p)
  own i d is below off = long-off s calls calls v w p pin lives whole.reach same dead begins both i d is below
      (λ h heads. subst (Long d (v.process p)) (sym acts.process)
      (long-receive s d x m (v.process p)
      (head-spared m may d below h (ap (λ (y : Process). head_at y d) (sym acts.process) ∙ heads))))
      (subst (StaysBuilt d (v.process p)) (sym acts.process)
      (received-built s v u w x p m i is pin lives whole.carried.members whole.bytes may
      (marks-received s shaped calls v u w x p m xin pin apart up lives whole pops acts) write applies pops acts d
      below)) off

  pub received : HeadsOff s v → HeadsOff s w
  received off = all-off s calls calls v w p pin lives whole.reach same dead begins own off
