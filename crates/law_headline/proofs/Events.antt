-- The other moves, and the start; and what it comes to for a block that is rebuilt later.
use Rattle.std.proofs.Common.{ℕ, ◌≡◌, ◌<◌, ◌≤◌, false, List, length, take, Option, Some, None, sym, ap, subst, ◌∙◌, arith}
use Rattle.std.specs.List.{range_with_len}
use Rattle.group_types.specs.Dimensions.{Dimensions}
use Rattle.group_types.specs.Names.{IsProcess}
use Rattle.group_types.specs.Shape.{IsShape}
use Rattle.group_types.specs.declared.process.ProcessId.{ProcessId}
use Rattle.group_types.specs.declared.process.ProcessId.TheVariants.{ParityNode}
use Rattle.group_types.proofs.Lists.{at-replicate}
use Rattle.group_message.specs.declared.update.Update.{Update}
use Rattle.group_run.specs.Applying.{ProcessStep, head_at, replica_of}
use Rattle.group_run.specs.Asking.{collect_from}
use Rattle.group_run.specs.Leaders.{rebuilt_block}
use Rattle.group_run.specs.Process.{Head, Process, opening_process}
use Rattle.group_run.specs.World.{AskedCall, flush_process, new_ones, settled_in}
use Rattle.law_moves.proofs.Moves.{Acted, Collects, Died, Flushes, Treats}
use Rattle.law_moves.specs.State.{IsGroupUp, State}
use Rattle.law_moves.proofs.State.{Opens}
use Rattle.law_moves.proofs.Members.{Members}
use Rattle.law_moves.proofs.Keeping as members
use Rattle.law_histories.proofs.Lanes.{begins-append}
use Rattle.law_histories.proofs.Calls.{still-collect, still-flush}
use Rattle.law_histories.proofs.Keeping as reaching
use Rattle.law_histories.proofs.LaneWords.{Prolongs}
use Rattle.law_bytes.specs.Areas.{IsBlock, value, SettledWrite}
use Rattle.law_bytes.proofs.Premises.{AppliesSettled, SettlesNext}
use Rattle.law_bytes.proofs.Fresh.{marks-new}
use Rattle.law_headline.proofs.Issues.{FineIn, fine-laws}
use Rattle.law_headline.proofs.Joint.{LeavesEach, Whole, applies-after, write-after}
use Rattle.law_headline.proofs.Nexts.{nothing-next}
use Rattle.law_headline.proofs.Apart.{HeadOff, HeadsOff, SameValues}
use Rattle.law_headline.proofs.Calls.{long-collect}
use Rattle.law_headline.proofs.Histories.{StaysBuilt}
use Rattle.law_headline.proofs.Longs.{Long, long-refl}
use Rattle.law_headline.proofs.WholeSteps.{all-off, long-off, treats-built}

module _ (s : Dimensions) (shaped : IsShape s) where
  -- a process treats something that puts nothing behind a log
  module _ (calls : List AskedCall) (v w : State) (p : ProcessId) (t : ProcessStep) (pin : IsProcess s p) (up : IsGroupUp s v)
      (lives : v.dead p ≡ false) (treats : Treats s (v.process p) t) (whole : Whole s calls v)
      (acts : Acted s v w p t) (both : LeavesEach s calls v w p) (next : SettlesNext s w.settled (v.process p) t)
      (long : (d : ℕ) → Long d (v.process p) t.process) where
    after : Members s w
    after = (members.keeps s shaped).treats v w p t pin up lives treats whole.carried.members acts

    begins : (d : ℕ) → d < s.k → Prolongs (v.settled d) (w.settled d)
    begins d below = subst (Prolongs (v.settled d)) (sym (acts.settled d below))
        (begins-append (v.settled d) (new_ones (length (v.settled d)) (settled_in d t.settled)))

    write : SettledWrite s w.settled
    write = write-after s shaped calls calls (λ d a h fine. fine) v w p t pin lives whole acts.process acts.others acts.dead after both

    applies : AppliesSettled s w.settled (v.process p) t
    applies = applies-after s shaped calls calls (λ d a h fine. fine) v w p t pin lives whole acts.process acts.others acts.dead after both

    own : (i d : ℕ) → p ≡ ParityNode i → d < s.k → HeadOff s d (v.settled d) (v.process p) → HeadOff s d (w.settled d) (w.process p)
    own i d is below off = long-off s calls calls v w p pin lives whole.reach acts.others acts.dead begins both i d is below
        (λ h heads. subst (Long d (v.process p)) (sym acts.process) (long d))
        (subst (StaysBuilt d (v.process p)) (sym acts.process)
        (treats-built s shaped v w p t i is pin lives treats whole.carried.members whole.bytes
        ((marks-new s v whole.carried).next p pin lives) write applies next acts d below)) off

    treated-long : HeadsOff s v → HeadsOff s w
    treated-long off = all-off s calls calls v w p pin lives whole.reach acts.others acts.dead begins own off

  pub collected : (calls : List AskedCall) (v w : State) (p : ProcessId) (caller call : ℕ) → IsProcess s p → IsGroupUp s v → v.dead p ≡ false → Whole s calls v
      → Acted s v w p (collect_from caller call (v.process p) (range_with_len 0 s.k)).step → HeadsOff s v → HeadsOff s w
  collected calls v w p caller call pin up lives whole acts =
      treated-long calls v w p (collect_from caller call (v.process p) (range_with_len 0 s.k)).step pin up lives (Collects caller call) whole acts
      (reaching.collects-both (FineIn s calls) (fine-laws s calls) s shaped v w p caller call pin up lives whole.carried.members whole.reach acts)
      (nothing-next s w.settled (v.process p) (collect_from caller call (v.process p) (range_with_len 0 s.k)).step
      (λ d. (still-collect s d caller call (v.process p) (range_with_len 0 s.k)).quiet))
      (λ d. long-collect s d caller call (v.process p))

  pub flushed : (calls : List AskedCall) (v w : State) (p : ProcessId) → IsProcess s p → IsGroupUp s v → v.dead p ≡ false → Whole s calls v
      → Acted s v w p (flush_process s (v.process p)).step → HeadsOff s v → HeadsOff s w
  flushed calls v w p pin up lives whole acts =
      treated-long calls v w p (flush_process s (v.process p)).step pin up lives Flushes whole acts
      (reaching.flushes-both (FineIn s calls) (fine-laws s calls) s shaped v w p pin up lives whole.carried.members whole.reach acts)
      (nothing-next s w.settled (v.process p) (flush_process s (v.process p)).step (λ d. (still-flush s d (v.process p)).quiet))
      (λ d. long-refl d (v.process p))

-- a process dies
pub died : (s : Dimensions) (v w : State) (p : ProcessId) (keep : ℕ) → Died s v w p keep → HeadsOff s v → HeadsOff s w
died s v w p keep dies off i d iin living below =
    subst (λ (us : List Update). HeadOff s d us (w.process (ParityNode i))) (sym (dies.settled d))
    (subst (HeadOff s d (v.settled d)) (sym (dies.processes (ParityNode i) iin)) (off i d iin lived below))
  where
    lived : v.dead (ParityNode i) ≡ false
    lived = sym (dies.others (ParityNode i) iin (λ same. cc (living, ap w.dead same, dies.dead))) ∙ living

-- the start: no parity process heads a partition
pub began : (s : Dimensions) (v : State) → Opens s v → HeadsOff s v
began s v starts i d iin living below h b heads unbuilt =
    absurd (cc (ap (λ (p : Process). head_at p d) (sym (starts.process (ParityNode i) iin)) ∙ heads, none)) where
      none : ◌≡◌ {A = Option Head} (head_at (opening_process s (ParityNode i)) d) None
      none = at-replicate None s.k d

-- bytes of such a block at a number are those at the applied number
pub block-stays : (s : Dimensions) (d : ℕ) (settled : List Update) (p : Process) → SameValues s d settled p → (h : Head) (b n : ℕ) (bytes : List ℕ)
    → head_at p d ≡ Some h → rebuilt_block p.as_leader d b ≡ None
    → h.inherited ≤ n → n ≤ (replica_of p d).applied → IsBlock s b (value (take n settled)) bytes
    → IsBlock s b (value (take (replica_of p d).applied settled)) bytes
block-stays s d settled p same h b n bytes heads unbuilt from to block = record {
  long = block.long;
  same = λ x low. block.same x low ∙ same h b n x heads unbuilt from to (omega (arith, low));
}
