-- A block that is newly rebuilt at a number, from what the head inherited on, is right at all that it has
-- applied: so the premise of the law of bytes follows from what a session gives.
use Rattle.std.proofs.Common.{ℕ, ◌≡◌, ◌≢◌, ◌<◌, ◌≤◌, true, false, List, length, take, drop, Some, inl, inr, sym, ap, subst, ◌∙◌, arith}
use Rattle.std.proofs.lemmas.Grind.{common_steps}
use Rattle.std.proofs.lemmas.List.{take-take}
use Rattle.std.specs.List.{range_with_len}
use Rattle.group_types.specs.Dimensions.{Dimensions}
use Rattle.group_types.specs.Hash.{home_of}
use Rattle.group_types.specs.Lists.{at}
use Rattle.group_types.specs.Names.{IsProcess}
use Rattle.group_types.specs.Shape.{IsShape}
use Rattle.group_types.specs.declared.process.ProcessId.{ProcessId}
use Rattle.group_types.specs.declared.process.ProcessId.TheVariants.{ParityNode}
use Rattle.group_types.specs.Each.{Each}
use Rattle.memc_table.specs.Act.{key_of}
use Rattle.memc_table.specs.Asked.{Asked}
use Rattle.group_message.specs.declared.message.Message.{Message}
use Rattle.group_message.specs.declared.message.Message.TheVariants as tells
use Rattle.group_message.specs.declared.update.Update.{Update}
use Rattle.group_calls.specs.Turns.{CallName}
use Rattle.group_run.specs.Applying.{ProcessStep, head_at, replica_of}
use Rattle.group_run.specs.Asking.{ask_process, collect_from}
use Rattle.group_run.specs.Process.{Head, Process}
use Rattle.group_run.specs.Receiving.{receive}
use Rattle.group_run.specs.Rows.{accepts_mark, parity_number}
use Rattle.group_run.specs.World.{AskedCall, flush_process, new_ones, settled_in}
use Rattle.law_moves.proofs.Moves.{Acted, Popped}
use Rattle.law_moves.specs.State.{IsGroupUp, State}
use Rattle.law_moves.proofs.Members.{IsParity, MayStand}
use Rattle.law_histories.proofs.Histories.{history-grown}
use Rattle.law_histories.proofs.Lanes.{begins-append}
use Rattle.law_histories.proofs.Messages.{parity-is}
use Rattle.law_histories.proofs.Ranks.{used}
use Rattle.law_histories.proofs.LaneWords.{Prolongs}
use Rattle.law_bytes.specs.Areas.{IsBlock, value}
use Rattle.law_bytes.proofs.Premises.{RebuildsRight}
use Rattle.law_headline.proofs.Joint.{Whole}
use Rattle.law_headline.proofs.Apart.{HeadOff, HeadsOff, RebuildsAt, RebuiltAt, SameValues, StaysOff}
use Rattle.law_headline.proofs.Events.{block-stays}
use Rattle.law_headline.proofs.Rebuilds.{NoneNew, RebuildsStill, Unmarks, ask-rebuilds, none-collect, receive-rebuilds}
use Rattle.law_headline.proofs.Receives.{begins, may, never}
use Rattle.law_headline.proofs.Values.{off-value}

rebuilds-right : (s : Dimensions) (settled : ℕ → List Update) (p q : Process) → (IsParity p.name → (d : ℕ) → d < s.k → SameValues s d (settled d) p)
    → ((d : ℕ) → d < s.k → (h : Head) → head_at p d ≡ Some h → RebuildsStill d p q) → RebuildsAt s settled p q → RebuildsRight s settled p q
rebuilds-right s settled p q same still gives d b bytes below none some = by (still d below gave.head gave.heads) where
  gave : RebuiltAt s d b (settled d) p bytes
  gave = gives d b bytes below none some

  by : RebuildsStill d p q → IsBlock s b (value (take (replica_of q d).applied (settled d))) bytes
  by (inl new) = absurd (cc (some, new b none))
  by (inr applied) = subst (λ (n : ℕ). IsBlock s b (value (take n (settled d))) bytes) (sym applied)
      (block-stays s d (settled d) p (same gave.parity d below) gave.head b gave.number bytes gave.heads none gave.inherited gave.applied gave.values)

-- where nothing is rebuilt there is nothing to show: as a call is collected, or as a process tells how far it has
-- settled
pub none-right : (s : Dimensions) (settled : ℕ → List Update) (p q : Process) → ((d : ℕ) → NoneNew d p q) → RebuildsRight s settled p q
none-right s settled p q new d b bytes below none some = absurd (cc (some, new d b none))

pub collected-right : (s : Dimensions) (settled : ℕ → List Update) (p : Process) (caller call : ℕ)
    → RebuildsRight s settled p (collect_from caller call p (range_with_len 0 s.k)).step.process
collected-right s settled p caller call =
    none-right s settled p (collect_from caller call p (range_with_len 0 s.k)).step.process
    (λ d. none-collect s d caller call p (range_with_len 0 s.k))

pub flushed-right : (s : Dimensions) (settled : ℕ → List Update) (p : Process) → RebuildsRight s settled p (flush_process s p).step.process
flushed-right s settled p = none-right s settled p p (λ d b none. none)

-- a living process before a step, with what is settled after it
module _ (s : Dimensions) (calls : List AskedCall) (v w : State) (p : ProcessId) (pin : IsProcess s p) (lives : v.dead p ≡ false) (whole : Whole s calls v)
    (grows : (d : ℕ) → d < s.k → Prolongs (v.settled d) (w.settled d)) where
  applied-before : IsParity (v.process p).name → (d : ℕ) → d < s.k → (replica_of (v.process p) d).applied ≤ length (v.settled d)
  applied-before parity d below = by (parity-is p (subst IsParity (whole.carried.members.named p pin) parity)) where
    by : (i : ℕ) × (p ≡ ParityNode i) → (replica_of (v.process p) d).applied ≤ length (v.settled d)
    by at_i = subst (λ (y : ProcessId). (replica_of (v.process y) d).applied ≤ length (v.settled d)) (sym at_i.1)
        ((whole.reach d below).replicas (ParityNode at_i.0) (subst (IsProcess s) at_i.1 pin) (ap v.dead (sym at_i.1) ∙ lives) tt).applied

  same-values : HeadsOff s v → IsParity (v.process p).name → (d : ℕ) → d < s.k → SameValues s d (w.settled d) (v.process p)
  same-values off parity d below =
      off-value s d (w.settled d) (v.process p) (let long = (grows d below).reaches in let low = applied-before parity d below in omega (arith, long, low))
      (λ h b heads unbuilt. subst (λ (us : List Update). Each (StaysOff s b) (drop h.inherited us))
      (sym (history-grown (v.settled d) (replica_of (v.process p) d) (applied-before parity d below) (w.settled d)
      (grows d below)))
      (own h b heads unbuilt))
    where
      own : HeadOff s d (v.settled d) (v.process p)
      own = let at_i = parity-is p (subst IsParity (whole.carried.members.named p pin) parity) in
          subst (λ (y : ProcessId). HeadOff s d (v.settled d) (v.process y)) (sym at_i.1)
          (off at_i.0 d (subst (IsProcess s) at_i.1 pin) (ap v.dead (sym at_i.1) ∙ lives) below)

  -- what was settled before the step is so after it
  pub rebuilds-grown : (q : Process) → RebuildsAt s v.settled (v.process p) q → RebuildsAt s w.settled (v.process p) q
  rebuilds-grown q gives d b bytes below none some =
      let gave : RebuiltAt s d b (v.settled d) (v.process p) bytes = gives d b bytes below none some in
      let low = applied-before gave.parity d below in
      let to = gave.applied in
      let same : take gave.number (v.settled d) ≡ take gave.number (w.settled d) =
      ap (take gave.number) (sym (grows d below).front) ∙ take-take gave.number (length (v.settled d)) (w.settled d) (omega (arith, low, to)) in
      record {
        parity = gave.parity;
        head = gave.head;
        heads = gave.heads;
        number = gave.number;
        inherited = gave.inherited;
        applied = gave.applied;
        values = subst (λ (us : List Update). IsBlock s b (value us) bytes) same gave.values;
      }

module _ (s : Dimensions) (shaped : IsShape s) (calls : List AskedCall) (v w : State) (p : ProcessId) (pin : IsProcess s p)
    (lives : v.dead p ≡ false) (whole : Whole s calls v) (off : HeadsOff s v) where
  grown-by : (t : ProcessStep) → Acted s v w p t → (d : ℕ) → d < s.k → Prolongs (v.settled d) (w.settled d)
  grown-by t acts d below = subst (Prolongs (v.settled d)) (sym (acts.settled d below))
      (begins-append (v.settled d) (new_ones (length (v.settled d)) (settled_in d t.settled)))

  -- what a process rebuilds as it is asked
  pub asked-right : (name : CallName) (op : Asked) → Acted s v w p (ask_process s name op (v.process p)).step
      → RebuildsAt s w.settled (v.process p) (ask_process s name op (v.process p)).step.process
      → RebuildsRight s w.settled (v.process p) (ask_process s name op (v.process p)).step.process
  asked-right name op acts = rebuilds-right s w.settled (v.process p) (ask_process s name op (v.process p)).step.process
      (same-values s calls v w p pin lives whole (grown-by (ask_process s name op (v.process p)).step acts) off)
      (λ d below h heads. ask-rebuilds s d name op (home_of (key_of op.act) s.k) (v.process p) (head_at (v.process p) (home_of (key_of op.act) s.k)))

-- what it rebuilds as it receives a message
module _ (s : Dimensions) (shaped : IsShape s) (calls : List AskedCall) (v u w : State) (x p : ProcessId) (m : Message)
    (xin : IsProcess s x) (pin : IsProcess s p) (apart : x ≢ p) (up : IsGroupUp s v) (lives : v.dead p ≡ false)
    (whole : Whole s calls v)
    (pops : Popped s v u x p m) (acts : Acted s u w p (receive s x m (v.process p))) (off : HeadsOff s v) where
  pub unmarked : (z : Message) → MayStand s v x p z → (d : ℕ) → d < s.k → (h : Head) → head_at (v.process p) d ≡ Some h → Unmarks s d z (v.process p)
  unmarked (tells.Mark session r block e n) stands d below h heads = λ here takes.
      let low : at 0 (v.process p).ranks e.0 ≤ r.0 = lowest (parity_number session.leader) session.number r.0 e.0 takes in
      never s shaped calls v u w x p m xin pin apart up lives whole pops acts d below h heads r.0
      (used s v d x e.0 r.0 here stands.0) (subst (λ (k : ℕ). at 0 (v.process p).ranks k ≤ r.0) here low)
    where
      lowest : (leader number rank k : ℕ) → accepts_mark (v.process p) leader number rank k ≡ true → at 0 (v.process p).ranks k ≤ rank
      lowest leader number rank k accepts = grind (arith, common_steps)
  unmarked (tells.Update r e y stable) stands d below h heads = tt
  unmarked (tells.Adopt r e base list) stands d below h heads = tt
  unmarked (tells.Ack r e n) stands d below h heads = tt
  unmarked (tells.Stable r e n) stands d below h heads = tt
  unmarked (tells.ReadBlock session block rows) stands d below h heads = tt
  unmarked (tells.Block session bytes n) stands d below h heads = tt
  unmarked (tells.Row session bytes stamp) stands d below h heads = tt
  unmarked (tells.Cease upto) stands d below h heads = tt
  unmarked (tells.Notice dead) stands d below h heads = tt

  pub received-right : RebuildsAt s w.settled (v.process p) (receive s x m (v.process p)).process
      → RebuildsRight s w.settled (v.process p) (receive s x m (v.process p)).process
  received-right = rebuilds-right s w.settled (v.process p) (receive s x m (v.process p)).process
      (same-values s calls v w p pin lives whole (begins s shaped calls v u w x p m xin pin apart up lives whole pops acts) off)
      (λ d below h heads. receive-rebuilds s d x m (v.process p)
      (unmarked m (may s shaped calls v u w x p m xin pin apart up lives whole pops acts) d below h heads))
