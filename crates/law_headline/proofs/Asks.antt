-- A process is asked: what it issues stays off the blocks that it hasn't rebuilt.
use Rattle.std.proofs.Common.{ℕ, ◌≡◌, ◌≢◌, ◌<◌, ◌+◌, nat_le, Bool, true, false, List, [], ◌∷◌, ◌++◌, length, take}
use Rattle.std.proofs.Common.{Option, Some, None, ◌⊎◌, inl, inr, refl, sym, ap, subst, ◌∙◌, arith}
use Rattle.std.proofs.lemmas.Bool.{cases_eq}
use Rattle.group_types.specs.Dimensions.{Dimensions, space_of}
use Rattle.group_types.specs.Hash.{home_of}
use Rattle.group_types.specs.Names.{IsProcess}
use Rattle.group_types.specs.Shape.{IsShape}
use Rattle.group_types.specs.declared.process.ProcessId.{ProcessId}
use Rattle.group_types.specs.declared.process.ProcessId.TheVariants.{ParityNode}
use Rattle.memc_table.specs.Act.{key_of}
use Rattle.group_message.specs.declared.update.Body.{Body}
use Rattle.group_message.specs.declared.update.Outcome.{Outcome}
use Rattle.group_message.specs.declared.update.Update.{Update}
use Rattle.group_calls.specs.declared.decision.Decision.{Decision}
use Rattle.group_calls.specs.declared.decision.Decision.TheVariants as decides
use Rattle.group_run.specs.Applying.{ProcessStep, Settlement, head_at, replica_of}
use Rattle.group_run.specs.Asking.{act_on, ask_head, ask_process, found_at, issued, ticketed, update_of}
use Rattle.group_run.specs.Deciding.{decide}
use Rattle.group_run.specs.Leaders.{rebuilt_block}
use Rattle.group_run.specs.Process.{Head, Process}
use Rattle.group_run.specs.World.{AskedCall, is_issued, new_ones, settled_in}
use Rattle.group_run.specs.History.{history}
use Rattle.law_moves.proofs.Moves.{Acted, Asks}
use Rattle.law_moves.specs.State.{IsGroupUp, State}
use Rattle.law_moves.proofs.Members.{Members}
use Rattle.law_moves.proofs.Keeping as members
use Rattle.law_histories.proofs.Lanes.{begins-append}
use Rattle.law_histories.proofs.Reach.{ReplicaReaches}
use Rattle.law_histories.proofs.Around.{Grown}
use Rattle.law_histories.proofs.LaneWords.{Prolongs}
use Rattle.law_log.specs.Book.{call_if}
use Rattle.law_log.proofs.CallWords.{IsNextCall}
use Rattle.law_bytes.specs.Areas.{WritesBytes, SettledWrite}
use Rattle.law_bytes.proofs.Premises.{AppliesSettled, SettlesNext}
use Rattle.law_bytes.proofs.Applying.{each-behind}
use Rattle.law_bytes.proofs.Fresh.{marks-new}
use Rattle.law_headline.proofs.Issues.{FineIn, fine-writes}
use Rattle.law_headline.proofs.Joint.{applies-after, asked-leaves, asked-next, fine-issue, home-below, LeavesEach, more-fine, Whole, write-after}
use Rattle.law_headline.proofs.Nexts.{ticketed-settled}
use Rattle.law_headline.proofs.Apart.{HeadOff, HeadsOff, StaysOff}
use Rattle.law_headline.proofs.Calls.{long-act}
use Rattle.law_headline.proofs.Histories.{StaysBuilt, history-issued, off-issued}
use Rattle.law_headline.proofs.Longs.{Long, long-refl}
use Rattle.law_headline.proofs.WholeSteps.{all-off, is-reached, long-off, treats-built, was-reached}
use Rattle.law_headline.proofs.Unders.{IssuesFound, issues-found}
use Rattle.law_headline.proofs.Values.{found-off}

ticketed-replica : (b : Bool) (d : ℕ) (u : Update) (t : ProcessStep) → replica_of (ticketed b d u t).step.process d ≡ replica_of t.process d
ticketed-replica true d u t = refl
ticketed-replica false d u t = refl

module _ (s : Dimensions) (shaped : IsShape s) (calls : List AskedCall) (v w : State) (p : ProcessId) (c : AskedCall)
    (pin : IsProcess s p) (up : IsGroupUp s v) (lives : v.dead p ≡ false) (next : IsNextCall calls c)
    (whole : Whole s calls v)
    (acts : Acted s v w p (ask_process s c.name c.op (v.process p)).step) where
  abbrev e : ℕ
  e = home_of (key_of c.op.act) s.k

  abbrev t : ProcessStep
  t = (ask_process s c.name c.op (v.process p)).step

  abbrev more : List AskedCall
  more = calls ++ call_if (is_issued (ask_process s c.name c.op (v.process p)).answer) c

  abbrev below-home : e < s.k
  below-home = home-below s shaped calls v w p c pin up lives next whole acts

  abbrev grown : (d a : ℕ) (h : List Update) → FineIn s calls d a h → FineIn s more d a h
  grown = more-fine s shaped calls v w p c pin up lives next whole acts

  -- what it decides where it heads the partition
  abbrev decision-of : Head → Decision
  decision-of h = decide (space_of s) h.inherited (replica_of (v.process p) e) c.op (found_at s e (v.process p) (v.process p).name)

  abbrev both : LeavesEach s more v w p
  both = asked-leaves s shaped calls v w p c pin up lives next whole acts

  abbrev settles-next : SettlesNext s w.settled (v.process p) t
  settles-next = asked-next s shaped calls v w p c pin up lives next whole acts

  after : Members s w
  after = (members.keeps s shaped).treats v w p t pin up lives (Asks c.name c.op next.bytes) whole.carried.members acts

  write : SettledWrite s w.settled
  write = write-after s shaped calls more grown v w p t pin lives whole acts.process acts.others acts.dead after both

  applies : AppliesSettled s w.settled (v.process p) t
  applies = applies-after s shaped calls more grown v w p t pin lives whole acts.process acts.others acts.dead after both

  begins : (d : ℕ) → d < s.k → Prolongs (v.settled d) (w.settled d)
  begins d below = subst (Prolongs (v.settled d)) (sym (acts.settled d below))
      (begins-append (v.settled d) (new_ones (length (v.settled d)) (settled_in d t.settled)))

  module _ (i : ℕ) (is : p ≡ ParityNode i) where
    stays : (d : ℕ) → d < s.k → StaysBuilt d (v.process p) (w.process p)
    stays d below = subst (StaysBuilt d (v.process p)) (sym acts.process)
        (treats-built s shaped v w p t i is pin lives (Asks c.name c.op next.bytes) whole.carried.members whole.bytes
        ((marks-new s v whole.carried).next p pin lives) write applies settles-next acts d below)

    long-own : (d : ℕ) → d < s.k → Long d (v.process p) (w.process p) → HeadOff s d (v.settled d) (v.process p) → HeadOff s d (w.settled d) (w.process p)
    long-own d below long off = long-off s calls more v w p pin lives whole.reach acts.others acts.dead begins both i d
        is below (λ h heads. long) (stays d below) off

    -- it issues an update
    module _ (h : Head) (body : Body) (outcome : Outcome) (heads : head_at (v.process p) e ≡ Some h)
        (decided : decision-of h ≡ decides.Issue body outcome) where
      abbrev u : Update
      u = update_of c.name c.op e body outcome (v.process p)

      abbrev made : ProcessStep
      made = issued s e h u (v.process p)

      abbrev now : Bool
      now = nat_le u.number (replica_of made.process e).applied

      asked-is : t ≡ (ticketed now e u made).step
      asked-is =
          ap (λ (o : Option Head). (ask_head s c.name c.op e (v.process p) o).step) heads
          ∙ ap (λ (x : Decision). (act_on s c.name c.op e h (v.process p) x).step) decided

      next-here : take ((replica_of (v.process p) e).applied + length (settled_in e made.settled)) (w.settled e)
          ≡ take (replica_of (v.process p) e).applied (w.settled e) ++ settled_in e made.settled
      next-here = subst
          (λ (xs : List Settlement). take ((replica_of (v.process p) e).applied + length (settled_in e xs))
          (w.settled e) ≡ take (replica_of (v.process p) e).applied (w.settled e) ++ settled_in e xs)
          (ap (λ (x : ProcessStep). x.settled) asked-is ∙ ticketed-settled now e u made) (settles-next e below-home)

      grown-history : history (w.settled e) (replica_of (w.process p) e) ≡ history (v.settled e) (replica_of (v.process p) e) ++ u ∷ []
      grown-history =
          ap (λ (x : Process). history (w.settled e) (replica_of x e)) acts.process
          ∙ ap (λ (x : ProcessStep). history (w.settled e) (replica_of x.process e)) asked-is
          ∙ ap (history (w.settled e)) (ticketed-replica now e u made)
          ∙ history-issued s e h u (v.process p) heads (v.settled e) (w.settled e)
          (was-reached s calls more v w p pin lives whole.reach acts.others acts.dead begins both i e is below-home).applied (begins e below-home) next-here

      same-inherited : (g : Head) → head_at (w.process p) e ≡ Some g → g.inherited ≡ h.inherited
      same-inherited g is_head =
          let grew : Grown e (v.process p) (w.process p) h = (both e below-home).1.heads h heads in
          let one : Some g ≡ Some grew.head = sym is_head ∙ grew.heads in
          ap in_some one ∙ grew.inherited
        where
          in_some : Option Head → ℕ
          in_some None = 0
          in_some (Some x) = x.inherited

      writes : WritesBytes s u
      writes = (each-behind (WritesBytes s) (history (v.settled e) (replica_of (v.process p) e)) (u ∷ [])
          (fine-writes s (calls ++ c ∷ []) e (replica_of (v.process p) e).applied
          (history (v.settled e) (replica_of (v.process p) e) ++ u ∷ [])
          (fine-issue s shaped calls v w p c pin up lives next whole acts h body outcome heads decided))).0

      stays-apart : (b : ℕ) → rebuilt_block (v.process p).as_leader e b ≡ None → StaysOff s b u
      stays-apart b unbuilt x within = found-off s e i (v.process p) (v.process p).name b (let least = shaped.block.0 in
          omega (arith, least)) (whole.carried.members.named p pin ∙ is) unbuilt body
          (subst (IssuesFound (found_at s e (v.process p) (v.process p).name)) decided
          (issues-found (space_of s) (replica_of (v.process p) e) c.op (found_at s e (v.process p) (v.process p).name)
          h.inherited))
          writes.writes x within

      issued-off : HeadOff s e (v.settled e) (v.process p) → HeadOff s e (w.settled e) (w.process p)
      issued-off off =
          let reached : ReplicaReaches (FineIn s calls) e (v.settled e) (v.process p) =
          was-reached s calls more v w p pin lives whole.reach acts.others acts.dead begins both i e is below-home in
          off-issued s e (v.settled e) (w.settled e) (v.process p) (w.process p) reached.applied
          (is-reached s calls more v w p pin lives whole.reach acts.others acts.dead begins both i e is below-home).applied (stays e below-home)
          h u heads (reached.heads h heads).inherited same-inherited grown-history stays-apart off

    -- what it does of its decision
    act-off : (d : ℕ) → d < s.k → (h : Head) (decision : Decision) → head_at (v.process p) e ≡ Some h
        → decision-of h ≡ decision
        → (e ≡ d) ⊎ (e ≢ d) → HeadOff s d (v.settled d) (v.process p) → HeadOff s d (w.settled d) (w.process p)
    act-off d below h decision heads decided which off = by decision decided which where
      made-is : (x : Decision) → decision-of h ≡ x → w.process p ≡ (act_on s c.name c.op e h (v.process p) x).step.process
      made-is x is_x =
          acts.process ∙ ap (λ (o : Option Head). (ask_head s c.name c.op e (v.process p) o).step.process) heads
          ∙ ap (λ (y : Decision). (act_on s c.name c.op e h (v.process p) y).step.process) is_x

      quiet-by : (x : Decision) → decision-of h ≡ x
          → ((body : Body) (outcome : Outcome) → x ≡ decides.Issue body outcome → e ≢ d) → HeadOff s d (w.settled d) (w.process p)
      quiet-by x is_x other = long-own d below (subst (Long d (v.process p)) (sym (made-is x is_x)) (long-act s d c.name c.op e h (v.process p) x other)) off

      by : (x : Decision) → decision-of h ≡ x → (e ≡ d) ⊎ (e ≢ d) → HeadOff s d (w.settled d) (w.process p)
      by (decides.Answer r) is_x which = quiet-by (decides.Answer r) is_x (λ body outcome same. absurd (cc same))
      by (decides.Retry n) is_x which = quiet-by (decides.Retry n) is_x (λ body outcome same. absurd (cc same))
      by decides.NoSpace is_x which = quiet-by decides.NoSpace is_x (λ body outcome same. absurd (cc same))
      by (decides.NeedBlock b) is_x which = quiet-by (decides.NeedBlock b) is_x (λ body outcome same. absurd (cc same))
      by (decides.Issue body outcome) is_x (inr other) = quiet-by (decides.Issue body outcome) is_x (λ x y same. other)
      by (decides.Issue body outcome) is_x (inl here) = subst (λ (k : ℕ). HeadOff s k (w.settled k) (w.process p)) here
          (issued-off h body outcome heads is_x (subst (λ (k : ℕ). HeadOff s k (v.settled k) (v.process p)) (sym here) off))

    own : (d : ℕ) → d < s.k → HeadOff s d (v.settled d) (v.process p) → HeadOff s d (w.settled d) (w.process p)
    own d below off = by (head_at (v.process p) e) refl where
      by : (o : Option Head) → head_at (v.process p) e ≡ o → HeadOff s d (w.settled d) (w.process p)
      by None heads =
          long-own d below
          (subst (Long d (v.process p))
          (sym (acts.process ∙ ap (λ (o : Option Head). (ask_head s c.name c.op e (v.process p) o).step.process)
          heads)) (long-refl d (v.process p))) off
      by (Some h) heads = act-off d below h (decision-of h) heads refl (cases_eq e d) off

  pub asked : HeadsOff s v → HeadsOff s w
  asked off = all-off s calls more v w p pin lives whole.reach acts.others acts.dead begins (λ i d is below. own i is d below) off
