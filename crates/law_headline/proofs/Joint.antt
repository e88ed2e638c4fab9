-- What stands at every moment, of the group and of the calls whose updates were issued, all at once: histories
-- are right only while heads read the bytes that are settled, and the bytes only while histories are right.
use Rattle.std.proofs.Common.{ℕ, ◌≡◌, ◌≢◌, ◌<◌, ◌≤◌, ◌+◌, ◌%◌, Bool, true, false, nat_le, List, [], ◌∷◌, ◌++◌, length}
use Rattle.std.proofs.Common.{take, Option, Some, None, ◌⊎◌, inl, inr, refl, sym, ap, subst, ◌∙◌, arith}
use Rattle.std.specs.List.{range_with_len}
use Rattle.group_types.specs.Dimensions.{Dimensions, space_of}
use Rattle.group_types.specs.Hash.{fnv1a, home_of}
use Rattle.group_types.specs.Names.{IsProcess}
use Rattle.group_types.specs.Shape.{IsShape}
use Rattle.group_types.specs.declared.process.ProcessId.{ProcessId}
use Rattle.group_types.proofs.Lists.{at-replicate}
use Rattle.group_types.proofs.Names.{same-cases}
use Rattle.memc_table.specs.Act.{key_of}
use Rattle.memc_table.specs.Asked.{Asked}
use Rattle.group_message.specs.declared.message.Message.{Message}
use Rattle.group_message.specs.declared.message.Message.TheVariants as tells
use Rattle.group_message.specs.declared.update.Body.{Body}
use Rattle.group_message.specs.declared.update.Outcome.{Outcome}
use Rattle.group_message.specs.declared.update.Update.{Update}
use Rattle.group_calls.specs.Turns.{CallName}
use Rattle.group_calls.specs.declared.decision.Decision.{Decision}
use Rattle.group_calls.specs.declared.decision.Decision.TheVariants as decides
use Rattle.group_run.specs.Applying.{ProcessStep, head_at, replica_of}
use Rattle.group_run.specs.Asking.{act_on, ask_head, ask_process, collect_from, found_at, issued, ticketed, update_of}
use Rattle.group_run.specs.Deciding.{decide}
use Rattle.group_run.specs.History.{settled_with, history}
use Rattle.group_run.specs.Process.{Head, Process}
use Rattle.group_run.specs.Receiving.{receive}
use Rattle.group_run.specs.Replica.{empty_replica}
use Rattle.group_run.specs.World.{AskedCall, flush_process, is_issued}
use Rattle.law_moves.proofs.Moves.{Acted, Asks, Collects, Died, Flushes, Popped, Treats}
use Rattle.law_moves.specs.State.{IsGroupUp, State}
use Rattle.law_moves.proofs.State.{Opens}
use Rattle.law_moves.proofs.Members.{Members}
use Rattle.law_moves.proofs.Keeping as members
use Rattle.law_histories.proofs.Histories.{length-history, numbered-append}
use Rattle.law_histories.proofs.FitWords.{FitsNumbers}
use Rattle.law_histories.proofs.Issuing.{IssueKeeps}
use Rattle.law_histories.proofs.Reach.{IsKeeper, PartitionReaches, Reach, ReplicaReaches}
use Rattle.law_histories.proofs.Around.{FollowsBy, GrewBy, Since}
use Rattle.law_histories.proofs.Calls.{still-collect, still-flush}
use Rattle.law_histories.proofs.Fits.{fits-numbers}
use Rattle.law_histories.proofs.Keeping as reaching
use Rattle.law_histories.proofs.Weaker.{reach-weaker}
use Rattle.law_updates.proofs.Fines.{histories_are_fine}
use Rattle.law_log.specs.Book.{call_if}
use Rattle.law_log.proofs.CallWords.{IsNextCall}
use Rattle.law_log.proofs.Entries.{accepted-from}
use Rattle.law_bytes.proofs.Held.{HoldsBytes}
use Rattle.law_bytes.proofs.Law.{StepIsRight}
use Rattle.law_bytes.proofs.Premises.{AppliesSettled, MarksNew, RebuildsRight, SettlesNext}
use Rattle.law_bytes.proofs.BytesKeeping.{bytes_kept}
use Rattle.law_bytes.proofs.Exact.{MessagesExact}
use Rattle.law_bytes.proofs.FreshWords.{IsUnmarked}
use Rattle.law_bytes.proofs.Exacts.{exact_kept}
use Rattle.law_bytes.proofs.Fresh.{marks-new}
use Rattle.law_bytes.proofs.TokensKeeping as sessions
use Rattle.law_bytes.specs.Areas.{SettledWrite}
use Rattle.law_headline.proofs.Applies.{Unkept, applies}
use Rattle.law_headline.proofs.Issues.{FineIn, fine-laws, fine-writes, fits, head-keeps, issue}
use Rattle.law_headline.proofs.Nexts.{act-next, nothing-next}

-- all that stands beside the issued calls
pub record Whole (s : Dimensions) (calls : List AskedCall) (v : State) : Type 0 where
  pub carried : sessions.Carried s v
  pub reach : Reach (FineIn s calls) s v
  pub settled : (d : ℕ) → d < s.k → FineIn s calls d (length (v.settled d)) (v.settled d)
  pub unkept : Unkept s v
  pub bytes : HoldsBytes s v
  pub exact : MessagesExact s v

-- what a step of a process leaves of each partition
abbrev pub LeavesEach : Dimensions → List AskedCall → State → State → ProcessId → Type 0
LeavesEach s calls v w p = (d : ℕ) → d < s.k → PartitionReaches (FineIn s calls) s w d
    × Since d (v.process p) (w.process p) × GrewBy d (v.settled d) (w.settled d) (w.process p)
    × FollowsBy d (v.settled d) (replica_of (v.process p) d) (w.settled d) (w.process p)
    × (¬ (IsKeeper d p) → replica_of (w.process p) d ≡ replica_of (v.process p) d)

inside : (a k : ℕ) → 0 < k → a % k < k
inside a k some = omega (arith, some)

-- with more calls histories stay fine
pub fine-more : (s : Dimensions) (calls later : List AskedCall) (d a : ℕ) (h : List Update) → FineIn s calls d a h → FineIn s (calls ++ later) d a h
fine-more s calls later d a h fine = (histories_are_fine s d).more calls later a h fine

module _ (s : Dimensions) (shaped : IsShape s) where
  -- what a process that stepped leaves, with the calls that are issued then
  module _ (calls more : List AskedCall) (grown : (d a : ℕ) (h : List Update) → FineIn s calls d a h → FineIn s more d a h)
      (v w : State) (p : ProcessId) (t : ProcessStep) (pin : IsProcess s p) (lives : v.dead p ≡ false)
      (whole : Whole s calls v) (is : w.process p ≡ t.process) (others : (q : ProcessId) → IsProcess s q → q ≢ p
      → w.process q ≡ v.process q) (dead : (q : ProcessId) → IsProcess s q → w.dead q ≡ v.dead q)
      (after : Members s w) (both : LeavesEach s more v w p) where
    still : w.dead p ≡ false
    still = dead p pin ∙ lives

    pub reach-after : Reach (FineIn s more) s w
    reach-after d below = (both d below).0

    pub settled-after : (d : ℕ) → d < s.k → FineIn s more d (length (w.settled d)) (w.settled d)
    settled-after d below = by (both d below).2 where
      by : GrewBy d (v.settled d) (w.settled d) (w.process p) → FineIn s more d (length (w.settled d)) (w.settled d)
      by (inl same) = subst (λ (us : List Update). FineIn s more d (length us) us) (sym same)
          (grown d (length (v.settled d)) (v.settled d) (whole.settled d below))
      by (inr has) =
          let keeps : IsKeeper d p = head-keeps (w.process p) d has.head p (after.sits p d pin still below) has.heads in
          let fits : ReplicaReaches (FineIn s more) d (w.settled d) (w.process p) = (both d below).0.replicas p pin still keeps in
          let all = has.all in
          let front : FineIn s more d (replica_of (w.process p) d).applied (take (length (w.settled d)) (history (w.settled d) (replica_of (w.process p) d))) =
          (histories_are_fine s d).front more (replica_of (w.process p) d).applied (length (w.settled d))
          (history (w.settled d) (replica_of (w.process p) d)) fits.fine.1 (omega (arith, all)) in
          subst (λ (n : ℕ). FineIn s more d n (w.settled d)) has.all (subst (FineIn s more d (replica_of (w.process p) d).applied) fits.prolongs.front front)

    pub unkept-after : Unkept s w
    unkept-after q d qin living below not = by (same-cases q p) where
      by : (q ≡ p) ⊎ (q ≢ p) → replica_of (w.process q) d ≡ empty_replica
      by (inl same) = subst (λ (y : ProcessId). ¬ (IsKeeper d y) → replica_of (w.process y) d ≡ empty_replica)
          (sym same) (λ none. (both d below).4 none ∙ whole.unkept p d pin lives below none) not
      by (inr other) = ap (λ (y : Process). replica_of y d) (others q qin other) ∙ whole.unkept q d qin (sym (dead q qin) ∙ living) below not

    pub write-after : SettledWrite s w.settled
    write-after d below = fine-writes s more d (length (w.settled d)) (w.settled d) (settled-after d below)

    pub applies-after : AppliesSettled s w.settled (v.process p) t
    applies-after = applies (FineIn s more) s v w p t pin lives still is (reach-weaker (FineIn s calls) (FineIn s more) grown s v whole.reach) whole.unkept both

    -- what is rebuilt then
    pub right-after : RebuildsRight s w.settled (v.process p) t.process → StepIsRight s w.settled (v.process p) t
    right-after rebuilds = record { write = write-after; applies = applies-after; rebuilds = rebuilds }

  -- a process treats a call, a collect or a flush
  module _ (calls more : List AskedCall) (grown : (d a : ℕ) (h : List Update) → FineIn s calls d a h → FineIn s more d a h)
      (v w : State) (p : ProcessId) (t : ProcessStep) (pin : IsProcess s p) (up : IsGroupUp s v) (lives : v.dead p ≡ false)
      (treats : Treats s (v.process p) t) (whole : Whole s calls v) (acts : Acted s v w p t)
      (both : LeavesEach s more v w p) (next : SettlesNext s w.settled (v.process p) t)
      (rebuilds : RebuildsRight s w.settled (v.process p) t.process) where
    members-after : Members s w
    members-after = (members.keeps s shaped).treats v w p t pin up lives treats whole.carried.members acts

    right : StepIsRight s w.settled (v.process p) t
    right = right-after calls more grown v w p t pin lives whole acts.process acts.others acts.dead members-after both rebuilds

    pub treated : Whole s more w
    treated = record {
      carried = (sessions.keeps s shaped).treats v w p t pin up lives treats whole.carried acts;
      reach = reach-after calls more grown v w p t pin lives whole acts.process acts.others acts.dead members-after both;
      settled = settled-after calls more grown v w p t pin lives whole acts.process acts.others acts.dead members-after both;
      unkept = unkept-after calls more grown v w p t pin lives whole acts.process acts.others acts.dead members-after both;
      bytes = (bytes_kept s shaped).treats v w p t pin lives treats whole.carried.members whole.bytes
          ((marks-new s v whole.carried).next p pin lives) right next acts;
      exact = (exact_kept s shaped).treats v w p t pin lives treats whole.carried.members members-after whole.bytes whole.exact right acts;
    }

  -- a call is asked
  ticketed-issued : (e : ℕ) (b : Bool) (u : Update) (t : ProcessStep) → is_issued (ticketed b e u t).answer ≡ true
  ticketed-issued e true u t = accepted-from u.outcome
  ticketed-issued e false u t = refl

  answer-issued : (name : CallName) (op : Asked) (e : ℕ) (h : Head) (p : Process) (body : Body) (outcome : Outcome) (decision : Decision)
      → decision ≡ decides.Issue body outcome → is_issued (act_on s name op e h p decision).answer ≡ true
  answer-issued name op e h p body outcome decision is =
      let u : Update = update_of name op e body outcome p in
      ap (λ (x : Decision). is_issued (act_on s name op e h p x).answer) is
      ∙ ticketed-issued e (nat_le u.number (replica_of (issued s e h u p).process e).applied) u (issued s e h u p)

  module _ (calls : List AskedCall) (v w : State) (p : ProcessId) (c : AskedCall) (pin : IsProcess s p) (up : IsGroupUp s v)
      (lives : v.dead p ≡ false) (next : IsNextCall calls c) (whole : Whole s calls v)
      (acts : Acted s v w p (ask_process s c.name c.op (v.process p)).step) where
    -- the partition of its key, what is made of it, and the calls that are issued then
    abbrev pub home : ℕ
    home = home_of (key_of c.op.act) s.k

    abbrev step : ProcessStep
    step = (ask_process s c.name c.op (v.process p)).step

    abbrev pub more : List AskedCall
    more = calls ++ call_if (is_issued (ask_process s c.name c.op (v.process p)).answer) c

    abbrev decision-of : Head → Decision
    decision-of h = decide (space_of s) h.inherited (replica_of (v.process p) home) c.op (found_at s home (v.process p) (v.process p).name)

    pub home-below : home < s.k
    home-below = inside (fnv1a (key_of c.op.act)) s.k shaped.k.0

    pub more-fine : (d a : ℕ) (h : List Update) → FineIn s calls d a h → FineIn s more d a h
    more-fine = fine-more s calls (call_if (is_issued (ask_process s c.name c.op (v.process p)).answer) c)

    write : SettledWrite s v.settled
    write d low = fine-writes s calls d (length (v.settled d)) (v.settled d) (whole.settled d low)

    -- the head as it was reached, and its history with what it issues
    pub asked-head : (h : Head) → head_at (v.process p) home ≡ Some h → ReplicaReaches (FineIn s calls) home (v.settled home) (v.process p)
    asked-head h heads = fits s shaped calls v whole.carried.members whole.reach write whole.bytes p pin lives home home-below h heads

    pub fine-issue : (h : Head) (body : Body) (outcome : Outcome) → head_at (v.process p) home ≡ Some h → decision-of h ≡ decides.Issue body outcome
        → FineIn s (calls ++ c ∷ []) home (replica_of (v.process p) home).applied
        (history (v.settled home) (replica_of (v.process p) home) ++ update_of c.name c.op home body outcome (v.process p) ∷ [])
    fine-issue h body outcome heads decided = issue s shaped calls v whole.carried.members whole.reach write whole.bytes
        p pin lives home home-below h heads c body outcome refl next decided

    issues : IssueKeeps (FineIn s more) s v p c.name c.op
    issues h body outcome heads decided =
        let is : is_issued (ask_process s c.name c.op (v.process p)).answer ≡ true =
        ap (λ (o : Option Head). is_issued (ask_head s c.name c.op home (v.process p) o).answer) heads
        ∙ answer-issued c.name c.op home h (v.process p) body outcome (decision-of h) decided in
        subst (λ (b : Bool). FineIn s (calls ++ call_if b c) home (replica_of (v.process p) home).applied
        (history (v.settled home) (replica_of (v.process p) home) ++ update_of c.name c.op home body outcome
        (v.process p) ∷ [])) (sym is)
        (fine-issue h body outcome heads decided)

    pub asked-leaves : LeavesEach s more v w p
    asked-leaves =
        reaching.asks-both (FineIn s more) (fine-laws s more) s shaped v w p c.name c.op pin up lives next.bytes issues whole.carried.members
        (reach-weaker (FineIn s calls) (FineIn s more) more-fine s v whole.reach) acts

    after_last : (d : ℕ) (body : Body) (outcome : Outcome) → (replica_of (v.process p) d).applied ≤ length (v.settled d)
        → (update_of c.name c.op d body outcome (v.process p)).number ≡ 1 + length (history (v.settled d) (replica_of (v.process p) d))
    after_last d body outcome applied = let long = length-history (v.settled d) (replica_of (v.process p) d) applied in omega (arith, long)

    settles : (o : Option Head) → head_at (v.process p) home ≡ o
        → ((d : ℕ) → d < s.k → w.settled d ≡ settled_with (ask_head s c.name c.op home (v.process p) o).step.settled d (v.settled d))
        → SettlesNext s w.settled (v.process p) (ask_head s c.name c.op home (v.process p) o).step
    settles None heads is = nothing-next s w.settled (v.process p) (ask_head s c.name c.op home (v.process p) None).step (λ d. refl)
    settles (Some h) heads is =
        let reached : ReplicaReaches (FineIn s calls) home (v.settled home) (v.process p) = asked-head h heads in
        act-next s (v.process p) v.settled w.settled c.name c.op home home-below reached.applied reached.prolongs h (decision-of h) heads
        (λ body outcome decided. numbered-append 1 (history (v.settled home) (replica_of (v.process p) home))
        (update_of c.name c.op home body outcome (v.process p) ∷ []) reached.fine.0
        (after_last home body outcome reached.applied, tt)) is

    pub asked-next : SettlesNext s w.settled (v.process p) step
    asked-next = settles (head_at (v.process p) home) refl acts.settled

    pub asked : RebuildsRight s w.settled (v.process p) step.process → Whole s more w
    asked = treated calls more more-fine v w p step pin up lives (Asks c.name c.op next.bytes) whole acts asked-leaves asked-next

  -- a message is received
  module _ (calls : List AskedCall) (v u w : State) (x p : ProcessId) (m : Message) (xin : IsProcess s x)
      (pin : IsProcess s p) (apart : x ≢ p) (up : IsGroupUp s v) (lives : v.dead p ≡ false) (whole : Whole s calls v)
      (pops : Popped s v u x p m) (acts : Acted s u w p (receive s x m (v.process p))) where
    pub both_received : LeavesEach s calls v w p
    both_received = reaching.receives-both (FineIn s calls) (fine-laws s calls) s shaped v u w x p m xin pin apart up
        lives whole.carried.members whole.reach pops acts

    pub members_received : Members s w
    members_received = (members.keeps s shaped).receives v u w x p m xin pin apart up lives whole.carried.members pops acts

    -- a mark that is taken is new
    pub marks-received : MarksNew m (v.process p)
    marks-received = by m refl where
      unmarked : IsUnmarked m (v.process p)
      unmarked = (marks-new s v whole.carried).coming x p m (u.link x p) xin pin apart lives pops.first

      by : (z : Message) → m ≡ z → MarksNew z (v.process p)
      by (tells.Mark session r block d n) is = λ accepts.
          let numbers =
          (subst (λ (y : Message). FitsNumbers s x y (v.process p)) is
          (fits-numbers (FineIn s calls) s v whole.carried.members whole.reach x p xin pin apart lives m (u.link x p)
          pops.first)) accepts in
          record { above = numbers.above; issued = numbers.issued; unmarked = subst (λ (y : Message). IsUnmarked y (v.process p)) is unmarked }
      by (tells.Update r e z stable) is = tt
      by (tells.Ack r e n) is = tt
      by (tells.Stable r e n) is = tt
      by (tells.Adopt r e base list) is = tt
      by (tells.ReadBlock session block rows) is = tt
      by (tells.Block session bytes n) is = tt
      by (tells.Row session bytes stamp) is = tt
      by (tells.Cease upto) is = tt
      by (tells.Notice dead) is = tt

    pub same_received : (q : ProcessId) → IsProcess s q → q ≢ p → w.process q ≡ v.process q
    same_received q qin other = acts.others q qin other ∙ pops.processes q qin

    pub dead_received : (q : ProcessId) → IsProcess s q → w.dead q ≡ v.dead q
    dead_received q qin = acts.dead q qin ∙ pops.dead q qin

    right_received : RebuildsRight s w.settled (v.process p) (receive s x m (v.process p)).process
        → StepIsRight s w.settled (v.process p) (receive s x m (v.process p))
    right_received = right-after calls calls (λ d a h fine. fine) v w p (receive s x m (v.process p)) pin lives whole
        acts.process same_received dead_received members_received both_received

    pub received : RebuildsRight s w.settled (v.process p) (receive s x m (v.process p)).process → Whole s calls w
    received rebuilds = record {
      carried = (sessions.keeps s shaped).receives v u w x p m xin pin apart up lives whole.carried pops acts;
      reach = reach-after calls calls (λ d a h fine. fine) v w p (receive s x m (v.process p)) pin lives whole
          acts.process same_received dead_received members_received both_received;
      settled = settled-after calls calls (λ d a h fine. fine) v w p (receive s x m (v.process p)) pin lives whole
          acts.process same_received dead_received members_received both_received;
      unkept = unkept-after calls calls (λ d a h fine. fine) v w p (receive s x m (v.process p)) pin lives whole
          acts.process same_received dead_received members_received both_received;
      bytes = (bytes_kept s shaped).receives v u w x p m xin pin apart lives whole.carried.members whole.bytes
          marks-received (right_received rebuilds) pops acts;
      exact = (exact_kept s shaped).receives v u w x p m xin pin apart lives whole.carried.members members_received
          whole.bytes whole.exact marks-received (right_received rebuilds) pops acts;
    }

  -- a process dies
  pub died : (calls : List AskedCall) (v w : State) (p : ProcessId) (keep : ℕ) → IsProcess s p → Whole s calls v → Died s v w p keep → Whole s calls w
  died calls v w p keep pin whole dies = record {
    carried = (sessions.keeps s shaped).dies v w p keep pin whole.carried dies;
    reach = reaching.dies (FineIn s calls) (fine-laws s calls) s shaped v w p keep pin whole.reach dies;
    settled = λ d below. subst (λ (us : List Update). FineIn s calls d (length us) us) (sym (dies.settled d)) (whole.settled d below);
    unkept = λ q d qin living below not. ap (λ (y : Process). replica_of y d) (dies.processes q qin) ∙ whole.unkept q d qin (lived q qin living) below not;
    bytes = (bytes_kept s shaped).dies v w p keep pin whole.bytes dies;
    exact = (exact_kept s shaped).dies v w p keep pin whole.exact dies;
  } where
    lived : (q : ProcessId) → IsProcess s q → w.dead q ≡ false → v.dead q ≡ false
    lived q qin living = sym (dies.others q qin (λ same. cc (living, ap w.dead same, dies.dead))) ∙ living

  -- the start
  pub began : (v : State) → Opens s v → Whole s [] v
  began v starts = record {
    carried = (sessions.keeps s shaped).opens v starts;
    reach = reaching.opens (FineIn s []) (fine-laws s []) s shaped v starts;
    settled = λ d below. subst (λ (us : List Update). FineIn s [] d (length us) us) (sym (starts.settled d)) ((histories_are_fine s d).start []);
    unkept = λ q d qin living below not. ap (λ (y : Process). replica_of y d) (starts.process q qin) ∙ at-replicate empty_replica s.k d;
    bytes = (bytes_kept s shaped).opens v starts;
    exact = (exact_kept s shaped).opens v starts;
  }

  pub collected : (calls : List AskedCall) (v w : State) (p : ProcessId) (caller call : ℕ) → IsProcess s p → IsGroupUp s v → v.dead p ≡ false → Whole s calls v
      → Acted s v w p (collect_from caller call (v.process p) (range_with_len 0 s.k)).step
      → RebuildsRight s w.settled (v.process p) (collect_from caller call (v.process p) (range_with_len 0 s.k)).step.process → Whole s calls w
  collected calls v w p caller call pin up lives whole acts rebuilds =
      treated calls calls (λ d a h fine. fine) v w p
      (collect_from caller call (v.process p) (range_with_len 0 s.k)).step pin up lives (Collects caller call) whole
      acts
      (reaching.collects-both (FineIn s calls) (fine-laws s calls) s shaped v w p caller call pin up lives whole.carried.members whole.reach acts)
      (nothing-next s w.settled (v.process p) (collect_from caller call (v.process p) (range_with_len 0 s.k)).step
      (λ d. (still-collect s d caller call (v.process p) (range_with_len 0 s.k)).quiet)) rebuilds

  pub flushed : (calls : List AskedCall) (v w : State) (p : ProcessId) → IsProcess s p → IsGroupUp s v → v.dead p ≡ false
      → Whole s calls v → Acted s v w p (flush_process s (v.process p)).step
      → RebuildsRight s w.settled (v.process p) (flush_process s (v.process p)).step.process → Whole s calls w
  flushed calls v w p pin up lives whole acts rebuilds =
      treated calls calls (λ d a h fine. fine) v w p (flush_process s (v.process p)).step pin up lives Flushes whole acts
      (reaching.flushes-both (FineIn s calls) (fine-laws s calls) s shaped v w p pin up lives whole.carried.members whole.reach acts)
      (nothing-next s w.settled (v.process p) (flush_process s (v.process p)).step (λ d. (still-flush s d (v.process p)).quiet)) rebuilds
