-- What every replica has seen, kept by every move.
use Rattle.std.proofs.Common.{ℕ, suc, ◌≡◌, ◌≢◌, ◌<◌, ◌%◌, Bool, true, false, ◌&&◌, List, [], ◌∷◌, ◌++◌, take, replicate}
use Rattle.std.proofs.Common.{Option, Some, None, ◌⊎◌, inl, inr, refl, sym, ap, subst, ◌∙◌, arith}
use Rattle.std.proofs.lemmas.Bool.{cases_eq}
use Rattle.std.specs.List.{list_all, range_with_len}
use Rattle.group_types.specs.Dimensions.{Dimensions}
use Rattle.group_types.specs.Hash.{fnv1a, home_of}
use Rattle.group_types.specs.Lists.{at}
use Rattle.group_types.specs.Names.{IsProcess}
use Rattle.group_types.specs.Shape.{IsShape}
use Rattle.group_types.specs.declared.process.ProcessId.{ProcessId}
use Rattle.group_types.specs.declared.process.ProcessId.TheVariants.{DataNode, ParityNode}
use Rattle.group_types.specs.declared.run.Run.{Run}
use Rattle.group_types.proofs.Lists.{at-put, at-put-other, at-replicate}
use Rattle.group_types.proofs.Names.{same-cases}
use Rattle.group_types.specs.Each.{Each}
use Rattle.group_types.proofs.Eaches.{each-append, each-take}
use Rattle.membership.specs.Members.{Membership, knows_dead, with_dead}
use Rattle.memc_table.specs.Act.{act_value, key_of}
use Rattle.memc_table.specs.Asked.{Asked}
use Rattle.std.specs.Prelude.{All}
use Rattle.group_message.specs.declared.message.Message.{Message}
use Rattle.group_message.specs.declared.message.Message.TheVariants as tells
use Rattle.group_message.specs.declared.update.Update.{Update}
use Rattle.group_calls.specs.Turns.{CallName}
use Rattle.group_run.specs.Applying.{ProcessStep, head_at, replica_of}
use Rattle.group_run.specs.Asking.{ask_head, ask_process, collect_from, found_at}
use Rattle.group_run.specs.Deciding.{Bytes, Missing}
use Rattle.group_run.specs.History.{settled_with, history}
use Rattle.group_run.specs.Process.{Head, Process, new_head, opening_process}
use Rattle.group_run.specs.Receiving.{death_known, receive}
use Rattle.group_run.specs.Replica.{Replica, empty_replica, last_of}
use Rattle.group_run.specs.World.{flush_process, sent_to}
use Rattle.law_moves.proofs.Moves.{Acted, Asks, Collects, Died, Flushes, Keeps, Popped, Treats}
use Rattle.law_moves.specs.State.{IsGroupUp, State}
use Rattle.law_moves.proofs.State.{Opens}
use Rattle.law_moves.proofs.Known.{known-notice}
use Rattle.law_moves.proofs.Runs.{holds_always}
use Rattle.law_moves.proofs.Members.{Members, Sits, knows_lower}
use Rattle.law_moves.specs.Known.{is_notice}
use Rattle.law_moves.proofs.Calls.{seat-head, seat-known, seat-lower}
use Rattle.law_moves.proofs.Keeping.{keeps, known-is-dead, living-unknown}
use Rattle.law_histories.proofs.Issuing.{IssueKeeps, IssuesIn}
use Rattle.law_histories.proofs.LaneWords.{AckBelow, Goes, next, Prolongs}
use Rattle.law_histories.proofs.Reach.{IsKeeper, Any, HeadReaches, LaneReaches, PartitionReaches, Reach, ReachAlways, ReplicaFits, ReplicaReaches, seen_at}
use Rattle.law_histories.proofs.HistoryWords.{HistoryLaws}
use Rattle.law_histories.proofs.Acts.{act-pop, act-same}
use Rattle.law_histories.proofs.Around.{Around, GrewBy, Since, enters, lane-is, left, FollowsBy}
use Rattle.law_histories.proofs.Calls.{ask-leads, still-ask, still-collect, still-flush}
use Rattle.law_histories.proofs.Applies.{settled-begins}
use Rattle.law_histories.proofs.Folds.{along-append, along-take, run, Along}
use Rattle.law_histories.proofs.Messages.{received, seat-some}
use Rattle.law_histories.proofs.Notices.{notice-leads, same-known}
use Rattle.law_histories.proofs.Rows.{LeadsLost}
use Rattle.law_histories.proofs.Steps.{Still, still-leads}

-- a leader of one partition leads all that are lost
lower-lost : (known : Membership) (d l i : ℕ) → knows_lower known d i ≡ true → knows_dead known (DataNode l) ≡ true → knows_lower known l i ≡ true
lower-lost known d l i lower lost = by (knows_dead known (DataNode d)) (list_all (λ j. knows_dead known (ParityNode j)) (range_with_len 0 i)) refl lower where
  by : (a b : Bool) → list_all (λ j. knows_dead known (ParityNode j)) (range_with_len 0 i) ≡ b → (a && b) ≡ true → knows_lower known l i ≡ true
  by true true rest both = ap (λ (x : Bool). x && list_all (λ j. knows_dead known (ParityNode j)) (range_with_len 0 i)) lost ∙ rest
  by true false rest both = cc both
  by false b rest both = cc both

module _ (s : Dimensions) (v : State) (members : Members s v) (p : ProcessId) (pin : IsProcess s p) (lives : v.dead p ≡ false) where
  -- no living process is known dead, and whoever is known dead is
  pub unknown : (q : ProcessId) → IsProcess s q → q ≢ p → v.dead q ≡ false → knows_dead (v.process p).known q ≡ false
  unknown q qin other living = living-unknown q (v.dead q) (knows_dead (v.process p).known q) (v.link q p) (members.stands q p qin pin other lives) living

  pub known-dead : (q : ProcessId) → IsProcess s q → q ≢ p → knows_dead (v.process p).known q ≡ true → v.dead q ≡ true
  known-dead q qin other knows = known-is-dead q (v.dead q) (knows_dead (v.process p).known q) (v.link q p) (members.stands q p qin pin other lives) knows

  pub leads-lost : (e : ℕ) (h : Head) (run : Run) (b : ℕ) → e < s.k → head_at (v.process p) e ≡ Some h → (y : ProcessId) → p ≡ y
      → found_at s e (v.process p) y run ≡ Missing b → LeadsLost s (v.process p)
  leads-lost e h run b below heads (DataNode z) is missing l lin lost = absurd (bytes_not missing) where
    bytes_not : {bytes : List ℕ} → Bytes bytes ≡ Missing b → ⊥
    bytes_not m = cc m
  leads-lost e h run b below heads (ParityNode i) is missing l lin lost =
      let sits_e : Sits (v.process p) e (ParityNode i) = subst (Sits (v.process p) e) is (members.sits p e pin lives below) in
      let lower : knows_lower (v.process p).known e i ≡ true = seat-lower (v.process p) e i h.rank sits_e (seat-head (v.process p) e h heads) in
      let known = seat-known (v.process p) l i (subst (Sits (v.process p) l) is (members.sits p l pin lives lin))
      (lower-lost (v.process p).known e l i lower lost) in
      let head = seat-some (head_at (v.process p) l) (suc i) known.0 in
      (head.0, head.1, known.1 ∙ sym head.2)

module _ (F : ℕ → ℕ → List Update → Type 0) (laws : HistoryLaws F) (s : Dimensions) (shaped : IsShape s) where
  -- what a move of p leaves: what is reached, that no number of applied updates fell and heads stayed, and who
  -- settled what was settled
  abbrev pub Leaves_both : State → State → ProcessId → Type 0
  Leaves_both v w p =
      (d : ℕ) → d < s.k → PartitionReaches F s w d × Since d (v.process p) (w.process p) × GrewBy d (v.settled d) (w.settled d) (w.process p) × FollowsBy d
      (v.settled d) (replica_of (v.process p) d) (w.settled d) (w.process p) × (¬ (IsKeeper d p) → replica_of (w.process p) d ≡ replica_of (v.process p) d)

  -- a process treated something
  module _ (v w : State) (p : ProcessId) (t : ProcessStep) (pin : IsProcess s p) (lives : v.dead p ≡ false) (after : Members s w) (acts : Acted s v w p t) where
    after-lives : w.dead p ≡ false
    after-lives = acts.dead p pin ∙ lives

    spared : (q : ProcessId) → IsProcess s q → q ≢ p → v.dead q ≡ false → knows_dead t.process.known q ≡ false
    spared q qin other living = ap (λ (y : Process). knows_dead y.known q) (sym acts.process)
        ∙ unknown s w after p pin after-lives q qin other (acts.dead q qin ∙ living)

    treated : (d : ℕ) → d < s.k → Around F s v d p t.process (λ q. v.link p q ++ sent_to q t.sent) (λ x. v.link x p) (settled_with t.settled d (v.settled d))
        → PartitionReaches F s w d × Since d (v.process p) (w.process p) × GrewBy d (v.settled d) (w.settled d) (w.process p) × FollowsBy d (v.settled d)
        (replica_of (v.process p) d) (w.settled d) (w.process p) × (¬ (IsKeeper d p) → replica_of (w.process p) d ≡ replica_of (v.process p) d)
    treated d below around = (
      left F s v w d p t.process (λ q. v.link p q ++ sent_to q t.sent) (λ x. v.link x p) (settled_with t.settled d (v.settled d)) pin lives (record {
        process = acts.process;
        others = acts.others;
        dead = acts.dead;
        out_is = λ q qin other living. acts.sends q qin (spared q qin other living);
        inn_is = λ x xin other. acts.links x p xin pin other;
        between = λ x q xin qin other qother. acts.links x q xin qin other;
        settled_is = acts.settled d below;
      }) around,
      subst (Since d (v.process p)) (sym acts.process) around.since,
      subst (λ (us : List Update). GrewBy d (v.settled d) us (w.process p)) (sym (acts.settled d below))
          (subst (GrewBy d (v.settled d) (settled_with t.settled d (v.settled d))) (sym acts.process) around.grew),
      subst (λ (us : List Update). FollowsBy d (v.settled d) (replica_of (v.process p) d) us (w.process p)) (sym (acts.settled d below))
          (subst (FollowsBy d (v.settled d) (replica_of (v.process p) d) (settled_with t.settled d (v.settled d))) (sym acts.process) around.follows),
      λ not. ap (λ (y : Process). replica_of y d) acts.process ∙ around.unkept not,
    )

  spares_of : (v : State) → Members s v → (p : ProcessId) → IsProcess s p → v.dead p ≡ false → (i : ℕ) → i < s.m → ParityNode i ≢ p
      → v.dead (ParityNode i) ≡ false → knows_dead (v.process p).known (ParityNode i) ≡ false
  spares_of v members p pin lives i iin other living = unknown s v members p pin lives (ParityNode i) iin other living

  members_after : (v w : State) (p : ProcessId) (t : ProcessStep) → IsProcess s p → IsGroupUp s v → v.dead p ≡ false
      → Treats s (v.process p) t → Members s v → Acted s v w p t → Members s w
  members_after v w p t pin up lives treats members acts = (keeps s shaped).treats v w p t pin up lives treats members acts

  -- a step that leaves every partition as it is
  still-treated : (v w : State) (p : ProcessId) (t : ProcessStep) → IsProcess s p → IsGroupUp s v → v.dead p ≡ false → Treats s (v.process p) t
      → ((d : ℕ) → Still d (v.process p) t) → Members s v → Reach F s v → Acted s v w p t → Leaves_both v w p
  still-treated v w p t pin up lives treats still members reach acts d below =
      treated v w p t pin lives (members_after v w p t pin up lives treats members acts) acts d below
      (still-leads F laws s v members d below p pin lives (λ x. v.link x p) (v.process p) t (still d) (v.link p)
      (v.settled d) (enters F s v members d below p pin lives (reach d below)))

  -- a call is asked, where what is issued keeps the sentence
  pub asks-both : (v w : State) (p : ProcessId) (name : CallName) (op : Asked) → IsProcess s p → IsGroupUp s v
      → v.dead p ≡ false → All (λ b. b < 256) (act_value op.act) → IssueKeeps F s v p name op
      → Members s v → Reach F s v → Acted s v w p (ask_process s name op (v.process p)).step → Leaves_both v w p
  asks-both v w p name op pin up lives bytes issues members reach acts d below =
      treated v w p (ask_process s name op (v.process p)).step pin lives
      (members_after v w p (ask_process s name op (v.process p)).step pin up lives (Asks name op bytes) members acts) acts d below
      (by (cases_eq (home_of (key_of op.act) s.k) d))
    where
      below_e : fnv1a (key_of op.act) % s.k < s.k
      below_e = let first = shaped.k in omega (arith, first)

      around : Around F s v d p (v.process p) (v.link p) (λ x. v.link x p) (v.settled d)
      around = enters F s v members d below p pin lives (reach d below)

      leads : (g : Head) → head_at (v.process p) (home_of (key_of op.act) s.k) ≡ Some g → (run : Run) (b : ℕ)
          → found_at s (home_of (key_of op.act) s.k) (v.process p) (v.process p).name run ≡ Missing b → LeadsLost s (v.process p)
      leads g heads run b missing =
          leads-lost s v members p pin lives (home_of (key_of op.act) s.k) g run b below_e heads p refl
          (ap (λ (y : ProcessId). found_at s (home_of (key_of op.act) s.k) (v.process p) y run) (sym (members.named p pin)) ∙ missing)

      by : (home_of (key_of op.act) s.k ≡ d) ⊎ (home_of (key_of op.act) s.k ≢ d)
          → Around F s v d p (ask_process s name op (v.process p)).step.process (λ q. v.link p q ++ sent_to q (ask_process s name op (v.process p)).step.sent)
          (λ x. v.link x p) (settled_with (ask_process s name op (v.process p)).step.settled d (v.settled d))
      by (inr other) = still-leads F laws s v members d below p pin lives (λ x. v.link x p) (v.process p) (ask_process s name op (v.process p)).step
          (still-ask s d name op (home_of (key_of op.act) s.k) (v.process p)
          (head_at (v.process p) (home_of (key_of op.act) s.k)) other leads) (v.link p) (v.settled d) around
      by (inl same) =
          subst (λ (k : ℕ). Around F s v d p (ask_head s name op k (v.process p) (head_at (v.process p) k)).step.process
          (λ q. v.link p q ++ sent_to q (ask_head s name op k (v.process p) (head_at (v.process p) k)).step.sent)
          (λ x. v.link x p)
          (settled_with (ask_head s name op k (v.process p) (head_at (v.process p) k)).step.settled d
          (v.settled d))) (sym same)
          (ask-leads F laws s v members d below p pin lives (λ x. v.link x p) (v.settled d) (v.process p) name op
          (head_at (v.process p) d) refl (members.named p pin) (spares_of v members p pin lives)
          (subst (λ (k : ℕ). (g : Head) → head_at (v.process p) k ≡ Some g → (run : Run) (b : ℕ)
          → found_at s k (v.process p) (v.process p).name run ≡ Missing b → LeadsLost s (v.process p)) same leads)
          (subst (λ (k : ℕ). IssuesIn F s k (v.settled k) (v.process p) name op) same issues) (v.link p) around)

  pub collects-both : (v w : State) (p : ProcessId) (caller call : ℕ) → IsProcess s p → IsGroupUp s v → v.dead p ≡ false → Members s v → Reach F s v
      → Acted s v w p (collect_from caller call (v.process p) (range_with_len 0 s.k)).step → Leaves_both v w p
  collects-both v w p caller call pin up lives members reach acts =
      still-treated v w p (collect_from caller call (v.process p) (range_with_len 0 s.k)).step pin up lives (Collects caller call)
      (λ d. still-collect s d caller call (v.process p) (range_with_len 0 s.k)) members reach acts

  pub flushes-both : (v w : State) (p : ProcessId) → IsProcess s p → IsGroupUp s v → v.dead p ≡ false → Members s v
      → Reach F s v → Acted s v w p (flush_process s (v.process p)).step → Leaves_both v w p
  flushes-both v w p pin up lives members reach acts = still-treated v w p (flush_process s (v.process p)).step pin up
      lives Flushes (λ d. still-flush s d (v.process p)) members reach acts

  -- whatever a process treats, where what is issued keeps the sentence
  pub treats-both : (v w : State) (p : ProcessId) (t : ProcessStep) → IsProcess s p → IsGroupUp s v → v.dead p ≡ false
      → ((name : CallName) (op : Asked) → All (λ b. b < 256) (act_value op.act) → IssueKeeps F s v p name op) → Treats s (v.process p) t → Members s v
      → Reach F s v → Acted s v w p t → Leaves_both v w p
  treats-both v w p _ pin up lives issues (Asks name op bytes) members reach acts =
      asks-both v w p name op pin up lives bytes (issues name op bytes) members reach acts
  treats-both v w p _ pin up lives issues (Collects caller call) members reach acts = collects-both v w p caller call pin up lives members reach acts
  treats-both v w p _ pin up lives issues Flushes members reach acts = flushes-both v w p pin up lives members reach acts

  -- a message is received
  module _ (v u w : State) (x p : ProcessId) (m : Message) (xin : IsProcess s x) (pin : IsProcess s p) (apart : x ≢ p)
      (up : IsGroupUp s v) (lives : v.dead p ≡ false) (members : Members s v) (reach : Reach F s v)
      (pops : Popped s v u x p m)
      (acts : Acted s u w p (receive s x m (v.process p))) where
    after : Members s w
    after = (keeps s shaped).receives v u w x p m xin pin apart up lives members pops acts

    same_dead : (q : ProcessId) → IsProcess s q → w.dead q ≡ v.dead q
    same_dead q qin = acts.dead q qin ∙ pops.dead q qin

    step_known : (q : ProcessId) → knows_dead (w.process p).known q ≡ knows_dead (receive s x m (v.process p)).process.known q
    step_known q = ap (λ (y : Process). knows_dead y.known q) acts.process

    received_spares : (q : ProcessId) → IsProcess s q → q ≢ p → v.dead q ≡ false → knows_dead (receive s x m (v.process p)).process.known q ≡ false
    received_spares q qin other living = sym (step_known q) ∙ unknown s w after p pin (same_dead p pin ∙ lives) q qin other (same_dead q qin ∙ living)

    received_dead : (q : ProcessId) → IsProcess s q → q ≢ p → knows_dead (receive s x m (v.process p)).process.known q ≡ true → v.dead q ≡ true
    received_dead q qin other knows = sym (same_dead q qin) ∙ known-dead s w after p pin (same_dead p pin ∙ lives) q qin other (step_known q ∙ knows)

    left_rest : (y : ProcessId) → IsProcess s y → y ≢ x → u.link y p ≡ v.link y p
    left_rest y yin other = pops.links y p yin pin (inl other)

    arrives : (d : ℕ) → d < s.k
        → Around F s v d p (receive s x m (v.process p)).process (λ q. v.link p q ++ sent_to q (receive s x m (v.process p)).sent) (λ y. u.link y p)
        (settled_with (receive s x m (v.process p)).settled d (v.settled d))
        → PartitionReaches F s w d × Since d (v.process p) (w.process p) × GrewBy d (v.settled d) (w.settled d) (w.process p) × FollowsBy d (v.settled d)
        (replica_of (v.process p) d) (w.settled d) (w.process p) × (¬ (IsKeeper d p) → replica_of (w.process p) d ≡ replica_of (v.process p) d)
    arrives d below around = (
      left F s v w d p (receive s x m (v.process p)).process (λ q. v.link p q ++ sent_to q (receive s x m (v.process p)).sent) (λ y. u.link y p)
          (settled_with (receive s x m (v.process p)).settled d (v.settled d)) pin lives (record {
            process = acts.process;
            others = λ q qin other. acts.others q qin other ∙ pops.processes q qin;
            dead = same_dead;
            out_is =
                λ q qin other living. acts.sends q qin (received_spares q qin other living)
                ∙ ap (λ (link : List Message). link ++ sent_to q (receive s x m (v.process p)).sent) (pops.links p q pin qin (inr other));
            inn_is = λ y yin other. acts.links y p yin pin other;
            between = λ y q yin qin other qother. acts.links y q yin qin other ∙ pops.links y q yin qin (inr qother);
            settled_is = acts.settled d below ∙ ap (settled_with (receive s x m (v.process p)).settled d) (pops.settled d);
          }) around,
      subst (Since d (v.process p)) (sym acts.process) around.since,
      subst (λ (us : List Update). GrewBy d (v.settled d) us (w.process p))
          (sym (acts.settled d below ∙ ap (settled_with (receive s x m (v.process p)).settled d) (pops.settled d)))
          (subst (GrewBy d (v.settled d) (settled_with (receive s x m (v.process p)).settled d (v.settled d))) (sym acts.process) around.grew),
      subst (λ (us : List Update). FollowsBy d (v.settled d) (replica_of (v.process p) d) us (w.process p))
          (sym (acts.settled d below ∙ ap (settled_with (receive s x m (v.process p)).settled d) (pops.settled d)))
          (subst (FollowsBy d (v.settled d) (replica_of (v.process p) d)
          (settled_with (receive s x m (v.process p)).settled d (v.settled d))) (sym acts.process) around.follows),
      λ not. ap (λ (y : Process). replica_of y d) acts.process ∙ around.unkept not,
    )

    began : (d : ℕ) → d < s.k → Around F s v d p (v.process p) (v.link p) (λ y. v.link y p) (v.settled d)
    began d below = enters F s v members d below p pin lives (reach d below)

    receives_plain : is_notice m ≡ false → Leaves_both v w p
    receives_plain plain d below =
        arrives d below (received F laws s v members d below p pin lives (spares_of v members p pin lives) x xin apart
        (λ y. u.link y p) left_rest (began d below) m plain pops.first)

  -- a notice
  receives_notice : (v u w : State) (x p dead : ProcessId) (xin : IsProcess s x) (pin : IsProcess s p) (apart : x ≢ p)
      (up : IsGroupUp s v) (lives : v.dead p ≡ false) (members : Members s v) (reach : Reach F s v)
      (pops : Popped s v u x p (tells.Notice dead))
      (acts : Acted s u w p (receive s x (tells.Notice dead) (v.process p))) → Leaves_both v w p
  receives_notice v u w x p dead xin pin apart up lives members reach pops acts d below =
      arrives v u w x p (tells.Notice dead) xin pin apart up lives members reach pops acts d below
      (notice-leads F laws s v members d below p pin lives (λ y. u.link y p) (with_dead (v.process p).known dead)
      (λ i iin other living. ap (λ (k : Membership). knows_dead k (ParityNode i)) (sym now)
      ∙ received_spares v u w x p (tells.Notice dead) xin pin apart up lives members reach pops acts (ParityNode i)
      iin other living)
      (λ q qin other knows. received_dead v u w x p (tells.Notice dead) xin pin apart up lives members reach pops acts q
      qin other (ap (λ (k : Membership). knows_dead k q) now ∙ knows))
      (death_known dead (v.process p))
      (record { name = same.3 ∙ members.named p pin; knows = same.4; head = same.0; rank = same.1; replica = same.2 })
      (v.link p) (v.settled d)
      (act-same F s v members d below p pin lives (v.process p) (death_known dead (v.process p)) (v.link p) (λ y. u.link y p) (v.settled d)
      (record { head = same.0; rank = same.1; replica = same.2 }) popped))
    where
      now : (receive s x (tells.Notice dead) (v.process p)).process.known ≡ with_dead (v.process p).known dead
      now = known-notice s dead (v.process p)

      same : (head_at (death_known dead (v.process p)) d ≡ head_at (v.process p) d)
          × (at 0 (death_known dead (v.process p)).ranks d ≡ at 0 (v.process p).ranks d)
          × (replica_of (death_known dead (v.process p)) d ≡ replica_of (v.process p) d)
          × ((death_known dead (v.process p)).name ≡ (v.process p).name) × ((death_known dead (v.process p)).known ≡ with_dead (v.process p).known dead)
      same = same-known s d dead (v.process p)

      popped : Around F s v d p (v.process p) (v.link p) (λ y. u.link y p) (v.settled d)
      popped = act-pop F s v members d below p pin lives (v.process p) (v.link p) (λ y. v.link y p) (λ y. u.link y p)
          (v.settled d) x (tells.Notice dead) pops.first
          (λ y yin other. pops.links y p yin pin (inl other)) xin apart (λ i is. refl) (enters F s v members d below p pin lives (reach d below))

  pub receives-both : (v u w : State) (x p : ProcessId) (m : Message) → IsProcess s x → IsProcess s p → x ≢ p → IsGroupUp s v → v.dead p ≡ false → Members s v
      → Reach F s v → Popped s v u x p m → Acted s u w p (receive s x m (v.process p)) → Leaves_both v w p
  receives-both v u w x p (tells.Notice dead) xin pin apart up lives members reach pops acts =
      receives_notice v u w x p dead xin pin apart up lives members reach pops acts
  receives-both v u w x p (tells.Update r e z stable) xin pin apart up lives members reach pops acts =
      receives_plain v u w x p (tells.Update r e z stable) xin pin apart up lives members reach pops acts refl
  receives-both v u w x p (tells.Ack r e n) xin pin apart up lives members reach pops acts =
      receives_plain v u w x p (tells.Ack r e n) xin pin apart up lives members reach pops acts refl
  receives-both v u w x p (tells.Stable r e n) xin pin apart up lives members reach pops acts =
      receives_plain v u w x p (tells.Stable r e n) xin pin apart up lives members reach pops acts refl
  receives-both v u w x p (tells.Adopt r e base list) xin pin apart up lives members reach pops acts =
      receives_plain v u w x p (tells.Adopt r e base list) xin pin apart up lives members reach pops acts refl
  receives-both v u w x p (tells.ReadBlock session block rows) xin pin apart up lives members reach pops acts =
      receives_plain v u w x p (tells.ReadBlock session block rows) xin pin apart up lives members reach pops acts refl
  receives-both v u w x p (tells.Block session bytes n) xin pin apart up lives members reach pops acts =
      receives_plain v u w x p (tells.Block session bytes n) xin pin apart up lives members reach pops acts refl
  receives-both v u w x p (tells.Mark session r block e n) xin pin apart up lives members reach pops acts =
      receives_plain v u w x p (tells.Mark session r block e n) xin pin apart up lives members reach pops acts refl
  receives-both v u w x p (tells.Row session bytes stamp) xin pin apart up lives members reach pops acts =
      receives_plain v u w x p (tells.Row session bytes stamp) xin pin apart up lives members reach pops acts refl
  receives-both v u w x p (tells.Cease upto) xin pin apart up lives members reach pops acts =
      receives_plain v u w x p (tells.Cease upto) xin pin apart up lives members reach pops acts refl

  -- a call is asked, where what is issued keeps the sentence
  pub asks : (v w : State) (p : ProcessId) (name : CallName) (op : Asked) → IsProcess s p → IsGroupUp s v → v.dead p ≡ false
      → All (λ b. b < 256) (act_value op.act) → IssueKeeps F s v p name op
      → Members s v → Reach F s v → Acted s v w p (ask_process s name op (v.process p)).step → Reach F s w
  asks v w p name op pin up lives bytes issues members reach acts d below = (asks-both v w p name op pin up lives bytes issues members reach acts d below).0

  -- a call is collected, and a process is told to tell how far it has settled
  pub collects : (v w : State) (p : ProcessId) (caller call : ℕ) → IsProcess s p → IsGroupUp s v → v.dead p ≡ false → Members s v → Reach F s v
      → Acted s v w p (collect_from caller call (v.process p) (range_with_len 0 s.k)).step → Reach F s w
  collects v w p caller call pin up lives members reach acts d below = (collects-both v w p caller call pin up lives members reach acts d below).0

  pub flushes : (v w : State) (p : ProcessId) → IsProcess s p → IsGroupUp s v → v.dead p ≡ false → Members s v → Reach F s v
      → Acted s v w p (flush_process s (v.process p)).step → Reach F s w
  flushes v w p pin up lives members reach acts d below = (flushes-both v w p pin up lives members reach acts d below).0

  -- whatever a process treats, where what is issued keeps the sentence
  pub treats : (v w : State) (p : ProcessId) (t : ProcessStep) → IsProcess s p → IsGroupUp s v → v.dead p ≡ false
      → ((name : CallName) (op : Asked) → All (λ b. b < 256) (act_value op.act) → IssueKeeps F s v p name op) → Treats s (v.process p) t → Members s v
      → Reach F s v → Acted s v w p t → Reach F s w
  treats v w p t pin up lives issues treated members reach acts d below = (treats-both v w p t pin up lives issues treated members reach acts d below).0

  -- a message is received
  pub receives : (v u w : State) (x p : ProcessId) (m : Message) → IsProcess s x → IsProcess s p → x ≢ p → IsGroupUp s v → v.dead p ≡ false → Members s v
      → Reach F s v → Popped s v u x p m → Acted s u w p (receive s x m (v.process p)) → Reach F s w
  receives v u w x p m xin pin apart up lives members reach pops acts d below =
      (receives-both v u w x p m xin pin apart up lives members reach pops acts d below).0

  -- what was settled stays in front
  pub acted-begins : (v w : State) (p : ProcessId) (t : ProcessStep) → Acted s v w p t → (d : ℕ) → d < s.k → Prolongs (v.settled d) (w.settled d)
  acted-begins v w p t acts d below = subst (Prolongs (v.settled d)) (sym (acts.settled d below)) (settled-begins t.settled d (v.settled d))

  -- a process dies: what its links keep still fits
  pub dies : (v w : State) (p : ProcessId) (keep : ℕ) → IsProcess s p → Reach F s v → Died s v w p keep → Reach F s w
  dies v w p keep pin reach died d below = record {
    replicas =
        λ q qin living keeps. subst (λ (us : List Update). ReplicaReaches F d us (w.process q)) (sym (died.settled d))
        (subst (ReplicaReaches F d (v.settled d)) (sym (died.processes q qin)) ((reach d below).replicas q qin (lived q qin living) keeps));
    lanes =
        λ x i xin iin apart living. subst
        (λ (us : List Update). LaneReaches F d us x i (w.dead x) (head_at (w.process x) d) (replica_of (w.process x) d)
        (seen_at d us (w.process (ParityNode i))) (w.link x (ParityNode i)) (w.link (ParityNode i) x))
        (sym (died.settled d))
        (lane_by x i xin iin apart living (same-cases x p));
    issued = λ x i h xin living iin apart heads.
        subst (λ (y : Process). Each (AckBelow d (last_of (replica_of y d))) (w.link (ParityNode i) x))
        (sym (died.processes x xin))
        (issued_by x i xin living iin (same-cases (ParityNode i) p)
        ((reach d below).issued x i h xin (lived x xin living) iin apart
        (ap (λ (y : Process). head_at y d) (sym (died.processes x xin)) ∙ heads)));
  } where
    other_than : (q : ProcessId) → w.dead q ≡ false → q ≢ p
    other_than q here same = cc (here, ap w.dead same, died.dead)

    lived : (q : ProcessId) → IsProcess s q → w.dead q ≡ false → v.dead q ≡ false
    lived q qin here = sym (died.others q qin (other_than q here)) ∙ here

    issued_by : (x : ProcessId) (i : ℕ) → IsProcess s x → w.dead x ≡ false → i < s.m → (ParityNode i ≡ p) ⊎ (ParityNode i ≢ p)
        → Each (AckBelow d (last_of (replica_of (v.process x) d))) (v.link (ParityNode i) x)
        → Each (AckBelow d (last_of (replica_of (v.process x) d))) (w.link (ParityNode i) x)
    issued_by x i xin living iin (inr other) each = subst (Each (AckBelow d (last_of (replica_of (v.process x) d))))
        (sym (died.links (ParityNode i) x iin xin other)) each
    issued_by x i xin living iin (inl same) each = subst (λ (y : ProcessId). Each (AckBelow d (last_of (replica_of (v.process x) d))) (w.link y x)) (sym same)
        (subst (Each (AckBelow d (last_of (replica_of (v.process x) d)))) (sym (died.cut x xin))
        (each-append (AckBelow d (last_of (replica_of (v.process x) d))) (take keep (v.link p x)) (tells.Notice p ∷ [])
        (each-take (AckBelow d (last_of (replica_of (v.process x) d))) keep (v.link p x)
        (subst (λ (y : ProcessId). Each (AckBelow d (last_of (replica_of (v.process x) d))) (v.link y x)) same each))
        (tt, tt)))

    lane_by : (x : ProcessId) (i : ℕ) → IsProcess s x → i < s.m → x ≢ ParityNode i → w.dead (ParityNode i) ≡ false → (x ≡ p) ⊎ (x ≢ p)
        → LaneReaches F d (v.settled d) x i (w.dead x) (head_at (w.process x) d) (replica_of (w.process x) d)
        (seen_at d (v.settled d) (w.process (ParityNode i))) (w.link x (ParityNode i)) (w.link (ParityNode i) x)
    lane_by x i xin iin apart living (inr other) =
        lane-is F d (v.settled d) x i (v.dead x) (w.dead x) (head_at (v.process x) d) (head_at (w.process x) d) (replica_of (v.process x) d)
        (replica_of (w.process x) d) (seen_at d (v.settled d) (v.process (ParityNode i))) (seen_at d (v.settled d) (w.process (ParityNode i)))
        (v.link x (ParityNode i)) (w.link x (ParityNode i)) (v.link (ParityNode i) x) (w.link (ParityNode i) x)
        (died.others x xin other) (ap (λ (y : Process). head_at y d) (died.processes x xin)) (ap (λ (y : Process). replica_of y d) (died.processes x xin))
        (ap (seen_at d (v.settled d)) (died.processes (ParityNode i) iin))
        (died.links x (ParityNode i) xin iin other) (λ alive. died.links (ParityNode i) x iin xin (other_than (ParityNode i) living))
        ((reach d below).lanes x i xin iin apart (lived (ParityNode i) iin living))
    lane_by x i xin iin apart living (inl same) = record {
      goes =
          subst (λ (link : List Message). Along (next d) (Goes F d (v.settled d)) (seen_at d (v.settled d) (w.process (ParityNode i))) link)
          (sym (ap (λ (y : ProcessId). w.link y (ParityNode i)) same ∙ died.cut (ParityNode i) iin))
          (subst (λ (y : Process). Along (next d) (Goes F d (v.settled d)) (seen_at d (v.settled d) y)
          (take keep (v.link p (ParityNode i)) ++ tells.Notice p ∷ [])) (sym (died.processes (ParityNode i) iin))
          (along-append (next d) (Goes F d (v.settled d)) (seen_at d (v.settled d) (v.process (ParityNode i)))
          (take keep (v.link p (ParityNode i))) (tells.Notice p ∷ [])
          (along-take (next d) (Goes F d (v.settled d)) keep (seen_at d (v.settled d) (v.process (ParityNode i)))
          (v.link p (ParityNode i)) old.goes) (tt, tt)));
      ends = λ alive h heads. absurd (cc (alive, ap w.dead same, died.dead));
      kept = λ alive h heads. absurd (cc (alive, ap w.dead same, died.dead));
      acks = λ alive. absurd (cc (alive, ap w.dead same, died.dead));
    } where
      old : LaneReaches F d (v.settled d) p i (v.dead p) (head_at (v.process p) d) (replica_of (v.process p) d)
          (seen_at d (v.settled d) (v.process (ParityNode i))) (v.link p (ParityNode i)) (v.link (ParityNode i) p)
      old = (reach d below).lanes p i pin iin (λ e. apart (same ∙ e)) (lived (ParityNode i) iin living)

  -- the start
  abbrev start : ProcessId → Process
  start p = opening_process s p

  no-replica : (p : ProcessId) (d : ℕ) → replica_of (start p) d ≡ empty_replica
  no-replica p d = at-replicate empty_replica s.k d

  none-acked : (p : ProcessId) (d : ℕ) (h : Head) → head_at (start p) d ≡ Some h → h ≡ new_head s 0 0
  none-acked (ParityNode i) d h heads = absurd (cc (sym (at-replicate None s.k d) ∙ heads))
  none-acked (DataNode e) d h heads = by (cases_eq d e) where
    in_some : Option Head → Head
    in_some None = h
    in_some (Some g) = g

    by : (d ≡ e) ⊎ (d ≢ e) → h ≡ new_head s 0 0
    by (inl same) = ap in_some (sym heads ∙ ap (head_at (start (DataNode e))) same ∙ at-put None None (replicate s.k None) e (Some (new_head s 0 0)))
    by (inr other) = absurd (cc (heads, at-put-other None (replicate s.k None) e d (Some (new_head s 0 0)) other ∙ at-replicate None s.k d))

  pub opens : (v : State) → Opens s v → Reach F s v
  opens v starts d below = record {
    replicas =
        λ q qin living keeps. subst (λ (us : List Update). ReplicaReaches F d us (v.process q)) (sym (starts.settled d))
        (subst (ReplicaReaches F d []) (sym (starts.process q qin))
        (subst (λ (r : Replica). ReplicaFits F d [] r (head_at (start q) d)) (sym (no-replica q d)) (fits q)));
    lanes =
        λ x i xin iin apart living. subst
        (λ (us : List Update). LaneReaches F d us x i (v.dead x) (head_at (v.process x) d) (replica_of (v.process x) d)
        (seen_at d us (v.process (ParityNode i))) (v.link x (ParityNode i)) (v.link (ParityNode i) x))
        (sym (starts.settled d))
        (lane-is F d [] x i (v.dead x) (v.dead x) (head_at (start x) d) (head_at (v.process x) d)
        (replica_of (start x) d) (replica_of (v.process x) d) (seen_at d [] (start (ParityNode i)))
        (seen_at d [] (v.process (ParityNode i))) [] (v.link x (ParityNode i)) [] (v.link (ParityNode i) x)
        refl (ap (λ (y : Process). head_at y d) (starts.process x xin))
        (ap (λ (y : Process). replica_of y d) (starts.process x xin))
        (ap (seen_at d []) (starts.process (ParityNode i) iin)) (starts.links x (ParityNode i) xin iin)
        (λ alive. starts.links (ParityNode i) x iin xin) (lane x i));
    issued = λ x i h xin living iin apart heads. subst (Each (AckBelow d (last_of (replica_of (v.process x) d))))
        (sym (starts.links (ParityNode i) x iin xin)) tt;
  } where
    fits : (q : ProcessId) → ReplicaFits F d [] empty_replica (head_at (start q) d)
    fits q = record {
      applied = omega arith;
      prolongs = record { reaches = omega arith; front = refl };
      short = omega arith;
      fine = (tt, laws.start d);
      holds = record { items = refl; kept = refl };
      heads = λ h heads. subst (HeadReaches [] empty_replica) (sym (none-acked q d h heads))
          (record { inherited = omega arith; first = λ none. refl; all_or = inl refl });
    }

    lane : (x : ProcessId) (i : ℕ) → LaneReaches F d [] x i (v.dead x) (head_at (start x) d) (replica_of (start x) d)
        (seen_at d [] (start (ParityNode i))) [] []
    lane x i = record {
      goes = tt;
      ends = λ alive h heads. record {
        rank = at-replicate 0 s.k d ∙ ap (λ (g : Head). g.rank) (sym (none-acked x d h heads));
        history_is = ap (history []) (no-replica (ParityNode i) d) ∙ sym (ap (history []) (no-replica x d));
        number = let none : (replica_of (start (ParityNode i)) d).applied ≡ empty_replica.applied =
            ap (λ (r : Replica). r.applied) (no-replica (ParityNode i) d) in omega (arith, none);
      };
      kept = λ alive h heads n acked. absurd (cc (sym (ap (λ (g : Head). at None g.acks i) (none-acked x d h heads) ∙ at-replicate None s.m i) ∙ acked));
      acks = λ alive. tt;
    }

-- of histories of which nothing more is said
any-laws : HistoryLaws Any
any-laws = record { start = λ d. tt; rises = λ d a b history any low high. tt }

-- every move keeps what is reached, for a sentence that whatever is issued keeps
pub keeps_by : (F : ℕ → ℕ → List Update → Type 0) → HistoryLaws F → (s : Dimensions) → IsShape s
    → ((v : State) (p : ProcessId) (name : CallName) (op : Asked) → IsProcess s p → v.dead p ≡ false
    → All (λ b. b < 256) (act_value op.act) → Members s v → Reach F s v → IssueKeeps F s v p name op)
    → Keeps s (λ v. Members s v × Reach F s v)
keeps_by F laws s shaped issues = record {
  opens = λ v starts. ((keeps s shaped).opens v starts, opens F laws s shaped v starts);
  treats = λ v w p t pin up lives treated both acts. (
    (keeps s shaped).treats v w p t pin up lives treated both.0 acts,
    treats F laws s shaped v w p t pin up lives (λ name op bytes. issues v p name op pin lives bytes both.0 both.1) treated both.0 both.1 acts,
  );
  receives =
      λ v u w x p m xin pin apart up lives both pops acts. (
        (keeps s shaped).receives v u w x p m xin pin apart up lives both.0 pops acts,
        receives F laws s shaped v u w x p
            m xin pin apart up lives both.0 both.1 pops acts,
      );
  dies = λ v w p keep pin both died. ((keeps s shaped).dies v w p keep pin both.0 died, dies F laws s shaped v w p keep pin both.1 died);
}

pub keeps_reach : (s : Dimensions) → IsShape s → Keeps s (λ v. Members s v × Reach Any s v)
keeps_reach s shaped = keeps_by Any any-laws s shaped (λ v p name op pin lives bytes members reach h body outcome heads is. tt)

-- what every replica has seen in every run
pub reach_always : ReachAlways
reach_always s es run = holds_always s (λ v. Members s v × Reach Any s v) (keeps_reach s run.0) es run
