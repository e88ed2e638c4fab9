-- No number rises above that of the events.
use Rattle.std.proofs.Common.{ℕ, suc, ◌≡◌, ◌≢◌, ◌<◌, ◌≤◌, ◌%◌, Bool, true, false, List, [], ◌∷◌, ◌++◌, length, take}
use Rattle.std.proofs.Common.{All, Option, Some, None, ◌⊎◌, inl, inr, refl, sym, ap, subst, ◌∙◌, arith}
use Rattle.std.proofs.lemmas.Bool.{cases_eq}
use Rattle.std.proofs.lemmas.List.{length-append, length-take-le}
use Rattle.std.specs.Prelude.{slice_index_or}
use Rattle.group_types.specs.Dimensions.{Dimensions}
use Rattle.group_types.specs.Hash.{fnv1a, home_of}
use Rattle.group_types.specs.Lists.{at, put}
use Rattle.group_types.specs.Names.{IsProcess}
use Rattle.group_types.specs.Shape.{IsShape}
use Rattle.group_types.specs.declared.process.ProcessId.{ProcessId}
use Rattle.group_types.proofs.Lists.{at-put, at-put-other, at-replicate, at_index}
use Rattle.group_types.proofs.Names.{same-cases}
use Rattle.group_types.specs.Each.{Each}
use Rattle.memc_table.specs.Act.{key_of}
use Rattle.memc_table.specs.Asked.{Asked}
use Rattle.group_message.specs.declared.message.Message.{Message}
use Rattle.group_message.specs.declared.message.Message.TheVariants as tells
use Rattle.group_message.specs.declared.update.Update.{Update}
use Rattle.group_calls.specs.Turns.{CallName}
use Rattle.group_calls.specs.declared.event.Event.{Event}
use Rattle.group_run.specs.Applying.{ProcessStep, head_at, replica_of}
use Rattle.group_run.specs.Asking.{update_of}
use Rattle.group_run.specs.Headline.{IsRun, MayCome}
use Rattle.group_run.specs.History.{History, no_history, prolonged, history}
use Rattle.group_run.specs.Process.{Head, Process}
use Rattle.group_run.specs.Receiving.{receive}
use Rattle.group_run.specs.Replica.{Replica, callers, empty_replica, last_of}
use Rattle.group_run.specs.World.{AskedCall, after, asked_after, call_of}
use Rattle.law_moves.proofs.Moves.{Acted, Failed, Moves, Received, Stays, Treated}
use Rattle.law_moves.specs.State.{State, state_of}
use Rattle.law_moves.proofs.State.{Opens}
use Rattle.law_moves.proofs.Runs.{runs_move}
use Rattle.law_moves.proofs.Members.{MayStand, Members}
use Rattle.law_moves.specs.Known.{is_notice}
use Rattle.law_moves.proofs.Keeping as members
use Rattle.law_histories.proofs.HistoryWords.{HistoryLaws}
use Rattle.law_histories.proofs.Issuing.{IssueKeeps}
use Rattle.law_histories.proofs.Reach.{IsKeeper, Reach, ReplicaReaches}
use Rattle.law_histories.proofs.Keeping as reaching
use Rattle.law_histories.proofs.Weaker.{reach-weaker}
use Rattle.law_log.specs.Book.{book_of, booked, no_book}
use Rattle.law_log.proofs.Books.{book-history, book-shape, book-world, book_always}
use Rattle.law_headline.proofs.Issues.{head-keeps}
use Rattle.law_answers.specs.Numbers.{NumbersAreLow, NumbersLowAlways}
use Rattle.law_answers.proofs.Elsewhere.{Keeps, KeepsOr, received-last, treated-last}
use Rattle.law_answers.proofs.Leaving.{noticed-last, rests-received, starts-treated}

-- a history of no more than so many updates
abbrev Short : ℕ → ℕ → ℕ → List Update → Type 0
Short n d a h = length h ≤ n

short-laws : (n : ℕ) → HistoryLaws (Short n)
short-laws n = record { start = λ d. omega arith; rises = λ d a b h short low high. short }

-- no last session of a number above this one
abbrev SessionsLow : Dimensions → ℕ → State → Type 0
SessionsLow s n v = (p : ProcessId) → IsProcess s p → (v.process p).as_leader.last_session ≤ n

-- partitions that a living process doesn't keep have no update there
abbrev EmptyElsewhere : Dimensions → State → Type 0
EmptyElsewhere s v = (p : ProcessId) → IsProcess s p → v.dead p ≡ false → (d : ℕ) → Keeps s p d ⊎ (last_of (replica_of (v.process p) d) ≡ 0)

-- what is carried
record Low (s : Dimensions) (n : ℕ) (v : State) : Type 0 where
  members : Members s v
  reach : Reach (Short n) s v
  sessions : SessionsLow s n v
  elsewhere : EmptyElsewhere s v

inside : (a k : ℕ) → 0 < k → a % k < k
inside a k some = omega (arith, some)

module _ (s : Dimensions) (shaped : IsShape s) where
  some : 0 < s.k
  some = let first = shaped.k.0 in omega (arith, first)

  short-more : (n d a : ℕ) (h : List Update) → Short n d a h → Short (suc n) d a h
  short-more n d a h short = omega (arith, short)

  -- an update that is issued makes a history longer by one
  issues-one : (n : ℕ) (v : State) → Low s n v → (p : ProcessId) → IsProcess s p → v.dead p ≡ false → (name : CallName) (op : Asked)
      → IssueKeeps (Short (suc n)) s v p name op
  issues-one n v low p pin lives name op h body outcome heads decided =
      let d : ℕ = home_of (key_of op.act) s.k in
      let below : d < s.k = inside (fnv1a (key_of op.act)) s.k some in
      let keeps : IsKeeper d p = head-keeps (v.process p) d h p (low.members.sits p d pin lives below) heads in
      let reached : ReplicaReaches (Short n) d (v.settled d) (v.process p) = (low.reach d below).replicas p pin lives keeps in
      let short = reached.fine.1 in
      let longer = length-append (history (v.settled d) (replica_of (v.process p) d)) (update_of name op d body outcome (v.process p) ∷ []) in
      omega (arith, short, longer)

  acted-low : (n : ℕ) (v w : State) (p : ProcessId) (t : ProcessStep) → Acted s v w p t → SessionsLow s n v → t.process.as_leader.last_session ≤ suc n
      → SessionsLow s (suc n) w
  acted-low n v w p t acts low here y yin = by (same-cases y p) where
    by : (y ≡ p) ⊎ (y ≢ p) → (w.process y).as_leader.last_session ≤ suc n
    by (inl same) = let is = ap (λ (q : Process). q.as_leader.last_session) (ap w.process same ∙ acts.process) in omega (arith, is, here)
    by (inr other) = let is = ap (λ (q : Process). q.as_leader.last_session) (acts.others y yin other) in let was = low y yin in omega (arith, is, was)

  received-low : (n : ℕ) (x : ProcessId) (m : Message) (p : Process) → p.as_leader.last_session ≤ n → (receive s x m p).process.as_leader.last_session ≤ suc n
  received-low n x m p low = by m (is_notice m) refl where
    by : (k : Message) (b : Bool) → is_notice k ≡ b → (receive s x k p).process.as_leader.last_session ≤ suc n
    by k false plain = let same = (rests-received s x k p plain).last in omega (arith, same, low)
    by (tells.Notice dead) true is = let same = noticed-last s dead p in omega (arith, same, low)
    by (tells.Update r d un stable) true is = cc is
    by (tells.Ack r d k) true is = cc is
    by (tells.Stable r d k) true is = cc is
    by (tells.Adopt r d base list) true is = cc is
    by (tells.ReadBlock session block rows) true is = cc is
    by (tells.Block session bytes k) true is = cc is
    by (tells.Mark session r block d k) true is = cc is
    by (tells.Row session bytes stamp) true is = cc is
    by (tells.Cease upto) true is = cc is

  -- elsewhere nothing comes
  acted-elsewhere : (v w : State) (p : ProcessId) (t : ProcessStep) → Acted s v w p t → EmptyElsewhere s v → ((d : ℕ) → KeepsOr s p d (v.process p) t.process)
      → EmptyElsewhere s w
  acted-elsewhere v w p t acts empty here y yin living d = by (same-cases y p) (empty y yin (sym (acts.dead y yin) ∙ living) d) where
    by : (y ≡ p) ⊎ (y ≢ p) → Keeps s y d ⊎ (last_of (replica_of (v.process y) d) ≡ 0) → Keeps s y d ⊎ (last_of (replica_of (w.process y) d) ≡ 0)
    by which (inl keeps) = inl keeps
    by (inr other) (inr none) = inr (ap (λ (q : Process). last_of (replica_of q d)) (acts.others y yin other) ∙ none)
    by (inl same) (inr none) = of (here d) where
      of : KeepsOr s p d (v.process p) t.process → Keeps s y d ⊎ (last_of (replica_of (w.process y) d) ≡ 0)
      of (inl keeps) = inl (subst (λ (z : ProcessId). Keeps s z d) (sym same) keeps)
      of (inr last) =
          let now = ap (λ (q : Process). last_of (replica_of q d)) (ap w.process same ∙ acts.process) in
          let before = ap (λ (z : ProcessId). last_of (replica_of (v.process z) d)) same in
          inr (now ∙ last ∙ sym before ∙ none)

  keeps-own : (v : State) → Members s v → (p : ProcessId) → IsProcess s p → v.dead p ≡ false → (e : ℕ) (h : Head) → e < s.k → head_at (v.process p) e ≡ Some h
      → IsKeeper e p
  keeps-own v held p pin lives e h below heads = head-keeps (v.process p) e h p (held.sits p e pin lives below) heads

  -- each move raises numbers by one at most
  moved : (n : ℕ) (v w : State) → Moves s v w → Low s n v → Low s (suc n) w
  moved n v w (Stays same) low = subst (Low s (suc n)) (sym same) (record {
    members = low.members;
    reach = reach-weaker (Short n) (Short (suc n)) (short-more n) s v low.reach;
    sessions = λ p pin. let was = low.sessions p pin in omega (arith, was);
    elsewhere = low.elsewhere;
  })
  moved n v w (Treated p t pin up lives treats acts) low = record {
    members = (members.keeps s shaped).treats v w p t pin up lives treats low.members acts;
    reach = reaching.treats (Short (suc n)) (short-laws (suc n)) s shaped v w p t pin up lives
        (λ name op bytes. issues-one n v low p pin lives name op) treats low.members
        (reach-weaker (Short n) (Short (suc n)) (short-more n) s v low.reach) acts;
    elsewhere = acted-elsewhere v w p t acts low.elsewhere
        (λ d. treated-last s d p (v.process p) t (keeps-own v low.members p pin lives) (λ op. inside (fnv1a (key_of op.act)) s.k some) treats);
    sessions = acted-low n v w p t acts low.sessions
        (let one = (starts-treated s (v.process p) t treats).last in let was = low.sessions p pin in omega (arith, one, was));
  }
  moved n v w (Received u x p m xin pin apart up lives pops acts) low = record {
    members = (members.keeps s shaped).receives v u w x p m xin pin apart up lives low.members pops acts;
    reach = reaching.receives (Short (suc n)) (short-laws (suc n)) s shaped v u w x p m xin pin apart up lives low.members
        (reach-weaker (Short n) (Short (suc n)) (short-more n) s v low.reach) pops acts;
    elsewhere = acted-elsewhere u w p (receive s x m (v.process p)) acts
        (λ y yin living d. subst (λ (q : Process). Keeps s y d ⊎ (last_of (replica_of q d) ≡ 0)) (sym (pops.processes y yin))
        (low.elsewhere y yin (sym (pops.dead y yin) ∙ living) d))
        (λ d. subst (λ (q : Process). KeepsOr s p d q (receive s x m (v.process p)).process) (sym (pops.processes p pin))
        (received-last s d v p x m (v.process p) (subst (Each (MayStand s v x p)) pops.first (low.members.may x p xin pin apart lives)).0));
    sessions = acted-low n u w p (receive s x m (v.process p)) acts
        (λ y yin. let is = ap (λ (q : Process). q.as_leader.last_session) (pops.processes y yin) in let was = low.sessions y yin in omega (arith, is, was))
        (received-low n x m (v.process p) (low.sessions p pin));
  }
  moved n v w (Failed p keep pin died) low = record {
    members = (members.keeps s shaped).dies v w p keep pin low.members died;
    reach = reaching.dies (Short (suc n)) (short-laws (suc n)) s shaped v w p keep pin
        (reach-weaker (Short n) (Short (suc n)) (short-more n) s v low.reach) died;
    elsewhere = λ y yin living d. subst (λ (q : Process). Keeps s y d ⊎ (last_of (replica_of q d) ≡ 0)) (sym (died.processes y yin))
        (low.elsewhere y yin (lived y yin living) d);
    sessions = λ y yin. let is = ap (λ (q : Process). q.as_leader.last_session) (died.processes y yin) in let was =
        low.sessions y yin in omega (arith, is, was);
  } where
    lived : (y : ProcessId) → IsProcess s y → w.dead y ≡ false → v.dead y ≡ false
    lived y yin living = by (same-cases y p) where
      by : (y ≡ p) ⊎ (y ≢ p) → v.dead y ≡ false
      by (inl same) = absurd (cc (sym living ∙ ap w.dead same ∙ died.dead))
      by (inr other) = sym (died.others y yin other) ∙ living

  began : (v : State) → Opens s v → Low s 0 v
  began v starts = record {
    members = (members.keeps s shaped).opens v starts;
    reach = reaching.opens (Short 0) (short-laws 0) s shaped v starts;
    sessions = λ p pin. let is = ap (λ (q : Process). q.as_leader.last_session) (starts.process p pin) in omega (arith, is);
    elsewhere = λ p pin living d. inr (ap (λ (q : Process). last_of (replica_of q d)) (starts.process p pin) ∙ ap last_of (at-replicate empty_replica s.k d));
  }

  -- a replica's last number is the length of its history
  last-low : (n : ℕ) (v : State) → Low s n v → (p : ProcessId) (d : ℕ) → IsProcess s p → v.dead p ≡ false → d < s.k → IsKeeper d p
      → last_of (replica_of (v.process p) d) ≤ n
  last-low n v low p d pin lives below keeps =
      let r : Replica = replica_of (v.process p) d in
      let reached : ReplicaReaches (Short n) d (v.settled d) (v.process p) = (low.reach d below).replicas p pin lives keeps in
      let short = reached.fine.1 in
      let longer = length-append (take r.applied (v.settled d)) r.log in
      let applied = length-take-le r.applied (v.settled d) reached.applied in
      omega (arith, short, longer, applied)

  all-low : (n : ℕ) (v : State) → Low s n v → (p : ProcessId) → IsProcess s p → v.dead p ≡ false → All (λ r. last_of r ≤ n) (v.process p).replicas
  all-low n v low p pin lives i d below = by (low.elsewhere p pin lives i) where
    at-i : last_of (slice_index_or (v.process p).replicas i d) ≡ last_of (replica_of (v.process p) i)
    at-i = ap last_of (sym (at_index empty_replica d (v.process p).replicas i below))

    by : Keeps s p i ⊎ (last_of (replica_of (v.process p) i) ≡ 0) → last_of (slice_index_or (v.process p).replicas i d) ≤ n
    by (inl keeps) = let most = last-low n v low p i pin lives keeps.1 keeps.0 in let same = at-i in omega (arith, most, same)
    by (inr none) = let same = at-i in omega (arith, none, same)

-- a call more
asks-more : (asked : List ℕ) (o : Option AskedCall) (caller n : ℕ) → at 0 asked caller ≤ n → at 0 (asked_after asked o) caller ≤ suc n
asks-more asked None caller n low = omega (arith, low)
asks-more asked (Some c) caller n low = by (cases_eq caller c.name.caller) where
  by : (caller ≡ c.name.caller) ⊎ (caller ≢ c.name.caller) → at 0 (put 0 asked c.name.caller (suc (at 0 asked c.name.caller))) caller ≤ suc n
  by (inl same) =
      let now = at-put 0 0 asked c.name.caller (suc (at 0 asked c.name.caller)) in
      let here = ap (at 0 (put 0 asked c.name.caller (suc (at 0 asked c.name.caller)))) same in
      let before = ap (at 0 asked) same in
      omega (arith, low, now, here, before)
  by (inr other) = let is = at-put-other 0 asked c.name.caller caller (suc (at 0 asked c.name.caller)) other in omega (arith, low, is)

-- along every run
record LowIn (s : Dimensions) (h : History) : Type 0 where
  state : Low s h.world.events (state_of h)
  calls : (caller : ℕ) → at 0 h.world.asked caller ≤ h.world.events

low-always : (s : Dimensions) (es : List Event) → IsRun s es → LowIn s (book_of s es).history
low-always s es run = book_always s (λ b. LowIn s b.history)
    (record { state = began s run.0 (state_of (no_history s)) (runs_move s).opens; calls = none }) next es run where
      none : (caller : ℕ) → at 0 (no_history s).world.asked caller ≤ 0
      none caller = let is : at 0 (no_history s).world.asked caller ≡ 0 = at-replicate 0 callers caller in omega (arith, is)

      next : (done : List Event) (e : Event) → IsRun s done → IsRun s (done ++ e ∷ []) → MayCome (after s done) e → LowIn s (book_of s done).history
          → LowIn s (booked (book_of s done) e).history
      next done e ran more may low = record {
        state = moved s ran.0 (book_of s done).history.world.events (state_of (book_of s done).history) (state_of (prolonged (book_of s done).history e))
            (subst (λ (h : History). Moves s (state_of h) (state_of (prolonged h e))) (sym (book-history (no_book s) done))
            ((runs_move s).moves done e ran may)) low.state;
        calls = λ caller. asks-more (book_of s done).history.world.asked (call_of (book_of s done).history.world e) caller (book_of s done).history.world.events
            (low.calls caller);
      }

low-in : (s : Dimensions) → IsShape s → (h : History) → h.world.shape ≡ s → LowIn s h → NumbersAreLow h.world
low-in s shaped h shape low = record {
  updates = λ p lives. all-low s shaped h.world.events (state_of h) low.state p (inside_s p lives.0) lives.1;
  sessions = λ p lives. low.state.sessions p (inside_s p lives.0);
  calls = low.calls;
} where
  inside_s : (p : ProcessId) → IsProcess h.world.shape p → IsProcess s p
  inside_s p pin = subst (λ (t : Dimensions). IsProcess t p) shape pin

pub numbers_low_always : NumbersLowAlways
numbers_low_always s es run = subst NumbersAreLow (book-world s es) (low-in s run.0 (book_of s es).history (book-shape s es) (low-always s es run))
