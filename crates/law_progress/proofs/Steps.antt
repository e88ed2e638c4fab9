-- One event of a drained run: blocks that are served stay so, and a call that has to wait for a block finds one that isn't
-- served, and leaves it so.
use Rattle.std.proofs.Common.{◌≡◌, ◌≢◌, ℕ, zero, suc, ◌<◌, ◌%◌, ◌==◌, Bool, true, false, List, [], ◌∷◌, ◌++◌, find}
use Rattle.std.proofs.Common.{is_some, Option, Some, None, ◌⊎◌, inl, inr, refl, sym, ap, subst, ◌∙◌, arith}
use Rattle.group_types.specs.Dimensions.{Dimensions, space_of}
use Rattle.group_types.specs.Hash.{fnv1a, home_of}
use Rattle.group_types.specs.Names.{IsProcess, of_rank}
use Rattle.group_types.specs.Shape.{IsShape}
use Rattle.group_types.specs.declared.process.ProcessId.{ProcessId}
use Rattle.group_types.specs.declared.process.ProcessId.TheVariants.{DataNode}
use Rattle.group_types.proofs.Names.{same-cases}
use Rattle.membership.specs.Members.{knows_dead}
use Rattle.memc_table.specs.Act.{key_of}
use Rattle.memc_table.specs.Asked.{Asked}
use Rattle.group_message.specs.declared.message.Message.{Message}
use Rattle.group_calls.specs.Turns.{CallName}
use Rattle.group_calls.specs.declared.decision.Decision.{Decision}
use Rattle.group_calls.specs.declared.decision.Decision.TheVariants as decides
use Rattle.group_calls.specs.declared.event.Answer.TheVariants as says
use Rattle.group_calls.specs.declared.event.Cause.TheVariants as cause
use Rattle.group_calls.specs.declared.event.Event.{Event}
use Rattle.group_calls.specs.declared.event.Event.TheVariants.{Ask}
use Rattle.group_run.specs.Applying.{ProcessStep, head_at, replica_of}
use Rattle.group_run.specs.Asking.{Oldest, act_on, ask_head, ask_process, found_at, issued, oldest_inherited, retry_block, ticketed, update_of}
use Rattle.group_run.specs.Causes.{AnswersHaveCauses, AskCause, ComesToBe, IsReady, IsUp, NeedsBlock, home_in}
use Rattle.group_run.specs.Deciding.{decide}
use Rattle.group_run.specs.Headline.{IsRun, IsRunFrom, MayCome}
use Rattle.group_run.specs.History.{History, history_from, history_of, no_history, prolonged}
use Rattle.group_run.specs.Leaders.{rebuilt_block}
use Rattle.group_run.specs.Meaning.{IsDown, IsDrained}
use Rattle.group_run.specs.Process.{Gathering, Head, Process}
use Rattle.group_run.specs.Progress.{IsNoFailure, IsQuiet}
use Rattle.group_run.specs.Receiving.{receive}
use Rattle.group_run.specs.World.{World, after, if_up, next_name, process_node, step, treated}
use Rattle.law_moves.proofs.Moves.{Acted, Failed, Moves, Received, Stays, Treated}
use Rattle.law_moves.specs.State.{State, state_of}
use Rattle.law_moves.proofs.Events.{FramedHistory}
use Rattle.law_moves.proofs.Runs.{framed-from, framed-opening, runs_move, shape-from, world-from}
use Rattle.law_moves.proofs.Members.{Members, Stands}
use Rattle.law_moves.specs.Known.{is_notice}
use Rattle.law_moves.proofs.Calls.{Seated}
use Rattle.law_moves.proofs.Keeping.{members_always}
use Rattle.law_log.specs.Book.{book_of, no_book}
use Rattle.law_log.proofs.Books.{book-history}
use Rattle.law_bytes.proofs.Finds.{found-each}
use Rattle.law_bytes.proofs.LeadingWords.{IsFor, SessionsFit}
use Rattle.law_bytes.proofs.Leading.{sessions_always_fit}
use Rattle.law_bytes.proofs.Kept.{NeedsInside}
use Rattle.law_headline.proofs.Beside.{needs-at}
use Rattle.law_headline.proofs.All.{all-always}
use Rattle.law_headline.proofs.Rows.{RowsSound}
use Rattle.law_headline.proofs.RowsKept.{rows-sound-always}
use Rattle.law_headline.proofs.Numbers.{found-rising}
use Rattle.law_histories.proofs.Finished.{living-by}
use Rattle.law_answers.proofs.Answering.{answers_always}
use Rattle.law_answers.proofs.Awaited.{not-rebuilt}
use Rattle.law_progress.proofs.Mild.{Treated as Makes, treated as makes}
use Rattle.law_progress.proofs.Quiet.{quiet_always}
use Rattle.law_progress.proofs.Sides.{opened}
use Rattle.law_progress.proofs.Deaths.{dead-same}
use Rattle.law_progress.proofs.Serving.{Served, Serves, receive-serves, serves-alike, start-serves}

-- whoever is dead is known to be, by those that live
abbrev pub AllKnown : Dimensions → State → Type 0
AllKnown s v = (q x : ProcessId) → IsProcess s q → IsProcess s x → x ≢ q → v.dead q ≡ false → v.dead x ≡ true → knows_dead (v.process q).known x ≡ true

-- a message of a link whose death, if any, is known tells of none
plain-first : (x : ProcessId) (dead known : Bool) (m : Message) (rest : List Message) → (dead ≡ true → known ≡ true)
    → Stands x dead known (m ∷ rest) → is_notice m ≡ false
plain-first x false false m rest all stands = stands.0
plain-first x false true m rest all stands = absurd stands
plain-first x true true m rest all stands = cc stands
plain-first x true false m rest all stands = cc (all refl)

-- what a move without a death leaves
pub record Leaves (s : Dimensions) (v w : State) : Type 0 where
  pub known : AllKnown s w
  pub served : (q : ProcessId) (b : ℕ) → IsProcess s q → v.dead q ≡ false → Served s b (v.process q) → Served s b (w.process q)

module _ (s : Dimensions) (shaped : IsShape s) (v w : State) (members : Members s v) (known : AllKnown s v)
    (dead : (q : ProcessId) → IsProcess s q → w.dead q ≡ v.dead q) where
  -- one process acts
  acting : (u : State) (p : ProcessId) (t : ProcessStep) → IsProcess s p → ((q : ProcessId) → IsProcess s q → u.process q ≡ v.process q) → Acted s u w p t
      → Serves s (v.process p) t.process → Leaves s v w
  acting u p t pin same acts serves = record {
    known = λ q x qin xin other living isdead. knows q x qin (same-cases q p) (known q x qin xin other (sym (dead q qin) ∙ living) (sym (dead x xin) ∙ isdead));
    served = λ q b qin living is. serve q b qin (same-cases q p) is;
  } where
    now : (q : ProcessId) → q ≡ p → w.process q ≡ t.process
    now q is = ap w.process is ∙ acts.process

    others : (q : ProcessId) → IsProcess s q → q ≢ p → w.process q ≡ v.process q
    others q qin other = acts.others q qin other ∙ same q qin

    knows : (q x : ProcessId) → IsProcess s q → (q ≡ p) ⊎ (q ≢ p) → knows_dead (v.process q).known x ≡ true → knows_dead (w.process q).known x ≡ true
    knows q x qin (inl is) before =
        ap (λ (y : Process). knows_dead y.known x) (now q is) ∙ ap (λ k. knows_dead k x) serves.known
        ∙ ap (λ (y : ProcessId). knows_dead (v.process y).known x) (sym is) ∙ before
    knows q x qin (inr other) before = ap (λ (y : Process). knows_dead y.known x) (others q qin other) ∙ before

    serve : (q : ProcessId) (b : ℕ) → IsProcess s q → (q ≡ p) ⊎ (q ≢ p) → Served s b (v.process q) → Served s b (w.process q)
    serve q b qin (inl is) before = subst (Served s b) (sym (now q is)) (serves.served b (subst (λ (y : ProcessId). Served s b (v.process y)) is before))
    serve q b qin (inr other) before = subst (Served s b) (sym (others q qin other)) before

  pub move-leaves : Moves s v w → Leaves s v w
  move-leaves (Stays same) =
      record {
        known = subst (AllKnown s) (sym same) known;
        served = λ q b qin living is.
            subst (λ (y : State). Served s b (y.process q)) (sym same) is;
      }
  move-leaves (Failed p keep pin dies) = absurd (cc (sym dies.lived ∙ sym (dead p pin) ∙ dies.dead))
  move-leaves (Treated p t pin up lives treats acts) =
      acting v p t pin (λ q qin. refl) acts (by (makes s (v.process p) p (members.named p pin) pin (members.not_self p pin lives) t treats seated)) where
        seated : Seated s (v.process p) p
        seated = record { name = members.named p pin; some = (let first = shaped.k in omega (arith, first)); sits = λ d low. members.sits p d pin lives low }

        by : Makes s (v.process p) t → Serves s (v.process p) t.process
        by (inl mild) = serves-alike s (v.process p) t.process mild.alike
        by (inr (block, l, name, heads, is)) = subst (λ (y : ProcessStep). Serves s (v.process p) y.process) (sym is) (start-serves s block (v.process p))
  move-leaves (Received u x p m xin pin apart up lives pops acts) = acting u p (receive s x m (v.process p)) pin pops.processes acts
      (receive-serves s x m (v.process p) (plain-first x (v.dead x) (knows_dead (v.process p).known x) m (u.link x p)
      (λ isdead. known p x pin xin apart lives isdead)
      (subst (Stands x (v.dead x) (knows_dead (v.process p).known x)) pops.first (members.stands x p xin pin apart lives))))

-- a call that has to wait for a block needs it
act-block : (s : Dimensions) (name : CallName) (op : Asked) (d : ℕ) (h : Head) (p : Process) (b : ℕ) (decision : Decision)
    → (act_on s name op d h p decision).answer ≡ says.Retry (cause.Block b) → decision ≡ decides.NeedBlock b
act-block s name op d h p b (decides.Answer r) is = cc is
act-block s name op d h p b (decides.Retry n) is = cc is
act-block s name op d h p b decides.NoSpace is = cc is
act-block s name op d h p b (decides.NeedBlock c) is = by (oldest_inherited p _) is where
  by : (o : Option Oldest) → (retry_block s c o p).answer ≡ says.Retry (cause.Block b) → decides.NeedBlock c ≡ decides.NeedBlock b
  by None same = let one : c ≡ b = cc same in ap decides.NeedBlock one
  by (Some o) same = cc same
act-block s name op d h p b (decides.Issue body outcome) is = by _ is where
  by : (c : Bool)
      → (ticketed c d (update_of name op d body outcome p) (issued s d h (update_of name op d body outcome p) p)).answer ≡ says.Retry (cause.Block b)
      → decides.Issue body outcome ≡ decides.NeedBlock b
  by true same = cc same
  by false same = cc same

mod-below : (n k : ℕ) → 0 < k → n % k < k
mod-below n k some = omega (arith, some)

-- runs that are longer by one event
pub history-append : (h : History) (es : List Event) (e : Event) → history_from h (es ++ e ∷ []) ≡ prolonged (history_from h es) e
history-append h [] e = refl
history-append h (x ∷ es) e = history-append (prolonged h x) es e

pub run-append : (h : History) (es : List Event) (e : Event) → IsRunFrom h.world es → MayCome (history_from h es).world e → IsRunFrom h.world (es ++ e ∷ [])
run-append h [] e run may = (may, tt)
run-append h (x ∷ es) e run may = (run.0, run-append (prolonged h x) es e run.1 may)

-- a group of a run
module _ (s : Dimensions) (es : List Event) (run : IsRun s es) where
  abbrev pub here : History
  here = history_of s es

  pub world-is : here.world ≡ after s es
  world-is = world-from (no_history s) es

  pub shape-is : here.world.shape ≡ s
  shape-is = shape-from (no_history s) es

  framed : FramedHistory here
  framed = framed-from (no_history s) es (framed-opening s) run.1

  members : Members s (state_of here)
  members = members_always s es run

  -- where it is drained whoever is dead is known to be
  pub drained-known : IsDrained here.world → AllKnown s (state_of here)
  drained-known drained q x qin xin other living isdead = by (knows_dead ((state_of here).process q).known x) refl where
    empty : (state_of here).link x q ≡ []
    empty = drained x q (subst (λ (t : Dimensions). IsProcess t x) (sym shape-is) xin)
        (subst (λ (t : Dimensions). IsProcess t q) (sym shape-is) qin, living) other

    by : (b : Bool) → knows_dead ((state_of here).process q).known x ≡ b → knows_dead ((state_of here).process q).known x ≡ true
    by true is = is
    by false is =
        absurd (cc (sym isdead ∙ living-by x ((state_of here).dead x) (knows_dead ((state_of here).process q).known x)
        ((state_of here).link x q) (members.stands x q xin qin other living) is empty))

  -- the event makes a move without a death
  module _ (e : Event) (may : MayCome here.world e) (goes : IsNoFailure e) where
    pub same-dead : (q : ProcessId) → IsProcess s q → (state_of (prolonged here e)).dead q ≡ (state_of here).dead q
    same-dead q qin = dead-same here e framed may goes q (subst (λ (t : Dimensions). IsProcess t q) (sym shape-is) qin)

    pub event-leaves : AllKnown s (state_of here) → Leaves s (state_of here) (state_of (prolonged here e))
    event-leaves known = move-leaves s run.0 (state_of here) (state_of (prolonged here e)) members known same-dead
        ((runs_move s).moves es e run (subst (λ (w : World). MayCome w e) world-is may))

  -- a call has to wait for a block
  module _ (caller : ℕ) (op : Asked) (p : ProcessId) (b : ℕ) (may : MayCome here.world (Ask caller op p)) (drained : IsDrained here.world)
      (waits : (step here.world (Ask caller op p)).turn.answer ≡ says.Retry (cause.Block b)) where
    abbrev ask : Event
    ask = Ask caller op p

    pub pin : IsProcess s p
    pin = subst (λ (t : Dimensions). IsProcess t p) shape-is may.1

    causes : IsUp here.world p × IsReady here.world p (home_in here.world op)
        × (NeedsBlock here.world p op b × ComesToBe (step here.world (Ask caller op p)).world p b)
    causes = subst (AskCause here.world (step here.world (Ask caller op p)).world p op) waits
        (subst AnswersHaveCauses (sym world-is) (answers_always s es run) (Ask caller op p) may)

    pub lives : (state_of here).dead p ≡ false
    lives = causes.0.process

    abbrev home : ℕ
    home = home_in here.world op

    home-in : home < s.k
    home-in = subst (λ (t : Dimensions). home_of (key_of op.act) here.world.shape.k < t.k) shape-is (mod-below (fnv1a (key_of op.act)) here.world.shape.k
        (subst (λ (t : Dimensions). 0 < t.k) (sym shape-is) (let first = run.0.k in omega (arith, first))))

    -- its partition's data process is known to be dead
    home-lost : knows_dead ((state_of here).process p).known (DataNode home) ≡ true
    home-lost = drained-known drained p (DataNode home) pin home-in (λ same. cc (same ∙ causes.2.0.misses.parity.1))
        lives (by causes.1.rank causes.1.name causes.1.heads.lowest) where
          by : (r : ℕ) → p ≡ of_rank home r → ((q : ℕ) → q < r → (state_of here).dead (of_rank home q) ≡ true) → (state_of here).dead (DataNode home) ≡ true
          by zero name lowest = cc (sym name ∙ causes.2.0.misses.parity.1)
          by (suc r) name lowest = lowest 0 (omega arith)

    quiet : IsQuiet here.world
    quiet = subst IsQuiet (sym world-is) (quiet_always s es run (subst IsDrained world-is drained) (λ down. causes.0.group (subst IsDown (sym world-is) down)))

    -- the block isn't served yet
    pub not-served : Served s b ((state_of here).process p) → ⊥
    not-served (inr rebuilt) =
        cc (sym (not-rebuilt here.world.shape home causes.2.0.run ((state_of here).process p).as_leader b
        causes.2.0.misses.missing) ∙ rebuilt home home-in home-lost)
    not-served (inl awaits) = cc (sym awaits.opens ∙ ap (λ (gs : List Gathering). find (λ g. g.number == awaits.number) gs) none) where
      none : ((state_of here).process p).as_leader.sessions ≡ []
      none = subst (λ (y : ProcessId). ((state_of here).process y).as_leader.sessions ≡ []) (sym causes.2.0.misses.parity.1)
          (quiet.sessions causes.2.0.misses.parity.0 (
            subst (IsProcess here.world.shape) causes.2.0.misses.parity.1
                may.1,
            ap (state_of here).dead (sym causes.2.0.misses.parity.1) ∙ lives,
          ))

    -- it is one of the space
    decided : (h : Head) × (head_at ((state_of here).process p) home ≡ Some h)
        × (decide (space_of here.world.shape) h.inherited (replica_of ((state_of here).process p) home) op
        (found_at here.world.shape home ((state_of here).process p) ((state_of here).process p).name)
        ≡ decides.NeedBlock b)
    decided = by (process_node here.world p).down (process_node here.world p).dead waits where
      headed : (o : Option Head) → head_at ((state_of here).process p) home ≡ o
          → (ask_head here.world.shape (next_name here.world caller) op home ((state_of here).process p) o).answer ≡ says.Retry (cause.Block b)
          → (h : Head) × (head_at ((state_of here).process p) home ≡ Some h)
          × (decide (space_of here.world.shape) h.inherited (replica_of ((state_of here).process p) home) op
          (found_at here.world.shape home ((state_of here).process p) ((state_of here).process p).name)
          ≡ decides.NeedBlock b)
      headed None heads is = cc is
      headed (Some h) heads is = (h, heads, act-block here.world.shape (next_name here.world caller) op home h ((state_of here).process p) b _ is)

      by : (down dead : Bool)
          → (if_up down dead (process_node here.world p)
          (treated here.world.shape (process_node here.world p)
          (ask_process here.world.shape (next_name here.world caller) op (process_node here.world p).process))).answer
          ≡ says.Retry (cause.Block b)
          → (h : Head) × (head_at ((state_of here).process p) home ≡ Some h)
          × (decide (space_of here.world.shape) h.inherited (replica_of ((state_of here).process p) home) op
          (found_at here.world.shape home ((state_of here).process p) ((state_of here).process p).name)
          ≡ decides.NeedBlock b)
      by true dead is = cc is
      by false true is = cc is
      by false false is = headed (head_at ((state_of here).process p) home) refl is

    needs : NeedsInside s ((state_of here).process p)
    needs = subst (λ (h : History). NeedsInside s ((state_of h).process p)) (book-history (no_book s) es)
        (λ d h asked c low heads is. (needs-at s run.0 (book_of s es).issued (state_of (book_of s es).history) (all-always s es run).group.stands p pin
        (ap (λ (h : History). (state_of h).dead p) (book-history (no_book s) es) ∙ lives) d low asked h c heads is).1)

    pub inside : b < s.blocks
    inside = needs home decided.0 op b home-in decided.1
        (subst (λ (t : Dimensions). decide (space_of t) decided.0.inherited
        (replica_of ((state_of here).process p) home) op
        (found_at t home ((state_of here).process p) ((state_of here).process p).name) ≡ decides.NeedBlock b) shape-is
        decided.2)

    -- and is served then
    longer : IsRun s (es ++ ask ∷ [])
    longer = (run.0, run-append (no_history s) es ask run.1 may)

    next : State
    next = state_of (prolonged here ask)

    is-next : history_of s (es ++ ask ∷ []) ≡ prolonged here ask
    is-next = history-append (no_history s) es ask

    pub then-served : Served s b ((state_of (prolonged here ask)).process p)
    then-served = by causes.2.1 where
      fits : SessionsFit s (state_of (prolonged here (Ask caller op p)))
      fits =
          subst (λ (h : History). SessionsFit s (state_of h)) (history-append (no_history s) es (Ask caller op p))
          (sessions_always_fit s (es ++ Ask caller op p ∷ []) (run.0, run-append (no_history s) es (Ask caller op p) run.1 may))

      rows : RowsSound s (state_of (prolonged here (Ask caller op p)))
      rows =
          subst (λ (h : History). RowsSound s (state_of h)) (history-append (no_history s) es (Ask caller op p))
          (rows-sound-always s (es ++ Ask caller op p ∷ []) (run.0, run-append (no_history s) es (Ask caller op p) run.1 may))

      living : (state_of (prolonged here (Ask caller op p))).dead p ≡ false
      living = same-dead (Ask caller op p) may tt p pin ∙ lives

      by : ComesToBe (step here.world (Ask caller op p)).world p b → Served s b ((state_of (prolonged here (Ask caller op p))).process p)
      by (inl awaited) = inl (record {
        number = awaited.session.number;
        session = awaited.session;
        opens = opens;
        block = awaited.of_block;
        lost = ((found-each (λ g. g.number == awaited.session.number)
            (IsFor s ((state_of (prolonged here (Ask caller op p))).process p).known)
            ((state_of (prolonged here (Ask caller op p))).process p).as_leader.sessions awaited.session opens
            (fits p pin living)).1).lost;
      }) where
        opens : opened ((state_of (prolonged here (Ask caller op p))).process p) awaited.session.number ≡ Some awaited.session
        opens = found-rising ((state_of (prolonged here (Ask caller op p))).process p).as_leader.sessions
            awaited.session (rows.sessions p pin living).rises awaited.opened
      by (inr one) = inr (λ d low known. rebuilt d low (rebuilt_block ((state_of (prolonged here (Ask caller op p))).process p).as_leader 0 b) refl one.1) where
        rebuilt : (d : ℕ) → d < s.k → (o : Option (List ℕ)) → rebuilt_block ((state_of (prolonged here (Ask caller op p))).process p).as_leader 0 b ≡ o
            → rebuilt_block ((state_of (prolonged here (Ask caller op p))).process p).as_leader 0 b ≢ None
            → is_some (rebuilt_block ((state_of (prolonged here (Ask caller op p))).process p).as_leader d b) ≡ true
        rebuilt d low None is some = absurd (some is)
        rebuilt d low (Some bytes) is some =
            let many : here.world.shape.k ≡ 1 = one.0 in
            let shape : here.world.shape.k ≡ s.k = ap (λ (t : Dimensions). t.k) shape-is in
            let first : d ≡ 0 = omega (arith, low, many, shape) in
            ap (λ (j : ℕ). is_some (rebuilt_block ((state_of (prolonged here (Ask caller op p))).process p).as_leader j b)) first ∙ ap is_some is
