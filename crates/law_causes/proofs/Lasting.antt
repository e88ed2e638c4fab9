-- A held call stays held, but by a collect of it that is replied to.
use Rattle.std.proofs.Common.{ℕ, zero, suc, ◌≡◌, ◌≢◌, ◌<◌, ◌+◌, ◌==◌, nat_le, Bool, true, false, not, List, [], ◌∷◌}
use Rattle.std.proofs.Common.{◌++◌, length, slice_index_or, Option, Some, None, ◌⊎◌, inl, inr, refl, sym, ap, subst}
use Rattle.std.proofs.Common.{◌∙◌, arith}
use Rattle.std.proofs.lemmas.Bool.{cases_eq}
use Rattle.std.proofs.lemmas.Grind.{common_steps}
use Rattle.std.proofs.lemmas.List.Elements.{Contains-append_left}
use Rattle.std.specs.Prelude.{cond, Contains, filter, find}
use Rattle.std.specs.List.{range_with_len}
use Rattle.group_types.specs.Dimensions.{Dimensions, space_of}
use Rattle.group_types.specs.Hash.{home_of}
use Rattle.group_types.specs.Lists.{at, put}
use Rattle.group_types.specs.Names.{IsProcess, index_of}
use Rattle.group_types.specs.declared.process.ProcessId.{ProcessId}
use Rattle.group_types.proofs.Lists.{at-put, at-put-other}
use Rattle.group_types.proofs.Names.{same-cases}
use Rattle.memc_table.specs.Act.{key_of}
use Rattle.memc_table.specs.Asked.{Asked}
use Rattle.group_message.specs.declared.update.Update.{Update}
use Rattle.group_calls.specs.Turns.{CallName}
use Rattle.group_calls.specs.declared.decision.Decision.{Decision}
use Rattle.group_calls.specs.declared.decision.Decision.TheVariants as decides
use Rattle.group_calls.specs.declared.event.Answer.{Answer}
use Rattle.group_calls.specs.declared.event.Event.{Event}
use Rattle.group_calls.specs.declared.event.Event.TheVariants.{Ask, Collect, Deliver, Fail, Flush, Trace}
use Rattle.group_run.specs.Applying.{ProcessStep, head_at, held_at, replica_of, with_held, with_replica}
use Rattle.group_run.specs.Asking.{CallStep, Oldest, act_on, ask_head, ask_process, collect_from, collect_held}
use Rattle.group_run.specs.Asking.{found_at, handed_out, is_call, issued, oldest_inherited, retry_block, ticketed}
use Rattle.group_run.specs.Asking.{update_of}
use Rattle.group_run.specs.Deciding.{decide}
use Rattle.group_run.specs.Headline.{MayCome}
use Rattle.group_run.specs.History.{History}
use Rattle.group_run.specs.Leaders.{start_session}
use Rattle.group_run.specs.Meaning.{process_of}
use Rattle.group_run.specs.Process.{Head, Held, Process}
use Rattle.group_run.specs.Receiving.{receive}
use Rattle.group_run.specs.Replica.{with_update}
use Rattle.group_run.specs.World.{flush_process, next_name, process_node, step}
use Rattle.law_moves.specs.State.{State, state_of}
use Rattle.law_moves.proofs.Events.{FramedHistory}
use Rattle.law_moves.proofs.Moves.{Acted}
use Rattle.law_moves.proofs.Notices.{both}
use Rattle.law_log.specs.Book.{book_of}
use Rattle.law_log.proofs.Books.{book-framed, book-world}
use Rattle.law_log.proofs.Calls.{Acts, Answers, Delivers, Dies, Fails, Idle, Nothing, Takes, Was, call-comes, failure-comes, message-comes, trace-stays}
use Rattle.law_log.proofs.HeldCalls.{held_of}
use Rattle.law_log.proofs.Holds.{holds-judge, holds-receive, holds-start, holds-when}
use Rattle.law_answers.proofs.Walks.{found-there}
use Rattle.law_causes.specs.Calls.{HeldLast, IsCollected, HeldLastAlways}

-- what passes a test is left
filter-keeps : {X : Type 0} (test : X → Bool) (xs : List X) (x : X) → Contains xs x → test x ≡ true → Contains (filter test xs) x
filter-keeps test [] x (k, low, is) passes = absurd (omega (arith, low))
filter-keeps {X} test (y ∷ ys) x (k, low, is) passes = by (test y) refl k low is (λ there. filter-keeps test ys x there passes) where
  behind : Contains (filter test ys) x → Contains (y ∷ filter test ys) x
  behind (j, below, here) = (suc j, omega (arith, below), here)

  by : (b : Bool) → test y ≡ b → (k : ℕ) → k < length (y ∷ ys) → slice_index_or (y ∷ ys) k x ≡ x → (Contains ys x → Contains (filter test ys) x)
      → Contains (cond b (y ∷ filter test ys) (filter test ys)) x
  by true test_is zero low is later = (0, omega arith, is)
  by true test_is (suc k) low is later = behind (later (k, omega (arith, low), is))
  by false test_is zero low is later = absurd (cc (test_is, is, passes))
  by false test_is (suc k) low is later = later (k, omega (arith, low), is)

module _ (s : Dimensions) (d : ℕ) (x : Held) where
  -- the process holds it of partition d
  abbrev pub Has : Process → Type 0
  Has q = Contains (held_at q d) x

  pub has-same : (p q : Process) → q.held ≡ p.held → Has p → Has q
  has-same p q same there = subst (λ (held : List (List Held)). Contains (at [] held d) x) (sym same) there

  -- more is held of partition e
  has-more : (e : ℕ) (y : Held) (p : Process) → Has p → Has (with_held e (held_at p e ++ y ∷ []) p)
  has-more e y p there = by (cases_eq d e) where
    by : (d ≡ e) ⊎ (d ≢ e) → Has (with_held e (held_at p e ++ y ∷ []) p)
    by (inl same) =
        subst (λ (ys : List Held). Contains ys x)
        (sym (ap (at [] (put [] p.held e (held_at p e ++ y ∷ []))) same
        ∙ at-put [] [] p.held e (held_at p e ++ y ∷ [])))
        (Contains-append_left (held_at p e) (y ∷ []) x (subst (λ (k : ℕ). Contains (held_at p k) x) same there))
    by (inr other) = subst (λ (ys : List Held). Contains ys x) (sym (at-put-other [] p.held e d (held_at p e ++ y ∷ []) other)) there

  -- an ask keeps it
  has-ticketed : (b : Bool) (e : ℕ) (h : Head) (u : Update) (p : Process) → Has p → Has (ticketed b e u (issued s e h u p)).step.process
  has-ticketed b e h u p there = by b (has-same p (issued s e h u p).process (holds-judge s e (with_replica e (with_update u (replica_of p e)) p)) there) where
    by : (b : Bool) → Has (issued s e h u p).process → Has (ticketed b e u (issued s e h u p)).step.process
    by true has = has
    by false has = has-more e (held_of u) (issued s e h u p).process has

  has-retry : (b : ℕ) (o : Option Oldest) (p : Process) → Has p → Has (retry_block s b o p).step.process
  has-retry b (Some o) p there = there
  has-retry b None p there = has-same p (retry_block s b None p).step.process (holds-when _ p (start_session s b p) (holds-start s b p)) there

  has-act : (name : CallName) (op : Asked) (e : ℕ) (h : Head) (p : Process) (decision : Decision) → Has p → Has (act_on s name op e h p decision).step.process
  has-act name op e h p (decides.Answer r) there = there
  has-act name op e h p (decides.Retry n) there = there
  has-act name op e h p decides.NoSpace there = there
  has-act name op e h p (decides.NeedBlock b) there = has-retry b (oldest_inherited p (range_with_len 0 s.k)) p there
  has-act name op e h p (decides.Issue body outcome) there =
      let u : Update = update_of name op e body outcome p in
      has-ticketed (nat_le u.number (replica_of (issued s e h u p).process e).applied) e h u p there

  pub has-ask : (name : CallName) (op : Asked) (e : ℕ) (p : Process) (o : Option Head) → Has p → Has (ask_head s name op e p o).step.process
  has-ask name op e p None there = there
  has-ask name op e p (Some h) there = has-act name op e h p (decide (space_of s) h.inherited (replica_of p e) op (found_at s e p p.name)) there

  -- a collect keeps it, or is of it
  module _ (caller call : ℕ) (q y : ProcessId) (own : q ≡ y) where
    abbrev pub KeptOr : Process → Answer → Type 0
    KeptOr p answer = Has p ⊎ IsCollected (Collect caller call q) y x answer

    has-handed : (e : ℕ) (z : Held) (p : Process) → is_call caller call z ≡ true → Has p → (b : Bool)
        → KeptOr (handed_out b e z p).step.process (handed_out b e z p).answer
    has-handed e z p named there false = inl there
    has-handed e z p named there true = by (cases_eq d e) (is_call z.caller z.call x) refl where
      left : List Held
      left = filter (λ h. not (is_call z.caller z.call h)) (held_at p e)

      put_back : d ≡ e → at [] (put [] p.held e left) d ≡ left
      put_back same = ap (at [] (put [] p.held e left)) same ∙ at-put [] [] p.held e left

      by : (d ≡ e) ⊎ (d ≢ e) → (b : Bool) → is_call z.caller z.call x ≡ b → KeptOr (handed_out true e z p).step.process (handed_out true e z p).answer
      by (inr other) b is = inl (subst (λ (ys : List Held). Contains ys x) (sym (at-put-other [] p.held e d left other)) there)
      by (inl same) false is = inl (subst (λ (ys : List Held). Contains ys x) (sym (put_back same))
          (filter-keeps (λ h. not (is_call z.caller z.call h)) (held_at p e) x (subst (λ (k : ℕ). Contains (held_at p k) x) same there) (ap not is)))
      by (inl same) true is =
          let first = both (z.caller == caller) (z.call == call) named in
          let second = both (x.caller == z.caller) (x.call == z.call) is in
          let one = first.0 in
          let two = first.1 in
          let three = second.0 in
          let four = second.1 in
          inr (own, grind (arith, common_steps), grind (arith, common_steps))

    pub has-collect : (n a : ℕ) (p : Process) → Has p
        → KeptOr (collect_from caller call p (range_with_len a n)).step.process
        (collect_from caller call p (range_with_len a n)).answer
    has-collect zero a p there = inl there
    has-collect (suc n) a p there = by (find (is_call caller call) (held_at p a)) refl (has-collect n (a + 1) p there) where
      by : (o : Option Held) → find (is_call caller call) (held_at p a) ≡ o
          → KeptOr (collect_from caller call p (range_with_len (a + 1) n)).step.process (collect_from caller call p (range_with_len (a + 1) n)).answer
          → KeptOr (collect_held a o p (collect_from caller call p (range_with_len (a + 1) n))).step.process
          (collect_held a o p (collect_from caller call p (range_with_len (a + 1) n))).answer
      by None found later = later
      by (Some z) found later = has-handed a z p (found-there (is_call caller call) (held_at p a) z found).1 there (nat_le z.number (replica_of p a).applied)

module _ (h : History) (framed : FramedHistory h) (p : ProcessId) (pin : IsProcess h.world.shape p) (d : ℕ) (x : Held)
    (there : Contains (held_at (process_of h.world p) d) x) where
  abbrev s : Dimensions
  s = h.world.shape

  abbrev Kept : State → Type 0
  Kept v = Contains (held_at (v.process p) d) x

  same-kept : (w : State) → w ≡ state_of h → Kept w
  same-kept w same = subst Kept (sym same) there

  -- a process acts, on a state that has this process as it was
  acted-kept : (v w : State) (q : ProcessId) (t : ProcessStep) → v.process p ≡ process_of h.world p
      → Acted h.world.shape v w q t → (q ≡ p → Contains (held_at t.process d) x) → Kept w
  acted-kept v w q t was acts own = by (same-cases p q) where
    by : (p ≡ q) ⊎ (p ≢ q) → Kept w
    by (inl same) = subst (λ (y : Process). Contains (held_at y d) x) (sym (ap w.process same ∙ acts.process)) (own (sym same))
    by (inr other) = subst (λ (y : Process). Contains (held_at y d) x) (sym (acts.others p pin other ∙ was)) there

  at_own : (q : ProcessId) → q ≡ p → Contains (held_at (process_of h.world q) d) x
  at_own q same = subst (λ (y : ProcessId). Contains (held_at (process_of h.world y) d) x) (sym same) there

  pub lasts : (e : Event) → MayCome h.world e → Contains (held_at (process_of (step h.world e).world p) d) x ⊎ IsCollected e p x (step h.world e).turn.answer
  lasts (Ask caller op q) may = inl (by
      (call-comes h.world.shape h.world.nodes h.settled framed q
      (ask_process h.world.shape (next_name h.world caller) op (process_of h.world q)) may.1 (process_node h.world q).down
      (process_node h.world q).dead refl refl)) where
        by : {w : State} {answer : Answer}
            → Answers h.world.shape (state_of h) w q
            (ask_process h.world.shape (next_name h.world caller) op (process_of h.world q)) answer → Kept w
        by {w} {answer} (Idle same idle) = same-kept w same
        by {w} {answer} (Acts up lives acts is) = acted-kept (state_of h) w q _ refl acts (λ same.
            has-ask h.world.shape d x (next_name h.world caller) op (home_of (key_of op.act) h.world.shape.k)
            (process_of h.world q) (head_at (process_of h.world q) (home_of (key_of op.act) h.world.shape.k))
            (at_own q same))
  lasts (Collect caller call q) may = by
      (call-comes h.world.shape h.world.nodes h.settled framed q
      (collect_from caller call (process_of h.world q) (range_with_len 0 h.world.shape.k)) may.1
      (process_node h.world q).down (process_node h.world q).dead refl refl) where
        made : CallStep
        made = collect_from caller call (process_of h.world q) (range_with_len 0 h.world.shape.k)

        by : {w : State} {answer : Answer} → Answers h.world.shape (state_of h) w q made answer → Kept w ⊎ IsCollected (Collect caller call q) p x answer
        by {w} {answer} (Idle same idle) = inl (same-kept w same)
        by {w} {answer} (Acts up lives acts is) = by_process (same-cases q p) where
          told : Contains (held_at made.step.process d) x ⊎ IsCollected (Collect caller call q) p x made.answer
              → Kept w ⊎ IsCollected (Collect caller call q) p x answer
          told (inl has) = inl (acted-kept (state_of h) w q made.step refl acts (λ same. has))
          told (inr collected) = inr (subst (IsCollected (Collect caller call q) p x) (sym is) collected)

          by_process : (q ≡ p) ⊎ (q ≢ p) → Kept w ⊎ IsCollected (Collect caller call q) p x answer
          by_process (inl same) = told (has-collect h.world.shape d x caller call q p same h.world.shape.k 0 (process_of h.world q) (at_own q same))
          by_process (inr other) = inl (acted-kept (state_of h) w q made.step refl acts (λ same. absurd (other same)))
  lasts (Flush q) may = inl (by
      (call-comes h.world.shape h.world.nodes h.settled framed q (flush_process h.world.shape (process_of h.world q))
      may (process_node h.world q).down (process_node h.world q).dead refl refl)) where
        by : {w : State} {answer : Answer} → Answers h.world.shape (state_of h) w q (flush_process h.world.shape (process_of h.world q)) answer → Kept w
        by {w} {answer} (Idle same idle) = same-kept w same
        by {w} {answer} (Acts up lives acts is) = acted-kept (state_of h) w q _ refl acts (at_own q)
  lasts (Trace caller call e q) may =
      inl (same-kept _ (trace-stays h framed caller call e.0 q may.3 (process_node h.world q).down (process_node h.world q).dead).1)
  lasts (Deliver from to) may = inl (by
      (message-comes h.world.shape h.world.nodes h.settled framed from to may.0 may.1 may.2 (process_node h.world to).down
      (process_node h.world to).dead refl refl (at [] (process_node h.world from).links (index_of h.world.shape to))
      refl)) where
        by : {w : State} → Delivers h.world.shape (state_of h) w from to → Kept w
        by {w} (Nothing same) = same-kept w same
        by {w} (Takes u m up lives pops acts) = acted-kept u w to (receive h.world.shape from m (process_of h.world to)) (pops.processes p pin) acts
            (λ same. has-same h.world.shape d x (process_of h.world to)
            (receive h.world.shape from m (process_of h.world to)).process
            (holds-receive h.world.shape from m (process_of h.world to)) (at_own to same))
  lasts (Fail q keep) may = inl (by (failure-comes h.world.shape h.world.nodes h.settled framed q keep may (process_node h.world q).dead refl)) where
    by : {w : State} → Fails h.world.shape (state_of h) w q keep → Kept w
    by {w} (Was same) = same-kept w same
    by {w} (Dies died) = subst (λ (y : Process). Contains (held_at y d) x) (sym (died.processes p pin)) there

pub held_last_always : HeldLastAlways
held_last_always s es run =
    subst HeldLast (book-world s es) (λ e p d x may pin there. lasts (book_of s es).history (book-framed s es run) p pin
    d x there e may)
