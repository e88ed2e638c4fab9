-- A drained group's heads have nothing unfinished, so no trace and no ask has to wait for an update.
use Rattle.std.proofs.Common.{ℕ, zero, suc, ◌≡◌, ◌≢◌, ◌<◌, ◌≤◌, ◌+◌, ◌%◌, ◌==◌, nat_le, nat_lt, Bool, true, false, not}
use Rattle.std.proofs.Common.{◌&&◌, List, [], ◌∷◌, length, slice_index_or, Option, Some, None, inl, inr, refl, sym, ap}
use Rattle.std.proofs.Common.{subst, ◌∙◌, if◌then◌else◌, arith}
use Rattle.std.proofs.lemmas.Grind.{common_steps}
use Rattle.std.specs.Prelude.{Contains, cond, filter, is_some, ◌||◌}
use Rattle.std.specs.List.{list_all, range_with_len}
use Rattle.group_types.specs.Dimensions.{Dimensions, space_of}
use Rattle.group_types.specs.Hash.{fnv1a, home_of}
use Rattle.group_types.specs.Lists.{at}
use Rattle.group_types.specs.Names.{IsProcess, of_rank, same_process}
use Rattle.group_types.specs.declared.process.ProcessId.{ProcessId}
use Rattle.group_types.specs.declared.process.ProcessId.TheVariants.{ParityNode}
use Rattle.group_types.specs.declared.run.Run.{Run}
use Rattle.group_types.proofs.Names.{same-refl}
use Rattle.group_types.specs.Each.{Each}
use Rattle.membership.specs.Members.{knows_dead}
use Rattle.memc_table.specs.Act.{key_of}
use Rattle.memc_table.specs.Asked.{Asked}
use Rattle.group_message.specs.declared.kept.Kept.{Kept}
use Rattle.group_message.specs.declared.update.Update.{Update}
use Rattle.group_calls.specs.Turns.{CallName}
use Rattle.group_calls.specs.declared.decision.Decision.{Decision}
use Rattle.group_calls.specs.declared.decision.Decision.TheVariants as decides
use Rattle.group_calls.specs.declared.event.Answer.{Answer}
use Rattle.group_calls.specs.declared.event.Answer.TheVariants as says
use Rattle.group_calls.specs.declared.event.Cause.TheVariants as cause
use Rattle.group_calls.specs.declared.event.Event.{Event}
use Rattle.group_calls.specs.declared.event.Event.TheVariants.{Ask}
use Rattle.group_run.specs.Applying.{ProcessStep, head_at, replica_of}
use Rattle.group_run.specs.Asking.{Oldest, act_on, ask_head, ask_process, fate_from, fate_of, fate_unless, found_at}
use Rattle.group_run.specs.Asking.{gone_or, inherited_or, is_adopted, is_in_log, issued, oldest_inherited, reply_from}
use Rattle.group_run.specs.Asking.{retry_block, ticketed, update_of}
use Rattle.group_run.specs.Deciding.{Found, decide, waits_for}
use Rattle.group_run.specs.Heading.{other_parities}
use Rattle.group_run.specs.Headline.{IsRun}
use Rattle.group_run.specs.History.{History, history_of, no_history}
use Rattle.group_run.specs.Meaning.{IsDrained, process_of}
use Rattle.group_run.specs.Process.{Head, Process}
use Rattle.group_run.specs.Progress.{IsPending}
use Rattle.group_run.specs.Replica.{Replica, last_of, number_on}
use Rattle.group_run.specs.World.{after, if_up, next_name, process_node, step, treated, unchanged}
use Rattle.group_run.proofs.Deciding.{decides-by}
use Rattle.law_moves.specs.State.{State, state_of}
use Rattle.law_moves.proofs.Runs.{shape-from, world-from}
use Rattle.law_moves.proofs.Members.{Sits, seat_of}
use Rattle.law_moves.proofs.Calls.{each-below, seat-known}
use Rattle.law_moves.proofs.Aways.{all-lower}
use Rattle.law_histories.proofs.Reach.{Any, ReplicaReaches}
use Rattle.law_histories.proofs.Messages.{seat-some}
use Rattle.law_histories.specs.Laws.{AskedAlways, FinishedAlways, IsAsked, IsFinished, IsTraced, TracedAlways}
use Rattle.law_histories.proofs.Told.{IsTold, Told}
use Rattle.law_histories.proofs.Finished.{IsEmpty, keeps-it, living-by, log-empty, told-all, reached-and-told}
use Rattle.law_histories.proofs.Headed.{rank-in}
use Rattle.law_histories.proofs.ToldKeeping.{Reached}

-- a decision that doesn't wait for an update
abbrev NoRetry : Decision → Type 0
NoRetry (decides.Retry n) = ⊥
NoRetry _ = Unit {0}

-- with an empty log none does
module _ (space : ℕ) (r : Replica) (op : Asked) (read : Run → Found) (none : r.log ≡ []) where
  decides-now : (inherited : ℕ) → NoRetry (decide space inherited r op read)
  decides-now inherited = decides-by space r op read inherited NoRetry (record {
    answers = λ reply. tt;
    waits = λ n is. unwaited n (subst (λ (us : List Update). waits_for inherited op.act (number_on us (key_of op.act)) ≡ Some n) none is);
    full = λ long. let empty : length r.log ≡ 0 = ap length none in absurd (omega (arith, long, empty));
    no_space = tt;
    item = λ run b needed missing. tt;
    place = λ len run b is missing. tt;
    removes = λ few outcome. tt;
    touches = λ few h outcome. tt;
    puts = λ few h run under outcome is. tt;
  }) where
    unwaited : (n : ℕ) → ◌≡◌ {A = Option ℕ} None (Some n) → ⊥
    unwaited n is = cc is

-- what is said of each number holds of one that stands there
each-there : (k : ℕ) (xs : List ℕ) (e : ℕ) → Each (λ d. d < k) xs → Contains xs e → e < k
each-there k [] e all has = absurd (let low = has.1 in omega (arith, low))
each-there k (x ∷ xs) e all has = by has.0 has.1 has.2 (λ j low is. each-there k xs e all.1 (j, low, is)) where
  by : (j : ℕ) → j < length (x ∷ xs) → slice_index_or (x ∷ xs) j e ≡ e → ((j : ℕ) → j < length xs → slice_index_or xs j e ≡ e → e < k) → e < k
  by zero low is later = subst (λ (y : ℕ). y < k) is all.0
  by (suc j) low is later = later j (omega (arith, low)) is

mod-below : (n k : ℕ) → 0 < k → n % k < k
mod-below n k some = omega (arith, some)

-- an answer that doesn't wait for an update
abbrev NotPending : Answer → Type 0
NotPending (says.Retry (cause.Pending d n)) = ⊥
NotPending _ = Unit {0}

never-pending : (a : Answer) → NotPending a → ¬ (IsPending a)
never-pending a goes pending = subst NotPending pending.2 goes

-- nothing inherited is unfinished at a process whose heads have nothing in their logs
none-inherited : (p : Process) (ds : List ℕ)
    → ((d : ℕ) (h : Head) → head_at p d ≡ Some h → Contains ds d → h.inherited ≤ (replica_of p d).applied)
    → oldest_inherited p ds ≡ None
none-inherited p [] all = refl
none-inherited p (d ∷ ds) all =
    by (head_at p d) refl
    (none-inherited p ds (λ e h heads there. all e h heads (
      suc there.0,
      (let low = there.1 in omega (arith, low)),
      there.2,
    ))) where
      by : (o : Option Head) → head_at p d ≡ o → oldest_inherited p ds ≡ None → inherited_or p d o (oldest_inherited p ds) ≡ None
      by None is rest = rest
      by (Some h) is rest =
          let low : h.inherited ≤ (replica_of p d).applied = all d h is (0, omega arith, refl) in
          let test : nat_lt (replica_of p d).applied h.inherited ≡ false = grind (arith, common_steps) in
          ap (λ (b : Bool). if b then Some (record { partition = d; number = suc (replica_of p d).applied }) else oldest_inherited p ds) test ∙ rest

goes-ticketed : (b : Bool) (d : ℕ) (u : Update) (t : ProcessStep) → NotPending (ticketed b d u t).answer
goes-ticketed true d u t = tt
goes-ticketed false d u t = tt

goes-block : (s : Dimensions) (b : ℕ) (o : Option Oldest) (p : Process) → o ≡ None → NotPending (retry_block s b o p).answer
goes-block s b None p none = tt
goes-block s b (Some o) p none = absurd (cc none)

goes-act : (s : Dimensions) (name : CallName) (op : Asked) (d : ℕ) (h : Head) (p : Process) (decision : Decision) → NoRetry decision
    → oldest_inherited p (range_with_len 0 s.k) ≡ None → NotPending (act_on s name op d h p decision).answer
goes-act s name op d h p (decides.Answer r) goes none = tt
goes-act s name op d h p (decides.Retry n) goes none = absurd goes
goes-act s name op d h p decides.NoSpace goes none = tt
goes-act s name op d h p (decides.NeedBlock b) goes none = goes-block s b (oldest_inherited p (range_with_len 0 s.k)) p none
goes-act s name op d h p (decides.Issue body outcome) goes none =
    let u : Update = update_of name op d body outcome p in
    goes-ticketed (nat_le u.number (replica_of (issued s d h u p).process d).applied) d u (issued s d h u p)

-- a fate that is known
abbrev IsKnown : Answer → Type 0
IsKnown says.NotYet = ⊥
IsKnown _ = Unit {0}

known-fate : (call : ℕ) (kept : Option Kept) → IsKnown (fate_from true call kept)
known-fate call None = tt
known-fate call (Some kept) = by (kept.call == call) (nat_lt call kept.call) where
  by : (a b : Bool) → IsKnown (if a then says.Reply (reply_from kept.outcome) else (if b then says.Stale kept.call else gone_or true))
  by true b = tt
  by false true = tt
  by false false = tt

-- all that pass are among those of which it is so
all-filter : (test P : ℕ → Bool) (a n : ℕ) → ((i : ℕ) → a ≤ i → i < a + n → test i ≡ true → P i ≡ true) → list_all P (filter test (range_with_len a n)) ≡ true
all-filter test P a zero all = refl
all-filter test P a (suc n) all = by (test a) refl (all-filter test P (a + 1) n (λ i low high. all i (omega (arith, low)) (omega (arith, high)))) where
  by : (b : Bool) → test a ≡ b → list_all P (filter test (range_with_len (a + 1) n)) ≡ true
      → list_all P (cond b (a ∷ filter test (range_with_len (a + 1) n)) (filter test (range_with_len (a + 1) n))) ≡ true
  by true is rest = ap (λ (b : Bool). b && list_all P (filter test (range_with_len (a + 1) n))) (all a (omega arith) (omega arith) is) ∙ rest
  by false is rest = rest

module _ (s : Dimensions) (v : State) (reached : Reached s v) (told : Told s v) (empty : IsEmpty s v) (p : ProcessId)
    (pin : IsProcess s p) (lives : v.dead p ≡ false) where
  -- whoever is dead is known to be
  knows : (q : ProcessId) → IsProcess s q → q ≢ p → v.dead q ≡ true → knows_dead (v.process p).known q ≡ true
  knows q qin other isdead = by (knows_dead (v.process p).known q) refl where
    by : (b : Bool) → knows_dead (v.process p).known q ≡ b → knows_dead (v.process p).known q ≡ true
    by true is = is
    by false is =
        absurd (cc (
          isdead,
          living-by q (v.dead q) (knows_dead (v.process p).known q) (v.link q p)
              (reached.0.stands q p qin pin other lives) is (empty q p qin pin lives other),
        ))

  -- a head's acknowledgements are all there
  adopted : (d : ℕ) (h : Head) → d < s.k → head_at (v.process p) d ≡ Some h → is_adopted s (v.process p) h ≡ true
  adopted d h below heads = by (h.rank == 0) refl where
    test : ℕ → Bool
    test i = not (same_process (v.process p).name (ParityNode i)) && not (knows_dead (v.process p).known (ParityNode i))

    parts : (a b : Bool) → (not a && not b) ≡ true → (a ≡ false) × (b ≡ false)
    parts false false e = (refl, refl)
    parts false true e = cc e
    parts true b e = cc e

    each : (h.rank == 0) ≡ false → (i : ℕ) → 0 ≤ i → i < 0 + s.m → test i ≡ true → is_some (at None h.acks i) ≡ true
    each later i low high passes = which (told-all s v reached told empty p d h pin lives below heads i (omega (arith, high))
        (λ same. cc (both.0, ap (λ (y : ProcessId). same_process y (ParityNode i)) (reached.0.named p pin ∙ same), same-refl (ParityNode i))) both.1)
      where
        both : (same_process (v.process p).name (ParityNode i) ≡ false) × (knows_dead (v.process p).known (ParityNode i) ≡ false)
        both = parts (same_process (v.process p).name (ParityNode i)) (knows_dead (v.process p).known (ParityNode i)) passes

        which : IsTold h.rank (at None h.acks i) (last_of (replica_of (v.process p) d)) → is_some (at None h.acks i) ≡ true
        which (inl all) = ap is_some all
        which (inr none) = absurd (let first = none.0 in let apart : h.rank ≢ 0 = grind (arith, common_steps) in apart first)

    by : (b : Bool) → (h.rank == 0) ≡ b → is_adopted s (v.process p) h ≡ true
    by true is = ap (λ (b : Bool). b || list_all (λ i. is_some (at None h.acks i)) (other_parities s.m (v.process p).name (v.process p).known)) is
    by false is =
        ap (λ (b : Bool). b || list_all (λ i. is_some (at None h.acks i)) (other_parities s.m (v.process p).name (v.process p).known)) is
        ∙ all-filter test (λ i. is_some (at None h.acks i)) 0 s.m (each is)

  -- so each fate is known
  fate-known : (caller call d : ℕ) → d < s.k → (o : Option Head) → head_at (v.process p) d ≡ o → IsKnown (fate_of s caller call d (v.process p) o)
  fate-known caller call d below None heads = tt
  fate-known caller call d below (Some h) heads =
      subst
      (λ (us : List Update).
      IsKnown (fate_unless (is_in_log caller call us)
      (fate_from (is_adopted s (v.process p) h) call (at None (replica_of (v.process p) d).kept caller))))
      (sym (log-empty s v reached told empty p d h pin lives below heads))
      (subst (λ (b : Bool). IsKnown (fate_from b call (at None (replica_of (v.process p) d).kept caller))) (sym (adopted d h below heads))
      (known-fate call (at None (replica_of (v.process p) d).kept caller)))

  -- and each call is decided at once
  inherits : (d : ℕ) (h : Head) → d < s.k → head_at (v.process p) d ≡ Some h → h.inherited ≤ (replica_of (v.process p) d).applied
  inherits d h below heads =
      let reach : ReplicaReaches Any d (v.settled d) (v.process p) = (reached.1 d below).replicas p pin lives
      (keeps-it s v reached told empty p d h pin lives below heads) in
      let most = (reach.heads h heads).inherited in
      let none : length (replica_of (v.process p) d).log ≡ 0 = ap length (log-empty s v reached told empty p d h pin lives below heads) in
      omega (arith, most, none)

  asks-now : (name : CallName) (op : Asked) (d : ℕ) → d < s.k → (o : Option Head) → head_at (v.process p) d ≡ o
      → NotPending (ask_head s name op d (v.process p) o).answer
  asks-now name op d below None heads = tt
  asks-now name op d below (Some h) heads =
      goes-act s name op d h (v.process p) (decide (space_of s) h.inherited (replica_of (v.process p) d) op (found_at s d (v.process p) (v.process p).name))
      (decides-now (space_of s) (replica_of (v.process p) d) op (found_at s d (v.process p) (v.process p).name)
      (log-empty s v reached told empty p d h pin lives below heads) h.inherited)
      (none-inherited (v.process p) (range_with_len 0 s.k) (λ e g is there. inherits e g (in-range e there) is))
    where
      in-range : (e : ℕ) → Contains (range_with_len 0 s.k) e → e < s.k
      in-range e there = each-there s.k (range_with_len 0 s.k) e (each-below s.k) there

  -- the process of the lowest rank that lives heads the partition, for its part too
  heads-at : (d r : ℕ) → d < s.k → p ≡ of_rank d r → r ≤ s.m → ((q : ℕ) → q < r → v.dead (of_rank d q) ≡ true) → (h : Head) × (head_at (v.process p) d ≡ Some h)
  heads-at d r below is within lower = (found.0, found.1) where
    known-at : (q : ℕ) → q < r → knows_dead (v.process p).known (of_rank d q) ≡ true
    known-at q low = knows (of_rank d q) (rank-in s d q below (omega (arith, low, within))) (λ same. cc (lower q low, ap v.dead same, lives)) (lower q low)

    seat : (r : ℕ) → p ≡ of_rank d r → ((q : ℕ) → q < r → knows_dead (v.process p).known (of_rank d q) ≡ true) → seat_of (v.process p) d ≡ Some r
    seat zero name known =
        let own : (d == d) ≡ true = grind (arith, common_steps) in
        (subst (Sits (v.process p) d) name (reached.0.sits p d pin lives below)).0 ∙ ap (λ (b : Bool). if b then Some 0 else None) own
    seat (suc i) name known =
        (seat-known (v.process p) d i (subst (Sits (v.process p) d) name (reached.0.sits p d pin lives below))
        (ap (λ (b : Bool). b && list_all (λ j. knows_dead (v.process p).known (ParityNode j)) (range_with_len 0 i)) (known 0 (omega arith))
        ∙ all-lower (v.process p).known 0 i (λ j low high. known (suc j) (omega (arith, high))))).0

    found : (h : Head) × (head_at (v.process p) d ≡ Some h) × (h.rank ≡ r)
    found = seat-some (head_at (v.process p) d) r (seat r is known-at)

-- in the words of the group
module _ (h : History) (reached : Reached h.world.shape (state_of h)) (told : Told h.world.shape (state_of h)) (drained : IsDrained h.world) where
  empty : IsEmpty h.world.shape (state_of h)
  empty from to fin tin living apart = drained from to fin (tin, living) apart

  finished : IsFinished h.world
  finished d r below heads =
      let p : ProcessId = of_rank d r in
      let pin : IsProcess h.world.shape p = rank-in h.world.shape d r below heads.within in
      let head = heads-at h.world.shape (state_of h) reached told empty p pin heads.lives d r below refl heads.within heads.lowest in
      (head.0, head.1, log-empty h.world.shape (state_of h) reached told empty p d head.0 pin heads.lives below head.1)

  traced : IsTraced h.world
  traced caller call d p may = by (process_node h.world p).down (process_node h.world p).dead refl where
    by : (down dead : Bool) → (process_node h.world p).dead ≡ dead
        → (if_up down dead (process_node h.world p)
        (unchanged (fate_of h.world.shape caller call d.0 (process_of h.world p) (head_at (process_of h.world p) d.0))
        (process_node h.world p))).answer ≢ says.NotYet
    by true dead is e = cc e
    by false true is e = cc e
    by false false is e =
        subst IsKnown e (fate-known h.world.shape (state_of h) reached told empty p may.3 is caller call d.0 may.2
        (head_at (process_of h.world p) d.0) refl)

  asked : 0 < h.world.shape.k → IsAsked h.world
  asked some caller op p may =
      never-pending (step h.world (Ask caller op p)).turn.answer (by (process_node h.world p).down (process_node h.world p).dead refl) where
        below : home_of (key_of op.act) h.world.shape.k < h.world.shape.k
        below = mod-below (fnv1a (key_of op.act)) h.world.shape.k some

        by : (down dead : Bool) → (process_node h.world p).dead ≡ dead
            → NotPending (if_up down dead (process_node h.world p)
            (treated h.world.shape (process_node h.world p)
            (ask_process h.world.shape (next_name h.world caller) op (process_of h.world p)))).answer
        by true dead is = tt
        by false true is = tt
        by false false is =
            asks-now h.world.shape (state_of h) reached told empty p may.1 is (next_name h.world caller) op (home_of (key_of op.act) h.world.shape.k) below
            (head_at (process_of h.world p) (home_of (key_of op.act) h.world.shape.k)) refl

module _ (s : Dimensions) (es : List Event) (run : IsRun s es) (drained : IsDrained (after s es)) where
  abbrev h : History
  h = history_of s es

  same : h.world ≡ after s es
  same = world-from (no_history s) es

  shape : h.world.shape ≡ s
  shape = shape-from (no_history s) es

  reached-here : Reached h.world.shape (state_of h)
  reached-here = subst (λ (t : Dimensions). Reached t (state_of h)) (sym shape) (reached-and-told s es run).0

  told-here : Told h.world.shape (state_of h)
  told-here = subst (λ (t : Dimensions). Told t (state_of h)) (sym shape) (reached-and-told s es run).1

  drained-here : IsDrained h.world
  drained-here = subst IsDrained (sym same) drained

  some-here : 0 < h.world.shape.k
  some-here = let first = run.0.k.0 in let many = ap (λ (t : Dimensions). t.k) shape in omega (arith, first, many)

pub finished_always : FinishedAlways
finished_always s es run drained = subst IsFinished (same s es run drained)
    (finished (history_of s es) (reached-here s es run drained) (told-here s es run drained)
    (drained-here s es run drained))

pub traced_always : TracedAlways
traced_always s es run drained =
    subst IsTraced (same s es run drained)
    (traced (history_of s es) (reached-here s es run drained) (told-here s es run drained)
    (drained-here s es run drained))

pub asked_always : AskedAlways
asked_always s es run drained =
    subst IsAsked (same s es run drained)
    (asked (history_of s es) (reached-here s es run drained) (told-here s es run drained)
    (drained-here s es run drained) (some-here s es run drained))
