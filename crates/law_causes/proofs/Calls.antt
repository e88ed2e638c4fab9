-- A ticket's call is held, and a call that a collect replied to is not.
use Rattle.std.proofs.Common.{ℕ, zero, suc, ◌≡◌, ◌≢◌, ◌<◌, ◌+◌, ◌==◌, ◌&&◌, nat_le, Bool, true, false, not, List, []}
use Rattle.std.proofs.Common.{◌∷◌, ◌++◌, Option, Some, None, ◌⊎◌, inl, inr, refl, sym, ap, subst, ◌∙◌, arith}
use Rattle.std.proofs.lemmas.Bool.{cases_eq}
use Rattle.std.proofs.lemmas.Grind.{common_steps}
use Rattle.std.specs.Prelude.{cond, Contains, filter, find}
use Rattle.std.specs.List.{range_with_len}
use Rattle.group_types.specs.Dimensions.{Dimensions, space_of}
use Rattle.group_types.specs.Each.{Each}
use Rattle.group_types.specs.Lists.{at, put}
use Rattle.group_types.specs.declared.process.ProcessId.{ProcessId}
use Rattle.group_types.proofs.Lists.{at-put, at-put-other}
use Rattle.memc_table.specs.Asked.{Asked}
use Rattle.group_message.specs.declared.update.Update.{Update}
use Rattle.group_calls.specs.Turns.{CallName}
use Rattle.group_calls.specs.declared.decision.Decision.{Decision}
use Rattle.group_calls.specs.declared.decision.Decision.TheVariants as decides
use Rattle.group_calls.specs.declared.event.Answer.TheVariants.{Reply, Ticket}
use Rattle.group_calls.specs.declared.event.Event.TheVariants.{Ask, Collect}
use Rattle.group_run.specs.Applying.{ProcessStep, head_at, held_at, replica_of, with_replica}
use Rattle.group_run.specs.Asking.{CallStep, Oldest, act_on, ask_head, ask_process, collect_from, collect_held}
use Rattle.group_run.specs.Asking.{found_at, handed_out, is_call, issued, oldest_inherited, retry_block, ticketed}
use Rattle.group_run.specs.Asking.{update_of}
use Rattle.group_run.specs.Causes.{HoldsCall, home_in}
use Rattle.group_run.specs.Deciding.{decide}
use Rattle.group_run.specs.Meaning.{process_of}
use Rattle.group_run.specs.Process.{Head, Held, Node, Process}
use Rattle.group_run.specs.Replica.{with_update}
use Rattle.group_run.specs.World.{World, after, if_up, next_name, process_node, step, treated}
use Rattle.law_moves.proofs.Events.{up_from}
use Rattle.law_moves.proofs.Notices.{both}
use Rattle.law_moves.proofs.Reading.{node-here}
use Rattle.law_log.specs.Book.{book_of}
use Rattle.law_log.proofs.Books.{book-framed, book-world}
use Rattle.law_log.proofs.Calls.{each-contained}
use Rattle.law_log.proofs.HeldCalls.{held_of}
use Rattle.law_log.proofs.Holds.{holds-judge}
use Rattle.law_answers.proofs.Walks.{found-there}
use Rattle.law_causes.specs.Calls.{CollectedAlways, TicketsHeldAlways, HoldsTicket, RepliedAreForgotten, TicketsAreHeld}
use Rattle.law_causes.proofs.Holding.{calls-differ, calls-stand, held-stand, one-partition, reached-book}

-- the call of this name is held behind the others
pub record HeldBehind (p : Process) (d : ℕ) (name : CallName) (n : ℕ) (q : Process) : Type 0 where
  pub update : Update
  pub number : update.number ≡ n
  pub caller : update.caller ≡ name.caller
  pub call : update.call ≡ name.call
  pub held : held_at q d ≡ held_at p d ++ held_of update ∷ []

module _ (s : Dimensions) (name : CallName) (op : Asked) (d n : ℕ) (p : Process) where
  ticket-held : (h : Head) (u : Update) → u.caller ≡ name.caller → u.call ≡ name.call → (b : Bool) → (ticketed b d u (issued s d h u p)).answer ≡ Ticket n
      → HeldBehind p d name n (ticketed b d u (issued s d h u p)).step.process
  ticket-held h u caller call true is = absurd (cc is)
  ticket-held h u caller call false is =
      let t : ProcessStep = issued s d h u p in
      let same : t.process.held ≡ p.held = holds-judge s d (with_replica d (with_update u (replica_of p d)) p) in
      record {
        update = u;
        number = cc is;
        caller = caller;
        call = call;
        held = at-put [] [] t.process.held d (held_at t.process d ++ held_of u ∷ []) ∙ ap (λ (held : List (List Held)). at [] held d ++ held_of u ∷ []) same;
      }

  retry-none : (b : ℕ) (o : Option Oldest) → (retry_block s b o p).answer ≡ Ticket n → ⊥
  retry-none b None is = cc is
  retry-none b (Some o) is = cc is

  act-held : (h : Head) (decision : Decision) → (act_on s name op d h p decision).answer ≡ Ticket n
      → HeldBehind p d name n (act_on s name op d h p decision).step.process
  act-held h (decides.Answer r) is = absurd (cc is)
  act-held h (decides.Retry m) is = absurd (cc is)
  act-held h decides.NoSpace is = absurd (cc is)
  act-held h (decides.NeedBlock b) is = absurd (retry-none b (oldest_inherited p (range_with_len 0 s.k)) is)
  act-held h (decides.Issue body outcome) is =
      let u : Update = update_of name op d body outcome p in
      ticket-held h u refl refl (nat_le u.number (replica_of (issued s d h u p).process d).applied) is

  pub ask-held : (o : Option Head) → (ask_head s name op d p o).answer ≡ Ticket n → HeldBehind p d name n (ask_head s name op d p o).step.process
  ask-held None is = absurd (cc is)
  ask-held (Some h) is = act-held h (decide (space_of s) h.inherited (replica_of p d) op (found_at s d p p.name)) is

pub tickets-held : (w : World) → TicketsAreHeld w
tickets-held w caller op p n may is = by (process_node w p).down (process_node w p).dead is (ap (λ (x : Node). x.process) (node-here w.shape w.nodes p _)) where
  call : CallStep
  call = ask_process w.shape (next_name w caller) op (process_of w p)

  ticket : HeldBehind (process_of w p) (home_in w op) (next_name w caller) n
      (process_of (step w (Ask caller op p)).world p) → HoldsTicket w (step w (Ask caller op p)).world caller op p n
  ticket behind = record {
    outcome = behind.update.outcome;
    held = behind.held ∙ (let caller_is = behind.caller in let call_is = behind.call in let number = behind.number in
        λ i. held_at (process_of w p) (home_in w op)
        ++ record { caller = caller_is i; call = call_is i; number = number i; outcome = behind.update.outcome }
        ∷ []);
  }

  by : (down dead : Bool) → (if_up down dead (process_node w p) (treated w.shape (process_node w p) call)).answer ≡ Ticket n
      → process_of (step w (Ask caller op p)).world p ≡ (if_up down dead (process_node w p) (treated w.shape (process_node w p) call)).node.process
      → HoldsTicket w (step w (Ask caller op p)).world caller op p n
  by true dead is same = absurd (cc is)
  by false true is same = absurd (cc is)
  by false false is same =
      ticket (subst (HeldBehind (process_of w p) (home_in w op) (next_name w caller) n) (sym same)
      (ask-held w.shape (next_name w caller) op (home_in w op) n (process_of w p) (head_at (process_of w p) (home_in w op)) is))

pub tickets_held_always : TicketsHeldAlways
tickets_held_always s es run = tickets-held (after s es)

-- what is left of a list passes
filtered : {X : Type 0} (test : X → Bool) (xs : List X) → Each (λ x. test x ≡ true) (filter test xs)
filtered test [] = tt
filtered {X} test (x ∷ xs) = by (test x) refl (filtered test xs) where
  by : (b : Bool) → test x ≡ b → Each (λ (y : X). test y ≡ true) (filter test xs)
      → Each (λ (y : X). test y ≡ true) (cond b (x ∷ filter test xs) (filter test xs))
  by true passes rest = (passes, rest)
  by false fails rest = rest

-- a call of one name, told by another of that name
same-call : (caller call : ℕ) (x y : Held) → is_call caller call x ≡ true → is_call caller call y ≡ true → is_call x.caller x.call y ≡ true
same-call caller call x y first second =
    let names = both (x.caller == caller) (x.call == call) first in
    let one = names.0 in
    let two = names.1 in
    let caller_is : x.caller ≡ caller = grind (arith, common_steps) in
    let call_is : x.call ≡ call = grind (arith, common_steps) in
    ap (λ (n : ℕ). y.caller == n && y.call == x.call) caller_is ∙ ap (λ (n : ℕ). y.caller == caller && y.call == n) call_is ∙ second

module _ (w : World) (p : ProcessId) (caller call : ℕ) (one : (d e : ℕ) (x y : Held) → HoldsCall w p caller call d x
    → HoldsCall w p caller call e y → d ≡ e) where
  -- no call of this name is held there
  abbrev HoldsNone : Process → Type 0
  HoldsNone q = (e : ℕ) (y : Held) → e < w.shape.k → Contains (held_at q e) y → is_call caller call y ≡ true → ⊥

  handed-none : (r : _) (d : ℕ) (x : Held) → HoldsCall w p caller call d x → (b : Bool)
      → (handed_out b d x (process_of w p)).answer ≡ Reply r
      → HoldsNone (handed_out b d x (process_of w p)).step.process
  handed-none r d x holds false is = absurd (cc is)
  handed-none r d x holds true is = λ e y low there named. by e y low there named (cases_eq e d) where
    left : List Held
    left = filter (λ z. not (is_call x.caller x.call z)) (held_at (process_of w p) d)

    by : (e : ℕ) (y : Held) → e < w.shape.k → Contains (at [] (put [] (process_of w p).held d left) e) y → is_call caller call y ≡ true → (e ≡ d) ⊎ (e ≢ d) → ⊥
    by e y low there named (inl same) =
        let here : Contains left y = subst (λ (zs : List Held). Contains zs y)
        (at-put [] [] (process_of w p).held d left)
        (subst (λ (k : ℕ). Contains (at [] (put [] (process_of w p).held d left) k) y) same there) in
        let passes : not (is_call x.caller x.call y) ≡ true =
        each-contained (λ z. not (is_call x.caller x.call z) ≡ true) left y
        (filtered (λ z. not (is_call x.caller x.call z)) (held_at (process_of w p) d)) here in
        let is_same : is_call x.caller x.call y ≡ true = same-call caller call x y holds.named named in
        cc (passes, is_same)
    by e y low there named (inr other) =
        let elsewhere : Contains (held_at (process_of w p) e) y = subst (λ (zs : List Held). Contains zs y)
        (at-put-other [] (process_of w p).held d e left other) there in
        other (one e d y x (record { partition = low; held = elsewhere; named = named }) holds)

  walk-none : (r : _) (n a : ℕ) → a + n ≡ w.shape.k → (collect_from caller call (process_of w p) (range_with_len a n)).answer ≡ Reply r
      → HoldsNone (collect_from caller call (process_of w p) (range_with_len a n)).step.process
  walk-none r zero a all is = absurd (cc is)
  walk-none r (suc n) a all is = by (find (is_call caller call) (held_at (process_of w p) a)) refl is (walk-none r n (a + 1) (omega (arith, all))) where
    by : (o : Option Held) → find (is_call caller call) (held_at (process_of w p) a) ≡ o
        → (collect_held a o (process_of w p) (collect_from caller call (process_of w p) (range_with_len (a + 1) n))).answer ≡ Reply r
        → ((collect_from caller call (process_of w p) (range_with_len (a + 1) n)).answer ≡ Reply r
        → HoldsNone (collect_from caller call (process_of w p) (range_with_len (a + 1) n)).step.process)
        → HoldsNone (collect_held a o (process_of w p) (collect_from caller call (process_of w p) (range_with_len (a + 1) n))).step.process
    by None found is later = later is
    by (Some x) found is later =
        let there = found-there (is_call caller call) (held_at (process_of w p) a) x found in
        handed-none r a x (record { partition = omega (arith, all); held = there.0; named = there.1 })
        (nat_le x.number (replica_of (process_of w p) a).applied) is

forgotten : (w : World) (caller call : ℕ) (p : ProcessId)
    → ((process_node w p).down ≡ false → (process_node w p).dead ≡ false → (d e : ℕ) (x y : Held) → HoldsCall w p caller call d x
    → HoldsCall w p caller call e y → d ≡ e)
    → (r : _) → (step w (Collect caller call p)).turn.answer ≡ Reply r → (d : ℕ) (x : Held)
    → ¬ (HoldsCall (step w (Collect caller call p)).world p caller call d x)
forgotten w caller call p one r is d x holds = by (process_node w p).down (process_node w p).dead refl refl is
    (ap (λ (y : Node). y.process) (node-here w.shape w.nodes p _)) where
      made : CallStep
      made = collect_from caller call (process_of w p) (range_with_len 0 w.shape.k)

      by : (down dead : Bool) → (process_node w p).down ≡ down → (process_node w p).dead ≡ dead
          → (if_up down dead (process_node w p) (treated w.shape (process_node w p) made)).answer ≡ Reply r
          → process_of (step w (Collect caller call p)).world p ≡ (if_up down dead (process_node w p) (treated w.shape (process_node w p) made)).node.process
          → ⊥
      by true dead isdown isdead is same = cc is
      by false true isdown isdead is same = cc is
      by false false isdown isdead is same =
          walk-none w p caller call (one isdown isdead) r w.shape.k 0 (omega arith) is d x holds.partition
          (subst (λ (q : Process). Contains (held_at q d) x) same holds.held) holds.named

pub collected_always : CollectedAlways
collected_always s es run = subst RepliedAreForgotten (book-world s es) (λ caller call p reply may is.
    forgotten w caller call p (λ isdown isdead. one-partition (book_of s es).history (reached-book s es run)
    (held-stand s es run) p (may.1, isdead) (book_of s es).issued (calls-stand s es run)
    (up_from w.shape w.nodes (book_of s es).history.settled (book-framed s es run) p may.1 isdown) (calls-differ s es run) caller call) reply is) where
      w : World
      w = (book_of s es).history.world
