-- Calls that a process treats leave its bytes right.
use Rattle.std.proofs.Common.{IfSome, ◌≡◌, ◌≢◌, ℕ, zero, suc, ◌+◌, ◌<◌, ◌≤◌, ◌%◌, ◌==◌, nat_le, Bool, true, false, not}
use Rattle.std.proofs.Common.{List, [], ◌∷◌, ◌++◌, length, take, filter, find, Option, Some, None, ◌⊎◌, inl, inr, sym}
use Rattle.std.proofs.Common.{ap, subst, ◌∙◌, refl, arith, cond}
use Rattle.std.proofs.lemmas.Bool.{cases_eq, eq-eqb}
use Rattle.std.specs.List.{list_any, range_with_len}
use Rattle.group_types.specs.Dimensions.{Dimensions, space_of}
use Rattle.group_types.specs.Hash.{fnv1a, home_of}
use Rattle.group_types.specs.Lists.{at}
use Rattle.group_types.specs.declared.process.ProcessId.TheVariants.{DataNode, ParityNode}
use Rattle.group_types.proofs.Lists.{at-put, at-put-other}
use Rattle.membership.specs.Members.{knows_dead}
use Rattle.memc_table.specs.Act.{key_of}
use Rattle.memc_table.specs.Asked.{Asked}
use Rattle.group_message.specs.declared.update.Update.{Update}
use Rattle.group_calls.specs.Turns.{CallName}
use Rattle.group_calls.specs.declared.decision.Decision.{Decision}
use Rattle.group_calls.specs.declared.decision.Decision.TheVariants as decides
use Rattle.group_run.specs.Applying.{ProcessStep, Settlement, head_at, held_at, replica_of, when, with_held, with_replica}
use Rattle.group_run.specs.Asking.{Oldest, act_on, ask_head, collect_from, collect_held, found_at, handed_out, holding}
use Rattle.group_run.specs.Asking.{is_call, issued, oldest_inherited, retry_block, ticketed, update_of}
use Rattle.group_run.specs.Deciding.{decide}
use Rattle.group_run.specs.Heading.{judge, judge_head, least_acked, other_parities, settle_to, settlements}
use Rattle.group_run.specs.Leaders.{lost_of, session_opened, start_session}
use Rattle.group_run.specs.Process.{Head, Held, Process}
use Rattle.group_run.specs.Replica.{Replica, empty_replica, last_of, up_to, with_update}
use Rattle.group_run.specs.Rows.{copy_in, parity_number}
use Rattle.group_run.specs.World.{settled_in}
use Rattle.law_moves.proofs.Moves.{Treats, Asks, Collects, Flushes}
use Rattle.law_moves.proofs.Calls.{Owes, Seated, each-below, step-treats}
use Rattle.law_moves.proofs.Cores.{SentWell}
use Rattle.group_types.specs.Names.{IsProcess}
use Rattle.group_types.specs.declared.process.ProcessId.{ProcessId}
use Rattle.group_types.specs.Each.{Each}
use Rattle.group_types.proofs.Eaches.{each-weaker, each-filter}
use Rattle.law_bytes.proofs.Premises.{AppliesSettled, SettlesNext, NextIsNew}
use Rattle.law_bytes.proofs.Applying.{Holding, applied-holds}
use Rattle.law_bytes.proofs.Copies.{holding-same}
use Rattle.law_bytes.proofs.Finds.{if-weaker}
use Rattle.law_bytes.proofs.Marking.{Differ, IsOpen, owns-hold}
use Rattle.law_bytes.proofs.Stepping.{Ready}
use Rattle.law_bytes.proofs.Unasked.{never-asks}
use Rattle.law_bytes.proofs.Values.{Concerns, Inside}
use Rattle.law_bytes.specs.Areas.{SettledWrite}

-- what is settled of one partition is of it
settled-one : (d : ℕ) (us : List Update) → settled_in d (settlements d us) ≡ us
settled-one d [] = refl
settled-one d (u ∷ us) = rw (eq-eqb d d refl) (ap (λ (rest : List Update). u ∷ rest) (settled-one d us))

range-above : (a b n : ℕ) → a ≤ b → Each (λ x. a ≤ x) (range_with_len b n)
range-above a b zero low = tt
range-above a b (suc n) low = (low, range-above a (b + 1) n (omega (arith, low)))

differ-range : (s : Dimensions) (settled : ℕ → List Update) (old : ℕ → ℕ → Bool) (a n : ℕ) → Differ s settled old (range_with_len a n)
differ-range s settled old a zero = tt
differ-range s settled old a (suc n) = (
  each-weaker (λ x. a + 1 ≤ x) (λ x. x ≢ a) (λ x above same. absurd (omega (arith, above, same)))
      (range_with_len (a + 1) n) (range-above (a + 1) (a + 1) n (omega arith)),
  differ-range s settled old (a + 1) n,
)

differ-filter : (s : Dimensions) (settled : ℕ → List Update) (old : ℕ → ℕ → Bool) (test : ℕ → Bool) (xs : List ℕ)
    → Differ s settled old xs → Differ s settled old (filter test xs)
differ-filter s settled old test [] differ = tt
differ-filter s settled old test (x ∷ xs) differ = by (test x) (differ-filter s settled old test xs differ.1) where
  by : (b : Bool) → Differ s settled old (filter test xs) → Differ s settled old (cond b (x ∷ filter test xs) (filter test xs))
  by true rest = (each-filter (λ y. y ≢ x) test xs differ.0, rest)
  by false rest = rest

module _ (s : Dimensions) (settled : ℕ → List Update) (write : SettledWrite s settled) (old : ℕ → ℕ → Bool) where
  -- what is handed out, or held, leaves the bytes
  held-holds : (d : ℕ) (hs : List Held) (p : Process) → Holding s settled old p → Holding s settled old (with_held d hs p)
  held-holds d hs p holding =
      holding-same s settled old p (with_held d hs p)
      (record { stand = record { name = refl; applied = λ e. refl }; space = refl; rebuilt = λ e b. refl })
      holding.copies holding

  ticketed-holds : (b : Bool) (d : ℕ) (u : Update) (t : ProcessStep) → Holding s settled old t.process → Holding s settled old (ticketed b d u t).step.process
  ticketed-holds true d u t holds = holds
  ticketed-holds false d u t holds =
      held-holds d (held_at t.process d ++ record {
        caller = u.caller;
        call = u.call;
        number = u.number;
        outcome = u.outcome;
      } ∷ []) t.process holds

  ticketed-same : (b : Bool) (d : ℕ) (u : Update) (t : ProcessStep)
      → ((ticketed b d u t).step.process.replicas ≡ t.process.replicas) × ((ticketed b d u t).step.settled ≡ t.settled)
  ticketed-same true d u t = (refl, refl)
  ticketed-same false d u t = (refl, refl)

  -- a head issues an update
  module _ (p : Process) (d : ℕ) (h : Head) (u : Update) (heads : head_at p d ≡ Some h) (concerns : Concerns s p.name d) (below : d < s.k) where
    told : Process
    told = with_replica d (with_update u (replica_of p d)) p

    least : ℕ
    least = least_acked h (last_of (replica_of told d)) (other_parities s.m p.name p.known)

    judged : judge s d told ≡ settle_to s d least told
    unfolding told least
    judged = ap (judge_head s d told) heads

    replica_told : replica_of told d ≡ with_update u (replica_of p d)
    unfolding told
    replica_told = at-put empty_replica empty_replica p.replicas d (with_update u (replica_of p d))

    told_applied : (e : ℕ) → (e ≡ d) ⊎ (e ≢ d) → (replica_of told e).applied ≡ (replica_of p e).applied
    unfolding told
    told_applied e (inr other) = ap (λ (r : Replica). r.applied) (at-put-other empty_replica p.replicas d e (with_update u (replica_of p d)) other)
    told_applied e (inl here) = ap (λ (j : ℕ). (replica_of told j).applied) here
        ∙ ap (λ (r : Replica). r.applied) replica_told ∙ ap (λ (j : ℕ). (replica_of p j).applied) (sym here)

    told_holds : Holding s settled old p → Holding s settled old told
    unfolding told
    told_holds holding =
        holding-same s settled old p told
        (record { stand = record { name = refl; applied = λ e. told_applied e (cases_eq e d) }; space = refl; rebuilt = λ e b. refl }) holding.copies holding

    pub issued-holds : (replica_of (issued s d h u p).process d).applied ≤ length (settled d)
        → take ((replica_of p d).applied + length (settled_in d (issued s d h u p).settled)) (settled d)
        ≡ take (replica_of p d).applied (settled d) ++ settled_in d (issued s d h u p).settled
        → Holding s settled old p → Holding s settled old (issued s d h u p).process
    unfolding told least
    issued-holds within next holding =
        let news : List Update = up_to least (replica_of told d) in
        let settles : settled_in d (issued s d h u p).settled ≡ news = ap (λ (t : ProcessStep). settled_in d t.settled) judged ∙ settled-one d news in
        let next_told : take ((replica_of told d).applied + length news) (settled d) ≡ take (replica_of told d).applied (settled d) ++ news =
        subst (λ (k : ℕ). take (k + length news) (settled d) ≡ take k (settled d) ++ news) (sym (told_applied d (inl refl)))
        (subst (λ (us : List Update). take ((replica_of p d).applied + length us) (settled d)
        ≡ take (replica_of p d).applied (settled d) ++ us) settles next) in
        subst (λ (t : ProcessStep). Holding s settled old t.process) (sym judged)
        (applied-holds s settled write old told d least concerns below next_told
        (subst (λ (t : ProcessStep). (replica_of t.process d).applied ≤ length (settled d)) judged within)
        (told_holds holding))

  -- a leader opens a session
  parity-holds : (block l : ℕ) (p : Process) → p.name ≡ ParityNode l → Inside s p.name → NextIsNew s p
      → Holding s settled old p → Holding s settled old (start_session s block p).process
  parity-holds block l p name inside new holding =
      owns-hold s settled old leader number block (lost_of s p) opened inside
      (each-filter (λ x. x < s.k) (λ d. knows_dead p.known (DataNode d)) (range_with_len 0 s.k) (each-below s.k))
      (differ-filter s settled old (λ d. knows_dead p.known (DataNode d)) (range_with_len 0 s.k) (differ-range s settled old 0 s.k))
      (if-weaker (λ c. (d : ℕ) → d < s.k → at None c.marks d ≡ None) (IsOpen (lost_of s p))
      (λ c free. each-weaker (λ x. x < s.k) (λ x. at None c.marks x ≡ None) (λ x low. free x low) (lost_of s p)
      lost_below) (copy_in p.as_row.copies leader number)
      (subst (λ (i : ℕ). IfSome (copy_in p.as_row.copies i number) (λ c. (d : ℕ) → d < s.k → at None c.marks d
      ≡ None)) (sym (ap parity_number name)) (new l name)))
      (holding-same s settled old p opened
      (record { stand = record { name = refl; applied = λ e. refl }; space = refl; rebuilt = λ e b. refl })
      holding.copies holding)
    where
      lost_below : Each (λ x. x < s.k) (lost_of s p)
      lost_below = each-filter (λ x. x < s.k) (λ d. knows_dead p.known (DataNode d)) (range_with_len 0 s.k) (each-below s.k)

      leader : ℕ
      leader = parity_number p.name

      number : ℕ
      number = suc p.as_leader.last_session

      opened : Process
      opened = session_opened s number block p

  module _ (p : Process) (x : ProcessId) (name : p.name ≡ x) (in_group : IsProcess s x) (living : knows_dead p.known x ≡ false) (inside : Inside s p.name)
      (new : NextIsNew s p) (holding : Holding s settled old p) where
    session-holds : (block : ℕ) → SentWell Owes s.k (start_session s block p).process (start_session s block p).sent
        → (start_session s block p).process.name ≡ p.name → Holding s settled old (start_session s block p).process
    session-holds block well same = by x name in_group living where
      by : (y : ProcessId) → p.name ≡ y → IsProcess s y → knows_dead p.known y ≡ false → Holding s settled old (start_session s block p).process
      by (ParityNode l) is within lives = parity-holds block l p is inside new holding
      by (DataNode e) is within lives = absurd (never-asks s e block p is within lives well same)

    retry-holds : (block : ℕ) (o : Option Oldest) → SentWell Owes s.k (retry_block s block o p).step.process (retry_block s block o p).step.sent
        → (retry_block s block o p).step.process.name ≡ p.name → Holding s settled old (retry_block s block o p).step.process
    retry-holds block (Some o) well same = holding
    retry-holds block None well same = by (not (list_any (λ g. g.block == block) p.as_leader.sessions)) well same where
      by : (b : Bool) → SentWell Owes s.k (when b p (start_session s block p)).process (when b p (start_session s block p)).sent
          → (when b p (start_session s block p)).process.name ≡ p.name → Holding s settled old (when b p (start_session s block p)).process
      by true sent is = session-holds block sent is
      by false sent is = holding

    act-holds : (call : CallName) (op : Asked) (d : ℕ) (h : Head) (decision : Decision) → head_at p d ≡ Some h → Concerns s p.name d → d < s.k
        → SentWell Owes s.k (act_on s call op d h p decision).step.process (act_on s call op d h p decision).step.sent
        → (act_on s call op d h p decision).step.process.name ≡ p.name
        → AppliesSettled s settled p (act_on s call op d h p decision).step → SettlesNext s settled p (act_on s call op d h p decision).step
        → Holding s settled old (act_on s call op d h p decision).step.process
    act-holds call op d h (decides.Answer r) heads concerns below well same applies next = holding
    act-holds call op d h (decides.Retry n) heads concerns below well same applies next = holding
    act-holds call op d h decides.NoSpace heads concerns below well same applies next = holding
    act-holds call op d h (decides.NeedBlock b) heads concerns below well same applies next =
        retry-holds b (oldest_inherited p (range_with_len 0 s.k)) well same
    act-holds call op d h (decides.Issue body outcome) heads concerns below well same_name applies next =
        let u : Update = update_of call op d body outcome p in
        let t : ProcessStep = issued s d h u p in
        let b : Bool = nat_le u.number (replica_of t.process d).applied in
        let same = ticketed-same b d u t in
        ticketed-holds b d u t
        (issued-holds p d h u heads concerns below
        (subst (λ (rs : List Replica). (at empty_replica rs d).applied ≤ length (settled d)) same.0 (applies.within d below))
        (subst (λ (xs : List Settlement). take ((replica_of p d).applied + length (settled_in d xs)) (settled d)
        ≡ take (replica_of p d).applied (settled d) ++ settled_in d xs) same.1 (next d below)) holding)

    ask-holds : (call : CallName) (op : Asked) (d : ℕ) (o : Option Head) → head_at p d ≡ o → Ready s settled p → d < s.k
        → SentWell Owes s.k (ask_head s call op d p o).step.process (ask_head s call op d p o).step.sent → (ask_head s call op d p o).step.process.name ≡ p.name
        → AppliesSettled s settled p (ask_head s call op d p o).step
        → SettlesNext s settled p (ask_head s call op d p o).step
        → Holding s settled old (ask_head s call op d p o).step.process
    ask-holds call op d None heads ready below well same applies next = holding
    ask-holds call op d (Some h) heads ready below well same applies next =
        act-holds call op d h (decide (space_of s) h.inherited (replica_of p d) op (found_at s d p p.name)) heads
        (ready.own d h below heads) below well same applies next

  handed-holds : (b : Bool) (d : ℕ) (h : Held) (p : Process) → Holding s settled old p → Holding s settled old (handed_out b d h p).step.process
  handed-holds true d h p holding = held-holds d (filter (λ x. not (is_call h.caller h.call x)) (held_at p d)) p holding
  handed-holds false d h p holding = holding

  collect-holds : (caller call : ℕ) (p : Process) (ds : List ℕ) → Holding s settled old p → Holding s settled old (collect_from caller call p ds).step.process
  collect-holds caller call p [] holding = holding
  collect-holds caller call p (d ∷ ds) holding = by (find (is_call caller call) (held_at p d)) (collect-holds caller call p ds holding) where
    by : (o : Option Held) → Holding s settled old (collect_from caller call p ds).step.process
        → Holding s settled old (collect_held d o p (collect_from caller call p ds)).step.process
    by None rest = rest
    by (Some h) rest = handed-holds (nat_le h.number (replica_of p d).applied) d h p holding

  -- whatever a process treats
  pub treats-hold : (p : Process) (x : ProcessId) (t : ProcessStep) → Seated s p x → IsProcess s x → knows_dead p.known x ≡ false → Treats s p t
      → Ready s settled p → Inside s p.name → NextIsNew s p → AppliesSettled s settled p t → SettlesNext s settled p t
      → Holding s settled old p → Holding s settled old t.process
  treats-hold p x _ seated in_group living (Asks call op bytes) ready inside new applies next holding =
      let well = step-treats s p x _ seated (Asks call op bytes) in
      ask-holds p x seated.name in_group living inside new holding call op (home_of (key_of op.act) s.k)
      (head_at p (home_of (key_of op.act) s.k)) refl ready below well.sent well.same.name applies next
    where
      some : 0 < s.k
      some = seated.some

      below : fnv1a (key_of op.act) % s.k < s.k
      below = omega (arith, some)
  treats-hold p x _ seated in_group living (Collects caller call) ready inside new applies next holding =
      collect-holds caller call p (range_with_len 0 s.k) holding
  treats-hold p x _ seated in_group living Flushes ready inside new applies next holding = holding
