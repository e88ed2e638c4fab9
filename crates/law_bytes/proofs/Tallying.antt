-- What a process makes of each message, and of each call: how a session's tokens change.
use Rattle.std.proofs.Common.{◌≡◌, ℕ, suc, ◌+◌, ◌<◌, ◌≤◌, ◌==◌, ◌&&◌, nat_le, Bool, true, false, not, List, [], ◌∷◌}
use Rattle.std.proofs.Common.{length, filter, find, Option, Some, None, ◌⊎◌, inl, inr, sym, ap, subst, ◌∙◌, refl, arith}
use Rattle.std.specs.List.{list_any, range_with_len}
use Rattle.group_types.specs.Dimensions.{Dimensions, space_of}
use Rattle.group_types.specs.Hash.{home_of}
use Rattle.group_types.specs.Lists.{at}
use Rattle.group_types.specs.Names.{IsProcess, same_process}
use Rattle.group_types.specs.declared.process.ProcessId.{ProcessId}
use Rattle.group_types.specs.declared.process.ProcessId.TheVariants.{DataNode, ParityNode}
use Rattle.group_types.specs.Each.{Each}
use Rattle.group_types.proofs.Eaches.{each-append}
use Rattle.membership.specs.Members.{knows_dead}
use Rattle.memc_table.specs.Act.{key_of}
use Rattle.memc_table.specs.Asked.{Asked}
use Rattle.group_message.specs.declared.message.Message.{Message}
use Rattle.group_message.specs.declared.message.Message.TheVariants as tells
use Rattle.group_message.specs.declared.update.Update.{Update}
use Rattle.group_calls.specs.Turns.{CallName}
use Rattle.group_calls.specs.declared.decision.Decision.{Decision}
use Rattle.group_calls.specs.declared.decision.Decision.TheVariants as decides
use Rattle.group_run.specs.Applying.{ProcessStep, and_then, apply_to, for_each, head_at, held_at, quiet, replica_of}
use Rattle.group_run.specs.Applying.{sending, when, with_head, with_held, with_replica}
use Rattle.group_run.specs.Asking.{Oldest, act_on, ask_head, collect_from, collect_held, found_at, handed_out, holding}
use Rattle.group_run.specs.Asking.{is_call, issued, oldest_inherited, retry_block, ticketed, update_of}
use Rattle.group_run.specs.Deciding.{decide}
use Rattle.group_run.specs.Heading.{acknowledge, acknowledged, judge, tell_stable, tell_stables, to_others}
use Rattle.group_run.specs.Leaders.{lost_of, mark_comes, open_session, own_mark, session_opened, session_starts, start_session}
use Rattle.group_run.specs.Process.{Head, Held, LeaderState, Process, RowState}
use Rattle.group_run.specs.Receiving.{ack_to, adopting, log_adopted, read_comes, receive, update_taken, with_rank}
use Rattle.group_run.specs.Replica.{with_update}
use Rattle.group_run.specs.Rows.{copy_in, parity_number}
use Rattle.law_moves.proofs.Moves.{Treats, Asks, Collects, Flushes}
use Rattle.law_moves.proofs.Members.{IsData, IsParity}
use Rattle.law_moves.proofs.Calls.{Owes, Seated, step-treats}
use Rattle.law_moves.proofs.Cores.{SentWell}
use Rattle.law_bytes.proofs.Unasked.{never-asks}
use Rattle.law_bytes.proofs.Tokens.{Token, block_way, is_kept_in, is_marked_in, is_token, marks_way, of_session, one_if, row_way}
use Rattle.law_bytes.proofs.Local.{Fact, Fewer, Gains, Silent, fewer-apply, fewer-at, fewer-ceased, fewer-self}
use Rattle.law_bytes.proofs.Local.{fewer-trans, gains-fewer, gains-from, gains-judge, gains-more, gains-notice}
use Rattle.law_bytes.proofs.Local.{gains-then, gains-when, silent-others}
use Rattle.law_bytes.proofs.Marks.{same_session, session-cases}
use Rattle.law_bytes.proofs.Starting.{block-gains, read-gains, start-last, start-new, start-other, started}
use Rattle.law_bytes.proofs.Taking.{mark-gains, row-gains}

-- which messages come to whom: questions of a parity process to data processes, and blocks and rows to their
-- sessions' leaders
abbrev pub ComesTo : ProcessId → Message → ProcessId → Type 0
ComesTo x (tells.ReadBlock session block rows) y = IsParity session.leader × IsData y
ComesTo x (tells.Block session bytes n) y = session.leader ≡ y
ComesTo x (tells.Row session bytes stamp) y = session.leader ≡ y
ComesTo x _ y = Unit {0}

module _ (s : Dimensions) (t : Token) (below : t.partition < s.k) where
  -- only a replica, a rank, a head or held calls change
  same-tokens : (p q : Process) → q.name ≡ p.name → q.as_row ≡ p.as_row → q.as_leader ≡ p.as_leader → Fewer t p q
  same-tokens p q name row leader = record {
    name = name;
    marked = λ is. subst (λ (r : RowState). is_marked_in t.partition (copy_in r.copies t.leader t.number) ≡ true) row is;
    kept = λ is. subst (λ (l : LeaderState). is_kept_in t.way t.partition (open_session l t.number) ≡ true) leader is;
    last = let same = ap (λ (l : LeaderState). l.last_session) leader in omega (arith, same);
  }

  acked-gains : (p : Process) (i r d n : ℕ) (o : Option Head) → Gains t p (acknowledge s i r d n o p) 0
  acked-gains p i r d n None = gains-fewer t p (quiet p) (fewer-self t p) tt
  acked-gains p i r d n (Some h) =
      let q : Process = with_head d (Some (acknowledged i n h)) p in
      gains-when t (r == h.rank) p (judge s d q) 0 (λ is. gains-from t p q (judge s d q) 0 (same-tokens p q refl refl refl) (gains-judge t s d q))

  -- what a message from x brings
  brings : ProcessId → Process → Message → ℕ
  brings x p m = one_if (is_token t x p.name m)

  from-none : (x : ProcessId) (p : Process) (m : Message) (step : ProcessStep) → Gains t p step 0 → Gains t p step (one_if (is_token t x p.name m))
  from-none x p m step gains = gains-more t p step 0 (one_if (is_token t x p.name m)) (omega arith) gains

  pub receive-gains : (x : ProcessId) (m : Message) (p : Process) → Fact m → ComesTo x m p.name → Gains t p (receive s x m p) (one_if (is_token t x p.name m))
  receive-gains x (tells.Update r d u stable) p fact comes =
      from-none x p (tells.Update r d u stable) _
      (gains-when t (nat_le (at 0 p.ranks d.0) r.0) p (ack_to x r.0 d.0 u.number (update_taken s d.0 u stable p)) 0
      (λ is.
      let q : Process = apply_to s d.0 stable p in
      gains-fewer t p (ack_to x r.0 d.0 u.number (update_taken s d.0 u stable p))
      (fewer-trans t p q (with_replica d.0 (with_update u (replica_of q d.0)) q) (fewer-apply t s d.0 stable p)
      (same-tokens q (with_replica d.0 (with_update u (replica_of q d.0)) q) refl refl refl)) (tt, tt)))
  receive-gains (DataNode e) (tells.Ack r d n) p fact comes = gains-fewer t p (quiet p) (fewer-self t p) tt
  receive-gains (ParityNode i) (tells.Ack r d n) p fact comes = acked-gains p i r.0 d.0 n (head_at p d.0)
  receive-gains x (tells.Stable r d n) p fact comes =
      from-none x p (tells.Stable r d n) _
      (gains-when t (nat_le (at 0 p.ranks d.0) r.0) p (quiet (apply_to s d.0 n p)) 0
      (λ is. gains-fewer t p (quiet (apply_to s d.0 n p)) (fewer-apply t s d.0 n p) tt))
  receive-gains x (tells.Adopt r d base list) p fact comes =
      from-none x p (tells.Adopt r d base list) _
      (gains-when t (nat_le (at 0 p.ranks d.0) r.0) p
      (ack_to x r.0 d.0 (base + length list) (log_adopted s r.0 d.0 base list p)) 0 (λ is.
      let ranked : Process = with_rank d.0 r.0 p in
      let q : Process = apply_to s d.0 base ranked in
      gains-fewer t p (ack_to x r.0 d.0 (base + length list) (log_adopted s r.0 d.0 base list p))
      (fewer-trans t p ranked _ (same-tokens p ranked refl refl refl)
      (fewer-trans t ranked q _ (fewer-apply t s d.0 base ranked)
      (same-tokens q (with_replica d.0 (adopting base list (replica_of q d.0)) q) refl refl refl))) (tt, tt)))
  receive-gains x (tells.ReadBlock session block rows) p fact comes = by p.name refl comes.1 where
    by : (y : ProcessId) → p.name ≡ y → IsData y → Gains t p (read_comes s session block rows p y)
        (one_if (of_session t session && same_process y (DataNode t.partition)))
    by (DataNode e) is data_here = read-gains s t session block rows p e is comes.0 fact
    by (ParityNode i) is data_here = elim data_here [ ]
  receive-gains (DataNode e) (tells.Block session bytes n) p fact comes = by session.leader refl where
    by : (y : ProcessId) → session.leader ≡ y → Gains t p (receive s (DataNode e) (tells.Block session bytes n) p)
        (one_if (of_session t session && block_way t.way t.partition (DataNode e)))
    by (ParityNode l) is =
        subst
        (λ (z : ProcessId). Gains t p (receive s (DataNode e) (tells.Block session bytes n) p)
        (one_if ((same_process z (ParityNode t.leader) && session.number == t.number) && block_way t.way t.partition
        (DataNode e))))
        (sym is)
        (block-gains s t l session.number e bytes p (sym comes ∙ is))
    by (DataNode d) is = absurd (subst IsParity is fact)
  receive-gains (ParityNode i) (tells.Block session bytes n) p fact comes =
      from-none (ParityNode i) p (tells.Block session bytes n) (quiet p) (gains-fewer t p (quiet p) (fewer-self t p) tt)
  receive-gains x (tells.Mark session r block d n) p fact comes = by session.leader refl where
    by : (y : ProcessId) → session.leader ≡ y → Gains t p (receive s x (tells.Mark session r block d n) p)
        (one_if (is_token t x p.name (tells.Mark session r block d n)))
    by (ParityNode l) is =
        subst (λ (z : ProcessId). Gains t p (mark_comes s (parity_number z) session.number r.0 block d.0 n p)
        (one_if ((same_process z (ParityNode t.leader) && session.number == t.number) && marks_way t.way t.partition
        d.0 p.name))) (sym is)
        (mark-gains s t l session.number r.0 block d.0 n p below)
    by (DataNode e) is = absurd (subst IsParity is fact)
  receive-gains (DataNode e) (tells.Row session bytes stamp) p fact comes =
      from-none (DataNode e) p (tells.Row session bytes stamp) (quiet p) (gains-fewer t p (quiet p) (fewer-self t p) tt)
  receive-gains (ParityNode i) (tells.Row session bytes stamp) p fact comes = by session.leader refl where
    by : (y : ProcessId) → session.leader ≡ y → Gains t p (receive s (ParityNode i) (tells.Row session bytes stamp) p)
        (one_if (of_session t session && row_way t.way (ParityNode i)))
    by (ParityNode l) is =
        subst
        (λ (z : ProcessId). Gains t p (receive s (ParityNode i) (tells.Row session bytes stamp) p)
        (one_if ((same_process z (ParityNode t.leader) && session.number == t.number) && row_way t.way
        (ParityNode i))))
        (sym is)
        (row-gains s t l session.number i bytes p (sym comes ∙ is))
    by (DataNode d) is = absurd (subst IsParity is fact)
  receive-gains (DataNode e) (tells.Cease upto) p fact comes = gains-fewer t p (quiet p) (fewer-self t p) tt
  receive-gains (ParityNode i) (tells.Cease upto) p fact comes = gains-fewer t p (quiet _) (fewer-ceased t s i upto p) tt
  receive-gains x (tells.Notice dead) p fact comes = from-none x p (tells.Notice dead) _ (gains-notice t s dead p)

  -- a step that opens the token's session
  pub record OpensIt (p : Process) (step : ProcessStep) : Type 0 where
    pub leader : p.name ≡ ParityNode t.leader
    pub number : t.number ≡ suc p.as_leader.last_session
    pub last : suc p.as_leader.last_session ≤ step.process.as_leader.last_session
    pub gains : Gains t p step 1

  -- what calls may do
  abbrev pub Claims : Process → ProcessStep → Type 0
  Claims p step = Gains t p step 0 ⊎ OpensIt p step

  start-claims : (block l : ℕ) (p : Process) (name : p.name ≡ ParityNode l) → Claims p (start_session s block p)
  start-claims block l p name =
      subst
      (λ (z : ℕ). Claims p
      (and_then (sending (session_starts s z (suc p.as_leader.last_session) block p)
      (session_opened s (suc p.as_leader.last_session) block p))
      (for_each (lost_of s p) (own_mark s z (suc p.as_leader.last_session) block))))
      (sym (ap parity_number name)) (by (session-cases t l (suc p.as_leader.last_session))) where
        by : ((l ≡ t.leader) × (suc p.as_leader.last_session ≡ t.number))
            ⊎ (same_session t l (suc p.as_leader.last_session) ≡ false) → Claims p (started s t block l p name)
        by (inl same) =
            inr (record {
              leader = name ∙ ap ParityNode same.0;
              number = sym same.1;
              last = start-last s t block l p name below;
              gains = start-new s t block l p name below;
            })
        by (inr other) = inl (start-other s t block l p name other below)

  module _ (p : Process) (x : ProcessId) (name : p.name ≡ x) (inside : IsProcess s x) (living : knows_dead p.known x ≡ false) where
    session-claims : (block : ℕ) → SentWell Owes s.k (start_session s block p).process (start_session s block p).sent
        → (start_session s block p).process.name ≡ p.name → Claims p (start_session s block p)
    session-claims block well same = by x name inside living where
      by : (y : ProcessId) → p.name ≡ y → IsProcess s y → knows_dead p.known y ≡ false → Claims p (start_session s block p)
      by (ParityNode l) is within lives = start-claims block l p is
      by (DataNode e) is within lives = absurd (never-asks s e block p is within lives well same)

    retry-claims : (block : ℕ) (o : Option Oldest) → SentWell Owes s.k (retry_block s block o p).step.process (retry_block s block o p).step.sent
        → (retry_block s block o p).step.process.name ≡ p.name → Claims p (retry_block s block o p).step
    retry-claims block (Some o) well same = inl (gains-fewer t p (quiet p) (fewer-self t p) tt)
    retry-claims block None well same = by (not (list_any (λ g. g.block == block) p.as_leader.sessions)) well same where
      by : (b : Bool) → SentWell Owes s.k (when b p (start_session s block p)).process (when b p (start_session s block p)).sent
          → (when b p (start_session s block p)).process.name ≡ p.name → Claims p (when b p (start_session s block p))
      by true sent is = session-claims block sent is
      by false sent is = inl (gains-fewer t p (quiet p) (fewer-self t p) tt)

    issued-gains : (d : ℕ) (h : Head) (u : Update) → Gains t p (issued s d h u p) 0
    issued-gains d h u =
        let told : Process = with_replica d (with_update u (replica_of p d)) p in
        gains-then t p (sending (to_others s p _) told) (judge s d) 0 0
        (gains-fewer t p (sending (to_others s p _) told) (same-tokens p told refl refl refl) (silent-others t s p _ tt)) (gains-judge t s d told)

    ticketed-gains : (b : Bool) (d : ℕ) (u : Update) (step : ProcessStep) → Gains t p step 0 → Gains t p (ticketed b d u step).step 0
    ticketed-gains true d u step gains = gains
    ticketed-gains false d u step gains = record {
      name = gains.name;
      last = gains.last;
      weighs = let a = gains.weighs in let b = fewer-at t step.process (holding d u step.process)
          (same-tokens step.process (holding d u step.process) refl refl refl) in omega (arith, a, b);
      facts = gains.facts;
    }

    act-claims : (call : CallName) (op : Asked) (d : ℕ) (h : Head) (decision : Decision)
        → SentWell Owes s.k (act_on s call op d h p decision).step.process (act_on s call op d h p decision).step.sent
        → (act_on s call op d h p decision).step.process.name ≡ p.name → Claims p (act_on s call op d h p decision).step
    act-claims call op d h (decides.Answer r) well same = inl (gains-fewer t p (quiet p) (fewer-self t p) tt)
    act-claims call op d h (decides.Retry n) well same = inl (gains-fewer t p (quiet p) (fewer-self t p) tt)
    act-claims call op d h decides.NoSpace well same = inl (gains-fewer t p (quiet p) (fewer-self t p) tt)
    act-claims call op d h (decides.NeedBlock b) well same = retry-claims b (oldest_inherited p (range_with_len 0 s.k)) well same
    act-claims call op d h (decides.Issue body outcome) well same =
        let u : Update = update_of call op d body outcome p in
        inl (ticketed-gains (nat_le u.number (replica_of (issued s d h u p).process d).applied) d u (issued s d h u p) (issued-gains d h u))

    ask-claims : (call : CallName) (op : Asked) (d : ℕ) (o : Option Head)
        → SentWell Owes s.k (ask_head s call op d p o).step.process (ask_head s call op d p o).step.sent
        → (ask_head s call op d p o).step.process.name ≡ p.name → Claims p (ask_head s call op d p o).step
    ask-claims call op d None well same = inl (gains-fewer t p (quiet p) (fewer-self t p) tt)
    ask-claims call op d (Some h) well same = act-claims call op d h (decide (space_of s) h.inherited (replica_of p d) op (found_at s d p p.name)) well same

    handed-gains : (b : Bool) (d : ℕ) (h : Held) → Gains t p (handed_out b d h p).step 0
    handed-gains true d h =
        gains-fewer t p (quiet _)
        (same-tokens p (with_held d (filter (λ y. not (is_call h.caller h.call y)) (held_at p d)) p) refl refl refl) tt
    handed-gains false d h = gains-fewer t p (quiet p) (fewer-self t p) tt

    collect-gains : (caller call : ℕ) (ds : List ℕ) → Gains t p (collect_from caller call p ds).step 0
    collect-gains caller call [] = gains-fewer t p (quiet p) (fewer-self t p) tt
    collect-gains caller call (d ∷ ds) = by (find (is_call caller call) (held_at p d)) (collect-gains caller call ds) where
      by : (o : Option Held) → Gains t p (collect_from caller call p ds).step 0 → Gains t p (collect_held d o p (collect_from caller call p ds)).step 0
      by None rest = rest
      by (Some h) rest = handed-gains (nat_le h.number (replica_of p d).applied) d h

    stables-silent : (ds : List ℕ) → Each (λ z. Silent z.message) (tell_stables s p ds)
    stables-silent [] = tt
    stables-silent (d ∷ ds) = each-append (λ z. Silent z.message) (tell_stable s p d (head_at p d))
        (tell_stables s p ds) (by (head_at p d)) (stables-silent ds) where
          by : (o : Option Head) → Each (λ z. Silent z.message) (tell_stable s p d o)
          by None = tt
          by (Some h) = silent-others t s p _ tt

    pub treats-claims : (step : ProcessStep) → Treats s p step → Seated s p x → Claims p step
    treats-claims _ (Asks call op bytes) seated =
        let well = step-treats s p x _ seated (Asks call op bytes) in
        ask-claims call op (home_of (key_of op.act) s.k) (head_at p (home_of (key_of op.act) s.k)) well.sent well.same.name
    treats-claims _ (Collects caller call) seated = inl (collect-gains caller call (range_with_len 0 s.k))
    treats-claims _ Flushes seated =
        inl (gains-fewer t p (sending (tell_stables s p (range_with_len 0 s.k)) p) (fewer-self t p)
        (stables-silent (range_with_len 0 s.k)))
