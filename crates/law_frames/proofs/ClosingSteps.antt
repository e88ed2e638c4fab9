-- No step sends the word that sessions are closed but for those that were started.
use Rattle.std.proofs.Common.{◌≡◌, ℕ, suc, ◌+◌, ◌≤◌, ◌==◌, nat_le, Bool, true, false, not, List, [], ◌∷◌, length, map}
use Rattle.std.proofs.Common.{filter, find, flat_map, Option, Some, None, refl, arith}
use Rattle.std.specs.List.{list_any, range_with_len}
use Rattle.group_types.specs.Dimensions.{Dimensions, space_of}
use Rattle.group_types.specs.Hash.{home_of}
use Rattle.group_types.specs.Lists.{at}
use Rattle.group_types.specs.Names.{same_process}
use Rattle.group_types.specs.declared.process.ProcessId.{ProcessId}
use Rattle.group_types.specs.declared.process.ProcessId.TheVariants.{DataNode, ParityNode}
use Rattle.group_types.specs.Each.{Each}
use Rattle.group_types.proofs.Eaches.{each-append, each-all, each-map}
use Rattle.memc_table.specs.Act.{key_of}
use Rattle.memc_table.specs.Asked.{Asked}
use Rattle.group_message.specs.declared.message.Message.{Message}
use Rattle.group_message.specs.declared.message.Message.TheVariants as tells
use Rattle.group_message.specs.declared.message.Session.{Session}
use Rattle.group_message.specs.declared.update.Update.{Update}
use Rattle.group_calls.specs.Turns.{CallName}
use Rattle.group_calls.specs.declared.decision.Decision.{Decision}
use Rattle.group_calls.specs.declared.decision.Decision.TheVariants as decides
use Rattle.group_run.specs.Applying.{ProcessStep, Sent, and_then, apply_to, for_each, head_at, held_at, quiet}
use Rattle.group_run.specs.Applying.{replica_of, sending, when, with_head, with_replica}
use Rattle.group_run.specs.Asking.{Oldest, act_on, ask_head, collect_from, collect_held, found_at, handed_out, is_call}
use Rattle.group_run.specs.Asking.{issued, oldest_inherited, retry_block, ticketed, update_of}
use Rattle.group_run.specs.Deciding.{decide}
use Rattle.group_run.specs.Heading.{acknowledge, acknowledged, judge, judge_head, other_parities, partition, rank, tell_stable, tell_stables, to_others}
use Rattle.group_run.specs.Leaders.{close_sessions, copy_kept, copy_marked, leader_marks, left_of, lost_of, mark_comes}
use Rattle.group_run.specs.Leaders.{mark_taken, own_mark, row_finished, rows_of, session_of, session_opened}
use Rattle.group_run.specs.Leaders.{session_starts, start_session}
use Rattle.group_run.specs.Process.{Copy, Gathering, Head, Held, Process}
use Rattle.group_run.specs.Receiving.{ack_to, death_known, enthroned, log_adopted, notice_comes, read_comes, receive}
use Rattle.group_run.specs.Receiving.{take_over_if, taken_over, takes_over, update_taken}
use Rattle.group_run.specs.Replica.{with_update}
use Rattle.group_run.specs.Rows.{accepts_mark, begin_copy, copy_in, is_marked, marked, parity_number, with_copies, without_copy}
use Rattle.law_moves.proofs.Moves.{Asks, Collects, Flushes, Treats}

module _ (s : Dimensions) (n : ℕ) where
  -- the word is of sessions up to a number
  abbrev pub ClosesLow : Message → Type 0
  ClosesLow (tells.Cease upto) = upto ≤ n
  ClosesLow _ = Unit {0}

  abbrev pub Sends : ProcessStep → Type 0
  Sends t = Each (λ z. ClosesLow z.message) t.sent

  then-sends : (a : ProcessStep) (f : Process → ProcessStep) → Sends a → Sends (f a.process) → Sends (and_then a f)
  then-sends a f first next = each-append (λ z. ClosesLow z.message) a.sent (f a.process).sent first next

  each-sends : (xs : List ℕ) (f : ℕ → Process → ProcessStep) (p : Process) → ((x : ℕ) (q : Process) → Sends (f x q)) → Sends (for_each xs f p)
  each-sends [] f p all = tt
  each-sends (x ∷ xs) f p all = then-sends (f x p) (for_each xs f) (all x p) (each-sends xs f (f x p).process all)

  when-sends : (b : Bool) (p : Process) (step : ProcessStep) → Sends step → Sends (when b p step)
  when-sends true p step does = does
  when-sends false p step does = tt

  others-send : (p : Process) (m : Message) → ClosesLow m → Each (λ z. ClosesLow z.message) (to_others s p m)
  others-send p m low =
      each-map (λ z. ClosesLow z.message) (λ i. record { to = ParityNode i; message = m }) (other_parities s.m p.name p.known)
      (each-all (λ i. ClosesLow m) (λ i. low) (other_parities s.m p.name p.known))

  judge-sends : (d : ℕ) (p : Process) → Sends (judge s d p)
  judge-sends d p = by (head_at p d) where
    by : (o : Option Head) → Sends (judge_head s d p o)
    by None = tt
    by (Some h) = tt

  takes-sends : (d : ℕ) (p : Process) → Sends (take_over_if s d p)
  takes-sends d p = when-sends (takes_over p d p.name) p (taken_over s d p)
      (let q : Process = enthroned s (suc (parity_number p.name)) d p in
      then-sends (sending
      (to_others s p (tells.Adopt (rank (suc (parity_number p.name))) (partition d) (replica_of p d).applied
      (replica_of p d).log)) q) (judge s d) (others-send p _ tt) (judge-sends d q))

  finished-sends : (own : Bool) (c : Copy) (p : Process) → Sends (row_finished own s c p)
  finished-sends true c p = tt
  finished-sends false c p = (tt, tt)

  kept-sends : (whole : Bool) (c : Copy) (p : Process) → Sends (copy_kept whole s c p)
  kept-sends true c p = finished-sends (same_process p.name (ParityNode c.leader)) c (with_copies (without_copy c.leader c.number p.as_row.copies) p)
  kept-sends false c p = tt

  marked-sends : (d k : ℕ) (o : Option Copy) (p : Process) → Sends (copy_marked s d k o p)
  marked-sends d k None p = tt
  marked-sends d k (Some c) p = kept-sends (is_marked s (marked d k c)) (marked d k c) p

  mark-sends : (l number r block d k : ℕ) (p : Process) → Sends (mark_comes s l number r block d k p)
  mark-sends l number r block d k p =
      let q : Process = apply_to s d k (begin_copy s l number block p) in
      when-sends (accepts_mark p l number r d) p (mark_taken s l number block d k p) (marked-sends d k (copy_in q.as_row.copies l number) q)

  start-sends : (block : ℕ) (p : Process) → Sends (start_session s block p)
  start-sends block p =
      then-sends (sending (session_starts s l number block p) opened) (for_each (lost_of s p) (own_mark s l number block))
      (each-append (λ z. ClosesLow z.message) (map question (left_of s p)) (flat_map (leader_marks s l number block p) (lost_of s p))
      (each-map (λ z. ClosesLow z.message) question (left_of s p) (each-all (λ d. Unit {0}) (λ d. tt) (left_of s p))) (all_marks (lost_of s p)))
      (each-sends (lost_of s p) (own_mark s l number block) opened (λ e q. mark-sends l number (at 0 q.ranks e) block e (replica_of q e).applied q))
    where
      l : ℕ
      l = parity_number p.name

      number : ℕ
      number = suc p.as_leader.last_session

      opened : Process
      opened = session_opened s number block p

      question : ℕ → Sent
      question d = record { to = DataNode d; message = tells.ReadBlock (session_of l number) block (rows_of s p) }

      all_marks : (ls : List ℕ) → Each (λ z. ClosesLow z.message) (flat_map (leader_marks s l number block p) ls)
      all_marks [] = tt
      all_marks (e ∷ ls) = each-append (λ z. ClosesLow z.message) (leader_marks s l number block p e) (flat_map (leader_marks s l number block p) ls)
          (each-map (λ z. ClosesLow z.message)
          (λ i. record {
            to = ParityNode i;
            message = tells.Mark (session_of l number) (rank (at 0 p.ranks e)) block
                (partition e) (replica_of p e).applied;
          }) (filter (λ i. not (i == l)) (rows_of s p))
          (each-all (λ i. Unit {0}) (λ i. tt) (filter (λ i. not (i == l)) (rows_of s p)))) (all_marks ls)

  -- calls
  module _ (p : Process) where
    retry-sends : (block : ℕ) (o : Option Oldest) → Sends (retry_block s block o p).step
    retry-sends block (Some o) = tt
    retry-sends block None = when-sends (not (list_any (λ g. g.block == block) p.as_leader.sessions)) p (start_session s block p) (start-sends block p)

    ticketed-sends : (b : Bool) (d : ℕ) (u : Update) (step : ProcessStep) → Sends step → Sends (ticketed b d u step).step
    ticketed-sends true d u step does = does
    ticketed-sends false d u step does = does

    issued-sends : (d : ℕ) (h : Head) (u : Update) → Sends (issued s d h u p)
    issued-sends d h u =
        let now : Process = with_replica d (with_update u (replica_of p d)) p in
        then-sends (sending _ now) (judge s d) (others-send p _ tt) (judge-sends d now)

    act-sends : (call : CallName) (op : Asked) (d : ℕ) (h : Head) (decision : Decision) → Sends (act_on s call op d h p decision).step
    act-sends call op d h (decides.Answer r) = tt
    act-sends call op d h (decides.Retry k) = tt
    act-sends call op d h decides.NoSpace = tt
    act-sends call op d h (decides.NeedBlock b) = retry-sends b (oldest_inherited p (range_with_len 0 s.k))
    act-sends call op d h (decides.Issue body outcome) =
        let u : Update = update_of call op d body outcome p in
        ticketed-sends (nat_le u.number (replica_of (issued s d h u p).process d).applied) d u (issued s d h u p) (issued-sends d h u)

    ask-sends : (call : CallName) (op : Asked) (o : Option Head) → Sends (ask_head s call op (home_of (key_of op.act) s.k) p o).step
    ask-sends call op None = tt
    ask-sends call op (Some h) =
        act-sends call op (home_of (key_of op.act) s.k) h
        (decide (space_of s) h.inherited (replica_of p (home_of (key_of op.act) s.k)) op
        (found_at s (home_of (key_of op.act) s.k) p p.name))

    collect-sends : (caller call : ℕ) (ds : List ℕ) → Sends (collect_from caller call p ds).step
    collect-sends caller call [] = tt
    collect-sends caller call (d ∷ ds) = by (find (is_call caller call) (held_at p d)) (collect-sends caller call ds) where
      handed : (b : Bool) (h : Held) → Sends (handed_out b d h p).step
      handed true h = tt
      handed false h = tt

      by : (o : Option Held) → Sends (collect_from caller call p ds).step → Sends (collect_held d o p (collect_from caller call p ds)).step
      by None rest = rest
      by (Some h) rest = handed (nat_le h.number (replica_of p d).applied) h

    stables-send : (ds : List ℕ) → Each (λ z. ClosesLow z.message) (tell_stables s p ds)
    stables-send [] = tt
    stables-send (d ∷ ds) = each-append (λ z. ClosesLow z.message) (tell_stable s p d (head_at p d))
        (tell_stables s p ds) (by (head_at p d)) (stables-send ds) where
          by : (o : Option Head) → Each (λ z. ClosesLow z.message) (tell_stable s p d o)
          by None = tt
          by (Some h) = others-send p _ tt

    pub treats-sends : (t : ProcessStep) → Treats s p t → Sends t
    treats-sends _ (Asks call op bytes) = ask-sends call op (head_at p (home_of (key_of op.act) s.k))
    treats-sends _ (Collects caller call) = collect-sends caller call (range_with_len 0 s.k)
    treats-sends _ Flushes = stables-send (range_with_len 0 s.k)

  -- messages
  known-last : (dead : ProcessId) (p : Process) → (death_known dead p).as_leader.last_session ≡ p.as_leader.last_session
  known-last (DataNode e) p = refl
  known-last (ParityNode l) p = refl

  close-sends : (gs : List Gathering) (p : Process) → p.as_leader.last_session ≤ n → Sends (close_sessions s gs p)
  close-sends [] p low = tt
  close-sends (g ∷ gs) p low = others-send p _ low

  notice-sends : (dead : ProcessId) (p : Process) → p.as_leader.last_session ≤ n → Sends (notice_comes s dead p)
  notice-sends dead p low =
      let q : Process = death_known dead p in
      let same = known-last dead p in
      let closed : ProcessStep = close_sessions s q.as_leader.sessions q in
      let judged : ProcessStep = and_then closed (for_each (range_with_len 0 s.k) (judge s)) in
      then-sends judged (for_each (range_with_len 0 s.k) (take_over_if s))
      (then-sends closed (for_each (range_with_len 0 s.k) (judge s))
      (close-sends q.as_leader.sessions q (omega (arith, low, same)))
      (each-sends (range_with_len 0 s.k) (judge s) closed.process judge-sends))
      (each-sends (range_with_len 0 s.k) (take_over_if s) judged.process takes-sends)

  ack-sends : (i r d k : ℕ) (o : Option Head) (p : Process) → Sends (acknowledge s i r d k o p)
  ack-sends i r d k None p = tt
  ack-sends i r d k (Some h) p =
      let q : Process = with_head d (Some (acknowledged i k h)) p in
      when-sends (r == h.rank) p (judge s d q) (judge-sends d q)

  read-sends : (session : Session) (block : ℕ) (rows : List ℕ) (p : Process) (name : ProcessId) → Sends (read_comes s session block rows p name)
  read-sends session block rows p (ParityNode i) = tt
  read-sends session block rows p (DataNode e) = (
    tt,
    each-map (λ z. ClosesLow z.message)
        (λ i. record {
          to = ParityNode i;
          message = tells.Mark session (rank 0) block (partition e)
              (replica_of p e).applied;
        }) rows (each-all (λ i. Unit {0}) (λ i. tt) rows),
  )

  pub receive-sends : (x : ProcessId) (m : Message) (p : Process) → p.as_leader.last_session ≤ n → Sends (receive s x m p)
  receive-sends x (tells.Update r d u stable) p low = when-sends (nat_le (at 0 p.ranks d.0) r.0) p
      (ack_to x r.0 d.0 u.number (update_taken s d.0 u stable p)) (tt, tt)
  receive-sends (DataNode e) (tells.Ack r d k) p low = tt
  receive-sends (ParityNode i) (tells.Ack r d k) p low = ack-sends i r.0 d.0 k (head_at p d.0) p
  receive-sends x (tells.Stable r d k) p low = when-sends (nat_le (at 0 p.ranks d.0) r.0) p (quiet (apply_to s d.0 k p)) tt
  receive-sends x (tells.Adopt r d base list) p low = when-sends (nat_le (at 0 p.ranks d.0) r.0) p
      (ack_to x r.0 d.0 (base + length list) (log_adopted s r.0 d.0 base list p)) (tt, tt)
  receive-sends x (tells.ReadBlock session block rows) p low = read-sends session block rows p p.name
  receive-sends (DataNode e) (tells.Block session bytes k) p low = tt
  receive-sends (ParityNode i) (tells.Block session bytes k) p low = tt
  receive-sends x (tells.Mark session r block d k) p low = mark-sends (parity_number session.leader) session.number r.0 block d.0 k p
  receive-sends (DataNode e) (tells.Row session bytes stamp) p low = tt
  receive-sends (ParityNode i) (tells.Row session bytes stamp) p low = tt
  receive-sends (DataNode e) (tells.Cease upto) p low = tt
  receive-sends (ParityNode i) (tells.Cease upto) p low = tt
  receive-sends x (tells.Notice dead) p low = notice-sends dead p low
