-- Every step of a process keeps its sessions numbered, and sends only sound rows.
use Rattle.std.proofs.Common.{◌≡◌, ℕ, suc, ◌+◌, ◌<◌, ◌≤◌, ◌==◌, nat_le, Bool, true, false, not, List, [], ◌∷◌, length}
use Rattle.std.proofs.Common.{map, filter, find, flat_map, is_some, Option, Some, None, sym, ap, subst, ◌∙◌, refl}
use Rattle.std.proofs.Common.{unwrap_or, arith}
use Rattle.std.proofs.lemmas.List.FromFn.{length-map-range_with_len}
use Rattle.std.specs.List.{list_any, range_with_len}
use Rattle.group_types.specs.Dimensions.{Dimensions, space_of}
use Rattle.group_types.specs.Hash.{home_of}
use Rattle.group_types.specs.Lists.{at, put}
use Rattle.group_types.specs.Names.{same_process}
use Rattle.group_types.specs.declared.process.ProcessId.{ProcessId}
use Rattle.group_types.specs.declared.process.ProcessId.TheVariants.{DataNode, ParityNode}
use Rattle.group_types.proofs.Names.{same-refl}
use Rattle.group_types.specs.Each.{Each}
use Rattle.group_types.proofs.Eaches.{each-append, each-weaker, each-all, each-map, each-filter}
use Rattle.membership.specs.Members.{with_dead}
use Rattle.memc_table.specs.Act.{key_of}
use Rattle.memc_table.specs.Asked.{Asked}
use Rattle.group_message.specs.declared.message.Message.{Message}
use Rattle.group_message.specs.declared.message.Message.TheVariants as tells
use Rattle.group_message.specs.declared.message.Session.{Session}
use Rattle.group_message.specs.declared.update.Update.{Update}
use Rattle.group_calls.specs.Turns.{CallName}
use Rattle.group_calls.specs.declared.decision.Decision.{Decision}
use Rattle.group_calls.specs.declared.decision.Decision.TheVariants as decides
use Rattle.group_run.specs.Applying.{ProcessStep, Sent, and_then, apply_to, for_each, head_at, held_at, quiet}
use Rattle.group_run.specs.Applying.{replica_of, sending, when, with_head, with_replica}
use Rattle.group_run.specs.Asking.{Oldest, act_on, ask_head, collect_from, collect_held, found_at, handed_out, is_call}
use Rattle.group_run.specs.Asking.{issued, oldest_inherited, retry_block, ticketed, update_of}
use Rattle.group_run.specs.Deciding.{decide}
use Rattle.group_run.specs.Heading.{acknowledge, acknowledged, judge, judge_head, other_parities, partition, rank, tell_stable, tell_stables, to_others}
use Rattle.group_run.specs.Leaders.{block_comes, block_gathered, close_sessions, copy_kept, copy_marked, gathered_when}
use Rattle.group_run.specs.Leaders.{is_complete, leader_marks, left_of, lost_of, mark_comes, mark_taken, new_session}
use Rattle.group_run.specs.Leaders.{open_session, own_mark, row_comes, row_finished, row_gathered, rows_of, session_of}
use Rattle.group_run.specs.Leaders.{session_opened, session_starts, start_session, without_session}
use Rattle.group_run.specs.Process.{Copy, Gathering, Head, Held, LeaderState, Process}
use Rattle.group_run.specs.Receiving.{ack_to, death_known, enthroned, log_adopted, notice_comes, read_comes, receive}
use Rattle.group_run.specs.Receiving.{take_over_if, taken_over, takes_over, update_taken}
use Rattle.group_run.specs.Replica.{with_update}
use Rattle.group_run.specs.Rows.{accepts_mark, begin_copy, copy_begun, copy_in, is_marked, leader_forgotten, marked, parity_number, with_copies, without_copy}
use Rattle.law_moves.proofs.Moves.{Asks, Collects, Flushes, Treats}
use Rattle.law_bytes.specs.Decoding.{Rising}
use Rattle.law_bytes.proofs.Marking.{begun-same}
use Rattle.law_bytes.proofs.Marks.{decoded-same}
use Rattle.law_headline.proofs.Rows.{Numbered, RowSound, numbers_of}
use Rattle.law_headline.proofs.Numbers.{each-numbers, fewer-rise, numbers-each, rise-behind, same-numbers}

module _ (s : Dimensions) where
  -- what process x sends is sound
  abbrev pub AllSound : ProcessId → List Sent → Type 0
  AllSound x sent = Each (λ z. RowSound s x z.to z.message) sent

  -- a step after which the sessions are numbered, and which sends only sound rows
  pub record Does (p : Process) (t : ProcessStep) : Type 0 where
    pub name : t.process.name ≡ p.name
    pub sessions : Numbered t.process.as_leader
    pub sent : AllSound p.name t.sent

  -- a leader with the same sessions and the same last number
  same-numbered : (a b : LeaderState) → b.sessions ≡ a.sessions → b.last_session ≡ a.last_session → Numbered a → Numbered b
  same-numbered a b sessions last fine = record {
    rises = subst (λ (gs : List Gathering). Rising (numbers_of gs)) (sym sessions) fine.rises;
    below = subst (λ (n : ℕ). Each (λ g. g.number ≤ n) b.sessions) (sym last) (subst (Each (λ g. g.number ≤ a.last_session)) (sym sessions) fine.below);
  }

  named-sound : (x y : ProcessId) (sent : List Sent) → x ≡ y → AllSound x sent → AllSound y sent
  named-sound x y sent same all = subst (λ (z : ProcessId). AllSound z sent) same all

  -- a step of the process, told of another of its name
  named : (p q : Process) (t : ProcessStep) → q.name ≡ p.name → Does q t → Does p t
  named p q t same does = record { name = does.name ∙ same; sessions = does.sessions; sent = named-sound q.name p.name t.sent same does.sent }

  self-does : (p : Process) → Numbered p.as_leader → Does p (quiet p)
  self-does p fine = record { name = refl; sessions = fine; sent = tt }

  then-does : (p : Process) (a : ProcessStep) (f : Process → ProcessStep) → Does p a → Does a.process (f a.process) → Does p (and_then a f)
  then-does p a f first next = record {
    name = next.name ∙ first.name;
    sessions = next.sessions;
    sent = each-append (λ z. RowSound s p.name z.to z.message) a.sent (f a.process).sent first.sent
        (named-sound a.process.name p.name (f a.process).sent first.name next.sent);
  }

  each-does : (xs : List ℕ) (f : ℕ → Process → ProcessStep) (p : Process)
      → ((x : ℕ) (q : Process) → Numbered q.as_leader → Does q (f x q)) → Numbered p.as_leader
      → Does p (for_each xs f p)
  each-does [] f p all fine = self-does p fine
  each-does (x ∷ xs) f p all fine = let first = all x p fine in then-does p (f x p) (for_each xs f) first (each-does xs f (f x p).process all first.sessions)

  when-does : (b : Bool) (p : Process) (step : ProcessStep) → Numbered p.as_leader → Does p step → Does p (when b p step)
  when-does true p step fine does = does
  when-does false p step fine does = self-does p fine

  -- a message to all others, of a kind that isn't a row
  others-sound : (p : Process) (x : ProcessId) (m : Message) → ((to : ProcessId) → RowSound s x to m) → AllSound x (to_others s p m)
  others-sound p x m sound = each-map (λ z. RowSound s x z.to z.message) (λ i. record { to = ParityNode i; message = m }) (other_parities s.m p.name p.known)
      (each-all (λ i. RowSound s x (ParityNode i) m) (λ i. sound (ParityNode i)) (other_parities s.m p.name p.known))

  -- what is applied leaves the sessions
  apply-fine : (d n : ℕ) (p : Process) → Numbered p.as_leader → Numbered (apply_to s d n p).as_leader
  apply-fine d n p fine = record { rises = fine.rises; below = fine.below }

  judge-does : (d : ℕ) (p : Process) → Numbered p.as_leader → Does p (judge s d p)
  judge-does d p fine = by (head_at p d) where
    by : (o : Option Head) → Does p (judge_head s d p o)
    by None = self-does p fine
    by (Some h) = record { name = refl; sessions = apply-fine d _ p fine; sent = tt }

  takes-does : (d : ℕ) (p : Process) → Numbered p.as_leader → Does p (take_over_if s d p)
  takes-does d p fine = when-does (takes_over p d p.name) p (taken_over s d p) fine
      (let q : Process = enthroned s (suc (parity_number p.name)) d p in
      then-does p (sending _ q) (judge s d) (record { name = refl; sessions = fine; sent = others-sound p p.name _ (λ to. tt) }) (judge-does d q fine))

  -- what comes in leaves the numbers of the other sessions
  gathered-fine : (complete : Bool) (g : Gathering) (state : LeaderState) → Numbered state → Numbered (gathered_when complete s g state)
  gathered-fine true g state fine =
      same-numbered (record state { sessions = without_session g.number state.sessions }) _
      (decoded-same s g g.lost (record state { sessions = without_session g.number state.sessions })).0
      (decoded-same s g g.lost (record state { sessions = without_session g.number state.sessions })).1
      (record {
        rises = fewer-rise (λ x. not (x.number == g.number)) state.sessions fine.rises;
        below = each-filter (λ x. x.number ≤ state.last_session) (λ x. not (x.number == g.number)) state.sessions
            fine.below;
      })
  gathered-fine false g state fine = record {
    rises = subst Rising (sym (same-numbers g state.sessions)) fine.rises;
    below =
        numbers-each (λ n. n ≤ state.last_session) _
        (subst (Each (λ n. n ≤ state.last_session)) (sym (same-numbers g state.sessions))
        (each-numbers (λ n. n ≤ state.last_session) state.sessions fine.below));
  }

  row-fine : (i number : ℕ) (bytes : List ℕ) (p : Process) → Numbered p.as_leader → Numbered (row_comes s number i bytes p).as_leader
  row-fine i number bytes p fine = by (open_session p.as_leader number) where
    by : (o : Option Gathering) → Numbered (row_gathered s i bytes o p.as_leader)
    by None = fine
    by (Some g) = gathered-fine (is_complete s (record g { rows_in = put None g.rows_in i (Some bytes) }))
        (record g { rows_in = put None g.rows_in i (Some bytes) }) p.as_leader fine

  block-fine : (e number : ℕ) (bytes : List ℕ) (p : Process) → Numbered p.as_leader → Numbered (block_comes s number e bytes p).as_leader
  block-fine e number bytes p fine = by (open_session p.as_leader number) where
    by : (o : Option Gathering) → Numbered (block_gathered s e bytes o p.as_leader)
    by None = fine
    by (Some g) = gathered-fine (is_complete s (record g { blocks_in = put None g.blocks_in e (Some bytes) }))
        (record g { blocks_in = put None g.blocks_in e (Some bytes) }) p.as_leader fine

  -- a finished copy: another process's goes out as a row
  finished-does : (own : Bool) (c : Copy) (p : Process) → same_process p.name (ParityNode c.leader) ≡ own
      → Numbered p.as_leader → Does p (row_finished own s c p)
  finished-does true c p is fine = record { name = refl; sessions = row-fine c.leader c.number c.bytes p fine; sent = tt }
  finished-does false c p is fine = record {
    name = refl;
    sessions = fine;
    sent = (
      (
        length-map-range_with_len (λ d. unwrap_or (at None c.marks d) 0) 0 s.k,
        λ (same : p.name ≡ ParityNode c.leader). cc (is, same-refl p.name, ap (same_process p.name) same),
      ),
      tt,
    );
  }

  kept-does : (whole : Bool) (c : Copy) (p : Process) → Numbered p.as_leader → Does p (copy_kept whole s c p)
  kept-does true c p fine =
      let q : Process = with_copies (without_copy c.leader c.number p.as_row.copies) p in
      named p q (row_finished (same_process p.name (ParityNode c.leader)) s c q) refl (finished-does (same_process p.name (ParityNode c.leader)) c q refl fine)
  kept-does false c p fine = record { name = refl; sessions = fine; sent = tt }

  marked-does : (d n : ℕ) (o : Option Copy) (p : Process) → Numbered p.as_leader → Does p (copy_marked s d n o p)
  marked-does d n None p fine = self-does p fine
  marked-does d n (Some c) p fine = kept-does (is_marked s (marked d n c)) (marked d n c) p fine

  begun-fine : (b : Bool) (l number block : ℕ) (p : Process) → Numbered p.as_leader → Numbered (copy_begun b s l number block p).as_leader
  begun-fine true l number block p fine = fine
  begun-fine false l number block p fine = fine

  mark-does : (l number r block d n : ℕ) (p : Process) → Numbered p.as_leader → Does p (mark_comes s l number r block d n p)
  mark-does l number r block d n p fine =
      let q : Process = apply_to s d n (begin_copy s l number block p) in
      when-does (accepts_mark p l number r d) p (mark_taken s l number block d n p) fine
      (named p q (copy_marked s d n (copy_in q.as_row.copies l number) q) (begun-same s (is_some (copy_in p.as_row.copies l number)) l number block p).1
      (marked-does d n (copy_in q.as_row.copies l number) q
      (apply-fine d n (begin_copy s l number block p)
      (begun-fine (is_some (copy_in p.as_row.copies l number)) l number block p fine))))

  -- a leader opens a session
  start-does : (block : ℕ) (p : Process) → Numbered p.as_leader → Does p (start_session s block p)
  start-does block p fine =
      then-does p (sending (session_starts s l number block p) opened) (for_each (lost_of s p) (own_mark s l number block))
      (record {
        name = refl;
        sessions = open_fine;
        sent = each-append (λ z. RowSound s p.name z.to z.message) (map question (left_of s p)) (flat_map (leader_marks s l number block p) (lost_of s p))
            (each-map (λ z. RowSound s p.name z.to z.message) question (left_of s p) (each-all (λ d. Unit {0}) (λ d. tt) (left_of s p)))
            (all_marks (lost_of s p));
      })
      (each-does (lost_of s p) (own_mark s l number block) opened (λ e q. mark-does l number (at 0 q.ranks e) block e (replica_of q e).applied q) open_fine)
    where
      l : ℕ
      l = parity_number p.name

      number : ℕ
      number = suc p.as_leader.last_session

      opened : Process
      opened = session_opened s number block p

      open_fine : Numbered opened.as_leader
      open_fine = record {
        rises =
            rise-behind p.as_leader.sessions (new_session s number block p) fine.rises
            (each-weaker (λ g. g.number ≤ p.as_leader.last_session) (λ g. g.number < number) (λ g low. omega (arith, low)) p.as_leader.sessions fine.below);
        below = each-append (λ g. g.number ≤ number) p.as_leader.sessions (new_session s number block p ∷ [])
            (each-weaker (λ g. g.number ≤ p.as_leader.last_session) (λ g. g.number ≤ number)
            (λ g low. omega (arith, low)) p.as_leader.sessions fine.below) (omega arith, tt);
      }

      question : ℕ → Sent
      question d = record { to = DataNode d; message = tells.ReadBlock (session_of l number) block (rows_of s p) }

      all_marks : (ls : List ℕ) → AllSound p.name (flat_map (leader_marks s l number block p) ls)
      all_marks [] = tt
      all_marks (e ∷ ls) = each-append (λ z. RowSound s p.name z.to z.message) (leader_marks s l number block p e)
          (flat_map (leader_marks s l number block p) ls)
          (each-map (λ z. RowSound s p.name z.to z.message)
          (λ i. record {
            to = ParityNode i;
            message = tells.Mark (session_of l number) (rank (at 0 p.ranks e)) block
                (partition e) (replica_of p e).applied;
          }) (filter (λ i. not (i == l)) (rows_of s p))
          (each-all (λ i. Unit {0}) (λ i. tt) (filter (λ i. not (i == l)) (rows_of s p)))) (all_marks ls)

  -- calls
  module _ (p : Process) (fine : Numbered p.as_leader) where
    retry-does : (block : ℕ) (o : Option Oldest) → Does p (retry_block s block o p).step
    retry-does block (Some o) = self-does p fine
    retry-does block None = when-does (not (list_any (λ g. g.block == block) p.as_leader.sessions)) p (start_session s block p) fine (start-does block p fine)

    ticketed-does : (b : Bool) (d : ℕ) (u : Update) (step : ProcessStep) → Does p step → Does p (ticketed b d u step).step
    ticketed-does true d u step does = does
    ticketed-does false d u step does = record { name = does.name; sessions = does.sessions; sent = does.sent }

    issued-does : (d : ℕ) (h : Head) (u : Update) → Does p (issued s d h u p)
    issued-does d h u =
        let told : Process = with_replica d (with_update u (replica_of p d)) p in
        then-does p (sending _ told) (judge s d) (record { name = refl; sessions = fine; sent = others-sound p p.name _ (λ to. tt) }) (judge-does d told fine)

    act-does : (call : CallName) (op : Asked) (d : ℕ) (h : Head) (decision : Decision) → Does p (act_on s call op d h p decision).step
    act-does call op d h (decides.Answer r) = self-does p fine
    act-does call op d h (decides.Retry n) = self-does p fine
    act-does call op d h decides.NoSpace = self-does p fine
    act-does call op d h (decides.NeedBlock b) = retry-does b (oldest_inherited p (range_with_len 0 s.k))
    act-does call op d h (decides.Issue body outcome) =
        let u : Update = update_of call op d body outcome p in
        ticketed-does (nat_le u.number (replica_of (issued s d h u p).process d).applied) d u (issued s d h u p) (issued-does d h u)

    ask-does : (call : CallName) (op : Asked) (o : Option Head) → Does p (ask_head s call op (home_of (key_of op.act) s.k) p o).step
    ask-does call op None = self-does p fine
    ask-does call op (Some h) =
        act-does call op (home_of (key_of op.act) s.k) h
        (decide (space_of s) h.inherited (replica_of p (home_of (key_of op.act) s.k)) op
        (found_at s (home_of (key_of op.act) s.k) p p.name))

    collect-does : (caller call : ℕ) (ds : List ℕ) → Does p (collect_from caller call p ds).step
    collect-does caller call [] = self-does p fine
    collect-does caller call (d ∷ ds) = by (find (is_call caller call) (held_at p d)) (collect-does caller call ds) where
      handed : (b : Bool) (h : Held) → Does p (handed_out b d h p).step
      handed true h = record { name = refl; sessions = fine; sent = tt }
      handed false h = self-does p fine

      by : (o : Option Held) → Does p (collect_from caller call p ds).step → Does p (collect_held d o p (collect_from caller call p ds)).step
      by None rest = rest
      by (Some h) rest = handed (nat_le h.number (replica_of p d).applied) h

    stables-sound : (ds : List ℕ) → AllSound p.name (tell_stables s p ds)
    stables-sound [] = tt
    stables-sound (d ∷ ds) = each-append (λ z. RowSound s p.name z.to z.message) (tell_stable s p d (head_at p d))
        (tell_stables s p ds) (by (head_at p d)) (stables-sound ds) where
          by : (o : Option Head) → AllSound p.name (tell_stable s p d o)
          by None = tt
          by (Some h) = others-sound p p.name _ (λ to. tt)

    pub treats-does : (t : ProcessStep) → Treats s p t → Does p t
    treats-does _ (Asks call op bytes) = ask-does call op (head_at p (home_of (key_of op.act) s.k))
    treats-does _ (Collects caller call) = collect-does caller call (range_with_len 0 s.k)
    treats-does _ Flushes = record { name = refl; sessions = fine; sent = stables-sound (range_with_len 0 s.k) }

  -- a notice
  forgotten-name : (dead : ProcessId) (p : Process) → (leader_forgotten dead p).name ≡ p.name
  forgotten-name (DataNode e) p = refl
  forgotten-name (ParityNode l) p = refl

  forgotten-fine : (dead : ProcessId) (p : Process) → Numbered p.as_leader → Numbered (leader_forgotten dead p).as_leader
  forgotten-fine (DataNode e) p fine = fine
  forgotten-fine (ParityNode l) p fine = fine

  close-does : (gs : List Gathering) (p : Process) → Numbered p.as_leader → Does p (close_sessions s gs p)
  close-does [] p fine = self-does p fine
  close-does (g ∷ gs) p fine = record { name = refl; sessions = record { rises = tt; below = tt }; sent = others-sound p p.name _ (λ to. tt) }

  notice-does : (dead : ProcessId) (p : Process) → Numbered p.as_leader → Does p (notice_comes s dead p)
  notice-does dead p fine =
      let q : Process = death_known dead p in
      let closed : ProcessStep = close_sessions s q.as_leader.sessions q in
      let judged : ProcessStep = and_then closed (for_each (range_with_len 0 s.k) (judge s)) in
      let closes : Does q closed = close-does q.as_leader.sessions q (forgotten-fine dead (record p { known = with_dead p.known dead }) fine) in
      let judges : Does q judged = then-does q closed (for_each (range_with_len 0 s.k) (judge s)) closes
      (each-does (range_with_len 0 s.k) (judge s) closed.process judge-does closes.sessions) in
      let all : Does q (notice_comes s dead p) = then-does q judged (for_each (range_with_len 0 s.k) (take_over_if s)) judges
      (each-does (range_with_len 0 s.k) (take_over_if s) judged.process takes-does judges.sessions) in
      named p q (notice_comes s dead p) (forgotten-name dead (record p { known = with_dead p.known dead })) all

  -- an acknowledgement
  ack-does : (i r d n : ℕ) (o : Option Head) (p : Process) → Numbered p.as_leader → Does p (acknowledge s i r d n o p)
  ack-does i r d n None p fine = self-does p fine
  ack-does i r d n (Some h) p fine =
      let q : Process = with_head d (Some (acknowledged i n h)) p in
      when-does (r == h.rank) p (judge s d q) fine (named p q (judge s d q) refl (judge-does d q fine))

  -- a question
  read-does : (session : Session) (block : ℕ) (rows : List ℕ) (p : Process) (name : ProcessId) → Numbered p.as_leader
      → Does p (read_comes s session block rows p name)
  read-does session block rows p (ParityNode i) fine = self-does p fine
  read-does session block rows p (DataNode e) fine = record {
    name = refl;
    sessions = fine;
    sent = (
      tt,
      each-map (λ z. RowSound s p.name z.to z.message)
          (λ i. record {
            to = ParityNode i;
            message = tells.Mark session (rank 0) block (partition e)
                (replica_of p e).applied;
          }) rows
          (each-all (λ i. Unit {0}) (λ i. tt) rows),
    );
  }

  pub receive-does : (x : ProcessId) (m : Message) (p : Process) → Numbered p.as_leader → Does p (receive s x m p)
  receive-does x (tells.Update r d u stable) p fine = when-does (nat_le (at 0 p.ranks d.0) r.0) p
      (ack_to x r.0 d.0 u.number (update_taken s d.0 u stable p)) fine
      (record { name = refl; sessions = record { rises = fine.rises; below = fine.below }; sent = (tt, tt) })
  receive-does (DataNode e) (tells.Ack r d n) p fine = self-does p fine
  receive-does (ParityNode i) (tells.Ack r d n) p fine = ack-does i r.0 d.0 n (head_at p d.0) p fine
  receive-does x (tells.Stable r d n) p fine = when-does (nat_le (at 0 p.ranks d.0) r.0) p (quiet (apply_to s d.0 n p))
      fine (record { name = refl; sessions = apply-fine d.0 n p fine; sent = tt })
  receive-does x (tells.Adopt r d base list) p fine = when-does (nat_le (at 0 p.ranks d.0) r.0) p
      (ack_to x r.0 d.0 (base + length list) (log_adopted s r.0 d.0 base list p)) fine
      (record { name = refl; sessions = record { rises = fine.rises; below = fine.below }; sent = (tt, tt) })
  receive-does x (tells.ReadBlock session block rows) p fine = read-does session block rows p p.name fine
  receive-does (DataNode e) (tells.Block session bytes n) p fine = record { name = refl; sessions = block-fine e session.number bytes p fine; sent = tt }
  receive-does (ParityNode i) (tells.Block session bytes n) p fine = self-does p fine
  receive-does x (tells.Mark session r block d n) p fine = mark-does (parity_number session.leader) session.number r.0 block d.0 n p fine
  receive-does (DataNode e) (tells.Row session bytes stamp) p fine = self-does p fine
  receive-does (ParityNode i) (tells.Row session bytes stamp) p fine = record { name = refl; sessions = row-fine i session.number bytes p fine; sent = tt }
  receive-does (DataNode e) (tells.Cease upto) p fine = self-does p fine
  receive-does (ParityNode i) (tells.Cease upto) p fine = record { name = refl; sessions = fine; sent = tt }
  receive-does x (tells.Notice dead) p fine = notice-does dead p fine
