-- What a process sends of marks, blocks and rows carries what it should.
use Rattle.std.proofs.Common.{◌≡◌, ℕ, suc, ◌+◌, ◌*◌, ◌<◌, ◌≤◌, ◌==◌, nat_le, Bool, true, false, not, List, [], ◌∷◌}
use Rattle.std.proofs.Common.{length, take, map, filter, find, flat_map, is_some, Option, Some, None, sym, ap, ap₂}
use Rattle.std.proofs.Common.{subst, ◌∙◌, refl, arith}
use Rattle.std.specs.Prelude.{unwrap_or}
use Rattle.std.specs.List.{list_any, range_with_len}
use Rattle.group_types.specs.Dimensions.{Dimensions, space_of}
use Rattle.group_types.specs.Hash.{home_of}
use Rattle.group_types.specs.Lists.{at}
use Rattle.group_types.specs.Names.{IsProcess, same_process}
use Rattle.group_types.specs.declared.process.ProcessId.{ProcessId}
use Rattle.group_types.specs.declared.process.ProcessId.TheVariants.{DataNode, ParityNode}
use Rattle.group_types.proofs.Lists.{at-map-range}
use Rattle.group_types.proofs.Names.{same-refl}
use Rattle.group_types.specs.Each.{Each}
use Rattle.group_types.proofs.Eaches.{each-append, each-weaker, each-all, each-map, each-filter}
use Rattle.membership.specs.Members.{knows_dead}
use Rattle.memc_table.specs.Act.{key_of}
use Rattle.memc_table.specs.Asked.{Asked}
use Rattle.group_message.specs.declared.message.Message.{Message}
use Rattle.group_message.specs.declared.message.Message.TheVariants as tells
use Rattle.group_message.specs.declared.message.Session.{Session}
use Rattle.group_message.specs.declared.update.Update.{Update}
use Rattle.group_calls.specs.Turns.{CallName}
use Rattle.group_calls.specs.declared.decision.Decision.{Decision}
use Rattle.group_calls.specs.declared.decision.Decision.TheVariants as decides
use Rattle.group_run.specs.Applying.{ProcessStep, Sent, and_then, apply_to, for_each, head_at, held_at, quiet, replica_of, sending, when, with_head}
use Rattle.group_run.specs.Asking.{Oldest, act_on, ask_head, collect_from, collect_held, found_at, handed_out, is_call}
use Rattle.group_run.specs.Asking.{issued, oldest_inherited, retry_block, ticketed, update_of}
use Rattle.group_run.specs.Deciding.{decide}
use Rattle.group_run.specs.Heading.{acknowledge, acknowledged, judge, judge_head, partition, rank, tell_stable, tell_stables}
use Rattle.group_run.specs.Leaders.{close_sessions, copy_kept, copy_marked, leader_marks, left_of, lost_of, mark_comes}
use Rattle.group_run.specs.Leaders.{mark_taken, own_mark, row_finished, rows_of, session_of, session_opened}
use Rattle.group_run.specs.Leaders.{session_starts, start_session}
use Rattle.group_run.specs.Process.{Copy, Gathering, Head, Held, Process}
use Rattle.group_run.specs.Receiving.{ack_to, death_known, enthroned, log_adopted, notice_comes, read_comes, receive}
use Rattle.group_run.specs.Receiving.{take_over_if, taken_over, takes_over, update_taken}
use Rattle.group_run.specs.Replica.{Replica, empty_replica}
use Rattle.group_run.specs.Rows.{accepts_mark, begin_copy, copy_in, is_copy, is_marked, marked, parity_number, marks_of, with_copies, without_copy}
use Rattle.law_moves.proofs.Moves.{Treats, Asks, Collects, Flushes}
use Rattle.law_moves.proofs.Calls.{each-below}
use Rattle.law_bytes.specs.Areas.{IsArea, IsBlock, block_size, code, held, value, SettledWrite}
use Rattle.law_bytes.specs.Held.{CopyHolds, Holds, marked_stand, stand}
use Rattle.law_bytes.proofs.Premises.{AppliesSettled, GoesOn, MarkIsNew, MarksNew}
use Rattle.law_bytes.proofs.Applying.{Holding}
use Rattle.law_bytes.proofs.Copies.{block-of-space, marked-holds}
use Rattle.law_bytes.proofs.Finding.{found-passes}
use Rattle.law_bytes.proofs.Finds.{found-each, if-some}
use Rattle.law_bytes.proofs.Marking.{AtMark, at-mark, begun-same, marked-same}
use Rattle.law_bytes.proofs.Receipts.{Addresses}
use Rattle.law_bytes.proofs.Rising.{all-among, among-range}
use Rattle.law_bytes.proofs.Values.{Concerns, Inside, area-same, held-same, inside-concerned}
use Rattle.law_bytes.proofs.Exact.{Exact, RowIs, stamp_stand}
use Rattle.law_bytes.proofs.Local.{Silent, copy-parts, silent-others}
use Rattle.law_bytes.proofs.Tallying.{ComesTo}
use Rattle.law_bytes.proofs.Tokens.{Own, Token}

silent-exact : (s : Dimensions) (settled : ℕ → List Update) (x : ProcessId) (m : Message) → Silent m → Exact s settled x m
silent-exact s settled x (tells.Update r d u stable) silent = tt
silent-exact s settled x (tells.Ack r d n) silent = tt
silent-exact s settled x (tells.Stable r d n) silent = tt
silent-exact s settled x (tells.Adopt r d base list) silent = tt
silent-exact s settled x (tells.Cease upto) silent = tt
silent-exact s settled x (tells.Notice dead) silent = tt
silent-exact s settled x (tells.ReadBlock session block rows) silent = absurd silent
silent-exact s settled x (tells.Block session bytes n) silent = absurd silent
silent-exact s settled x (tells.Mark session r block d n) silent = absurd silent
silent-exact s settled x (tells.Row session bytes stamp) silent = absurd silent

any : Token
any = record { leader = 0; number = 0; partition = 0; way = Own }

module _ (s : Dimensions) (settled : ℕ → List Update) where
  -- all that a step sends carries what it should
  abbrev pub SendsExact : ProcessId → ProcessStep → Type 0
  SendsExact x step = Each (λ z. Exact s settled x z.message) step.sent

  quiets : (x : ProcessId) (sent : List Sent) → Each (λ z. Silent z.message) sent → Each (λ z. Exact s settled x z.message) sent
  quiets x sent silent = each-weaker (λ z. Silent z.message) (λ z. Exact s settled x z.message) (λ z is. silent-exact s settled x z.message is) sent silent

  then-sends : (x : ProcessId) (a : ProcessStep) (f : Process → ProcessStep) → SendsExact x a → SendsExact x (f a.process) → SendsExact x (and_then a f)
  then-sends x a f first next = each-append (λ z. Exact s settled x z.message) a.sent (f a.process).sent first next

  each-sends : (x : ProcessId) (xs : List ℕ) (f : ℕ → Process → ProcessStep) (p : Process)
      → ((y : ℕ) (q : Process) → SendsExact x (f y q)) → SendsExact x (for_each xs f p)
  each-sends x [] f p all = tt
  each-sends x (y ∷ ys) f p all = then-sends x (f y p) (for_each ys f) (all y p) (each-sends x ys f (f y p).process all)

  when-sends : (x : ProcessId) (b : Bool) (p : Process) (step : ProcessStep) → SendsExact x step → SendsExact x (when b p step)
  when-sends x true p step sends = sends
  when-sends x false p step sends = tt

  judge-sends : (x : ProcessId) (d : ℕ) (p : Process) → SendsExact x (judge s d p)
  judge-sends x d p = by (head_at p d) where
    by : (o : Option Head) → SendsExact x (judge_head s d p o)
    by None = tt
    by (Some h) = tt

  takes-sends : (x : ProcessId) (d : ℕ) (p : Process) → SendsExact x (take_over_if s d p)
  takes-sends x d p = when-sends x (takes_over p d p.name) p (taken_over s d p)
      (then-sends x (sending _ (enthroned s (suc (parity_number p.name)) d p)) (judge s d)
      (quiets x _ (silent-others any s p _ tt)) (judge-sends x d (enthroned s (suc (parity_number p.name)) d p)))

  close-sends : (x : ProcessId) (gs : List Gathering) (p : Process) → SendsExact x (close_sessions s gs p)
  close-sends x [] p = tt
  close-sends x (g ∷ gs) p = quiets x _ (silent-others any s p _ tt)

  notice-sends : (x dead : ProcessId) (p : Process) → SendsExact x (notice_comes s dead p)
  notice-sends x dead p =
      let q : Process = death_known dead p in
      let closed : ProcessStep = close_sessions s q.as_leader.sessions q in
      then-sends x (and_then closed (for_each (range_with_len 0 s.k) (judge s))) (for_each (range_with_len 0 s.k) (take_over_if s))
      (then-sends x closed (for_each (range_with_len 0 s.k) (judge s)) (close-sends x q.as_leader.sessions q)
      (each-sends x (range_with_len 0 s.k) (judge s) closed.process (λ d y. judge-sends x d y)))
      (each-sends x (range_with_len 0 s.k) (take_over_if s) _ (λ d y. takes-sends x d y))

  -- a finished copy is the code at its stamp
  row-exact : (q : Process) (c : Copy) (i : ℕ) → q.name ≡ ParityNode i → is_marked s c ≡ true → CopyHolds s settled q c
      → RowIs s settled (ParityNode i) c.bytes (marks_of s c)
  row-exact q c i name whole holds = (within, (c.block, exact)) where
    mark : (d : ℕ) → d < s.k → is_some (at None c.marks d) ≡ true
    mark d below = all-among (λ e. is_some (at None c.marks e)) (range_with_len 0 s.k) d whole (among-range d 0 s.k (omega arith) (omega (arith, below)))

    stamp : (d : ℕ) → d < s.k → at 0 (marks_of s c) d ≡ unwrap_or (at None c.marks d) 0
    stamp d below = at-map-range 0 (λ e. unwrap_or (at None c.marks e) 0) s.k 0 d below
        ∙ (let same : 0 + d ≡ d = omega arith in ap (λ (e : ℕ). unwrap_or (at None c.marks e) 0) same)

    number : (o : Option ℕ) (a b : ℕ) → is_some o ≡ true → unwrap_or o a ≡ unwrap_or o b
    number (Some n) a b some = refl
    number None a b some = absurd (cc some)

    bound : (d : ℕ) (o : Option ℕ) → d < s.k → at None c.marks d ≡ o → is_some o ≡ true → unwrap_or o 0 ≤ length (settled d)
    bound d (Some n) below is some = holds.marks d n below is
    bound d None below is some = absurd (cc some)

    within : (d : ℕ) → d < s.k → at 0 (marks_of s c) d ≤ length (settled d)
    within d below = subst (λ (n : ℕ). n ≤ length (settled d)) (sym (stamp d below)) (bound d (at None c.marks d) below refl (mark d below))

    exact : IsBlock s c.block (code s i (stamp_stand settled (marks_of s c))) c.bytes
    exact = area-same (c.block * s.block) (block_size s c.block)
        (held s (ParityNode i) (marked_stand settled c.marks q)) (code s i (stamp_stand settled (marks_of s c))) c.bytes
        (subst (λ (x : ProcessId). IsBlock s c.block (held s x (marked_stand settled c.marks q)) c.bytes) name holds.bytes)
        (λ x. held-same s (ParityNode i) (marked_stand settled c.marks q) (stamp_stand settled (marks_of s c)) x tt
        (λ d below. ap (λ (n : ℕ). take n (settled d)) (stamp d below ∙ number (at None c.marks d) 0 (replica_of q d).applied (mark d below))))

  -- a row takes a mark
  mark-sends : (write : SettledWrite s settled) (old : ℕ → ℕ → Bool) (p : Process) (i leader number r block d n : ℕ)
      → p.name ≡ ParityNode i → d < s.k → GoesOn (settled d) (replica_of p d)
      → (accepts_mark p leader number r d ≡ true → MarkIsNew p leader number d n)
      → (replica_of (mark_comes s leader number r block d n p).process d).applied ≤ length (settled d)
      → Holding s settled old p → SendsExact (ParityNode i) (mark_comes s leader number r block d n p)
  mark-sends write old p i leader number r block d n name below goes new within holding = by (accepts_mark p leader number r d) new within where
    concerns : Concerns s p.name d
    concerns = subst (λ (x : ProcessId). Concerns s x d) (sym name) below

    q : Process
    q = apply_to s d n (begin_copy s leader number block p)

    finished : (own whole : Bool) (c : Copy) (y : Process) → is_marked s c ≡ whole
        → RowIs s settled (ParityNode i) c.bytes (marks_of s c) → SendsExact (ParityNode i) (row_finished own s c y)
    finished true whole c y is exact = tt
    finished false whole c y is exact = (exact, tt)

    kept : (whole : Bool) (c : Copy) → is_marked s c ≡ whole → q.name ≡ ParityNode i → CopyHolds s settled q c
        → SendsExact (ParityNode i) (copy_kept whole s c q)
    kept true c is q_name holds = finished (same_process q.name (ParityNode c.leader)) true c
        (with_copies (without_copy c.leader c.number q.as_row.copies) q) is (row-exact q c i q_name is holds)
    kept false c is q_name holds = tt

    by : (b : Bool) → (b ≡ true → MarkIsNew p leader number d n)
        → (replica_of (when b p (mark_taken s leader number block d n p)).process d).applied ≤ length (settled d)
        → SendsExact (ParityNode i) (when b p (mark_taken s leader number block d n p))
    by false _ _ = tt
    by true is_new final = found (copy_in q.as_row.copies leader number) refl where
      last : (replica_of q d).applied ≤ length (settled d)
      last = subst (λ (rs : List Replica). (at empty_replica rs d).applied ≤ length (settled d))
          (marked-same s d n (copy_in q.as_row.copies leader number) q).0 final

      there : AtMark s settled old p leader number block d n
      there = at-mark s settled old write p leader number block d n concerns below goes (is_new refl) last holding

      found : (o : Option Copy) → copy_in q.as_row.copies leader number ≡ o → SendsExact (ParityNode i) (copy_marked s d n o q)
      found None is = tt
      found (Some c) is =
          let first = found-each (is_copy leader number) (CopyHolds s settled q) q.as_row.copies c is there.holds.copies in
          kept (is_marked s (marked d n c)) (marked d n c) refl (there.name ∙ name)
          (marked-holds s settled q c d n (subst (Inside s) (sym there.name) (inside-concerned s p.name d concerns))
          below there.applied (there.holds.within d below)
          (if-some (λ (x : Copy). at None x.marks d ≡ None) (copy_in q.as_row.copies leader number) c is there.free) first.1)

  -- a data process that is asked
  read-sends : (session : Session) (block : ℕ) (rows : List ℕ) (p : Process) (e : ℕ) → p.name ≡ DataNode e → e < s.k → Holds s settled p
      → SendsExact (DataNode e) (read_comes s session block rows p (DataNode e))
  read-sends session block rows p e name below holds = (
    (
      holds.within e below,
      (
        block,
        block-of-space s settled block (value (stand settled p e)) p.space
            (subst (λ (x : ProcessId). IsArea 0 (space_of s) (held s x (stand settled p)) p.space) name holds.space),
      ),
    ),
    each-map (λ z. Exact s settled (DataNode e) z.message)
        (λ i. record { to = ParityNode i; message = tells.Mark session (rank 0) block (partition e) (replica_of p e).applied }) rows
        (each-all (λ i. (replica_of p e).applied ≤ length (settled e)) (λ i. holds.within e below) rows),
  )

  -- a leader that opens a session
  OwnRow : ProcessId → ℕ → Type 0
  OwnRow (DataNode e) l = Unit {0}
  OwnRow (ParityNode i) l = l ≡ i

  own-sends : (x : ProcessId) (l number block e : ℕ) (p : Process) → p.name ≡ x → OwnRow x l → SendsExact x (own_mark s l number block e p)
  unfolding OwnRow
  own-sends x l number block e p name own =
      when-sends x (accepts_mark p l number (at 0 p.ranks e) e) p
      (mark_taken s l number block e (replica_of p e).applied p) (found (copy_in q.as_row.copies l number) refl) where
        q : Process
        q = apply_to s e (replica_of p e).applied (begin_copy s l number block p)

        q_name : q.name ≡ x
        q_name = (begun-same s (is_some (copy_in p.as_row.copies l number)) l number block p).1 ∙ name

        finished : (y : ProcessId) → q.name ≡ y → OwnRow y l → (c : Copy) → c.leader ≡ l → (z : Process)
            → SendsExact y (row_finished (same_process q.name (ParityNode c.leader)) s c z)
        finished (ParityNode i) is mine c leads z =
            subst (λ (b : Bool). SendsExact (ParityNode i) (row_finished b s c z))
            (sym (ap₂ same_process is (ap ParityNode (leads ∙ mine)) ∙ same-refl (ParityNode i))) tt
        finished (DataNode d) is mine c leads z = by (same_process q.name (ParityNode c.leader)) where
          by : (b : Bool) → SendsExact (DataNode d) (row_finished b s c z)
          by true = tt
          by false = (tt, tt)

        kept : (whole : Bool) (c : Copy) → c.leader ≡ l → SendsExact x (copy_kept whole s c q)
        kept true c leads = finished x q_name own c leads (with_copies (without_copy c.leader c.number q.as_row.copies) q)
        kept false c leads = tt

        found : (o : Option Copy) → copy_in q.as_row.copies l number ≡ o → SendsExact x (copy_marked s e (replica_of p e).applied o q)
        found None is = tt
        found (Some c) is =
            kept (is_marked s (marked e (replica_of p e).applied c)) (marked e (replica_of p e).applied c)
            (copy-parts l number c (found-passes (is_copy l number) q.as_row.copies c is)).0

  own-name : (l number block e : ℕ) (p : Process) → (own_mark s l number block e p).process.name ≡ p.name
  own-name l number block e p = by (accepts_mark p l number (at 0 p.ranks e) e) where
    q : Process
    q = apply_to s e (replica_of p e).applied (begin_copy s l number block p)

    by : (b : Bool) → (when b p (mark_taken s l number block e (replica_of p e).applied p)).process.name ≡ p.name
    by true = (marked-same s e (replica_of p e).applied (copy_in q.as_row.copies l number) q).1
        ∙ (begun-same s (is_some (copy_in p.as_row.copies l number)) l number block p).1
    by false = refl

  owns-send : (x : ProcessId) (l number block : ℕ) (ls : List ℕ) (p : Process) → p.name ≡ x → OwnRow x l
      → SendsExact x (for_each ls (own_mark s l number block) p)
  owns-send x l number block [] p name own = tt
  owns-send x l number block (e ∷ ls) p name own =
      then-sends x (own_mark s l number block e p) (for_each ls (own_mark s l number block)) (own-sends x l number block e p name own)
      (owns-send x l number block ls (own_mark s l number block e p).process (own-name l number block e p ∙ name) own)

  own-row : (p : Process) (x : ProcessId) → p.name ≡ x → OwnRow x (parity_number p.name)
  unfolding OwnRow
  own-row p (DataNode e) name = tt
  own-row p (ParityNode i) name = ap parity_number name

  module _ (p : Process) (x : ProcessId) (name : p.name ≡ x) (holds : Holds s settled p) where
    start-sends : (block : ℕ) → SendsExact x (start_session s block p)
    start-sends block = then-sends x (sending (session_starts s l number block p) opened) (for_each (lost_of s p) (own_mark s l number block))
        (each-append (λ z. Exact s settled x z.message) (map question (left_of s p)) (flat_map (leader_marks s l number block p) (lost_of s p))
        (each-map (λ z. Exact s settled x z.message) question (left_of s p) (each-all (λ d. Unit {0}) (λ d. tt) (left_of s p)))
        (all_marks (lost_of s p) (each-filter (λ d. d < s.k) (λ d. knows_dead p.known (DataNode d)) (range_with_len 0 s.k) (each-below s.k))))
        (owns-send x l number block (lost_of s p) opened name (own-row p x name))
      where
        l : ℕ
        l = parity_number p.name

        number : ℕ
        number = suc p.as_leader.last_session

        opened : Process
        opened = session_opened s number block p

        question : ℕ → Sent
        question d = record { to = DataNode d; message = tells.ReadBlock (session_of l number) block (rows_of s p) }

        all_marks : (ls : List ℕ) → Each (λ d. d < s.k) ls → Each (λ z. Exact s settled x z.message) (flat_map (leader_marks s l number block p) ls)
        all_marks [] below = tt
        all_marks (e ∷ ls) below = each-append (λ z. Exact s settled x z.message) (leader_marks s l number block p e)
            (flat_map (leader_marks s l number block p) ls)
            (each-map (λ z. Exact s settled x z.message)
            (λ i. record {
              to = ParityNode i;
              message = tells.Mark (session_of l number) (rank (at 0 p.ranks e)) block
                  (partition e) (replica_of p e).applied;
            }) (filter (λ i. not (i == l)) (rows_of s p))
            (each-all (λ i. (replica_of p e).applied ≤ length (settled e)) (λ i. holds.within e below.0)
            (filter (λ i. not (i == l)) (rows_of s p)))) (all_marks ls below.1)

    retry-sends : (block : ℕ) (o : Option Oldest) → SendsExact x (retry_block s block o p).step
    retry-sends block (Some o) = tt
    retry-sends block None = when-sends x (not (list_any (λ g. g.block == block) p.as_leader.sessions)) p (start_session s block p) (start-sends block)

    ticketed-sends : (b : Bool) (d : ℕ) (u : Update) (step : ProcessStep) → SendsExact x step → SendsExact x (ticketed b d u step).step
    ticketed-sends true d u step sends = sends
    ticketed-sends false d u step sends = sends

    act-sends : (call : CallName) (op : Asked) (d : ℕ) (h : Head) (decision : Decision) → SendsExact x (act_on s call op d h p decision).step
    act-sends call op d h (decides.Answer r) = tt
    act-sends call op d h (decides.Retry n) = tt
    act-sends call op d h decides.NoSpace = tt
    act-sends call op d h (decides.NeedBlock b) = retry-sends b (oldest_inherited p (range_with_len 0 s.k))
    act-sends call op d h (decides.Issue body outcome) =
        let u : Update = update_of call op d body outcome p in
        ticketed-sends (nat_le u.number (replica_of (issued s d h u p).process d).applied) d u (issued s d h u p)
        (then-sends x (sending _ _) (judge s d) (quiets x _ (silent-others any s p _ tt)) (judge-sends x d _))

    ask-sends : (call : CallName) (op : Asked) (d : ℕ) (o : Option Head) → SendsExact x (ask_head s call op d p o).step
    ask-sends call op d None = tt
    ask-sends call op d (Some h) = act-sends call op d h (decide (space_of s) h.inherited (replica_of p d) op (found_at s d p p.name))

    collect-sends : (caller call : ℕ) (ds : List ℕ) → SendsExact x (collect_from caller call p ds).step
    collect-sends caller call [] = tt
    collect-sends caller call (d ∷ ds) = by (find (is_call caller call) (held_at p d)) (collect-sends caller call ds) where
      handed : (b : Bool) (h : Held) → SendsExact x (handed_out b d h p).step
      handed true h = tt
      handed false h = tt

      by : (o : Option Held) → SendsExact x (collect_from caller call p ds).step → SendsExact x (collect_held d o p (collect_from caller call p ds)).step
      by None rest = rest
      by (Some h) rest = handed (nat_le h.number (replica_of p d).applied) h

    stables-silent : (ds : List ℕ) → Each (λ z. Silent z.message) (tell_stables s p ds)
    stables-silent [] = tt
    stables-silent (d ∷ ds) = each-append (λ z. Silent z.message) (tell_stable s p d (head_at p d))
        (tell_stables s p ds) (by (head_at p d)) (stables-silent ds) where
          by : (o : Option Head) → Each (λ z. Silent z.message) (tell_stable s p d o)
          by None = tt
          by (Some h) = silent-others any s p _ tt

    pub treats-sends : (step : ProcessStep) → Treats s p step → SendsExact x step
    treats-sends _ (Asks call op bytes) = ask-sends call op (home_of (key_of op.act) s.k) (head_at p (home_of (key_of op.act) s.k))
    treats-sends _ (Collects caller call) = collect-sends caller call (range_with_len 0 s.k)
    treats-sends _ Flushes = quiets x _ (stables-silent (range_with_len 0 s.k))

  ack-sends : (x : ProcessId) (p : Process) (i r d n : ℕ) (o : Option Head) → SendsExact x (acknowledge s i r d n o p)
  ack-sends x p i r d n None = tt
  ack-sends x p i r d n (Some h) = when-sends x (r == h.rank) p _ (judge-sends x d (with_head d (Some (acknowledged i n h)) p))

  pub receive-sends : (write : SettledWrite s settled) (old : ℕ → ℕ → Bool) (y x : ProcessId) (m : Message)
      (p : Process) → p.name ≡ x → IsProcess s x → Addresses s m x → ComesTo y m x
      → Holds s settled p → Holding s settled old p → MarksNew m p → AppliesSettled s settled p (receive s y m p) → SendsExact x (receive s y m p)
  receive-sends write old y x (tells.Update r d u stable) p name inside to comes holds holding new applies =
      when-sends x (nat_le (at 0 p.ranks d.0) r.0) p (ack_to y r.0 d.0 u.number (update_taken s d.0 u stable p)) (tt, tt)
  receive-sends write old (DataNode e) x (tells.Ack r d n) p name inside to comes holds holding new applies = tt
  receive-sends write old (ParityNode i) x (tells.Ack r d n) p name inside to comes holds holding new applies = ack-sends x p i r.0 d.0 n (head_at p d.0)
  receive-sends write old y x (tells.Stable r d n) p name inside to comes holds holding new applies =
      when-sends x (nat_le (at 0 p.ranks d.0) r.0) p (quiet (apply_to s d.0 n p)) tt
  receive-sends write old y x (tells.Adopt r d base list) p name inside to comes holds holding new applies =
      when-sends x (nat_le (at 0 p.ranks d.0) r.0) p (ack_to y r.0 d.0 (base + length list) (log_adopted s r.0 d.0 base list p)) (tt, tt)
  receive-sends write old y (DataNode e) (tells.ReadBlock session block rows) p name inside to comes holds holding new applies =
      subst (λ (z : ProcessId). SendsExact (DataNode e) (read_comes s session block rows p z)) (sym name) (read-sends session block rows p e name inside holds)
  receive-sends write old y (ParityNode i) (tells.ReadBlock session block rows) p name inside to comes holds holding new applies = elim comes.1 [ ]
  receive-sends write old (DataNode e) x (tells.Block session bytes n) p name inside to comes holds holding new applies = tt
  receive-sends write old (ParityNode i) x (tells.Block session bytes n) p name inside to comes holds holding new applies = tt
  receive-sends write old y (ParityNode i) (tells.Mark session r block d n) p name inside to comes holds holding new applies =
      mark-sends write old p i (parity_number session.leader) session.number r.0 block d.0 n name to.1
      (applies.log d.0 to.1) new (applies.within d.0 to.1) holding
  receive-sends write old y (DataNode e) (tells.Mark session r block d n) p name inside to comes holds holding new applies = data-marks where
    data-marks : SendsExact (DataNode e) (mark_comes s (parity_number session.leader) session.number r.0 block d.0 n p)
    data-marks = when-sends (DataNode e) (accepts_mark p (parity_number session.leader) session.number r.0 d.0) p
        (mark_taken s (parity_number session.leader) session.number block d.0 n p)
        (by (copy_in (apply_to s d.0 n (begin_copy s (parity_number session.leader) session.number block
        p)).as_row.copies (parity_number session.leader) session.number)) where
          finished : (b : Bool) (c : Copy) (z : Process) → SendsExact (DataNode e) (row_finished b s c z)
          finished true c z = tt
          finished false c z = (tt, tt)

          kept : (b : Bool) (c : Copy) (z : Process) → SendsExact (DataNode e) (copy_kept b s c z)
          kept true c z = finished (same_process z.name (ParityNode c.leader)) c (with_copies (without_copy c.leader c.number z.as_row.copies) z)
          kept false c z = tt

          by : (o : Option Copy)
              → SendsExact (DataNode e)
              (copy_marked s d.0 n o
              (apply_to s d.0 n (begin_copy s (parity_number session.leader) session.number block p)))
          by None = tt
          by (Some c) = kept (is_marked s (marked d.0 n c)) (marked d.0 n c)
              (apply_to s d.0 n (begin_copy s (parity_number session.leader) session.number block p))
  receive-sends write old (DataNode e) x (tells.Row session bytes stamp) p name inside to comes holds holding new applies = tt
  receive-sends write old (ParityNode i) x (tells.Row session bytes stamp) p name inside to comes holds holding new applies = tt
  receive-sends write old (DataNode e) x (tells.Cease upto) p name inside to comes holds holding new applies = tt
  receive-sends write old (ParityNode i) x (tells.Cease upto) p name inside to comes holds holding new applies = tt
  receive-sends write old y x (tells.Notice dead) p name inside to comes holds holding new applies = notice-sends x dead p
