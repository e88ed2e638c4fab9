-- Whatever a process sends goes to others.
use Rattle.std.proofs.Common.{ℕ, suc, ◌≡◌, ◌≢◌, ◌==◌, ◌+◌, nat_le, Bool, true, false, not, ◌&&◌, List, [], ◌∷◌, length}
use Rattle.std.proofs.Common.{map, filter, flat_map, find, Option, Some, None, is_some, refl, sym, ap, subst, ◌∙◌, arith, cond}
use Rattle.std.proofs.lemmas.Grind.{common_steps}
use Rattle.std.specs.List.{list_any, range_with_len}
use Rattle.group_types.specs.Dimensions.{Dimensions, space_of}
use Rattle.group_types.specs.Hash.{home_of}
use Rattle.group_types.specs.Lists.{at}
use Rattle.group_types.specs.Names.{same_process}
use Rattle.group_types.specs.declared.process.ProcessId.{ProcessId}
use Rattle.group_types.specs.declared.process.ProcessId.TheVariants.{DataNode, ParityNode}
use Rattle.group_types.proofs.Names.{same-ne, same-refl}
use Rattle.group_types.specs.Each.{Each}
use Rattle.group_types.proofs.Eaches.{each-append, each-all, each-map}
use Rattle.membership.specs.Members.{Membership, knows_dead}
use Rattle.memc_table.specs.Act.{key_of}
use Rattle.memc_table.specs.Asked.{Asked}
use Rattle.group_message.specs.declared.message.Message.{Message}
use Rattle.group_message.specs.declared.message.Message.TheVariants as tells
use Rattle.group_message.specs.declared.message.Session.{Session}
use Rattle.group_message.specs.declared.update.Update.{Update}
use Rattle.group_calls.specs.Turns.{CallName}
use Rattle.group_calls.specs.declared.decision.Decision.{Decision}
use Rattle.group_calls.specs.declared.decision.Decision.TheVariants as decides
use Rattle.group_run.specs.Applying.{ProcessStep, Sent, and_then, apply_to, for_each, head_at, held_at, quiet}
use Rattle.group_run.specs.Applying.{replica_of, sending, when, with_head, with_replica}
use Rattle.group_run.specs.Asking.{Oldest, act_on, ask_head, collect_from, collect_held, found_at, handed_out, is_call}
use Rattle.group_run.specs.Asking.{issued, oldest_inherited, retry_block, ticketed, update_of}
use Rattle.group_run.specs.Deciding.{decide}
use Rattle.group_run.specs.Heading.{acknowledge, acknowledged, judge, judge_head, other_parities, partition, rank, tell_stable, to_others, to_parities}
use Rattle.group_run.specs.Leaders.{close_sessions, copy_kept, copy_marked, leader_marks, left_of, lost_of, mark_comes, mark_taken}
use Rattle.group_run.specs.Leaders.{own_mark, row_finished, rows_of, session_of, session_opened, session_starts, start_session}
use Rattle.group_run.specs.Process.{Copy, Gathering, Head, Held, Process}
use Rattle.group_run.specs.Receiving.{ack_to, death_known, enthroned, log_adopted, notice_comes, read_comes, receive}
use Rattle.group_run.specs.Receiving.{take_over_if, taken_over, takes_over, update_taken}
use Rattle.group_run.specs.Replica.{with_update}
use Rattle.group_run.specs.Rows.{accepts_mark, begin_copy, copy_begun, copy_in, is_marked, marked, parity_number, with_copies, without_copy}
use Rattle.group_run.specs.World.{front_if, sent_to}
use Rattle.law_moves.proofs.Moves.{Asks, Collects, Flushes, Treats}
use Rattle.law_moves.specs.State.{State}
use Rattle.law_moves.proofs.Members.{MayStand, IsParity}
use Rattle.law_histories.proofs.Deciding.{RestsWell, decides-well}
use Rattle.law_answers.proofs.Starting.{missing-row, row-named}

-- no message of these goes to x
abbrev pub Others : ProcessId → List Sent → Type 0
Others x sent = Each (λ z. z.to ≢ x) sent

pub none-to : (x : ProcessId) (sent : List Sent) → Others x sent → sent_to x sent ≡ []
none-to x [] others = refl
none-to x (z ∷ zs) others = ap (λ (b : Bool). front_if b z.message (sent_to x zs)) (same-ne z.to x others.0) ∙ none-to x zs others.1

-- the other parity processes
others-among : (x : ProcessId) (known : Membership) (is : List ℕ)
    → Each (λ i. ParityNode i ≢ x) (filter (λ i. not (same_process x (ParityNode i)) && not (knows_dead known (ParityNode i))) is)
others-among x known [] = tt
others-among x known (i ∷ is) = by (same_process x (ParityNode i)) (knows_dead known (ParityNode i)) refl (others-among x known is) where
  left : List ℕ
  left = filter (λ i. not (same_process x (ParityNode i)) && not (knows_dead known (ParityNode i))) is

  by : (a b : Bool) → same_process x (ParityNode i) ≡ a → Each (λ j. ParityNode j ≢ x) left
      → Each (λ j. ParityNode j ≢ x) (cond (not a && not b) (i ∷ left) left)
  by true b is rest = rest
  by false true is rest = rest
  by false false is rest = ((λ same. cc (is, ap (same_process x) same ∙ same-refl x)), rest)

module _ (x : ProcessId) where
  -- a step of x sends to others, and it keeps its name
  pub record Outward (t : ProcessStep) : Type 0 where
    pub name : t.process.name ≡ x
    pub others : Others x t.sent

  out-quiet : (p : Process) → p.name ≡ x → Outward (quiet p)
  out-quiet p name = record { name = name; others = tt }

  out-then : (a : ProcessStep) (f : Process → ProcessStep) → Outward a → Outward (f a.process) → Outward (and_then a f)
  out-then a f first next = record { name = next.name; others = each-append (λ z. z.to ≢ x) a.sent (f a.process).sent first.others next.others }

  out-each : (ys : List ℕ) (f : ℕ → Process → ProcessStep) (p : Process) → p.name ≡ x
      → ((y : ℕ) (q : Process) → q.name ≡ x → Outward (f y q)) → Outward (for_each ys f p)
  out-each [] f p name each = out-quiet p name
  out-each (y ∷ ys) f p name each = let here = each y p name in out-then (f y p) (for_each ys f) here (out-each ys f (f y p).process here.name each)

  out-when : (b : Bool) (p : Process) (t : ProcessStep) → p.name ≡ x → Outward t → Outward (when b p t)
  out-when true p t name out = out
  out-when false p t name out = out-quiet p name

  to-others : (s : Dimensions) (p : Process) (m : Message) → p.name ≡ x → Others x (to_others s p m)
  to-others s p m name = subst (λ (y : ProcessId). Others x (to_parities (other_parities s.m y p.known) m)) (sym name)
      (each-map (λ z. z.to ≢ x) (λ i. record { to = ParityNode i; message = m }) (other_parities s.m x p.known) (others-among x p.known (range_with_len 0 s.m)))

  -- to judge acknowledgements sends nothing
  out-judged : (s : Dimensions) (d : ℕ) (p : Process) (o : Option Head) → p.name ≡ x → Outward (judge_head s d p o)
  out-judged s d p None name = out-quiet p name
  out-judged s d p (Some h) name = record { name = name; others = tt }

  out-judge : (s : Dimensions) (d : ℕ) (p : Process) → p.name ≡ x → Outward (judge s d p)
  out-judge s d p name = out-judged s d p (head_at p d) name

  module _ (s : Dimensions) where
    -- a row sends its block of code to the leader, if that is another
    out-finished : (b : Bool) (c : Copy) (p : Process) → p.name ≡ x → same_process x (ParityNode c.leader) ≡ b → Outward (row_finished b s c p)
    out-finished true c p name own = record { name = name; others = tt }
    out-finished false c p name own = record { name = name; others = ((λ same. cc (own, ap (same_process x) same ∙ same-refl x)), tt) }

    out-kept : (all : Bool) (c : Copy) (p : Process) → p.name ≡ x → Outward (copy_kept all s c p)
    out-kept true c p name =
        out-finished (same_process p.name (ParityNode c.leader)) c (with_copies (without_copy c.leader c.number p.as_row.copies) p) name
        (ap (λ (y : ProcessId). same_process y (ParityNode c.leader)) (sym name))
    out-kept false c p name = record { name = name; others = tt }

    out-marked : (d n : ℕ) (o : Option Copy) (p : Process) → p.name ≡ x → Outward (copy_marked s d n o p)
    out-marked d n None p name = out-quiet p name
    out-marked d n (Some c) p name = out-kept (is_marked s (marked d n c)) (marked d n c) p name

    begun-name : (b : Bool) (leader number block : ℕ) (p : Process) → p.name ≡ x → (copy_begun b s leader number block p).name ≡ x
    begun-name true leader number block p name = name
    begun-name false leader number block p name = name

    out-mark : (leader number r block d n : ℕ) (p : Process) → p.name ≡ x → Outward (mark_comes s leader number r block d n p)
    out-mark leader number r block d n p name =
        let q : Process = apply_to s d n (begin_copy s leader number block p) in
        out-when (accepts_mark p leader number r d) p (mark_taken s leader number block d n p) name
        (out-marked d n (copy_in q.as_row.copies leader number) q (begun-name (is_some (copy_in p.as_row.copies leader number)) leader number block p name))

    -- a session starts
    marks-others : (leader number block : ℕ) (p : Process) (l : ℕ) (is : List ℕ) → x ≡ ParityNode leader
        → Each (λ i. ParityNode i ≢ x) (filter (λ i. not (i == leader)) is)
    marks-others leader number block p l [] own = tt
    marks-others leader number block p l (i ∷ is) own = by (i == leader) refl (marks-others leader number block p l is own) where
      left : List ℕ
      left = filter (λ i. not (i == leader)) is

      by : (b : Bool) → (i == leader) ≡ b → Each (λ j. ParityNode j ≢ x) left → Each (λ j. ParityNode j ≢ x) (cond (not b) (i ∷ left) left)
      by true is rest = rest
      by false is rest = (
        (λ same. let equal : i ≡ leader = cc (same, own) in
            let test : (i == leader) ≡ true = grind (arith, common_steps) in cc (is, test)),
        rest,
      )

    flat-others : (f : ℕ → List Sent) (ls : List ℕ) → ((l : ℕ) → Others x (f l)) → Others x (flat_map f ls)
    flat-others f [] each = tt
    flat-others f (l ∷ ls) each = each-append (λ z. z.to ≢ x) (f l) (flat_map f ls) (each l) (flat-others f ls each)

    starts-others : (leader number block : ℕ) (p : Process) → x ≡ ParityNode leader → Others x (session_starts s leader number block p)
    starts-others leader number block p own =
        let asks : ℕ → Sent = λ d. record { to = DataNode d; message = tells.ReadBlock (session_of leader number) block (rows_of s p) } in
        let marks : ℕ → ℕ → Sent =
        λ l i. record {
          to = ParityNode i;
          message = tells.Mark (session_of leader number) (rank (at 0 p.ranks l))
              block (partition l) (replica_of p l).applied;
        } in
        each-append (λ z. z.to ≢ x) (map asks (left_of s p)) (flat_map (leader_marks s leader number block p) (lost_of s p))
        (each-map (λ z. z.to ≢ x) asks (left_of s p) (each-all (λ d. DataNode d ≢ x) (λ d same. cc (same, own)) (left_of s p)))
        (flat-others (leader_marks s leader number block p) (lost_of s p)
        (λ l. each-map (λ z. z.to ≢ x) (marks l) (filter (λ i. not (i == leader)) (rows_of s p)) (marks-others leader number block p l (rows_of s p) own)))

    out-start : (block : ℕ) (p : Process) → p.name ≡ x → IsParity p.name → Outward (start_session s block p)
    out-start block p name parity =
        let leader : ℕ = parity_number p.name in
        let number : ℕ = suc p.as_leader.last_session in
        out-then (sending (session_starts s leader number block p) (session_opened s number block p)) (for_each (lost_of s p) (own_mark s leader number block))
        (record { name = name; others = starts-others leader number block p (sym name ∙ row-named p.name parity) })
        (out-each (lost_of s p) (own_mark s leader number block) (session_opened s number block p) name
        (λ l q own. out-mark leader number (at 0 q.ranks l) block l (replica_of q l).applied q own))

    -- a call that is asked
    out-retry : (block : ℕ) (o : Option Oldest) (p : Process) → p.name ≡ x → IsParity p.name → Outward (retry_block s block o p).step
    out-retry block (Some o) p name parity = out-quiet p name
    out-retry block None p name parity = out-when (not (list_any (λ g. g.block == block) p.as_leader.sessions)) p
        (start_session s block p) name (out-start block p name parity)

    out-ticketed : (b : Bool) (d : ℕ) (u : Update) (t : ProcessStep) → Outward t → Outward (ticketed b d u t).step
    out-ticketed true d u t out = out
    out-ticketed false d u t out = record { name = out.name; others = out.others }

    out-issued : (d : ℕ) (h : Head) (u : Update) (p : Process) → p.name ≡ x → Outward (issued s d h u p)
    out-issued d h u p name =
        let told : Process = with_replica d (with_update u (replica_of p d)) p in
        let m : Message = tells.Update (rank h.rank) (partition d) u (replica_of p d).applied in
        out-then (sending (to_others s p m) told) (judge s d) (record { name = name; others = to-others s p m name }) (out-judge s d told name)

    out-act : (name : CallName) (op : Asked) (d : ℕ) (h : Head) (p : Process) (decision : Decision) → p.name ≡ x
        → RestsWell (replica_of p d) (IsParity p.name) decision
        → Outward (act_on s name op d h p decision).step
    out-act name op d h p (decides.Answer reply) own well = out-quiet p own
    out-act name op d h p (decides.Retry n) own well = out-quiet p own
    out-act name op d h p decides.NoSpace own well = out-quiet p own
    out-act name op d h p (decides.NeedBlock b) own well = out-retry b (oldest_inherited p (range_with_len 0 s.k)) p own well
    out-act name op d h p (decides.Issue body outcome) own well =
        let u : Update = update_of name op d body outcome p in
        out-ticketed (nat_le u.number (replica_of (issued s d h u p).process d).applied) d u (issued s d h u p) (out-issued d h u p own)

    out-ask : (name : CallName) (op : Asked) (d : ℕ) (p : Process) (o : Option Head) → p.name ≡ x → Outward (ask_head s name op d p o).step
    out-ask name op d p None own = out-quiet p own
    out-ask name op d p (Some h) own =
        out-act name op d h p (decide (space_of s) h.inherited (replica_of p d) op (found_at s d p p.name)) own
        (decides-well (space_of s) (replica_of p d) op (found_at s d p p.name) (IsParity p.name) (missing-row s d p p.name) h.inherited)

    out-collect : (caller call : ℕ) (p : Process) (ds : List ℕ) → p.name ≡ x → Outward (collect_from caller call p ds).step
    out-collect caller call p [] own = out-quiet p own
    out-collect caller call p (d ∷ ds) own = by (find (is_call caller call) (held_at p d)) (out-collect caller call p ds own) where
      handed : (b : Bool) (h : Held) → Outward (handed_out b d h p).step
      handed true h = record { name = own; others = tt }
      handed false h = out-quiet p own

      by : (o : Option Held) → Outward (collect_from caller call p ds).step → Outward (collect_held d o p (collect_from caller call p ds)).step
      by None rest = rest
      by (Some h) rest = handed (nat_le h.number (replica_of p d).applied) h

    told-others : (p : Process) (d : ℕ) (o : Option Head) → p.name ≡ x → Others x (tell_stable s p d o)
    told-others p d None own = tt
    told-others p d (Some h) own = to-others s p (tells.Stable (rank h.rank) (partition d) (replica_of p d).applied) own

    pub treated-out : (p : Process) (t : ProcessStep) → p.name ≡ x → Treats s p t → Outward t
    treated-out p t own (Asks name op bytes) = out-ask name op (home_of (key_of op.act) s.k) p (head_at p (home_of (key_of op.act) s.k)) own
    treated-out p t own (Collects caller call) = out-collect caller call p (range_with_len 0 s.k) own
    treated-out p t own Flushes = record {
      name = own;
      others = flat-others (λ d. tell_stable s p d (head_at p d)) (range_with_len 0 s.k) (λ d. told-others p d (head_at p d) own);
    }

    -- a message from another
    out-acknowledge : (i r d n : ℕ) (o : Option Head) (p : Process) → p.name ≡ x → Outward (acknowledge s i r d n o p)
    out-acknowledge i r d n None p own = out-quiet p own
    out-acknowledge i r d n (Some h) p own =
        let q : Process = with_head d (Some (acknowledged i n h)) p in
        out-when (r == h.rank) p (judge s d q) own (out-judge s d q own)

    out-read : (session : Session) (block : ℕ) (rows : List ℕ) (p : Process) (y : ProcessId) → p.name ≡ x → x ≡ y → session.leader ≢ x
        → Outward (read_comes s session block rows p y)
    out-read session block rows p (ParityNode i) own is apart = out-quiet p own
    out-read session block rows p (DataNode d) own is apart = record {
      name = own;
      others = (
        apart,
        each-map (λ z. z.to ≢ x) (λ i. record { to = ParityNode i; message = tells.Mark session (rank 0) block (partition d) (replica_of p d).applied }) rows
            (each-all (λ i. ParityNode i ≢ x) (λ i same. cc (same, is)) rows),
      );
    }

    out-close : (gs : List Gathering) (p : Process) → p.name ≡ x → Outward (close_sessions s gs p)
    out-close [] p own = out-quiet p own
    out-close (g ∷ gs) p own = record { name = own; others = to-others s p (tells.Cease p.as_leader.last_session) own }

    out-take : (d : ℕ) (p : Process) → p.name ≡ x → Outward (take_over_if s d p)
    out-take d p own =
        let r : ℕ = suc (parity_number p.name) in
        let adopt : Message = tells.Adopt (rank r) (partition d) (replica_of p d).applied (replica_of p d).log in
        let q : Process = enthroned s r d p in
        out-when (takes_over p d p.name) p (taken_over s d p) own
        (out-then (sending (to_others s p adopt) q) (judge s d) (record { name = own; others = to-others s p adopt own }) (out-judge s d q own))

    known-name : (dead : ProcessId) (p : Process) → p.name ≡ x → (death_known dead p).name ≡ x
    known-name (DataNode e) p own = own
    known-name (ParityNode e) p own = own

    out-notice : (dead : ProcessId) (p : Process) → p.name ≡ x → Outward (notice_comes s dead p)
    out-notice dead p own =
        let known : Process = death_known dead p in
        let closed : ProcessStep = close_sessions s known.as_leader.sessions known in
        let judged : ProcessStep = and_then closed (for_each (range_with_len 0 s.k) (judge s)) in
        let first = out-close known.as_leader.sessions known (known-name dead p own) in
        let middle = out-then closed (for_each (range_with_len 0 s.k) (judge s)) first
        (out-each (range_with_len 0 s.k) (judge s) closed.process first.name (out-judge s)) in
        out-then judged (for_each (range_with_len 0 s.k) (take_over_if s)) middle
        (out-each (range_with_len 0 s.k) (take_over_if s) judged.process middle.name out-take)

    pub received-out : (v : State) (y : ProcessId) (m : Message) (p : Process) → p.name ≡ x → y ≢ x → MayStand s v y x m → Outward (receive s y m p)
    received-out v y (tells.Update r d u stable) p own apart may =
        out-when (nat_le (at 0 p.ranks d.0) r.0) p (ack_to y r.0 d.0 u.number (update_taken s d.0 u stable p)) own (record { name = own; others = (apart, tt) })
    received-out v (DataNode e) (tells.Ack r d n) p own apart may = out-quiet p own
    received-out v (ParityNode i) (tells.Ack r d n) p own apart may = out-acknowledge i r.0 d.0 n (head_at p d.0) p own
    received-out v y (tells.Stable r d n) p own apart may = out-when (nat_le (at 0 p.ranks d.0) r.0) p
        (quiet (apply_to s d.0 n p)) own (record { name = own; others = tt })
    received-out v y (tells.Adopt r d base list) p own apart may =
        out-when (nat_le (at 0 p.ranks d.0) r.0) p
        (ack_to y r.0 d.0 (base + length list) (log_adopted s r.0 d.0 base list p)) own
        (record { name = own; others = (apart, tt) })
    received-out v y (tells.ReadBlock session block rows) p own apart may = out-read session block rows p p.name own
        (sym own) (λ same. apart (sym may.0 ∙ same))
    received-out v (DataNode e) (tells.Block session bytes n) p own apart may = record { name = own; others = tt }
    received-out v (ParityNode i) (tells.Block session bytes n) p own apart may = out-quiet p own
    received-out v y (tells.Mark session r block d n) p own apart may = out-mark (parity_number session.leader) session.number r.0 block d.0 n p own
    received-out v (DataNode e) (tells.Row session bytes stamp) p own apart may = out-quiet p own
    received-out v (ParityNode i) (tells.Row session bytes stamp) p own apart may = record { name = own; others = tt }
    received-out v (DataNode e) (tells.Cease upto) p own apart may = out-quiet p own
    received-out v (ParityNode i) (tells.Cease upto) p own apart may = record { name = own; others = tt }
    received-out v y (tells.Notice dead) p own apart may = out-notice dead p own
