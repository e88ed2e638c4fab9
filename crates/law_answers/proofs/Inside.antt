-- Every step sends to processes of the group alone.
use Rattle.std.proofs.Common.{ℕ, zero, suc, ◌≡◌, ◌<◌, ◌+◌, ◌==◌, nat_le, Bool, true, false, not, ◌&&◌, List, [], ◌∷◌}
use Rattle.std.proofs.Common.{◌++◌, length, map, filter, flat_map, All, Option, Some, None, refl, sym, ap, subst, arith}
use Rattle.std.proofs.Common.{cond}
use Rattle.std.specs.List.{list_any, range_with_len}
use Rattle.group_types.specs.Dimensions.{Dimensions, space_of}
use Rattle.group_types.specs.Hash.{home_of}
use Rattle.group_types.specs.Lists.{at}
use Rattle.group_types.specs.Names.{IsProcess, same_process}
use Rattle.group_types.specs.declared.process.ProcessId.{ProcessId}
use Rattle.group_types.specs.declared.process.ProcessId.TheVariants.{DataNode, ParityNode}
use Rattle.group_types.specs.Each.{Each}
use Rattle.group_types.proofs.Eaches.{each-append, each-take, each-map}
use Rattle.membership.specs.Members.{knows_dead}
use Rattle.memc_table.specs.Act.{key_of}
use Rattle.memc_table.specs.Asked.{Asked}
use Rattle.group_message.specs.declared.message.Message.{Message}
use Rattle.group_message.specs.declared.message.Message.TheVariants as tells
use Rattle.group_message.specs.declared.message.Session.{Session}
use Rattle.group_message.specs.declared.update.Update.{Update}
use Rattle.group_calls.specs.Turns.{CallName}
use Rattle.group_calls.specs.declared.decision.Decision.{Decision}
use Rattle.group_calls.specs.declared.decision.Decision.TheVariants as decides
use Rattle.group_run.specs.Applying.{ProcessStep, Sent, apply_to, for_each, head_at, quiet, replica_of, when, with_head, with_replica}
use Rattle.group_run.specs.Asking.{Oldest, act_on, ask_head, found_at, issued, oldest_inherited, retry_block, ticketed, update_of}
use Rattle.group_run.specs.Deciding.{decide}
use Rattle.group_run.specs.Fitting.{Fits, MarkFits}
use Rattle.group_run.specs.Heading.{acknowledge, acknowledged, judge, judge_head, other_parities, partition, rank, tell_stable, tell_stables, to_others}
use Rattle.group_run.specs.Leaders.{close_sessions, copy_kept, copy_marked, leader_marks, left_of, lost_of, mark_comes}
use Rattle.group_run.specs.Leaders.{mark_taken, own_mark, row_finished, rows_of, session_of, session_opened}
use Rattle.group_run.specs.Leaders.{session_starts, start_session}
use Rattle.group_run.specs.Process.{Copy, Gathering, Head, Process}
use Rattle.group_run.specs.Receiving.{ack_to, death_known, enthroned, log_adopted, notice_comes, read_comes, receive}
use Rattle.group_run.specs.Receiving.{take_over_if, taken_over, takes_over, update_taken}
use Rattle.group_run.specs.Replica.{with_update}
use Rattle.group_run.specs.Rows.{accepts_mark, begin_copy, copy_in, is_marked, marked, parity_number, with_copies, without_copy}
use Rattle.law_moves.proofs.Calls.{each-below}
use Rattle.law_moves.proofs.Members.{IsParity}
use Rattle.law_histories.proofs.Deciding.{RestsWell, decides-well}
use Rattle.law_answers.specs.Steps.{AlwaysSendsInside}
use Rattle.law_answers.proofs.Starting.{copy-led, missing-row, owns-silent, row-named}

all-each : (s : Dimensions) (sent : List Sent) → Each (λ z. IsProcess s z.to) sent → All (λ z. IsProcess s z.to) sent
all-each s [] all k z below = absurd (omega (arith, below))
all-each s (x ∷ xs) all zero z below = all.0
all-each s (x ∷ xs) all (suc k) z below = all-each s xs all.1 k z (omega (arith, below))

each-filter : (P : ℕ → Type 0) (test : ℕ → Bool) (xs : List ℕ) → Each P xs → Each P (filter test xs)
each-filter P test [] all = tt
each-filter P test (x ∷ xs) all = by (test x) (each-filter P test xs all.1) where
  by : (b : Bool) → Each P (filter test xs) → Each P (cond b (x ∷ filter test xs) (filter test xs))
  by true rest = (all.0, rest)
  by false rest = rest

each-from : (m : ℕ) (rows : List ℕ) → All (λ i. i < m) rows → Each (λ i. i < m) rows
each-from m [] all = tt
each-from m (i ∷ rows) all = (all zero 0 (omega arith), each-from m rows (λ k d below. all (suc k) d (omega (arith, below))))

module _ (s : Dimensions) where
  -- each of these messages goes to a process of the group
  abbrev Inside : List Sent → Type 0
  Inside sent = Each (λ z. IsProcess s z.to) sent

  inside-append : (a b : List Sent) → Inside a → Inside b → Inside (a ++ b)
  inside-append a b first next = each-append (λ z. IsProcess s z.to) a b first next

  inside-rows : (f : ℕ → Message) (is : List ℕ) → Each (λ i. i < s.m) is → Inside (map (λ i. record { to = ParityNode i; message = f i }) is)
  inside-rows f is all = each-map (λ (z : Sent). IsProcess s z.to) (λ i. record { to = ParityNode i; message = f i }) is all

  inside-flat : (f : ℕ → List Sent) → ((x : ℕ) → Inside (f x)) → (xs : List ℕ) → Inside (flat_map f xs)
  inside-flat f each [] = tt
  inside-flat f each (x ∷ xs) = inside-append (f x) (flat_map f xs) (each x) (inside-flat f each xs)

  inside-others : (p : Process) (m : Message) → Inside (to_others s p m)
  inside-others p m = inside-rows (λ i. m) (other_parities s.m p.name p.known)
      (each-filter (λ i. i < s.m)
      (λ i. not (same_process p.name (ParityNode i)) && not (knows_dead p.known (ParityNode i)))
      (range_with_len 0 s.m) (each-below s.m))

  inside-when : (b : Bool) (p : Process) (t : ProcessStep) → Inside t.sent → Inside (when b p t).sent
  inside-when true p t inside = inside
  inside-when false p t inside = tt

  inside-each : (xs : List ℕ) (f : ℕ → Process → ProcessStep) (p : Process) → ((x : ℕ) (r : Process) → Inside (f x r).sent) → Inside (for_each xs f p).sent
  inside-each [] f p each = tt
  inside-each (x ∷ xs) f p each = inside-append (f x p).sent (for_each xs f (f x p).process).sent (each x p) (inside-each xs f (f x p).process each)

  inside-judge : (d : ℕ) (p : Process) → Inside (judge s d p).sent
  inside-judge d p = by (head_at p d) where
    by : (o : Option Head) → Inside (judge_head s d p o).sent
    by None = tt
    by (Some h) = tt

  inside-acknowledge : (i r d n : ℕ) (h : Option Head) (p : Process) → Inside (acknowledge s i r d n h p).sent
  inside-acknowledge i r d n None p = tt
  inside-acknowledge i r d n (Some h) p = let after : Process = with_head d (Some (acknowledged i n h)) p in inside-when (r == h.rank) p (judge s d after)
      (inside-judge d after)

  -- a mark
  inside-row : (own : Bool) (c : Copy) (p : Process) → c.leader < s.m → Inside (row_finished own s c p).sent
  inside-row true c p low = tt
  inside-row false c p low = (low, tt)

  inside-kept : (all : Bool) (c : Copy) (p : Process) → c.leader < s.m → Inside (copy_kept all s c p).sent
  inside-kept true c p low = inside-row (same_process p.name (ParityNode c.leader)) c (with_copies (without_copy c.leader c.number p.as_row.copies) p) low
  inside-kept false c p low = tt

  inside-marked : (d n : ℕ) (o : Option Copy) (p : Process) → ((c : Copy) → o ≡ Some c → c.leader < s.m) → Inside (copy_marked s d n o p).sent
  inside-marked d n None p low = tt
  inside-marked d n (Some c) p low = inside-kept (is_marked s (marked d n c)) (marked d n c) p (low c refl)

  inside-mark : (leader number r block d n : ℕ) (p : Process) → (accepts_mark p leader number r d ≡ true → leader < s.m)
      → Inside (mark_comes s leader number r block d n p).sent
  inside-mark leader number r block d n p low = by (accepts_mark p leader number r d) refl where
    after : Process
    after = apply_to s d n (begin_copy s leader number block p)

    by : (b : Bool) → accepts_mark p leader number r d ≡ b → Inside (when b p (mark_taken s leader number block d n p)).sent
    by true takes = inside-marked d n (copy_in after.as_row.copies leader number) after
        (λ c is. let same = copy-led after.as_row.copies leader number c is in let below = low takes in omega (arith, same, below))
    by false takes = tt

  -- a question, and a notice
  inside-read : (p : Process) (session : Session) (block : ℕ) (rows : List ℕ) (name : ProcessId) → IsProcess s session.leader → Each (λ i. i < s.m) rows
      → Inside (read_comes s session block rows p name).sent
  inside-read p session block rows (ParityNode i) leader low = tt
  inside-read p session block rows (DataNode d) leader low =
      (leader, inside-rows (λ i. tells.Mark session (rank 0) block (partition d) (replica_of p d).applied) rows low)

  inside-close : (gs : List Gathering) (p : Process) → Inside (close_sessions s gs p).sent
  inside-close [] p = tt
  inside-close (g ∷ gs) p = inside-others p (tells.Cease p.as_leader.last_session)

  inside-take : (d : ℕ) (p : Process) → Inside (take_over_if s d p).sent
  inside-take d p =
      let r : ℕ = suc (parity_number p.name) in
      let adopt : Message = tells.Adopt (rank r) (partition d) (replica_of p d).applied (replica_of p d).log in
      let after : Process = enthroned s r d p in
      inside-when (takes_over p d p.name) p (taken_over s d p)
      (inside-append (to_others s p adopt) (judge s d after).sent (inside-others p adopt) (inside-judge d after))

  inside-notice : (dead : ProcessId) (p : Process) → Inside (notice_comes s dead p).sent
  inside-notice dead p =
      let known : Process = death_known dead p in
      let closed : ProcessStep = close_sessions s known.as_leader.sessions known in
      let judged : ProcessStep = for_each (range_with_len 0 s.k) (judge s) closed.process in
      let taken : ProcessStep = for_each (range_with_len 0 s.k) (take_over_if s) judged.process in
      inside-append (closed.sent ++ judged.sent) taken.sent
      (inside-append closed.sent judged.sent (inside-close known.as_leader.sessions known)
      (inside-each (range_with_len 0 s.k) (judge s) closed.process inside-judge))
      (inside-each (range_with_len 0 s.k) (take_over_if s) judged.process inside-take)

  leader-in : (session : Session) → (l : ℕ) × (session.leader ≡ ParityNode l) × (l < s.m) → IsProcess s session.leader
  leader-in session led = subst (IsProcess s) (sym led.1) led.2

  number-low : (session : Session) → (l : ℕ) × (session.leader ≡ ParityNode l) × (l < s.m) → parity_number session.leader < s.m
  number-low session led = let is = ap parity_number led.1 in let low = led.2 in omega (arith, is, low)

  inside-received : (x : ProcessId) (m : Message) (p : Process) → IsProcess s x → Fits s x m p → Inside (receive s x m p).sent
  inside-received x (tells.Update r d u stable) p xin fits = inside-when (nat_le (at 0 p.ranks d.0) r.0) p
      (ack_to x r.0 d.0 u.number (update_taken s d.0 u stable p)) (xin, tt)
  inside-received x (tells.Stable r d n) p xin fits = inside-when (nat_le (at 0 p.ranks d.0) r.0) p (quiet (apply_to s d.0 n p)) tt
  inside-received x (tells.Adopt r d base list) p xin fits = inside-when (nat_le (at 0 p.ranks d.0) r.0) p
      (ack_to x r.0 d.0 (base + length list) (log_adopted s r.0 d.0 base list p)) (xin, tt)
  inside-received (DataNode e) (tells.Ack r d n) p xin fits = tt
  inside-received (ParityNode i) (tells.Ack r d n) p xin fits = inside-acknowledge i r.0 d.0 n (head_at p d.0) p
  inside-received x (tells.ReadBlock session block rows) p xin fits = inside-read p session block rows p.name (leader-in session fits.leader)
      (each-from s.m rows fits.in_group)
  inside-received (DataNode e) (tells.Block session bytes n) p xin fits = tt
  inside-received (ParityNode i) (tells.Block session bytes n) p xin fits = tt
  inside-received x (tells.Mark session r block d n) p xin fits = inside-mark (parity_number session.leader) session.number r.0 block d.0 n p low where
    low : accepts_mark p (parity_number session.leader) session.number r.0 d.0 ≡ true → parity_number session.leader < s.m
    low takes = let one : MarkFits s p session block d.0 n = fits takes in number-low session one.leader
  inside-received (DataNode e) (tells.Row session bytes stamp) p xin fits = tt
  inside-received (ParityNode i) (tells.Row session bytes stamp) p xin fits = tt
  inside-received (DataNode e) (tells.Cease upto) p xin fits = tt
  inside-received (ParityNode i) (tells.Cease upto) p xin fits = tt
  inside-received x (tells.Notice dead) p xin fits = inside-notice dead p

  -- a flush
  inside-stable : (p : Process) (d : ℕ) → Inside (tell_stable s p d (head_at p d))
  inside-stable p d = by (head_at p d) where
    by : (o : Option Head) → Inside (tell_stable s p d o)
    by None = tt
    by (Some h) = inside-others p (tells.Stable (rank h.rank) (partition d) (replica_of p d).applied)

  inside-flush : (p : Process) → Inside (tell_stables s p (range_with_len 0 s.k))
  inside-flush p = inside-flat (λ d. tell_stable s p d (head_at p d)) (inside-stable p) (range_with_len 0 s.k)

  -- a call that is asked
  inside-starts : (leader number block : ℕ) (p : Process) → Inside (session_starts s leader number block p)
  inside-starts leader number block p =
      inside-append (map (λ d. record { to = DataNode d; message = tells.ReadBlock (session_of leader number) block (rows_of s p) }) (left_of s p))
      (flat_map (leader_marks s leader number block p) (lost_of s p))
      (each-map (λ (z : Sent). IsProcess s z.to)
      (λ d. record { to = DataNode d; message = tells.ReadBlock (session_of leader number) block (rows_of s p) })
      (left_of s p)
      (each-filter (λ d. d < s.k) (λ d. not (knows_dead p.known (DataNode d))) (range_with_len 0 s.k) (each-below s.k)))
      (inside-flat (leader_marks s leader number block p) marks (lost_of s p))
    where
      marks : (l : ℕ) → Inside (leader_marks s leader number block p l)
      marks l = inside-rows (λ i. tells.Mark (session_of leader number) (rank (at 0 p.ranks l)) block (partition l) (replica_of p l).applied)
          (filter (λ i. not (i == leader)) (rows_of s p))
          (each-filter (λ i. i < s.m) (λ i. not (i == leader)) (rows_of s p)
          (each-take (λ i. i < s.m) (length (lost_of s p)) (filter (λ i. not (knows_dead p.known (ParityNode i))) (range_with_len 0 s.m))
          (each-filter (λ i. i < s.m) (λ i. not (knows_dead p.known (ParityNode i))) (range_with_len 0 s.m) (each-below s.m))))

  inside-start : (block : ℕ) (p : Process) → IsParity p.name → Inside (start_session s block p).sent
  inside-start block p parity =
      let leader : ℕ = parity_number p.name in
      let number : ℕ = suc p.as_leader.last_session in
      let silent = owns-silent s p.name leader number block (lost_of s p) (session_opened s number block p) (row-named p.name parity) in
      inside-append (session_starts s leader number block p) (for_each (lost_of s p) (own_mark s leader number block) (session_opened s number block p)).sent
      (inside-starts leader number block p)
      (subst Inside (sym silent) tt)

  inside-retry : (block : ℕ) (o : Option Oldest) (p : Process) → IsParity p.name → Inside (retry_block s block o p).step.sent
  inside-retry block (Some o) p parity = tt
  inside-retry block None p parity = inside-when (not (list_any (λ g. g.block == block) p.as_leader.sessions)) p
      (start_session s block p) (inside-start block p parity)

  inside-ticketed : (b : Bool) (d : ℕ) (u : Update) (t : ProcessStep) → Inside t.sent → Inside (ticketed b d u t).step.sent
  inside-ticketed true d u t inside = inside
  inside-ticketed false d u t inside = inside

  inside-issued : (d : ℕ) (h : Head) (u : Update) (p : Process) → Inside (issued s d h u p).sent
  inside-issued d h u p =
      let after : Process = with_replica d (with_update u (replica_of p d)) p in
      let update : Message = tells.Update (rank h.rank) (partition d) u (replica_of p d).applied in
      inside-append (to_others s p update) (judge s d after).sent (inside-others p update) (inside-judge d after)

  inside-act : (name : CallName) (op : Asked) (d : ℕ) (h : Head) (p : Process) (decision : Decision) → RestsWell (replica_of p d) (IsParity p.name) decision
      → Inside (act_on s name op d h p decision).step.sent
  inside-act name op d h p (decides.Answer reply) well = tt
  inside-act name op d h p (decides.Retry n) well = tt
  inside-act name op d h p decides.NoSpace well = tt
  inside-act name op d h p (decides.NeedBlock b) well = inside-retry b (oldest_inherited p (range_with_len 0 s.k)) p well
  inside-act name op d h p (decides.Issue body outcome) well =
      let u : Update = update_of name op d body outcome p in
      let t : ProcessStep = issued s d h u p in
      inside-ticketed (nat_le u.number (replica_of t.process d).applied) d u t (inside-issued d h u p)

  inside-ask : (name : CallName) (op : Asked) (d : ℕ) (p : Process) (h : Option Head) → Inside (ask_head s name op d p h).step.sent
  inside-ask name op d p None = tt
  inside-ask name op d p (Some h) =
      inside-act name op d h p (decide (space_of s) h.inherited (replica_of p d) op (found_at s d p p.name))
      (decides-well (space_of s) (replica_of p d) op (found_at s d p p.name) (IsParity p.name) (missing-row s d p p.name) h.inherited)

pub sends_inside : AlwaysSendsInside
sends_inside s p = record {
  asked = λ name op. all-each s _ (inside-ask s name op (home_of (key_of op.act) s.k) p (head_at p (home_of (key_of op.act) s.k)));
  flushed = all-each s _ (inside-flush s p);
  received = λ from m fin fits. all-each s _ (inside-received s from m p fin fits);
}
