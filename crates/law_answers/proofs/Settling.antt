-- What one step settles.
use Rattle.std.proofs.Common.{ℕ, zero, suc, ◌≡◌, ◌≤◌, ◌+◌, ◌-◌, ◌==◌, nat_le, Bool, true, false, not, List, [], ◌∷◌}
use Rattle.std.proofs.Common.{◌++◌, length, take, drop, find, Option, Some, None, refl, ap, ◌∙◌, arith}
use Rattle.std.proofs.lemmas.List.{length-append, length-map, take-append-drop}
use Rattle.std.proofs.lemmas.List.Sums.{sum_by-cons}
use Rattle.std.specs.List.{list_any, range_with_len}
use Rattle.group_types.specs.Dimensions.{Dimensions, space_of}
use Rattle.group_types.specs.Hash.{home_of}
use Rattle.group_types.specs.Lists.{at, put}
use Rattle.group_types.specs.Names.{same_process}
use Rattle.group_types.specs.declared.process.ProcessId.{ProcessId}
use Rattle.group_types.specs.declared.process.ProcessId.TheVariants.{DataNode, ParityNode}
use Rattle.memc_table.specs.Act.{key_of}
use Rattle.memc_table.specs.Asked.{Asked}
use Rattle.group_message.specs.declared.message.Message.{Message}
use Rattle.group_message.specs.declared.message.Message.TheVariants as tells
use Rattle.group_message.specs.declared.message.Session.{Session}
use Rattle.group_message.specs.declared.update.Update.{Update}
use Rattle.group_calls.specs.Turns.{CallName}
use Rattle.group_calls.specs.declared.decision.Decision.{Decision}
use Rattle.group_calls.specs.declared.decision.Decision.TheVariants as decides
use Rattle.group_run.specs.Applying.{ProcessStep, Settlement, and_then, apply_to, for_each, head_at, held_at, quiet, replica_of, when, with_head, with_replica}
use Rattle.group_run.specs.Asking.{Oldest, act_on, ask_head, collect_from, collect_held, found_at, handed_out, is_call}
use Rattle.group_run.specs.Asking.{issued, oldest_inherited, retry_block, ticketed, update_of}
use Rattle.group_run.specs.Deciding.{decide}
use Rattle.group_run.specs.Heading.{acknowledge, acknowledged, judge, judge_head, least_acked, other_parities, settle_to, settlements}
use Rattle.group_run.specs.Leaders.{close_sessions, copy_kept, copy_marked, lost_of, mark_comes, mark_taken, own_mark}
use Rattle.group_run.specs.Leaders.{row_finished, session_opened, start_session}
use Rattle.group_run.specs.Process.{Copy, Gathering, Head, Held, Process}
use Rattle.group_run.specs.Receiving.{ack_to, death_known, enthroned, log_adopted, notice_comes, read_comes, receive}
use Rattle.group_run.specs.Receiving.{take_over_if, taken_over, takes_over, update_taken}
use Rattle.group_run.specs.Replica.{Replica, applied_to, empty_replica, last_of, up_to, with_update}
use Rattle.group_run.specs.Rows.{accepts_mark, begin_copy, copy_in, is_marked, marked, parity_number, with_copies, without_copy}
use Rattle.law_answers.specs.Steps.{AlwaysSettlesFew, waiting}

waiting-cons : (x : Replica) (xs : List Replica) → waiting (x ∷ xs) ≡ length x.log + waiting xs
waiting-cons x xs = sum_by-cons (λ (r : Replica). length r.log) x xs

-- other updates wait in one log
waiting-put : (rs : List Replica) (d : ℕ) (r : Replica) → waiting (put empty_replica rs d r) + length (at empty_replica rs d).log ≡ waiting rs + length r.log
waiting-put [] zero r = let one = waiting-cons r [] in omega (arith, one)
waiting-put [] (suc d) r = let rest = waiting-put [] d r in let more = waiting-cons empty_replica (put empty_replica [] d r) in omega (arith, rest, more)
waiting-put (x ∷ xs) zero r = let before = waiting-cons x xs in let after = waiting-cons r xs in omega (arith, before, after)
waiting-put (x ∷ xs) (suc d) r =
    let rest = waiting-put xs d r in
    let before = waiting-cons x xs in
    let after = waiting-cons x (put empty_replica xs d r) in
    omega (arith, rest, before, after)

-- what a step settles waited before it
abbrev Settles : Process → ProcessStep → Type 0
Settles p t = length t.settled + waiting t.process.replicas ≤ waiting p.replicas

settles-then : (p : Process) (t : ProcessStep) (f : Process → ProcessStep) → Settles p t → Settles t.process (f t.process) → Settles p (and_then t f)
settles-then p t f first next = let both = length-append t.settled (f t.process).settled in omega (arith, first, next, both)

settles-each : (xs : List ℕ) (f : ℕ → Process → ProcessStep) (p : Process) → ((x : ℕ) (r : Process) → Settles r (f x r)) → Settles p (for_each xs f p)
settles-each [] f p each = omega arith
settles-each (x ∷ xs) f p each = settles-then p (f x p) (for_each xs f) (each x p) (settles-each xs f (f x p).process each)

settles-when : (b : Bool) (p : Process) (t : ProcessStep) → Settles p t → Settles p (when b p t)
settles-when true p t step = step
settles-when false p t step = omega arith

-- where a test fails nothing is settled
pub none-when : (b : Bool) (p : Process) (t : ProcessStep) → t.settled ≡ [] → (when b p t).settled ≡ []
none-when true p t none = none
none-when false p t none = refl

none-each : (xs : List ℕ) (f : ℕ → Process → ProcessStep) (p : Process) → ((x : ℕ) (r : Process) → (f x r).settled ≡ []) → (for_each xs f p).settled ≡ []
none-each [] f p each = refl
none-each (x ∷ xs) f p each = ap (λ (us : List Settlement). us ++ (for_each xs f (f x p).process).settled) (each x p) ∙ none-each xs f (f x p).process each

few-none : (p : Process) (us : List Settlement) → us ≡ [] → length us ≤ waiting p.replicas
few-none p us none = let zero_long = ap length none in omega (arith, zero_long)

settlements-many : (d : ℕ) (us : List Update) → length (settlements d us) ≡ length us
settlements-many d us = length-map us _

module _ (s : Dimensions) where
  settles-to : (d n : ℕ) (p : Process) → Settles p (settle_to s d n p)
  settles-to d n p =
      let r : Replica = replica_of p d in
      let parts = length-append (take (n - r.applied) r.log) (drop (n - r.applied) r.log) in
      let whole = ap (λ (us : List Update). length us) (take-append-drop (n - r.applied) r.log) in
      let many = settlements-many d (up_to n r) in
      let put_in = waiting-put p.replicas d (applied_to n r) in
      omega (arith, parts, whole, many, put_in)

  settles-judge_head : (d : ℕ) (p : Process) (h : Option Head) → Settles p (judge_head s d p h)
  settles-judge_head d p None = omega arith
  settles-judge_head d p (Some h) = settles-to d (least_acked h (last_of (replica_of p d)) (other_parities s.m p.name p.known)) p

  settles-judge : (d : ℕ) (p : Process) → Settles p (judge s d p)
  settles-judge d p = settles-judge_head d p (head_at p d)

  acknowledge-few : (i r d n : ℕ) (h : Option Head) (p : Process) → length (acknowledge s i r d n h p).settled ≤ waiting p.replicas
  acknowledge-few i r d n None p = omega arith
  acknowledge-few i r d n (Some h) p =
      let after : Process = with_head d (Some (acknowledged i n h)) p in
      let most : Settles p (when (r == h.rank) p (judge s d after)) = settles-when (r == h.rank) p (judge s d after) (settles-judge d after) in
      omega (arith, most)

  -- a mark settles nothing
  row-none : (own : Bool) (c : Copy) (p : Process) → (row_finished own s c p).settled ≡ []
  row-none true c p = refl
  row-none false c p = refl

  kept-none : (all : Bool) (c : Copy) (p : Process) → (copy_kept all s c p).settled ≡ []
  kept-none true c p = row-none (same_process p.name (ParityNode c.leader)) c (with_copies (without_copy c.leader c.number p.as_row.copies) p)
  kept-none false c p = refl

  marked-none : (d n : ℕ) (c : Option Copy) (p : Process) → (copy_marked s d n c p).settled ≡ []
  marked-none d n None p = refl
  marked-none d n (Some c) p = kept-none (is_marked s (marked d n c)) (marked d n c) p

  mark-none : (l number r block d n : ℕ) (p : Process) → (mark_comes s l number r block d n p).settled ≡ []
  mark-none l number r block d n p =
      let after : Process = apply_to s d n (begin_copy s l number block p) in
      none-when (accepts_mark p l number r d) p (mark_taken s l number block d n p) (marked-none d n (copy_in after.as_row.copies l number) after)

  read-none : (p : Process) (session : Session) (block : ℕ) (rows : List ℕ) (name : ProcessId) → (read_comes s session block rows p name).settled ≡ []
  read-none p session block rows (ParityNode i) = refl
  read-none p session block rows (DataNode d) = refl

  -- a notice
  settles-close : (gs : List Gathering) (p : Process) → Settles p (close_sessions s gs p)
  settles-close [] p = omega arith
  settles-close (g ∷ gs) p = omega arith

  settles-take : (d : ℕ) (p : Process) → Settles p (take_over_if s d p)
  settles-take d p = settles-when (takes_over p d p.name) p (taken_over s d p) (settles-judge d (enthroned s (suc (parity_number p.name)) d p))

  known-waiting : (dead : ProcessId) (p : Process) → waiting (death_known dead p).replicas ≡ waiting p.replicas
  known-waiting (DataNode e) p = refl
  known-waiting (ParityNode i) p = refl

  notice-few : (dead : ProcessId) (p : Process) → length (notice_comes s dead p).settled ≤ waiting p.replicas
  notice-few dead p =
      let known : Process = death_known dead p in
      let closed : ProcessStep = close_sessions s known.as_leader.sessions known in
      let judged : ProcessStep = and_then closed (for_each (range_with_len 0 s.k) (judge s)) in
      let same = known-waiting dead p in
      let first : Settles known judged = settles-then known closed (for_each (range_with_len 0 s.k) (judge s)) (settles-close known.as_leader.sessions known)
      (settles-each (range_with_len 0 s.k) (judge s) closed.process settles-judge) in
      let whole : Settles known (notice_comes s dead p) = settles-then known judged (for_each (range_with_len 0 s.k) (take_over_if s)) first
      (settles-each (range_with_len 0 s.k) (take_over_if s) judged.process settles-take) in
      omega (arith, same, whole)

  receive-few : (x : ProcessId) (m : Message) (p : Process) → length (receive s x m p).settled ≤ waiting p.replicas
  receive-few x (tells.Update r d u stable) p = few-none p _
      (none-when (nat_le (at 0 p.ranks d.0) r.0) p (ack_to x r.0 d.0 u.number (update_taken s d.0 u stable p)) refl)
  receive-few (DataNode e) (tells.Ack r d n) p = omega arith
  receive-few (ParityNode i) (tells.Ack r d n) p = acknowledge-few i r.0 d.0 n (head_at p d.0) p
  receive-few x (tells.Stable r d n) p = few-none p _ (none-when (nat_le (at 0 p.ranks d.0) r.0) p (quiet (apply_to s d.0 n p)) refl)
  receive-few x (tells.Adopt r d base list) p = few-none p _
      (none-when (nat_le (at 0 p.ranks d.0) r.0) p (ack_to x r.0 d.0 (base + length list) (log_adopted s r.0 d.0 base list p)) refl)
  receive-few x (tells.ReadBlock session block rows) p = few-none p _ (read-none p session block rows p.name)
  receive-few (DataNode e) (tells.Block session bytes n) p = omega arith
  receive-few (ParityNode i) (tells.Block session bytes n) p = omega arith
  receive-few x (tells.Mark session r block d n) p = few-none p _ (mark-none (parity_number session.leader) session.number r.0 block d.0 n p)
  receive-few (DataNode e) (tells.Row session bytes stamp) p = omega arith
  receive-few (ParityNode i) (tells.Row session bytes stamp) p = omega arith
  receive-few (DataNode e) (tells.Cease upto) p = omega arith
  receive-few (ParityNode i) (tells.Cease upto) p = omega arith
  receive-few x (tells.Notice dead) p = notice-few dead p

  -- a call that is asked
  start-none : (block : ℕ) (p : Process) → (start_session s block p).settled ≡ []
  start-none block p =
      let leader : ℕ = parity_number p.name in
      let number : ℕ = suc p.as_leader.last_session in
      none-each (lost_of s p) (own_mark s leader number block) (session_opened s number block p)
      (λ l r. mark-none leader number (at 0 r.ranks l) block l (replica_of r l).applied r)

  retry-none : (block : ℕ) (o : Option Oldest) (p : Process) → (retry_block s block o p).step.settled ≡ []
  retry-none block (Some o) p = refl
  retry-none block None p = none-when (not (list_any (λ g. g.block == block) p.as_leader.sessions)) p (start_session s block p) (start-none block p)

  ticketed-settled : (b : Bool) (d : ℕ) (u : Update) (t : ProcessStep) → (ticketed b d u t).step.settled ≡ t.settled
  ticketed-settled true d u t = refl
  ticketed-settled false d u t = refl

  issued-few : (d : ℕ) (h : Head) (u : Update) (p : Process) → length (issued s d h u p).settled ≤ suc (waiting p.replicas)
  issued-few d h u p =
      let after : Process = with_replica d (with_update u (replica_of p d)) p in
      let most : Settles after (judge s d after) = settles-judge d after in
      let put_in = waiting-put p.replicas d (with_update u (replica_of p d)) in
      let longer = length-append (replica_of p d).log (u ∷ []) in
      omega (arith, most, put_in, longer)

  act-few : (name : CallName) (op : Asked) (d : ℕ) (h : Head) (p : Process) (decision : Decision)
      → length (act_on s name op d h p decision).step.settled ≤ suc (waiting p.replicas)
  act-few name op d h p (decides.Answer reply) = omega arith
  act-few name op d h p (decides.Retry n) = omega arith
  act-few name op d h p decides.NoSpace = omega arith
  act-few name op d h p (decides.NeedBlock b) = let none = ap length (retry-none b (oldest_inherited p (range_with_len 0 s.k)) p) in omega (arith, none)
  act-few name op d h p (decides.Issue body outcome) =
      let u : Update = update_of name op d body outcome p in
      let t : ProcessStep = issued s d h u p in
      let same = ap length (ticketed-settled (nat_le u.number (replica_of t.process d).applied) d u t) in
      let few = issued-few d h u p in
      omega (arith, same, few)

  ask-few : (name : CallName) (op : Asked) (d : ℕ) (p : Process) (h : Option Head) → length (ask_head s name op d p h).step.settled ≤ suc (waiting p.replicas)
  ask-few name op d p None = omega arith
  ask-few name op d p (Some h) = act-few name op d h p (decide (space_of s) h.inherited (replica_of p d) op (found_at s d p p.name))

-- a collect settles nothing
collect-none : (caller call : ℕ) (p : Process) (ds : List ℕ) → (collect_from caller call p ds).step.settled ≡ []
collect-none caller call p [] = refl
collect-none caller call p (d ∷ ds) = by (find (is_call caller call) (held_at p d)) (collect-none caller call p ds) where
  handed : (b : Bool) (h : Held) → (handed_out b d h p).step.settled ≡ []
  handed true h = refl
  handed false h = refl

  by : (o : Option Held) → (collect_from caller call p ds).step.settled ≡ [] → (collect_held d o p (collect_from caller call p ds)).step.settled ≡ []
  by None rest = rest
  by (Some h) rest = handed (nat_le h.number (replica_of p d).applied) h

pub settles_few : AlwaysSettlesFew
settles_few s p = record {
  asked = λ name op. ask-few s name op (home_of (key_of op.act) s.k) p (head_at p (home_of (key_of op.act) s.k));
  collected = λ caller call. collect-none caller call p (range_with_len 0 s.k);
  flushed = refl;
  received = λ from m. receive-few s from m p;
}
