-- What one message, or a flush, makes a process send to one other.
use Rattle.std.proofs.Common.{ℕ, suc, ◌≡◌, ◌≢◌, ◌<◌, ◌≤◌, ◌+◌, ◌*◌, ◌==◌, nat_le, Bool, true, false, not, ◌&&◌, List}
use Rattle.std.proofs.Common.{[], ◌∷◌, ◌++◌, length, AllPairs, Option, Some, None, refl, ap, arith}
use Rattle.std.proofs.lemmas.List.FromFn.{length-range_with_len}
use Rattle.std.specs.List.{range_with_len}
use Rattle.group_types.specs.Dimensions.{Dimensions}
use Rattle.group_types.specs.Lists.{at}
use Rattle.group_types.specs.Names.{same_process}
use Rattle.group_types.specs.declared.process.ProcessId.{ProcessId}
use Rattle.group_types.specs.declared.process.ProcessId.TheVariants.{DataNode, ParityNode}
use Rattle.membership.specs.Members.{Membership, knows_dead}
use Rattle.group_message.specs.declared.message.Message.{Message}
use Rattle.group_message.specs.declared.message.Message.TheVariants as tells
use Rattle.group_message.specs.declared.message.Session.{Session}
use Rattle.group_run.specs.Applying.{ProcessStep, Sent, apply_to, for_each, head_at, quiet, replica_of, when, with_head}
use Rattle.group_run.specs.Fitting.{Fits}
use Rattle.group_run.specs.Heading.{acknowledge, acknowledged, judge, judge_head, other_parities, partition, rank, tell_stable, tell_stables, to_others}
use Rattle.group_run.specs.Leaders.{close_sessions, copy_kept, copy_marked, mark_comes, mark_taken, row_finished, session_of}
use Rattle.group_run.specs.Process.{Copy, Gathering, Head, Process}
use Rattle.group_run.specs.Receiving.{ack_to, data_marks, death_known, enthroned, log_adopted, notice_comes, read_comes}
use Rattle.group_run.specs.Receiving.{receive, take_over_if, taken_over, takes_over, update_taken}
use Rattle.group_run.specs.Rows.{accepts_mark, begin_copy, block_in, copy_in, is_marked, marked, parity_number, marks_of, with_copies, without_copy}
use Rattle.group_run.specs.Locality.{occurrences}
use Rattle.law_answers.proofs.Counts.{count-append, count-flat, count-one, count-parities, count_to, once-differing, once-range, times-filtered}

-- the other parity processes, each once
once-others : (m : ℕ) (name : ProcessId) (known : Membership) (j : ℕ) → occurrences j (other_parities m name known) ≤ 1
once-others m name known j =
    let less = times-filtered (λ i. not (same_process name (ParityNode i)) && not (knows_dead known (ParityNode i))) j (range_with_len 0 m) in
    let one = once-range j 0 m in
    omega (arith, less, one)

module _ (s : Dimensions) (q : ProcessId) where
  pub others-send : (p : Process) (m : Message) → count_to q (to_others s p m) ≤ 1
  others-send p m = count-parities (λ i. m) q (other_parities s.m p.name p.known) (once-others s.m p.name p.known)

  -- where a test fails nothing is sent
  pub sent-when : (b : Bool) (p : Process) (t : ProcessStep) → count_to q (when b p t).sent ≤ count_to q t.sent
  sent-when true p t = omega arith
  sent-when false p t = omega arith

  -- some steps, each of which sends at most so much
  sent-each : (c : ℕ) (xs : List ℕ) (f : ℕ → Process → ProcessStep) (p : Process) → ((x : ℕ) (r : Process) → count_to q (f x r).sent ≤ c)
      → count_to q (for_each xs f p).sent ≤ length xs * c
  sent-each c [] f p each = omega arith
  sent-each c (x ∷ xs) f p each =
      let here = each x p in
      let rest = sent-each c xs f (f x p).process each in
      let both = count-append q (f x p).sent (for_each xs f (f x p).process).sent in
      omega (arith, here, rest, both)

  -- to judge acknowledgements sends nothing
  pub judge-sends : (d : ℕ) (p : Process) (h : Option Head) → (judge_head s d p h).sent ≡ []
  judge-sends d p None = refl
  judge-sends d p (Some h) = refl

  acknowledge-sends : (i r d n : ℕ) (h : Option Head) (p : Process) → count_to q (acknowledge s i r d n h p).sent ≤ 0
  acknowledge-sends i r d n None p = omega arith
  acknowledge-sends i r d n (Some h) p =
      let after : Process = with_head d (Some (acknowledged i n h)) p in
      let less = sent-when (r == h.rank) p (judge s d after) in
      let none = ap (count_to q) (judge-sends d after (head_at after d)) in
      omega (arith, less, none)

  -- a mark makes a row send its block of code at most
  row-sends : (own : Bool) (c : Copy) (p : Process) → count_to q (row_finished own s c p).sent ≤ 1
  row-sends true c p = omega arith
  row-sends false c p = count-one q (ParityNode c.leader) (tells.Row (session_of c.leader c.number) c.bytes (marks_of s c))

  kept-sends : (all : Bool) (c : Copy) (p : Process) → count_to q (copy_kept all s c p).sent ≤ 1
  kept-sends true c p = row-sends (same_process p.name (ParityNode c.leader)) c (with_copies (without_copy c.leader c.number p.as_row.copies) p)
  kept-sends false c p = omega arith

  marked-sends : (d n : ℕ) (c : Option Copy) (p : Process) → count_to q (copy_marked s d n c p).sent ≤ 1
  marked-sends d n None p = omega arith
  marked-sends d n (Some c) p = kept-sends (is_marked s (marked d n c)) (marked d n c) p

  mark-sends : (l number r block d n : ℕ) (p : Process) → count_to q (mark_comes s l number r block d n p).sent ≤ 1
  mark-sends l number r block d n p =
      let after : Process = apply_to s d n (begin_copy s l number block p) in
      let less = sent-when (accepts_mark p l number r d) p (mark_taken s l number block d n p) in
      let few = marked-sends d n (copy_in after.as_row.copies l number) after in
      omega (arith, less, few)

  -- a question is answered by a block, and by marks for the rows
  read-sends : (p : Process) (session : Session) (block : ℕ) (rows : List ℕ) (name : ProcessId) → AllPairs (λ i j. i ≢ j) rows
      → count_to q (read_comes s session block rows p name).sent ≤ 2
  read-sends p session block rows (ParityNode i) differ = omega arith
  read-sends p session block rows (DataNode d) differ =
      let n : ℕ = (replica_of p d).applied in
      let first : List Sent = record { to = session.leader; message = tells.Block session (block_in s block p.space) n } ∷ [] in
      let one = count-one q session.leader (tells.Block session (block_in s block p.space) n) in
      let both = count-append q first (data_marks session block d n rows) in
      let marks = count-parities (λ i. tells.Mark session (rank 0) block (partition d) n) q rows (λ j. once-differing j rows differ) in
      omega (arith, one, both, marks)

  -- a notice makes a leader close its sessions, and take over the partitions
  close-sends : (gs : List Gathering) (p : Process) → count_to q (close_sessions s gs p).sent ≤ 1
  close-sends [] p = omega arith
  close-sends (g ∷ gs) p = others-send p (tells.Cease p.as_leader.last_session)

  taken-sends : (d : ℕ) (p : Process) → count_to q (taken_over s d p).sent ≤ 1
  taken-sends d p =
      let r : ℕ = suc (parity_number p.name) in
      let adopt : Message = tells.Adopt (rank r) (partition d) (replica_of p d).applied (replica_of p d).log in
      let after : Process = enthroned s r d p in
      let both = count-append q (to_others s p adopt) (judge s d after).sent in
      let first = others-send p adopt in
      let none = ap (count_to q) (judge-sends d after (head_at after d)) in
      omega (arith, both, first, none)

  take-sends : (d : ℕ) (p : Process) → count_to q (take_over_if s d p).sent ≤ 1
  take-sends d p = let less = sent-when (takes_over p d p.name) p (taken_over s d p) in let few = taken-sends d p in omega (arith, less, few)

  notice-sends : (dead : ProcessId) (p : Process) → count_to q (notice_comes s dead p).sent ≤ suc s.k
  notice-sends dead p =
      let known : Process = death_known dead p in
      let closed : ProcessStep = close_sessions s known.as_leader.sessions known in
      let judged : ProcessStep = for_each (range_with_len 0 s.k) (judge s) closed.process in
      let taken : ProcessStep = for_each (range_with_len 0 s.k) (take_over_if s) judged.process in
      let one = close-sends known.as_leader.sessions known in
      let two = sent-each 0 (range_with_len 0 s.k) (judge s) closed.process
      (λ d r. let none = ap (count_to q) (judge-sends d r (head_at r d)) in omega (arith, none)) in
      let three = sent-each 1 (range_with_len 0 s.k) (take_over_if s) judged.process take-sends in
      let front = count-append q closed.sent judged.sent in
      let whole = count-append q (closed.sent ++ judged.sent) taken.sent in
      let many = length-range_with_len 0 s.k in
      omega (arith, one, two, three, front, whole, many)

  pub receive-sends : 0 < s.k → (x : ProcessId) (m : Message) (p : Process) → Fits s x m p → count_to q (receive s x m p).sent ≤ suc s.k
  receive-sends some x (tells.Update r d u stable) p fits =
      let less = sent-when (nat_le (at 0 p.ranks d.0) r.0) p (ack_to x r.0 d.0 u.number (update_taken s d.0 u stable p)) in
      let one = count-one q x (tells.Ack (rank r.0) (partition d.0) u.number) in
      omega (arith, less, one)
  receive-sends some (DataNode e) (tells.Ack r d n) p fits = omega arith
  receive-sends some (ParityNode i) (tells.Ack r d n) p fits = let none = acknowledge-sends i r.0 d.0 n (head_at p d.0) p in omega (arith, none)
  receive-sends some x (tells.Stable r d n) p fits = let less = sent-when (nat_le (at 0 p.ranks d.0) r.0) p (quiet (apply_to s d.0 n p)) in omega (arith, less)
  receive-sends some x (tells.Adopt r d base list) p fits =
      let less = sent-when (nat_le (at 0 p.ranks d.0) r.0) p (ack_to x r.0 d.0 (base + length list) (log_adopted s r.0 d.0 base list p)) in
      let one = count-one q x (tells.Ack (rank r.0) (partition d.0) (base + length list)) in
      omega (arith, less, one)
  receive-sends some x (tells.ReadBlock session block rows) p fits = let two = read-sends p session block rows p.name fits.differ in omega (arith, two, some)
  receive-sends some (DataNode e) (tells.Block session bytes n) p fits = omega arith
  receive-sends some (ParityNode i) (tells.Block session bytes n) p fits = omega arith
  receive-sends some x (tells.Mark session r block d n) p fits = let one = mark-sends (parity_number session.leader) session.number r.0 block d.0 n p in omega
      (arith, one)
  receive-sends some (DataNode e) (tells.Row session bytes stamp) p fits = omega arith
  receive-sends some (ParityNode i) (tells.Row session bytes stamp) p fits = omega arith
  receive-sends some (DataNode e) (tells.Cease upto) p fits = omega arith
  receive-sends some (ParityNode i) (tells.Cease upto) p fits = omega arith
  receive-sends some x (tells.Notice dead) p fits = notice-sends dead p

  -- a head tells the others how far it has settled
  stable-sends : (p : Process) (d : ℕ) (h : Option Head) → count_to q (tell_stable s p d h) ≤ 1
  stable-sends p d None = omega arith
  stable-sends p d (Some h) = others-send p (tells.Stable (rank h.rank) (partition d) (replica_of p d).applied)

  pub flush-sends : (p : Process) → count_to q (tell_stables s p (range_with_len 0 s.k)) ≤ suc s.k
  flush-sends p =
      let each = count-flat q (λ d. tell_stable s p d (head_at p d)) 1 (λ d. stable-sends p d (head_at p d)) (range_with_len 0 s.k) in
      let many = length-range_with_len 0 s.k in
      omega (arith, each, many)
