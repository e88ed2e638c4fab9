-- What a process sends on receiving a message weighs less in all than the message.
use Rattle.std.proofs.Common.{ℕ, suc, ◌≡◌, ◌<◌, ◌≤◌, ◌+◌, ◌*◌, Bool, true, false, not, nat_le, ◌==◌, ◌&&◌, List, []}
use Rattle.std.proofs.Common.{◌∷◌, ◌++◌, length, filter, Option, Some, None, refl, arith, cond}
use Rattle.std.proofs.lemmas.List.FromFn.{length-range_with_len}
use Rattle.std.specs.List.{range_with_len}
use Rattle.group_types.specs.Dimensions.{Dimensions}
use Rattle.group_types.specs.Lists.{at}
use Rattle.group_types.specs.Names.{same_process}
use Rattle.group_types.specs.Shape.{IsShape}
use Rattle.group_types.specs.declared.process.ProcessId.{ProcessId}
use Rattle.group_types.specs.declared.process.ProcessId.TheVariants.{DataNode, ParityNode}
use Rattle.membership.specs.Members.{Membership, knows_dead}
use Rattle.group_message.specs.declared.message.Message.{Message}
use Rattle.group_message.specs.declared.message.Message.TheVariants as tells
use Rattle.group_message.specs.declared.message.Session.{Session}
use Rattle.group_run.specs.Applying.{ProcessStep, Sent, apply_to, for_each, head_at, quiet, replica_of, when, with_head}
use Rattle.group_run.specs.Heading.{acknowledge, acknowledged, judge, judge_head, other_parities, partition, rank, to_others, to_parities}
use Rattle.group_run.specs.Leaders.{close_sessions, copy_kept, copy_marked, mark_comes, mark_taken, row_finished}
use Rattle.group_run.specs.Process.{Copy, Gathering, Head, Process}
use Rattle.group_run.specs.Progress.{weight_of}
use Rattle.group_run.specs.Receiving.{ack_to, log_adopted, update_taken, data_marks, death_known, enthroned}
use Rattle.group_run.specs.Receiving.{notice_comes, read_comes, receive, take_over_if, taken_over, takes_over}
use Rattle.group_run.specs.Rows.{accepts_mark, begin_copy, copy_in, is_marked, marked, parity_number, with_copies, without_copy}

-- the weight of what is sent
abbrev pub sent_weight : List Sent → ℕ
sent_weight [] = 0
sent_weight (z ∷ zs) = weight_of z.message + sent_weight zs

pub sent-append : (a b : List Sent) → sent_weight (a ++ b) ≡ sent_weight a + sent_weight b
sent-append [] b = omega arith
sent-append (z ∷ zs) b = let rest = sent-append zs b in omega (arith, rest)

-- one message to each of some parity processes
to-parities : (is : List ℕ) (m : Message) → weight_of m ≤ 2 → sent_weight (to_parities is m) ≤ length is * 2
to-parities [] m light = omega arith
to-parities (i ∷ is) m light = let rest = to-parities is m light in omega (arith, rest, light)

length-filtered : (test : ℕ → Bool) (xs : List ℕ) → length (filter test xs) ≤ length xs
length-filtered test [] = omega arith
length-filtered test (x ∷ xs) = by (test x) (length-filtered test xs) where
  by : (b : Bool) → length (filter test xs) ≤ length xs → length (cond b (x ∷ filter test xs) (filter test xs)) ≤ suc (length xs)
  by true rest = omega (arith, rest)
  by false rest = omega (arith, rest)

few-others : (m : ℕ) (name : ProcessId) (known : Membership) → length (other_parities m name known) ≤ m
few-others m name known =
    let less = length-filtered (λ i. not (same_process name (ParityNode i)) && not (knows_dead known (ParityNode i))) (range_with_len 0 m) in
    let long = length-range_with_len 0 m in
    omega (arith, less, long)

-- where a test fails nothing is sent
sent-when : (b : Bool) (p : Process) (t : ProcessStep) → sent_weight (when b p t).sent ≤ sent_weight t.sent
sent-when true p t = omega arith
sent-when false p t = omega arith

-- some steps, each of which sends at most so much
sent-each : (c : ℕ) (xs : List ℕ) (f : ℕ → Process → ProcessStep) (p : Process) → ((x : ℕ) (q : Process) → sent_weight (f x q).sent ≤ c)
    → sent_weight (for_each xs f p).sent ≤ length xs * c
sent-each c [] f p each = omega arith
sent-each c (x ∷ xs) f p each =
    let here = each x p in
    let rest = sent-each c xs f (f x p).process each in
    let both = sent-append (f x p).sent (for_each xs f (f x p).process).sent in
    omega (arith, here, rest, both)

-- to judge acknowledgements sends nothing
judge-sends : (s : Dimensions) (d : ℕ) (p : Process) (h : Option Head) → sent_weight (judge_head s d p h).sent ≡ 0
judge-sends s d p None = refl
judge-sends s d p (Some h) = refl

acknowledge-sends : (s : Dimensions) (i r d n : ℕ) (h : Option Head) (p : Process) → sent_weight (acknowledge s i r d n h p).sent ≤ 0
acknowledge-sends s i r d n None p = omega arith
acknowledge-sends s i r d n (Some h) p =
    let q : Process = with_head d (Some (acknowledged i n h)) p in
    let less = sent-when (r == h.rank) p (judge s d q) in
    let none = judge-sends s d q (head_at q d) in
    omega (arith, less, none)

-- a mark makes a row send its block of code at most
row-sends : (s : Dimensions) (own : Bool) (c : Copy) (p : Process) → sent_weight (row_finished own s c p).sent ≤ 1
row-sends s true c p = omega arith
row-sends s false c p = omega arith

kept-sends : (s : Dimensions) (all : Bool) (c : Copy) (p : Process) → sent_weight (copy_kept all s c p).sent ≤ 1
kept-sends s true c p = row-sends s (same_process p.name (ParityNode c.leader)) c (with_copies (without_copy c.leader c.number p.as_row.copies) p)
kept-sends s false c p = omega arith

marked-sends : (s : Dimensions) (d n : ℕ) (c : Option Copy) (p : Process) → sent_weight (copy_marked s d n c p).sent ≤ 1
marked-sends s d n None p = omega arith
marked-sends s d n (Some c) p = kept-sends s (is_marked s (marked d n c)) (marked d n c) p

mark-sends : (s : Dimensions) (l number r block d n : ℕ) (p : Process) → sent_weight (mark_comes s l number r block d n p).sent ≤ 1
mark-sends s l number r block d n p =
    let q : Process = apply_to s d n (begin_copy s l number block p) in
    let less = sent-when (accepts_mark p l number r d) p (mark_taken s l number block d n p) in
    let few = marked-sends s d n (copy_in q.as_row.copies l number) q in
    omega (arith, less, few)

-- the marks for the rows of a session
marks-send : (session : Session) (block d n : ℕ) (rows : List ℕ) → sent_weight (data_marks session block d n rows) ≡ length rows * 2
marks-send session block d n [] = refl
marks-send session block d n (i ∷ rows) = let rest = marks-send session block d n rows in omega (arith, rest)

read-sends : (s : Dimensions) (session : Session) (block : ℕ) (rows : List ℕ) (p : Process) (name : ProcessId) → length rows ≤ 4
    → sent_weight (read_comes s session block rows p name).sent < 10
read-sends s session block rows p (ParityNode i) few = omega arith
read-sends s session block rows p (DataNode d) few = let marks = marks-send session block d (replica_of p d).applied rows in omega (arith, marks, few)

-- a question names at most as many rows as there may be parity processes
abbrev pub FewRows : Message → Type 0
FewRows (tells.ReadBlock session block rows) = length rows ≤ 4
FewRows _ = Unit {0}

module _ (s : Dimensions) (shaped : IsShape s) where
  others-send : (p : Process) (m : Message) → weight_of m ≤ 2 → sent_weight (to_others s p m) ≤ 8
  others-send p m light =
      let sends = to-parities (other_parities s.m p.name p.known) m light in
      let few = few-others s.m p.name p.known in
      let most = shaped.m in
      omega (arith, sends, few, most)

  close-sends : (gs : List Gathering) (p : Process) → sent_weight (close_sessions s gs p).sent ≤ 8
  close-sends [] p = omega arith
  close-sends (g ∷ gs) p = others-send p (tells.Cease p.as_leader.last_session) (omega arith)

  taken-sends : (d : ℕ) (p : Process) → sent_weight (taken_over s d p).sent ≤ 8
  taken-sends d p =
      let r : ℕ = suc (parity_number p.name) in
      let adopts : List Sent = to_others s p (tells.Adopt (rank r) (partition d) (replica_of p d).applied (replica_of p d).log) in
      let q : Process = enthroned s r d p in
      let both = sent-append adopts (judge s d q).sent in
      let first = others-send p (tells.Adopt (rank r) (partition d) (replica_of p d).applied (replica_of p d).log) (omega arith) in
      let none = judge-sends s d q (head_at q d) in
      omega (arith, both, first, none)

  take-sends : (d : ℕ) (p : Process) → sent_weight (take_over_if s d p).sent ≤ 8
  take-sends d p = let less = sent-when (takes_over p d p.name) p (taken_over s d p) in let few = taken-sends d p in omega (arith, less, few)

  -- a notice makes a leader close its sessions, and take over the partitions
  notice-sends : (dead : ProcessId) (p : Process) → sent_weight (notice_comes s dead p).sent < 200
  notice-sends dead p =
      let q : Process = death_known dead p in
      let closed : ProcessStep = close_sessions s q.as_leader.sessions q in
      let judged : ProcessStep = for_each (range_with_len 0 s.k) (judge s) closed.process in
      let taken : ProcessStep = for_each (range_with_len 0 s.k) (take_over_if s) judged.process in
      let one = close-sends q.as_leader.sessions q in
      let two = sent-each 0 (range_with_len 0 s.k) (judge s) closed.process (λ d r. let none = judge-sends s d r (head_at r d) in omega (arith, none)) in
      let three = sent-each 8 (range_with_len 0 s.k) (take_over_if s) judged.process take-sends in
      let front = sent-append closed.sent judged.sent in
      let whole = sent-append (closed.sent ++ judged.sent) taken.sent in
      let many = length-range_with_len 0 s.k in
      let most = shaped.k.1 in
      omega (arith, one, two, three, front, whole, many, most)

  pub receive-sends : (x : ProcessId) (m : Message) (p : Process) → FewRows m → sent_weight (receive s x m p).sent < weight_of m
  receive-sends x (tells.Update r d u stable) p few = let less = sent-when (nat_le (at 0 p.ranks d.0) r.0) p
      (ack_to x r.0 d.0 u.number (update_taken s d.0 u stable p)) in omega (arith, less)
  receive-sends (DataNode e) (tells.Ack r d n) p few = omega arith
  receive-sends (ParityNode i) (tells.Ack r d n) p few = let none = acknowledge-sends s i r.0 d.0 n (head_at p d.0) p in omega (arith, none)
  receive-sends x (tells.Stable r d n) p few = let less = sent-when (nat_le (at 0 p.ranks d.0) r.0) p (quiet (apply_to s d.0 n p)) in omega (arith, less)
  receive-sends x (tells.Adopt r d base list) p few =
      let less = sent-when (nat_le (at 0 p.ranks d.0) r.0) p (ack_to x r.0 d.0 (base + length list) (log_adopted s r.0 d.0 base list p)) in
      omega (arith, less)
  receive-sends x (tells.ReadBlock session block rows) p few = read-sends s session block rows p p.name few
  receive-sends (DataNode e) (tells.Block session bytes n) p few = omega arith
  receive-sends (ParityNode i) (tells.Block session bytes n) p few = omega arith
  receive-sends x (tells.Mark session r block d n) p few = let one = mark-sends s (parity_number session.leader)
      session.number r.0 block d.0 n p in omega (arith, one)
  receive-sends (DataNode e) (tells.Row session bytes stamp) p few = omega arith
  receive-sends (ParityNode i) (tells.Row session bytes stamp) p few = omega arith
  receive-sends (DataNode e) (tells.Cease upto) p few = omega arith
  receive-sends (ParityNode i) (tells.Cease upto) p few = omega arith
  receive-sends x (tells.Notice dead) p few = notice-sends dead p
