-- What one call makes a process send to one other: an update, or what starts a session.
use Rattle.std.proofs.Common.{ℕ, suc, ◌≡◌, ◌<◌, ◌≤◌, ◌==◌, nat_le, Bool, true, false, not, ◌&&◌, List, [], ◌∷◌, ◌++◌}
use Rattle.std.proofs.Common.{length, map, filter, flat_map, find, Option, Some, None, refl, sym, ap, ◌∙◌, arith, cond}
use Rattle.std.proofs.lemmas.Grind.{common_steps}
use Rattle.std.proofs.lemmas.List.FromFn.{length-range_with_len}
use Rattle.std.specs.Prelude.{is_some}
use Rattle.std.specs.List.{list_any, range_with_len}
use Rattle.group_types.specs.Dimensions.{Dimensions, space_of}
use Rattle.group_types.specs.Hash.{home_of}
use Rattle.group_types.specs.Lists.{at}
use Rattle.group_types.specs.Names.{same_process}
use Rattle.group_types.specs.declared.process.ProcessId.{ProcessId}
use Rattle.group_types.specs.declared.process.ProcessId.TheVariants.{DataNode, ParityNode}
use Rattle.group_types.specs.declared.run.Run.{Run}
use Rattle.group_types.proofs.Names.{same-refl}
use Rattle.membership.specs.Members.{knows_dead}
use Rattle.memc_table.specs.Act.{key_of}
use Rattle.memc_table.specs.Asked.{Asked}
use Rattle.group_message.specs.declared.message.Message.{Message}
use Rattle.group_message.specs.declared.message.Message.TheVariants as tells
use Rattle.group_message.specs.declared.update.Update.{Update}
use Rattle.group_calls.specs.Turns.{CallName}
use Rattle.group_calls.specs.declared.decision.Decision.{Decision}
use Rattle.group_calls.specs.declared.decision.Decision.TheVariants as decides
use Rattle.group_run.specs.Applying.{ProcessStep, Sent, apply_to, for_each, head_at, held_at, replica_of, when, with_replica}
use Rattle.group_run.specs.Asking.{Oldest, act_on, ask_head, collect_from, collect_held, found_at, handed_out, is_call}
use Rattle.group_run.specs.Asking.{issued, oldest_inherited, retry_block, ticketed, update_of}
use Rattle.group_run.specs.Deciding.{Missing, decide}
use Rattle.group_run.specs.Heading.{judge, partition, rank, to_others}
use Rattle.group_run.specs.Leaders.{copy_kept, copy_marked, leader_marks, left_of, lost_of, mark_comes, mark_taken}
use Rattle.group_run.specs.Leaders.{own_mark, row_finished, rows_of, session_of, session_opened, session_starts}
use Rattle.group_run.specs.Leaders.{start_session}
use Rattle.group_run.specs.Process.{Copy, Head, Held, Process}
use Rattle.group_run.specs.Replica.{Replica, with_update}
use Rattle.group_run.specs.Rows.{accepts_mark, begin_copy, copy_begun, copy_in, is_copy, is_marked, marked, parity_number, with_copies, without_copy}
use Rattle.group_run.specs.Locality.{occurrences}
use Rattle.law_moves.proofs.Members.{IsParity}
use Rattle.law_histories.proofs.Deciding.{RestsWell, decides-well}
use Rattle.law_answers.specs.Steps.{AlwaysSendsFew}
use Rattle.law_answers.proofs.Counts.{count-append, count-datas, count-flat, count-parities, count_to, length-filtered, once-range, times-filtered, times-taken}
use Rattle.law_answers.proofs.Sending.{flush-sends, judge-sends, others-send, receive-sends, sent-when}

pub row-named : (x : ProcessId) → IsParity x → x ≡ ParityNode (parity_number x)
row-named (ParityNode i) parity = refl
row-named (DataNode e) parity = absurd parity

-- only a parity process misses a block
pub missing-row : (s : Dimensions) (d : ℕ) (p : Process) (name : ProcessId) (run : Run) (b : ℕ) → found_at s d p name run ≡ Missing b → IsParity name
missing-row s d p (ParityNode i) run b missing = tt
missing-row s d p (DataNode e) run b missing = cc missing

-- what is found passes the test
find-passes : {X : Type 0} (test : X → Bool) (xs : List X) (x : X) → find test xs ≡ Some x → test x ≡ true
find-passes test [] x is = cc is
find-passes test (y ∷ ys) x is = by (test y) refl is (find-passes test ys x) where
  by : (b : Bool) → test y ≡ b → cond b (Some y) (find test ys) ≡ Some x → (find test ys ≡ Some x → test x ≡ true) → test x ≡ true
  by true passes found later = let same : y ≡ x = cc found in ap test (sym same) ∙ passes
  by false fails found later = later found

-- a session's copy is its leader's
pub copy-led : (copies : List Copy) (leader number : ℕ) (c : Copy) → copy_in copies leader number ≡ Some c → c.leader ≡ leader
copy-led copies leader number c is = by (c.leader == leader) (c.number == number) refl (find-passes (is_copy leader number) copies c is) where
  by : (a b : Bool) → (c.leader == leader) ≡ a → (a && b) ≡ true → c.leader ≡ leader
  by true b same passes = grind (arith, common_steps)
  by false b same passes = cc passes

module _ (s : Dimensions) (q : ProcessId) where
  -- a leader's mark in its own row is not sent
  row-silent : (c : Copy) (p : Process) → p.name ≡ ParityNode c.leader → (row_finished (same_process p.name (ParityNode c.leader)) s c p).sent ≡ []
  row-silent c p own = ap (λ (b : Bool). (row_finished b s c p).sent)
      (ap (λ (x : ProcessId). same_process x (ParityNode c.leader)) own ∙ same-refl (ParityNode c.leader))

  kept-silent : (all : Bool) (c : Copy) (p : Process) → p.name ≡ ParityNode c.leader → (copy_kept all s c p).sent ≡ []
  kept-silent true c p own = row-silent c (with_copies (without_copy c.leader c.number p.as_row.copies) p) own
  kept-silent false c p own = refl

  marked-silent : (d n : ℕ) (o : Option Copy) (p : Process) (leader : ℕ) → p.name ≡ ParityNode leader → ((c : Copy) → o ≡ Some c → c.leader ≡ leader)
      → (copy_marked s d n o p).sent ≡ []
  marked-silent d n None p leader own of = refl
  marked-silent d n (Some c) p leader own of = kept-silent (is_marked s (marked d n c)) (marked d n c) p (own ∙ ap ParityNode (sym (of c refl)))

  -- the name stays
  row-name : (own : Bool) (c : Copy) (p : Process) → (row_finished own s c p).process.name ≡ p.name
  row-name true c p = refl
  row-name false c p = refl

  kept-name : (all : Bool) (c : Copy) (p : Process) → (copy_kept all s c p).process.name ≡ p.name
  kept-name true c p = row-name (same_process p.name (ParityNode c.leader)) c (with_copies (without_copy c.leader c.number p.as_row.copies) p)
  kept-name false c p = refl

  marked-name : (d n : ℕ) (o : Option Copy) (p : Process) → (copy_marked s d n o p).process.name ≡ p.name
  marked-name d n None p = refl
  marked-name d n (Some c) p = kept-name (is_marked s (marked d n c)) (marked d n c) p

  begun-name : (b : Bool) (leader number block : ℕ) (p : Process) → (copy_begun b s leader number block p).name ≡ p.name
  begun-name true leader number block p = refl
  begun-name false leader number block p = refl

  -- both, of a mark in the leader's own row
  own-silent : (leader number r block d n : ℕ) (p : Process) → p.name ≡ ParityNode leader
      → ((mark_comes s leader number r block d n p).sent ≡ []) × ((mark_comes s leader number r block d n p).process.name ≡ ParityNode leader)
  own-silent leader number r block d n p own = by (accepts_mark p leader number r d) where
    begun : Process
    begun = begin_copy s leader number block p

    after : Process
    after = apply_to s d n begun

    name : after.name ≡ ParityNode leader
    name = begun-name (is_some (copy_in p.as_row.copies leader number)) leader number block p ∙ own

    of : (c : Copy) → copy_in after.as_row.copies leader number ≡ Some c → c.leader ≡ leader
    of c is = copy-led after.as_row.copies leader number c is

    by : (b : Bool)
        → ((when b p (mark_taken s leader number block d n p)).sent ≡ [])
        × ((when b p (mark_taken s leader number block d n p)).process.name ≡ ParityNode leader)
    by true = (
      marked-silent d n (copy_in after.as_row.copies leader number) after leader name of,
      marked-name d n
          (copy_in after.as_row.copies leader number) after ∙ name,
    )
    by false = (refl, own)

  pub owns-silent : (leader number block : ℕ) (ls : List ℕ) (p : Process) → p.name ≡ ParityNode leader
      → (for_each ls (own_mark s leader number block) p).sent ≡ []
  owns-silent leader number block [] p own = refl
  owns-silent leader number block (l ∷ ls) p own =
      let here = own-silent leader number (at 0 p.ranks l) block l (replica_of p l).applied p own in
      let rest = owns-silent leader number block ls (own_mark s leader number block l p).process here.1 in
      ap (λ (sent : List Sent). sent ++ (for_each ls (own_mark s leader number block) (own_mark s leader number block l p).process).sent) here.0 ∙ rest

  -- a session starts with a question to each data process that is left, and marks for the lost partitions
  marks-send : (leader number block : ℕ) (p : Process) (l : ℕ) → count_to q (leader_marks s leader number block p l) ≤ 1
  marks-send leader number block p l =
      count-parities (λ i. tells.Mark (session_of leader number) (rank (at 0 p.ranks l)) block (partition l) (replica_of p l).applied) q
      (filter (λ i. not (i == leader)) (rows_of s p)) once
    where
      once : (j : ℕ) → occurrences j (filter (λ i. not (i == leader)) (rows_of s p)) ≤ 1
      once j =
          let others = times-filtered (λ i. not (i == leader)) j (rows_of s p) in
          let taken = times-taken j (length (lost_of s p)) (filter (λ i. not (knows_dead p.known (ParityNode i))) (range_with_len 0 s.m)) in
          let less = times-filtered (λ i. not (knows_dead p.known (ParityNode i))) j (range_with_len 0 s.m) in
          let one = once-range j 0 s.m in
          omega (arith, others, taken, less, one)

  starts-send : (leader number block : ℕ) (p : Process) → count_to q (session_starts s leader number block p) ≤ suc s.k
  starts-send leader number block p =
      let left = count-datas (λ d. tells.ReadBlock (session_of leader number) block (rows_of s p)) q (left_of s p) once in
      let marks = count-flat q (leader_marks s leader number block p) 1 (marks-send leader number block p) (lost_of s p) in
      let many = length-filtered (λ d. knows_dead p.known (DataNode d)) (range_with_len 0 s.k) in
      let all = length-range_with_len 0 s.k in
      let both = count-append q (map (λ d. record { to = DataNode d; message = tells.ReadBlock (session_of leader number) block (rows_of s p) }) (left_of s p))
      (flat_map (leader_marks s leader number block p) (lost_of s p)) in
      omega (arith, left, marks, many, all, both)
    where
      once : (j : ℕ) → occurrences j (left_of s p) ≤ 1
      once j = let less = times-filtered (λ d. not (knows_dead p.known (DataNode d))) j (range_with_len 0 s.k) in
          let one = once-range j 0 s.k in omega (arith, less, one)

  start-sends : (block : ℕ) (p : Process) → IsParity p.name → count_to q (start_session s block p).sent ≤ suc s.k
  start-sends block p parity =
      let leader : ℕ = parity_number p.name in
      let number : ℕ = suc p.as_leader.last_session in
      let own : p.name ≡ ParityNode leader = row-named p.name parity in
      let starts = starts-send leader number block p in
      let silent = ap (count_to q) (owns-silent leader number block (lost_of s p) (session_opened s number block p) own) in
      let both = count-append q (session_starts s leader number block p)
      (for_each (lost_of s p) (own_mark s leader number block) (session_opened s number block p)).sent in
      omega (arith, starts, silent, both)

  -- a call that is asked
  retry-sends : (block : ℕ) (o : Option Oldest) (p : Process) → IsParity p.name → count_to q (retry_block s block o p).step.sent ≤ suc s.k
  retry-sends block (Some o) p parity = omega arith
  retry-sends block None p parity =
      let less = sent-when s q (not (list_any (λ g. g.block == block) p.as_leader.sessions)) p (start_session s block p) in
      let few = start-sends block p parity in
      omega (arith, less, few)

  ticketed-sends : (b : Bool) (d : ℕ) (u : Update) (t : ProcessStep) → (ticketed b d u t).step.sent ≡ t.sent
  ticketed-sends true d u t = refl
  ticketed-sends false d u t = refl

  issued-sends : (d : ℕ) (h : Head) (u : Update) (p : Process) → count_to q (issued s d h u p).sent ≤ 1
  issued-sends d h u p =
      let after : Process = with_replica d (with_update u (replica_of p d)) p in
      let update : Message = tells.Update (rank h.rank) (partition d) u (replica_of p d).applied in
      let both = count-append q (to_others s p update) (judge s d after).sent in
      let first = others-send s q p update in
      let none = ap (count_to q) (judge-sends s q d after (head_at after d)) in
      omega (arith, both, first, none)

  act-sends : (name : CallName) (op : Asked) (d : ℕ) (h : Head) (p : Process) (r : Replica) (decision : Decision) → RestsWell r (IsParity p.name) decision
      → count_to q (act_on s name op d h p decision).step.sent ≤ suc s.k
  act-sends name op d h p r (decides.Answer reply) well = omega arith
  act-sends name op d h p r (decides.Retry n) well = omega arith
  act-sends name op d h p r decides.NoSpace well = omega arith
  act-sends name op d h p r (decides.NeedBlock b) well = retry-sends b (oldest_inherited p (range_with_len 0 s.k)) p well
  act-sends name op d h p r (decides.Issue body outcome) well =
      let u : Update = update_of name op d body outcome p in
      let t : ProcessStep = issued s d h u p in
      let same = ap (count_to q) (ticketed-sends (nat_le u.number (replica_of t.process d).applied) d u t) in
      let one = issued-sends d h u p in
      omega (arith, same, one)

  ask-sends : (name : CallName) (op : Asked) (d : ℕ) (p : Process) (h : Option Head) → count_to q (ask_head s name op d p h).step.sent ≤ suc s.k
  ask-sends name op d p None = omega arith
  ask-sends name op d p (Some h) =
      act-sends name op d h p (replica_of p d) (decide (space_of s) h.inherited (replica_of p d) op (found_at s d p p.name))
      (decides-well (space_of s) (replica_of p d) op (found_at s d p p.name) (IsParity p.name) (missing-row s d p p.name) h.inherited)

-- a collect sends nothing
collect-sends : (caller call : ℕ) (p : Process) (ds : List ℕ) → (collect_from caller call p ds).step.sent ≡ []
collect-sends caller call p [] = refl
collect-sends caller call p (d ∷ ds) = by (find (is_call caller call) (held_at p d)) (collect-sends caller call p ds) where
  handed : (b : Bool) (h : Held) → (handed_out b d h p).step.sent ≡ []
  handed true h = refl
  handed false h = refl

  by : (o : Option Held) → (collect_from caller call p ds).step.sent ≡ [] → (collect_held d o p (collect_from caller call p ds)).step.sent ≡ []
  by None rest = rest
  by (Some h) rest = handed (nat_le h.number (replica_of p d).applied) h

pub sends_few : AlwaysSendsFew
sends_few s p shaped = record {
  asked = λ name op q. ask-sends s q name op (home_of (key_of op.act) s.k) p (head_at p (home_of (key_of op.act) s.k));
  collected = λ caller call. collect-sends caller call p (range_with_len 0 s.k);
  flushed = λ q. flush-sends s q p;
  received = λ from m fits q. receive-sends s q some from m p fits;
} where
  some : 0 < s.k
  some = let first = shaped.k.0 in omega (arith, first)
