-- A row forgets the copies of a leader with its death, and takes no mark of it any more.
use Rattle.std.proofs.Common.{ℕ, suc, ◌≡◌, ◌≢◌, ◌==◌, nat_le, nat_lt, Bool, true, false, not, ◌&&◌, List, [], ◌∷◌}
use Rattle.std.proofs.Common.{Option, Some, None, ◌⊎◌, inl, inr, refl, sym, ap, subst, ◌∙◌, if◌then◌else◌, arith}
use Rattle.std.proofs.lemmas.Grind.{common_steps}
use Rattle.std.specs.Prelude.{cond, filter, find, is_some}
use Rattle.std.specs.List.{list_any, range_with_len}
use Rattle.group_types.specs.Dimensions.{Dimensions, space_of}
use Rattle.group_types.specs.Hash.{home_of}
use Rattle.group_types.specs.Lists.{at}
use Rattle.group_types.specs.Names.{IsProcess, same_process}
use Rattle.group_types.specs.declared.process.ProcessId.{ProcessId}
use Rattle.group_types.specs.declared.process.ProcessId.TheVariants.{DataNode, ParityNode}
use Rattle.group_types.proofs.Names.{same-cases}
use Rattle.group_types.specs.Each.{Each}
use Rattle.group_types.proofs.Eaches.{each-append, each-weaker, each-map}
use Rattle.membership.specs.Members.{knows_dead, with_dead}
use Rattle.memc_table.specs.Act.{key_of}
use Rattle.memc_table.specs.Asked.{Asked}
use Rattle.group_message.specs.declared.message.Message.{Message}
use Rattle.group_message.specs.declared.message.Message.TheVariants as tells
use Rattle.group_message.specs.declared.update.Update.{Update}
use Rattle.group_calls.specs.Turns.{CallName}
use Rattle.group_calls.specs.declared.decision.Decision.{Decision}
use Rattle.group_calls.specs.declared.decision.Decision.TheVariants as decides
use Rattle.group_run.specs.Applying.{ProcessStep, apply_to, block_after, copy_after, for_each, head_at, held_at, replica_of, when, with_head, with_replica}
use Rattle.group_run.specs.Asking.{Oldest, act_on, ask_head, collect_from, collect_held, found_at, handed_out, is_call}
use Rattle.group_run.specs.Asking.{issued, oldest_inherited, retry_block, ticketed, update_of}
use Rattle.group_run.specs.Deciding.{decide}
use Rattle.group_run.specs.Heading.{acknowledge, acknowledged, judge, judge_head, least_acked, other_parities}
use Rattle.group_run.specs.History.{History, history_of, no_history}
use Rattle.group_run.specs.Leaders.{close_sessions, copy_kept, copy_marked, lost_of, mark_comes, mark_taken, own_mark}
use Rattle.group_run.specs.Leaders.{row_finished, session_opened, start_session, with_leader}
use Rattle.group_run.specs.Meaning.{IsDrained}
use Rattle.group_run.specs.Process.{Copy, Gathering, Head, Held, Process}
use Rattle.group_run.specs.Receiving.{death_known, enthroned, notice_comes, read_comes, receive, take_over_if, taken_over, takes_over, with_rank}
use Rattle.group_run.specs.Replica.{last_of, up_to, with_update}
use Rattle.group_run.specs.Rows.{accepts_mark, begin_copy, copies_ceased, copy_begun, copy_in, is_copy, is_marked}
use Rattle.group_run.specs.Rows.{marked, parity_number, with_copies, without_copy}
use Rattle.group_run.specs.World.{after}
use Rattle.law_moves.proofs.Moves.{Asks, Collects, Flushes, Keeps, Treats}
use Rattle.law_moves.specs.State.{State, state_of}
use Rattle.law_moves.proofs.Runs.{holds_always, shape-from, world-from}
use Rattle.law_moves.proofs.Members.{Members}
use Rattle.law_moves.proofs.Keeping.{members_always}
use Rattle.law_moves.proofs.Notices.{knows-other}
use Rattle.law_histories.specs.Copies.{DeadForgotten, ForgottenAlways}
use Rattle.law_histories.proofs.Spared.{IsSpared}
use Rattle.law_histories.proofs.Finished.{living-by}

-- the members of a filtered list pass
each-passing : (test : Copy → Bool) (P : Copy → Type 0) (xs : List Copy) → Each P xs → Each (λ x. P x × (test x ≡ true)) (filter test xs)
each-passing test P [] all = tt
each-passing test P (x ∷ xs) all = by (test x) refl (each-passing test P xs all.1) where
  by : (b : Bool) → test x ≡ b → Each (λ y. P y × (test y ≡ true)) (filter test xs)
      → Each (λ y. P y × (test y ≡ true)) (cond b (x ∷ filter test xs) (filter test xs))
  by true passes rest = ((all.0, passes), rest)
  by false fails rest = rest

each-left : (test : Copy → Bool) (P : Copy → Type 0) (xs : List Copy) → Each P xs → Each P (filter test xs)
each-left test P xs all = each-weaker (λ x. P x × (test x ≡ true)) P (λ x both. both.0) (filter test xs) (each-passing test P xs all)

-- a copy that is found
found-one : (test : Copy → Bool) (P : Copy → Type 0) (xs : List Copy) (x : Copy) → find test xs ≡ Some x → Each P xs → P x
found-one test P [] x is all = absurd (cc is)
found-one test P (y ∷ ys) x is all = by (test y) is (λ later. found-one test P ys x later all.1) where
  by : (b : Bool) → cond b (Some y) (find test ys) ≡ Some x → (find test ys ≡ Some x → P x) → P x
  by true here later = subst P (cc here) all.0
  by false here later = later here

leader-after : (s : Dimensions) (name : ProcessId) (d : ℕ) (us : List Update) (c : Copy) → (copy_after s name d us c).leader ≡ c.leader
leader-after s name d us c = by (is_some (at None c.marks d)) where
  by : (b : Bool) → (if b then c else record c { bytes = block_after s name d c.block us c.bytes }).leader ≡ c.leader
  by true = refl
  by false = refl

module _ (s : Dimensions) where
  spared-apply : (d n : ℕ) (p : Process) → IsSpared p → IsSpared (apply_to s d n p)
  spared-apply d n p spared =
      each-map (λ c. knows_dead p.known (ParityNode c.leader) ≡ false) (copy_after s p.name d (up_to n (replica_of p d))) p.as_row.copies
      (each-weaker (λ c. knows_dead p.known (ParityNode c.leader) ≡ false)
      (λ c. knows_dead p.known (ParityNode (copy_after s p.name d (up_to n (replica_of p d)) c).leader) ≡ false)
      (λ c is. ap (λ (l : ℕ). knows_dead p.known (ParityNode l)) (leader-after s p.name d (up_to n (replica_of p d)) c) ∙ is) p.as_row.copies spared)

  spared-judge_head : (d : ℕ) (o : Option Head) (p : Process) → IsSpared p → IsSpared (judge_head s d p o).process
  spared-judge_head d None p spared = spared
  spared-judge_head d (Some h) p spared = spared-apply d (least_acked h (last_of (replica_of p d)) (other_parities s.m p.name p.known)) p spared

  spared-judge : (d : ℕ) (p : Process) → IsSpared p → IsSpared (judge s d p).process
  spared-judge d p spared = spared-judge_head d (head_at p d) p spared

  spared-when : (b : Bool) (p : Process) (t : ProcessStep) → IsSpared p → (b ≡ true → IsSpared t.process) → IsSpared (when b p t).process
  spared-when true p t spared turned = turned refl
  spared-when false p t spared turned = spared

  spared-each : (xs : List ℕ) (f : ℕ → Process → ProcessStep)
      → ((x : ℕ) (q : Process) → IsSpared q → IsSpared (f x q).process) → (p : Process) → IsSpared p
      → IsSpared (for_each xs f p).process
  spared-each [] f each p spared = spared
  spared-each (x ∷ xs) f each p spared = spared-each xs f each (f x p).process (each x p spared)

  -- marks
  spared-begun : (b : Bool) (leader number block : ℕ) (p : Process) → knows_dead p.known (ParityNode leader) ≡ false
      → IsSpared p → IsSpared (copy_begun b s leader number block p)
  spared-begun true leader number block p known spared = spared
  spared-begun false leader number block p known spared =
      each-append (λ c. knows_dead p.known (ParityNode c.leader) ≡ false) p.as_row.copies _ spared (known, tt)

  spared-row : (b : Bool) (c : Copy) (p : Process) → IsSpared p → IsSpared (row_finished b s c p).process
  spared-row true c p spared = spared
  spared-row false c p spared = spared

  spared-kept : (b : Bool) (c : Copy) (p : Process) → knows_dead p.known (ParityNode c.leader) ≡ false → IsSpared p → IsSpared (copy_kept b s c p).process
  spared-kept true c p known spared =
      spared-row (same_process p.name (ParityNode c.leader)) c (with_copies (without_copy c.leader c.number p.as_row.copies) p)
      (each-left (λ x. not (is_copy c.leader c.number x)) (λ x. knows_dead p.known (ParityNode x.leader) ≡ false) p.as_row.copies spared)
  spared-kept false c p known spared =
      each-map (λ x. knows_dead p.known (ParityNode x.leader) ≡ false) (λ x. if is_copy c.leader c.number x then c else x) p.as_row.copies
      (each-weaker (λ x. knows_dead p.known (ParityNode x.leader) ≡ false)
      (λ x. knows_dead p.known (ParityNode (if is_copy c.leader c.number x then c else x).leader) ≡ false)
      (λ x is. by x (is_copy c.leader c.number x) is) p.as_row.copies spared)
    where
      by : (x : Copy) (b : Bool) → knows_dead p.known (ParityNode x.leader) ≡ false → knows_dead p.known (ParityNode (if b then c else x).leader) ≡ false
      by x true is = known
      by x false is = is

  spared-marked : (d n : ℕ) (o : Option Copy) (p : Process)
      → ((c : Copy) → o ≡ Some c → knows_dead p.known (ParityNode c.leader) ≡ false) → IsSpared p
      → IsSpared (copy_marked s d n o p).process
  spared-marked d n None p known spared = spared
  spared-marked d n (Some c) p known spared = spared-kept (is_marked s (marked d n c)) (marked d n c) p (known c refl) spared

  spared-mark : (leader number r block d n : ℕ) (p : Process) → IsSpared p → IsSpared (mark_comes s leader number r block d n p).process
  spared-mark leader number r block d n p spared = spared-when (accepts_mark p leader number r d) p (mark_taken s leader number block d n p) spared taken where
    middle : (a b c : Bool) → (a && not b && c) ≡ true → b ≡ false
    middle true true c e = cc e
    middle true false c e = refl
    middle false b c e = cc e

    taken : accepts_mark p leader number r d ≡ true → IsSpared (mark_taken s leader number block d n p).process
    taken accepts =
        let known : knows_dead p.known (ParityNode leader) ≡ false =
        middle (r == at 0 p.ranks d) (knows_dead p.known (ParityNode leader))
        (nat_lt (at 0 p.as_row.ceased leader) number) accepts in
        marks (begin_copy s leader number block p) (spared-begun (is_some (copy_in p.as_row.copies leader number)) leader number block p known spared)
      where
        marks : (q : Process) → IsSpared q → IsSpared (copy_marked s d n (copy_in (apply_to s d n q).as_row.copies leader number) (apply_to s d n q)).process
        marks q begun =
            let after_apply = spared-apply d n q begun in
            spared-marked d n (copy_in (apply_to s d n q).as_row.copies leader number) (apply_to s d n q)
            (λ c found. found-one (is_copy leader number) (λ x. knows_dead q.known (ParityNode x.leader) ≡ false)
            (apply_to s d n q).as_row.copies c found after_apply) after_apply

  spared-session : (block : ℕ) (p : Process) → IsSpared p → IsSpared (start_session s block p).process
  spared-session block p spared = spared-each (lost_of s p) (own_mark s (parity_number p.name) (suc p.as_leader.last_session) block)
      (λ l q old. spared-mark (parity_number p.name) (suc p.as_leader.last_session) (at 0 q.ranks l) block l (replica_of q l).applied q old)
      (session_opened s (suc p.as_leader.last_session) block p) spared

  -- calls
  spared-retry : (b : ℕ) (o : Option Oldest) (p : Process) → IsSpared p → IsSpared (retry_block s b o p).step.process
  spared-retry b (Some o) p spared = spared
  spared-retry b None p spared = spared-when (not (list_any (λ g. g.block == b) p.as_leader.sessions)) p
      (start_session s b p) spared (λ is. spared-session b p spared)

  spared-ticketed : (b : Bool) (d : ℕ) (u : Update) (t : ProcessStep) → IsSpared t.process → IsSpared (ticketed b d u t).step.process
  spared-ticketed true d u t spared = spared
  spared-ticketed false d u t spared = spared

  spared-act : (name : CallName) (op : Asked) (d : ℕ) (h : Head) (p : Process) (decision : Decision) → IsSpared p
      → IsSpared (act_on s name op d h p decision).step.process
  spared-act name op d h p (decides.Answer r) spared = spared
  spared-act name op d h p (decides.Retry n) spared = spared
  spared-act name op d h p decides.NoSpace spared = spared
  spared-act name op d h p (decides.NeedBlock b) spared = spared-retry b (oldest_inherited p (range_with_len 0 s.k)) p spared
  spared-act name op d h p (decides.Issue body outcome) spared =
      let u : Update = update_of name op d body outcome p in
      spared-ticketed (nat_le u.number (replica_of (issued s d h u p).process d).applied) d u (issued s d h u p)
      (spared-judge d (with_replica d (with_update u (replica_of p d)) p) spared)

  spared-ask : (name : CallName) (op : Asked) (d : ℕ) (p : Process) (o : Option Head) → IsSpared p → IsSpared (ask_head s name op d p o).step.process
  spared-ask name op d p None spared = spared
  spared-ask name op d p (Some h) spared = spared-act name op d h p (decide (space_of s) h.inherited (replica_of p d) op (found_at s d p p.name)) spared

  spared-handed : (b : Bool) (d : ℕ) (h : Held) (p : Process) → IsSpared p → IsSpared (handed_out b d h p).step.process
  spared-handed true d h p spared = spared
  spared-handed false d h p spared = spared

  spared-collect : (caller call : ℕ) (p : Process) (ds : List ℕ) → IsSpared p → IsSpared (collect_from caller call p ds).step.process
  spared-collect caller call p [] spared = spared
  spared-collect caller call p (d ∷ ds) spared = by (find (is_call caller call) (held_at p d)) (spared-collect caller call p ds spared) where
    by : (o : Option Held) → IsSpared (collect_from caller call p ds).step.process → IsSpared (collect_held d o p (collect_from caller call p ds)).step.process
    by None rest = rest
    by (Some h) rest = spared-handed (nat_le h.number (replica_of p d).applied) d h p spared

  spared-treats : (p : Process) (t : ProcessStep) → Treats s p t → IsSpared p → IsSpared t.process
  spared-treats p _ (Asks name op bytes) spared = spared-ask name op (home_of (key_of op.act) s.k) p (head_at p (home_of (key_of op.act) s.k)) spared
  spared-treats p _ (Collects caller call) spared = spared-collect caller call p (range_with_len 0 s.k) spared
  spared-treats p _ Flushes spared = spared

  -- a notice
  spared-known : (x : ProcessId) (p : Process) → IsSpared p → IsSpared (death_known x p)
  spared-known (DataNode e) p spared = spared
  spared-known (ParityNode l) p spared =
      each-weaker (λ c. (knows_dead p.known (ParityNode c.leader) ≡ false) × (not (c.leader == l) ≡ true))
      (λ c. knows_dead (with_dead p.known (ParityNode l)) (ParityNode c.leader) ≡ false)
      (λ c both. knows-other p.known (ParityNode l) (ParityNode c.leader) (apart c.leader both.1) ∙ both.0)
      (filter (λ c. not (c.leader == l)) p.as_row.copies)
      (each-passing (λ c. not (c.leader == l)) (λ c. knows_dead p.known (ParityNode c.leader) ≡ false) p.as_row.copies
      spared)
    where
      apart : (n : ℕ) → not (n == l) ≡ true → ParityNode n ≢ ParityNode l
      apart n test same = let equal : n ≡ l = cc same in let is : (n == l) ≡ true = grind (arith, common_steps) in cc (test, ap not is)

  spared-ceased : (leader upto : ℕ) (p : Process) → IsSpared p → IsSpared (copies_ceased leader upto p)
  spared-ceased leader upto p spared = each-left (λ c. not (c.leader == leader && nat_le c.number upto))
      (λ c. knows_dead p.known (ParityNode c.leader) ≡ false) p.as_row.copies spared

  spared-close : (gs : List Gathering) (p : Process) → IsSpared p → IsSpared (close_sessions s gs p).process
  spared-close [] p spared = spared
  spared-close (g ∷ gs) p spared = spared-ceased (parity_number p.name) p.as_leader.last_session (with_leader (record p.as_leader { sessions = [] }) p) spared

  spared-take : (d : ℕ) (p : Process) → IsSpared p → IsSpared (take_over_if s d p).process
  spared-take d p spared = spared-when (takes_over p d p.name) p (taken_over s d p) spared
      (λ is. spared-judge d (enthroned s (suc (parity_number p.name)) d p) spared)

  spared-notice : (x : ProcessId) (p : Process) → IsSpared p → IsSpared (notice_comes s x p).process
  spared-notice x p spared =
      let q : Process = death_known x p in
      spared-each (range_with_len 0 s.k) (take_over_if s) spared-take _
      (spared-each (range_with_len 0 s.k) (judge s) spared-judge _
      (spared-close q.as_leader.sessions q (spared-known x p spared)))

  spared-ack : (i r d n : ℕ) (o : Option Head) (p : Process) → IsSpared p → IsSpared (acknowledge s i r d n o p).process
  spared-ack i r d n None p spared = spared
  spared-ack i r d n (Some h) p spared =
      spared-when (r == h.rank) p (judge s d (with_head d (Some (acknowledged i n h)) p)) spared
      (λ is. spared-judge d (with_head d (Some (acknowledged i n h)) p) spared)

  -- a message
  spared-receives : (x : ProcessId) (m : Message) (p : Process) → IsSpared p → IsSpared (receive s x m p).process
  spared-receives x (tells.Update r d u stable) p spared = spared-when (nat_le (at 0 p.ranks d.0) r.0) p _ spared (λ is. spared-apply d.0 stable p spared)
  spared-receives x (tells.Adopt r d base list) p spared = spared-when (nat_le (at 0 p.ranks d.0) r.0) p _ spared
      (λ is. spared-apply d.0 base (with_rank d.0 r.0 p) spared)
  spared-receives x (tells.Stable r d n) p spared = spared-when (nat_le (at 0 p.ranks d.0) r.0) p _ spared (λ is. spared-apply d.0 n p spared)
  spared-receives (DataNode e) (tells.Ack r d n) p spared = spared
  spared-receives (ParityNode i) (tells.Ack r d n) p spared = spared-ack i r.0 d.0 n (head_at p d.0) p spared
  spared-receives x (tells.ReadBlock session block rows) p spared = by p.name where
    by : (y : ProcessId) → IsSpared (read_comes s session block rows p y).process
    by (DataNode e) = spared
    by (ParityNode i) = spared
  spared-receives (DataNode e) (tells.Block session bytes n) p spared = spared
  spared-receives (ParityNode i) (tells.Block session bytes n) p spared = spared
  spared-receives x (tells.Mark session r block d n) p spared = spared-mark (parity_number session.leader) session.number r.0 block d.0 n p spared
  spared-receives (DataNode e) (tells.Row session bytes stamp) p spared = spared
  spared-receives (ParityNode i) (tells.Row session bytes stamp) p spared = spared
  spared-receives (DataNode e) (tells.Cease upto) p spared = spared
  spared-receives (ParityNode i) (tells.Cease upto) p spared = spared-ceased i upto p spared
  spared-receives x (tells.Notice dead) p spared = spared-notice dead p spared

  -- every move keeps it
  abbrev pub AllSpared : State → Type 0
  AllSpared v = (p : ProcessId) → IsProcess s p → IsSpared (v.process p)

  one-spared : (v w : State) (p : ProcessId) → ((q : ProcessId) → IsProcess s q → q ≢ p → w.process q ≡ v.process q)
      → IsSpared (w.process p) → AllSpared v → AllSpared w
  one-spared v w p others spared all q qin = by (same-cases q p) where
    by : (q ≡ p) ⊎ (q ≢ p) → IsSpared (w.process q)
    by (inl same) = subst (λ (y : ProcessId). IsSpared (w.process y)) (sym same) spared
    by (inr other) = subst IsSpared (sym (others q qin other)) (all q qin)

  keeps-spared : Keeps s AllSpared
  keeps-spared = record {
    opens = λ v starts p pin. subst IsSpared (sym (starts.process p pin)) tt;
    treats = λ v w p t pin up lives treated all acts. one-spared v w p acts.others
        (subst IsSpared (sym acts.process) (spared-treats (v.process p) t treated (all p pin))) all;
    receives =
        λ v u w x p m xin pin apart up lives all pops acts. one-spared v w p (λ q qin other. acts.others q qin other ∙ pops.processes q qin)
        (subst IsSpared (sym acts.process) (spared-receives x m (v.process p) (all p pin))) all;
    dies = λ v w p keep pin all died q qin. subst IsSpared (sym (died.processes q qin)) (all q qin);
  }

forgotten : (h : History) → Members h.world.shape (state_of h) → AllSpared h.world.shape (state_of h) → IsDrained h.world → DeadForgotten h.world
forgotten h members all drained i l lives lin dead =
    each-weaker (λ c. knows_dead ((state_of h).process (ParityNode i)).known (ParityNode c.leader) ≡ false) (λ c. c.leader ≢ l)
    (λ c unknown same. cc (unknown, ap (λ (n : ℕ). knows_dead ((state_of h).process (ParityNode i)).known (ParityNode n)) same, knows))
    ((state_of h).process (ParityNode i)).as_row.copies (all (ParityNode i) lives.0)
  where
    apart : ParityNode l ≢ ParityNode i
    apart same = cc (dead, ap (state_of h).dead same, lives.1)

    knows : knows_dead ((state_of h).process (ParityNode i)).known (ParityNode l) ≡ true
    knows = by (knows_dead ((state_of h).process (ParityNode i)).known (ParityNode l)) refl where
      by : (b : Bool) → knows_dead ((state_of h).process (ParityNode i)).known (ParityNode l) ≡ b
          → knows_dead ((state_of h).process (ParityNode i)).known (ParityNode l) ≡ true
      by true is = is
      by false is = absurd (cc (
        dead,
        living-by (ParityNode l) ((state_of h).dead (ParityNode l))
            (knows_dead ((state_of h).process (ParityNode i)).known (ParityNode l))
            ((state_of h).link (ParityNode l) (ParityNode i))
            (members.stands (ParityNode l) (ParityNode i) lin lives.0 apart lives.1) is (drained (ParityNode l) (ParityNode i) lin lives apart),
      ))

pub forgotten_always : ForgottenAlways
forgotten_always s es run drained =
    let h : History = history_of s es in
    let same : h.world ≡ after s es = world-from (no_history s) es in
    let shape : h.world.shape ≡ s = shape-from (no_history s) es in
    subst DeadForgotten same (forgotten h (subst (λ (t : Dimensions). Members t (state_of h)) (sym shape) (members_always s es run))
    (subst (λ (t : Dimensions). AllSpared t (state_of h)) (sym shape)
    (holds_always s (AllSpared s) (keeps-spared s) es run)) (subst IsDrained (sym same) drained))
