-- What steps leave of the dead that a process knows, and of the number of its last session.
use Rattle.std.proofs.Common.{ℕ, suc, ◌≡◌, ◌≤◌, ◌+◌, ◌==◌, nat_le, Bool, true, false, not, List, [], ◌∷◌, length, find, Option, Some, None, refl, ◌∙◌, arith}
use Rattle.std.specs.Prelude.{is_some}
use Rattle.std.specs.List.{list_any, range_with_len}
use Rattle.group_types.specs.Dimensions.{Dimensions, space_of}
use Rattle.group_types.specs.Hash.{home_of}
use Rattle.group_types.specs.Lists.{at, put}
use Rattle.group_types.specs.Names.{same_process}
use Rattle.group_types.specs.declared.process.ProcessId.{ProcessId}
use Rattle.group_types.specs.declared.process.ProcessId.TheVariants.{DataNode, ParityNode}
use Rattle.memc_table.specs.Act.{key_of}
use Rattle.memc_table.specs.Asked.{Asked}
use Rattle.group_message.specs.declared.message.Message.{Message}
use Rattle.group_message.specs.declared.message.Message.TheVariants as tells
use Rattle.group_message.specs.declared.message.Session.{Session}
use Rattle.group_message.specs.declared.update.Update.{Update}
use Rattle.group_calls.specs.Turns.{CallName}
use Rattle.group_calls.specs.declared.decision.Decision.{Decision}
use Rattle.group_calls.specs.declared.decision.Decision.TheVariants as decides
use Rattle.group_run.specs.Applying.{ProcessStep, apply_to, for_each, head_at, held_at, quiet, replica_of, when, with_head, with_replica}
use Rattle.group_run.specs.Asking.{Oldest, act_on, ask_head, collect_from, collect_held, found_at, handed_out, is_call}
use Rattle.group_run.specs.Asking.{issued, oldest_inherited, retry_block, ticketed, update_of}
use Rattle.group_run.specs.Deciding.{decide}
use Rattle.group_run.specs.Heading.{acknowledge, acknowledged, judge, judge_head}
use Rattle.group_run.specs.Leaders.{block_comes, block_gathered, close_sessions, copy_kept, copy_marked, gathered_when}
use Rattle.group_run.specs.Leaders.{is_complete, lost_of, mark_comes, mark_taken, open_session, own_mark, rebuilt_block}
use Rattle.group_run.specs.Leaders.{rebuilt_unless, row_comes, row_finished, row_gathered, session_opened}
use Rattle.group_run.specs.Leaders.{start_session, with_decoded, without_session}
use Rattle.group_run.specs.Process.{Copy, Gathering, Head, Held, LeaderState, Process}
use Rattle.group_run.specs.Receiving.{ack_to, death_known, enthroned, log_adopted, notice_comes, read_comes, receive}
use Rattle.group_run.specs.Receiving.{take_over_if, taken_over, takes_over, update_taken}
use Rattle.group_run.specs.Replica.{with_update}
use Rattle.group_run.specs.Rows.{accepts_mark, begin_copy, copy_begun, copy_in, is_marked, marked, parity_number, with_copies, without_copy}
use Rattle.law_moves.proofs.Moves.{Asks, Collects, Flushes, Treats}
use Rattle.law_moves.specs.Known.{is_notice}
use Rattle.law_moves.proofs.Chains.{goes-each, goes-when}

-- the same is known, and no session was started
pub record Rests (p q : Process) : Type 0 where
  pub known : q.known ≡ p.known
  pub last : q.as_leader.last_session ≡ p.as_leader.last_session

rests-self : (p : Process) → Rests p p
rests-self p = record { known = refl; last = refl }

rests-then : (p q r : Process) → Rests p q → Rests q r → Rests p r
rests-then p q r a b = record { known = b.known ∙ a.known; last = b.last ∙ a.last }

rests-each : (xs : List ℕ) (f : ℕ → Process → ProcessStep) (p : Process) → ((x : ℕ) (q : Process) → Rests q (f x q).process) → Rests p (for_each xs f p).process
rests-each = goes-each (λ p q. Rests p q) rests-self rests-then

rests-when : (b : Bool) (p : Process) (t : ProcessStep) → Rests p t.process → Rests p (when b p t).process
rests-when = goes-when (λ p q. Rests p q) rests-self

module _ (s : Dimensions) where
  rests-judge : (d : ℕ) (p : Process) → Rests p (judge s d p).process
  rests-judge d p = by (head_at p d) where
    by : (o : Option Head) → Rests p (judge_head s d p o).process
    by None = rests-self p
    by (Some h) = record { known = refl; last = refl }

  rests-acknowledge : (i r d n : ℕ) (h : Option Head) (p : Process) → Rests p (acknowledge s i r d n h p).process
  rests-acknowledge i r d n None p = rests-self p
  rests-acknowledge i r d n (Some h) p =
      let q : Process = with_head d (Some (acknowledged i n h)) p in
      rests-when (r == h.rank) p (judge s d q) (rests-then p q (judge s d q).process (record { known = refl; last = refl }) (rests-judge d q))

  -- what comes in for a session
  decoded-last : (g : Gathering) (ls : List ℕ) (state : LeaderState) → (with_decoded s g ls state).last_session ≡ state.last_session
  decoded-last g [] state = refl
  decoded-last g (l ∷ ls) state = decoded-last g ls (rebuilt_unless (is_some (rebuilt_block state l g.block)) s g l state) ∙ unless
      (is_some (rebuilt_block state l g.block)) where
        unless : (b : Bool) → (rebuilt_unless b s g l state).last_session ≡ state.last_session
        unless true = refl
        unless false = refl

  gathered-last : (complete : Bool) (g : Gathering) (state : LeaderState) → (gathered_when complete s g state).last_session ≡ state.last_session
  gathered-last true g state = decoded-last g g.lost (record state { sessions = without_session g.number state.sessions })
  gathered-last false g state = refl

  rests-row : (number i : ℕ) (bytes : List ℕ) (p : Process) → Rests p (row_comes s number i bytes p)
  rests-row number i bytes p = record { known = refl; last = by (open_session p.as_leader number) } where
    by : (o : Option Gathering) → (row_gathered s i bytes o p.as_leader).last_session ≡ p.as_leader.last_session
    by None = refl
    by (Some g) = let more : Gathering = record g { rows_in = put None g.rows_in i (Some bytes) } in gathered-last (is_complete s more) more p.as_leader

  rests-block : (number e : ℕ) (bytes : List ℕ) (p : Process) → Rests p (block_comes s number e bytes p)
  rests-block number e bytes p = record { known = refl; last = by (open_session p.as_leader number) } where
    by : (o : Option Gathering) → (block_gathered s e bytes o p.as_leader).last_session ≡ p.as_leader.last_session
    by None = refl
    by (Some g) = let more : Gathering = record g { blocks_in = put None g.blocks_in e (Some bytes) } in gathered-last (is_complete s more) more p.as_leader

  -- a mark
  rests-finished : (own : Bool) (c : Copy) (p : Process) → Rests p (row_finished own s c p).process
  rests-finished true c p = rests-row c.number c.leader c.bytes p
  rests-finished false c p = rests-self p

  rests-kept : (all : Bool) (c : Copy) (p : Process) → Rests p (copy_kept all s c p).process
  rests-kept true c p =
      let q : Process = with_copies (without_copy c.leader c.number p.as_row.copies) p in
      rests-then p q (row_finished (same_process p.name (ParityNode c.leader)) s c q).process (record { known = refl; last = refl })
      (rests-finished (same_process p.name (ParityNode c.leader)) c q)
  rests-kept false c p = record { known = refl; last = refl }

  rests-marked : (d n : ℕ) (o : Option Copy) (p : Process) → Rests p (copy_marked s d n o p).process
  rests-marked d n None p = rests-self p
  rests-marked d n (Some c) p = rests-kept (is_marked s (marked d n c)) (marked d n c) p

  rests-begun : (b : Bool) (l number block : ℕ) (p : Process) → Rests p (copy_begun b s l number block p)
  rests-begun true l number block p = rests-self p
  rests-begun false l number block p = record { known = refl; last = refl }

  rests-mark : (l number r block d n : ℕ) (p : Process) → Rests p (mark_comes s l number r block d n p).process
  rests-mark l number r block d n p =
      let begun : Process = begin_copy s l number block p in
      let q : Process = apply_to s d n begun in
      rests-when (accepts_mark p l number r d) p (mark_taken s l number block d n p)
      (rests-then p begun (mark_taken s l number block d n p).process (rests-begun (is_some (copy_in p.as_row.copies l number)) l number block p)
      (rests-then begun q (mark_taken s l number block d n p).process (record { known = refl; last = refl })
      (rests-marked d n (copy_in q.as_row.copies l number) q)))

  rests-read : (session : Session) (block : ℕ) (rows : List ℕ) (p : Process) (name : ProcessId) → Rests p (read_comes s session block rows p name).process
  rests-read session block rows p (ParityNode i) = rests-self p
  rests-read session block rows p (DataNode d) = rests-self p

  -- a message that isn't a notice
  pub rests-received : (x : ProcessId) (m : Message) (p : Process) → is_notice m ≡ false → Rests p (receive s x m p).process
  rests-received x (tells.Update r d u stable) p plain = rests-when (nat_le (at 0 p.ranks d.0) r.0) p
      (ack_to x r.0 d.0 u.number (update_taken s d.0 u stable p))
      (record { known = refl; last = refl })
  rests-received x (tells.Stable r d n) p plain = rests-when (nat_le (at 0 p.ranks d.0) r.0) p
      (quiet (apply_to s d.0 n p)) (record { known = refl; last = refl })
  rests-received x (tells.Adopt r d base list) p plain =
      rests-when (nat_le (at 0 p.ranks d.0) r.0) p
      (ack_to x r.0 d.0 (base + length list) (log_adopted s r.0 d.0 base list p))
      (record { known = refl; last = refl })
  rests-received (DataNode e) (tells.Ack r d n) p plain = rests-self p
  rests-received (ParityNode i) (tells.Ack r d n) p plain = rests-acknowledge i r.0 d.0 n (head_at p d.0) p
  rests-received x (tells.ReadBlock session block rows) p plain = rests-read session block rows p p.name
  rests-received (DataNode e) (tells.Block session bytes n) p plain = rests-block session.number e bytes p
  rests-received (ParityNode i) (tells.Block session bytes n) p plain = rests-self p
  rests-received x (tells.Mark session r block d n) p plain = rests-mark (parity_number session.leader) session.number r.0 block d.0 n p
  rests-received (DataNode e) (tells.Row session bytes stamp) p plain = rests-self p
  rests-received (ParityNode i) (tells.Row session bytes stamp) p plain = rests-row session.number i bytes p
  rests-received (DataNode e) (tells.Cease upto) p plain = rests-self p
  rests-received (ParityNode i) (tells.Cease upto) p plain = record { known = refl; last = refl }
  rests-received x (tells.Notice dead) p plain = cc plain

  -- after the notice of a death that one is known, and nobody else comes to be
  rests-close : (gs : List Gathering) (p : Process) → Rests p (close_sessions s gs p).process
  rests-close [] p = rests-self p
  rests-close (g ∷ gs) p = record { known = refl; last = refl }

  rests-take : (d : ℕ) (p : Process) → Rests p (take_over_if s d p).process
  rests-take d p =
      let q : Process = enthroned s (suc (parity_number p.name)) d p in
      rests-when (takes_over p d p.name) p (taken_over s d p) (rests-then p q (judge s d q).process (record { known = refl; last = refl }) (rests-judge d q))

  rests-noticed : (dead : ProcessId) (p : Process) → Rests (death_known dead p) (notice_comes s dead p).process
  rests-noticed dead p =
      let known : Process = death_known dead p in
      let closed : Process = (close_sessions s known.as_leader.sessions known).process in
      let judged : Process = (for_each (range_with_len 0 s.k) (judge s) closed).process in
      rests-then known closed (notice_comes s dead p).process (rests-close known.as_leader.sessions known)
      (rests-then closed judged (notice_comes s dead p).process (rests-each (range_with_len 0 s.k) (judge s) closed rests-judge)
      (rests-each (range_with_len 0 s.k) (take_over_if s) judged rests-take))

  death-last : (dead : ProcessId) (p : Process) → (death_known dead p).as_leader.last_session ≡ p.as_leader.last_session
  death-last (DataNode e) p = refl
  death-last (ParityNode i) p = refl

  pub noticed-last : (dead : ProcessId) (p : Process) → (notice_comes s dead p).process.as_leader.last_session ≡ p.as_leader.last_session
  noticed-last dead p = (rests-noticed dead p).last ∙ death-last dead p

  -- the same is known, and no more than one session was started
  pub record StartsOne (p q : Process) : Type 0 where
    pub known : q.known ≡ p.known
    pub last : q.as_leader.last_session ≤ suc p.as_leader.last_session

  starts-none : (p q : Process) → Rests p q → StartsOne p q
  starts-none p q rests = record { known = rests.known; last = let same = rests.last in omega (arith, same) }

  starts-one : (block : ℕ) (p : Process) → StartsOne p (start_session s block p).process
  starts-one block p =
      let leader : ℕ = parity_number p.name in
      let number : ℕ = suc p.as_leader.last_session in
      let opened : Process = session_opened s number block p in
      let marks = rests-each (lost_of s p) (own_mark s leader number block) opened
      (λ l q. rests-mark leader number (at 0 q.ranks l) block l (replica_of q l).applied q) in
      record { known = marks.known; last = let same = marks.last in omega (arith, same) }

  starts-retry : (block : ℕ) (o : Option Oldest) (p : Process) → StartsOne p (retry_block s block o p).step.process
  starts-retry block (Some o) p = starts-none p p (rests-self p)
  starts-retry block None p = by (not (list_any (λ g. g.block == block) p.as_leader.sessions)) where
    by : (b : Bool) → StartsOne p (when b p (start_session s block p)).process
    by true = starts-one block p
    by false = starts-none p p (rests-self p)

  rests-ticketed : (b : Bool) (d : ℕ) (u : Update) (t : ProcessStep) → Rests t.process (ticketed b d u t).step.process
  rests-ticketed true d u t = rests-self t.process
  rests-ticketed false d u t = record { known = refl; last = refl }

  starts-act : (name : CallName) (op : Asked) (d : ℕ) (h : Head) (p : Process) (decision : Decision)
      → StartsOne p (act_on s name op d h p decision).step.process
  starts-act name op d h p (decides.Answer reply) = starts-none p p (rests-self p)
  starts-act name op d h p (decides.Retry n) = starts-none p p (rests-self p)
  starts-act name op d h p decides.NoSpace = starts-none p p (rests-self p)
  starts-act name op d h p (decides.NeedBlock b) = starts-retry b (oldest_inherited p (range_with_len 0 s.k)) p
  starts-act name op d h p (decides.Issue body outcome) =
      let u : Update = update_of name op d body outcome p in
      let t : ProcessStep = issued s d h u p in
      let q : Process = with_replica d (with_update u (replica_of p d)) p in
      let made : Process = (act_on s name op d h p (decides.Issue body outcome)).step.process in
      starts-none p made (rests-then p q made (record { known = refl; last = refl })
      (rests-then q t.process made (rests-judge d q) (rests-ticketed (nat_le u.number (replica_of t.process d).applied) d u t)))

  starts-ask : (name : CallName) (op : Asked) (d : ℕ) (p : Process) (h : Option Head) → StartsOne p (ask_head s name op d p h).step.process
  starts-ask name op d p None = starts-none p p (rests-self p)
  starts-ask name op d p (Some h) = starts-act name op d h p (decide (space_of s) h.inherited (replica_of p d) op (found_at s d p p.name))

  rests-collect : (caller call : ℕ) (p : Process) (ds : List ℕ) → Rests p (collect_from caller call p ds).step.process
  rests-collect caller call p [] = rests-self p
  rests-collect caller call p (d ∷ ds) = by (find (is_call caller call) (held_at p d)) (rests-collect caller call p ds) where
    handed : (b : Bool) (h : Held) → Rests p (handed_out b d h p).step.process
    handed true h = record { known = refl; last = refl }
    handed false h = rests-self p

    by : (o : Option Held) → Rests p (collect_from caller call p ds).step.process → Rests p (collect_held d o p (collect_from caller call p ds)).step.process
    by None rest = rest
    by (Some h) rest = handed (nat_le h.number (replica_of p d).applied) h

  pub starts-treated : (p : Process) (t : ProcessStep) → Treats s p t → StartsOne p t.process
  starts-treated p t (Asks name op bytes) = starts-ask name op (home_of (key_of op.act) s.k) p (head_at p (home_of (key_of op.act) s.k))
  starts-treated p t (Collects caller call) = starts-none p (collect_from caller call p (range_with_len 0 s.k)).step.process
      (rests-collect caller call p (range_with_len 0 s.k))
  starts-treated p t Flushes = starts-none p p (rests-self p)
