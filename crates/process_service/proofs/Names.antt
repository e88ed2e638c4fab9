-- No step changes the name of a process.
use Rattle.std.proofs.Common.{ℕ, suc, ◌≡◌, ◌+◌, ◌==◌, nat_le, Bool, true, false, not, List, [], ◌∷◌, length, find, Option, Some, None, refl, sym, ap, ◌∙◌}
use Rattle.std.proofs.Common.{Result, Ok, Err, IfOk, OnErr}
use Rattle.std.specs.Prelude.{is_some}
use Rattle.std.specs.List.{list_any, range_with_len}
use Rattle.std.specs.declared.alloc.AllocError.{AllocError}
use Rattle.group_types.specs.Dimensions.{Dimensions, space_of}
use Rattle.group_types.specs.Hash.{home_of}
use Rattle.group_types.specs.Lists.{at}
use Rattle.group_types.specs.Names.{same_process}
use Rattle.group_types.specs.declared.process.ProcessId.{ProcessId}
use Rattle.group_types.specs.declared.process.ProcessId.TheVariants.{DataNode, ParityNode}
use Rattle.memc_table.specs.Act.{key_of}
use Rattle.memc_table.specs.Asked.{Asked}
use Rattle.group_message.specs.declared.message.Message.{Message}
use Rattle.group_message.specs.declared.message.Message.TheVariants as tells
use Rattle.group_message.specs.declared.message.Session.{Session}
use Rattle.group_message.specs.declared.update.Update.{Update}
use Rattle.group_calls.specs.Turns.{CallName}
use Rattle.group_calls.specs.declared.decision.Decision.{Decision}
use Rattle.group_calls.specs.declared.decision.Decision.TheVariants as decides
use Rattle.group_calls.specs.declared.event.Answer.{Answer}
use Rattle.group_run.specs.Applying.{ProcessStep, apply_to, for_each, head_at, held_at, quiet, replica_of, when, with_head, with_replica}
use Rattle.group_run.specs.Asking as machine
use Rattle.group_run.specs.Asking.{Oldest, act_on, ask_head, ask_process, collect_from, collect_held, found_at}
use Rattle.group_run.specs.Asking.{handed_out, is_call, issued, oldest_inherited, only, retry_block, ticketed, update_of}
use Rattle.group_run.specs.Deciding.{decide}
use Rattle.group_run.specs.Heading.{acknowledge, acknowledged, judge, judge_head}
use Rattle.group_run.specs.Leaders.{close_sessions, copy_kept, copy_marked, lost_of, mark_comes, mark_taken, own_mark}
use Rattle.group_run.specs.Leaders.{row_finished, session_opened, start_session}
use Rattle.group_run.specs.Process.{Copy, Gathering, Head, Held, Process}
use Rattle.group_run.specs.Receiving.{ack_to, death_known, enthroned, log_adopted, notice_comes, read_comes, receive}
use Rattle.group_run.specs.Receiving.{take_over_if, taken_over, takes_over, update_taken}
use Rattle.group_run.specs.Replica.{with_update}
use Rattle.group_run.specs.Rows.{accepts_mark, begin_copy, copy_begun, copy_in, is_marked, marked, parity_number, with_copies, without_copy}
use Rattle.head_service.specs.declared.step.CallStep.{CallStep}
use Rattle.process_service.specs.Steps.{called, machine_step}
use Rattle.process_service.specs.declared.step.Step.{Step}

named-each : (xs : List ℕ) (f : ℕ → Process → ProcessStep) (p : Process) → ((x : ℕ) (q : Process) → (f x q).process.name ≡ q.name)
    → (for_each xs f p).process.name ≡ p.name
named-each [] f p each = refl
named-each (x ∷ xs) f p each = named-each xs f (f x p).process each ∙ each x p

named-when : (b : Bool) (p : Process) (t : ProcessStep) → t.process.name ≡ p.name → (when b p t).process.name ≡ p.name
named-when true p t same = same
named-when false p t same = refl

module _ (s : Dimensions) where
  named-judge : (d : ℕ) (p : Process) → (judge s d p).process.name ≡ p.name
  named-judge d p = by (head_at p d) where
    by : (o : Option Head) → (judge_head s d p o).process.name ≡ p.name
    by None = refl
    by (Some h) = refl

  named-acknowledge : (i r d n : ℕ) (h : Option Head) (p : Process) → (acknowledge s i r d n h p).process.name ≡ p.name
  named-acknowledge i r d n None p = refl
  named-acknowledge i r d n (Some h) p =
      let q : Process = with_head d (Some (acknowledged i n h)) p in
      named-when (r == h.rank) p (judge s d q) (named-judge d q)

  -- a mark
  named-finished : (own : Bool) (c : Copy) (p : Process) → (row_finished own s c p).process.name ≡ p.name
  named-finished true c p = refl
  named-finished false c p = refl

  named-kept : (all : Bool) (c : Copy) (p : Process) → (copy_kept all s c p).process.name ≡ p.name
  named-kept true c p = named-finished (same_process p.name (ParityNode c.leader)) c (with_copies (without_copy c.leader c.number p.as_row.copies) p)
  named-kept false c p = refl

  named-marked : (d n : ℕ) (o : Option Copy) (p : Process) → (copy_marked s d n o p).process.name ≡ p.name
  named-marked d n None p = refl
  named-marked d n (Some c) p = named-kept (is_marked s (marked d n c)) (marked d n c) p

  named-begun : (b : Bool) (l number block : ℕ) (p : Process) → (copy_begun b s l number block p).name ≡ p.name
  named-begun true l number block p = refl
  named-begun false l number block p = refl

  named-mark : (l number r block d n : ℕ) (p : Process) → (mark_comes s l number r block d n p).process.name ≡ p.name
  named-mark l number r block d n p =
      let q : Process = apply_to s d n (begin_copy s l number block p) in
      named-when (accepts_mark p l number r d) p (mark_taken s l number block d n p)
      (named-marked d n (copy_in q.as_row.copies l number) q ∙ named-begun (is_some (copy_in p.as_row.copies l number)) l number block p)

  named-read : (session : Session) (block : ℕ) (rows : List ℕ) (p : Process) (name : ProcessId) → (read_comes s session block rows p name).process.name ≡ p.name
  named-read session block rows p (ParityNode i) = refl
  named-read session block rows p (DataNode d) = refl

  -- the notice of a death
  named-close : (gs : List Gathering) (p : Process) → (close_sessions s gs p).process.name ≡ p.name
  named-close [] p = refl
  named-close (g ∷ gs) p = refl

  named-take : (d : ℕ) (p : Process) → (take_over_if s d p).process.name ≡ p.name
  named-take d p = named-when (takes_over p d p.name) p (taken_over s d p) (named-judge d (enthroned s (suc (parity_number p.name)) d p))

  named-death : (dead : ProcessId) (p : Process) → (death_known dead p).name ≡ p.name
  named-death (DataNode e) p = refl
  named-death (ParityNode i) p = refl

  named-notice : (dead : ProcessId) (p : Process) → (notice_comes s dead p).process.name ≡ p.name
  named-notice dead p =
      let known : Process = death_known dead p in
      let closed : Process = (close_sessions s known.as_leader.sessions known).process in
      let judged : Process = (for_each (range_with_len 0 s.k) (judge s) closed).process in
      named-each (range_with_len 0 s.k) (take_over_if s) judged named-take
      ∙ named-each (range_with_len 0 s.k) (judge s) closed named-judge
      ∙ named-close known.as_leader.sessions known
      ∙ named-death dead p

  -- whatever comes
  named-received : (from : ProcessId) (m : Message) (p : Process) → (receive s from m p).process.name ≡ p.name
  named-received from (tells.Update r d u stable) p = named-when (nat_le (at 0 p.ranks d.0) r.0) p
      (ack_to from r.0 d.0 u.number (update_taken s d.0 u stable p)) refl
  named-received from (tells.Stable r d n) p = named-when (nat_le (at 0 p.ranks d.0) r.0) p (quiet (apply_to s d.0 n p)) refl
  named-received from (tells.Adopt r d base list) p =
      named-when (nat_le (at 0 p.ranks d.0) r.0) p (ack_to from r.0 d.0 (base + length list) (log_adopted s r.0 d.0 base list p)) refl
  named-received (DataNode e) (tells.Ack r d n) p = refl
  named-received (ParityNode i) (tells.Ack r d n) p = named-acknowledge i r.0 d.0 n (head_at p d.0) p
  named-received from (tells.ReadBlock session block rows) p = named-read session block rows p p.name
  named-received (DataNode e) (tells.Block session bytes n) p = refl
  named-received (ParityNode i) (tells.Block session bytes n) p = refl
  named-received from (tells.Mark session r block d n) p = named-mark (parity_number session.leader) session.number r.0 block d.0 n p
  named-received (DataNode e) (tells.Row session bytes stamp) p = refl
  named-received (ParityNode i) (tells.Row session bytes stamp) p = refl
  named-received (DataNode e) (tells.Cease upto) p = refl
  named-received (ParityNode i) (tells.Cease upto) p = refl
  named-received from (tells.Notice dead) p = named-notice dead p

  -- whatever is asked
  named-started : (block : ℕ) (p : Process) → (start_session s block p).process.name ≡ p.name
  named-started block p =
      let leader : ℕ = parity_number p.name in
      let number : ℕ = suc p.as_leader.last_session in
      named-each (lost_of s p) (own_mark s leader number block) (session_opened s number block p)
      (λ l q. named-mark leader number (at 0 q.ranks l) block l (replica_of q l).applied q)

  named-retry : (block : ℕ) (o : Option Oldest) (p : Process) → (retry_block s block o p).step.process.name ≡ p.name
  named-retry block (Some o) p = refl
  named-retry block None p = named-when (not (list_any (λ g. g.block == block) p.as_leader.sessions)) p (start_session s block p) (named-started block p)

  named-ticketed : (b : Bool) (d : ℕ) (u : Update) (t : ProcessStep) → (ticketed b d u t).step.process.name ≡ t.process.name
  named-ticketed true d u t = refl
  named-ticketed false d u t = refl

  named-act : (name : CallName) (op : Asked) (d : ℕ) (h : Head) (p : Process) (decision : Decision)
      → (act_on s name op d h p decision).step.process.name ≡ p.name
  named-act name op d h p (decides.Answer reply) = refl
  named-act name op d h p (decides.Retry n) = refl
  named-act name op d h p decides.NoSpace = refl
  named-act name op d h p (decides.NeedBlock b) = named-retry b (oldest_inherited p (range_with_len 0 s.k)) p
  named-act name op d h p (decides.Issue body outcome) =
      let u : Update = update_of name op d body outcome p in
      let t : ProcessStep = issued s d h u p in
      named-ticketed (nat_le u.number (replica_of t.process d).applied) d u t ∙ named-judge d (with_replica d (with_update u (replica_of p d)) p)

  named-asked : (name : CallName) (op : Asked) (p : Process) → (ask_process s name op p).step.process.name ≡ p.name
  named-asked name op p = by (head_at p (home_of (key_of op.act) s.k)) where
    d : ℕ
    d = home_of (key_of op.act) s.k

    by : (o : Option Head) → (ask_head s name op d p o).step.process.name ≡ p.name
    by None = refl
    by (Some h) = named-act name op d h p (decide (space_of s) h.inherited (replica_of p d) op (found_at s d p p.name))

-- whatever is collected
named-collected : (caller call : ℕ) (p : Process) (ds : List ℕ) → (collect_from caller call p ds).step.process.name ≡ p.name
named-collected caller call p [] = refl
named-collected caller call p (d ∷ ds) = by (find (is_call caller call) (held_at p d)) (named-collected caller call p ds) where
  handed : (b : Bool) (h : Held) → (handed_out b d h p).step.process.name ≡ p.name
  handed true h = refl
  handed false h = refl

  by : (o : Option Held) → (collect_from caller call p ds).step.process.name ≡ p.name
      → (collect_held d o p (collect_from caller call p ds)).step.process.name ≡ p.name
  by None rest = rest
  by (Some h) rest = handed (nat_le h.number (replica_of p d).applied) h

-- so the name stays where a call makes the machine's step, or wants memory
pub asked-name : (s : Dimensions) (name : CallName) (op : Asked) (old new : Process) (r : Result CallStep AllocError)
    → IfOk r (λ step. ask_process s name op old ≡ called new step) → OnErr r (new ≡ old) → new.name ≡ old.name
asked-name s name op old new (Ok step) is same = sym (ap (λ (t : machine.CallStep). t.step.process.name) is) ∙ named-asked s name op old
asked-name s name op old new (Err e) is same = ap (λ (p : Process). p.name) same

pub received-name : (s : Dimensions) (from : ProcessId) (m : Message) (old new : Process) (r : Result Step AllocError)
    → IfOk r (λ step. receive s from m old ≡ machine_step new step) → OnErr r (new ≡ old) → new.name ≡ old.name
received-name s from m old new (Ok step) is same = sym (ap (λ (t : ProcessStep). t.process.name) is) ∙ named-received s from m old
received-name s from m old new (Err e) is same = ap (λ (p : Process). p.name) same

pub collected-name : (caller call : ℕ) (ds : List ℕ) (answer : Answer) (old new : Process)
    → collect_from caller call old ds ≡ only answer new → new.name ≡ old.name
collected-name caller call ds answer old new is = sym (ap (λ (t : machine.CallStep). t.step.process.name) is) ∙ named-collected caller call old ds
