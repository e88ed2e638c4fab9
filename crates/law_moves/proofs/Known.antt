-- What steps leave of the dead that a process knows.
use Rattle.std.proofs.Common.{ℕ, suc, ◌≡◌, ◌==◌, nat_le, Bool, true, false, not, List, [], ◌∷◌, Option, Some, None, refl, ◌∙◌}
use Rattle.std.specs.Prelude.{find, is_some}
use Rattle.std.specs.List.{list_any}
use Rattle.std.specs.List.{range_with_len}
use Rattle.group_types.specs.Dimensions.{Dimensions}
use Rattle.group_types.specs.Hash.{home_of}
use Rattle.group_types.specs.Names.{same_process}
use Rattle.group_types.specs.declared.process.ProcessId.{ProcessId}
use Rattle.group_types.specs.declared.process.ProcessId.TheVariants.{DataNode, ParityNode}
use Rattle.group_types.proofs.Lists.{at-put}
use Rattle.membership.specs.Members.{Membership, knows_dead, with_dead}
use Rattle.memc_table.specs.Act.{key_of}
use Rattle.memc_table.specs.Asked.{Asked}
use Rattle.group_message.specs.declared.message.Message.{Message}
use Rattle.group_message.specs.declared.message.Message.TheVariants as tells
use Rattle.group_message.specs.declared.update.Update.{Update}
use Rattle.group_calls.specs.Turns.{CallName}
use Rattle.group_calls.specs.declared.decision.Decision.{Decision}
use Rattle.group_calls.specs.declared.decision.Decision.TheVariants as decides
use Rattle.group_run.specs.Applying.{ProcessStep, apply_to, for_each, held_at, replica_of, when, head_at, with_head}
use Rattle.group_run.specs.Asking.{CallStep, Oldest, act_on, ask_head, collect_from, collect_held, handed_out, is_call}
use Rattle.group_run.specs.Asking.{issued, oldest_inherited, retry_block, ticketed, update_of}
use Rattle.group_run.specs.Heading.{acknowledge, acknowledged, judge, judge_head}
use Rattle.group_run.specs.Leaders.{close_sessions, copy_kept, copy_marked, lost_of, mark_comes, mark_taken, own_mark}
use Rattle.group_run.specs.Leaders.{row_finished, session_opened, start_session}
use Rattle.group_run.specs.Process.{Copy, Process, Head, Held, Gathering}
use Rattle.group_run.specs.Receiving.{ack_to, death_known, notice_comes, read_comes, receive, take_over_if, taken_over, takes_over, update_taken}
use Rattle.group_run.specs.Rows.{accepts_mark, begin_copy, copy_begun, copy_in, is_marked, marked, parity_number, with_copies, without_copy}
use Rattle.law_moves.specs.Known.{KnownStays, is_notice}

pub knows-with_dead : (known : Membership) (dead : ProcessId) → knows_dead (with_dead known dead) dead ≡ true
knows-with_dead known (DataNode d) = at-put false false known.data_dead d true
knows-with_dead known (ParityNode i) = at-put false false known.parity_dead i true

known-judge_head : (s : Dimensions) (d : ℕ) (p : Process) (h : Option Head) → (judge_head s d p h).process.known ≡ p.known
known-judge_head s d p None = refl
known-judge_head s d p (Some h) = refl

pub known-judge : (s : Dimensions) (d : ℕ) (p : Process) → (judge s d p).process.known ≡ p.known
known-judge s d p = known-judge_head s d p (head_at p d)

pub known-for_each : (f : ℕ → Process → ProcessStep) → ((x : ℕ) (p : Process) → (f x p).process.known ≡ p.known)
    → (xs : List ℕ) (p : Process) → (for_each xs f p).process.known ≡ p.known
known-for_each f each [] p = refl
known-for_each f each (x ∷ xs) p = known-for_each f each xs (f x p).process ∙ each x p

known-when : (b : Bool) (p : Process) (t : ProcessStep) → t.process.known ≡ p.known → (when b p t).process.known ≡ p.known
known-when true p t same = same
known-when false p t same = refl

known-take_over : (s : Dimensions) (d : ℕ) (p : Process) → (take_over_if s d p).process.known ≡ p.known
known-take_over s d p = known-when (takes_over p d p.name) p (taken_over s d p) (known-judge s d _)

known-close : (s : Dimensions) (gs : List Gathering) (p : Process) → (close_sessions s gs p).process.known ≡ p.known
known-close s [] p = refl
known-close s (g ∷ gs) p = refl

known-death : (dead : ProcessId) (p : Process) → (death_known dead p).known ≡ with_dead p.known dead
known-death (DataNode d) p = refl
known-death (ParityNode i) p = refl

-- after a notice the dead process is known, and nobody else comes to be
pub known-notice : (s : Dimensions) (dead : ProcessId) (p : Process) → (notice_comes s dead p).process.known ≡ with_dead p.known dead
known-notice s dead p =
    let q : Process = death_known dead p in
    let closed : Process = (close_sessions s q.as_leader.sessions q).process in
    let judged : Process = (for_each (range_with_len 0 s.k) (judge s) closed).process in
    known-for_each (take_over_if s) (known-take_over s) (range_with_len 0 s.k) judged
    ∙ known-for_each (judge s) (known-judge s) (range_with_len 0 s.k) closed
    ∙ known-close s q.as_leader.sessions q
    ∙ known-death dead p

-- a row takes a mark
known-row_finished : (b : Bool) (s : Dimensions) (copy : Copy) (p : Process) → (row_finished b s copy p).process.known ≡ p.known
known-row_finished true s copy p = refl
known-row_finished false s copy p = refl

known-copy_kept : (b : Bool) (s : Dimensions) (copy : Copy) (p : Process) → (copy_kept b s copy p).process.known ≡ p.known
known-copy_kept true s copy p = known-row_finished (same_process p.name (ParityNode copy.leader)) s copy
    (with_copies (without_copy copy.leader copy.number p.as_row.copies) p)
known-copy_kept false s copy p = refl

known-copy_marked : (s : Dimensions) (d n : ℕ) (copy : Option Copy) (p : Process) → (copy_marked s d n copy p).process.known ≡ p.known
known-copy_marked s d n None p = refl
known-copy_marked s d n (Some copy) p = known-copy_kept (is_marked s (marked d n copy)) s (marked d n copy) p

known-begun : (b : Bool) (s : Dimensions) (leader number block : ℕ) (p : Process) → (copy_begun b s leader number block p).known ≡ p.known
known-begun true s leader number block p = refl
known-begun false s leader number block p = refl

known-mark : (s : Dimensions) (leader number r block d n : ℕ) (p : Process) → (mark_comes s leader number r block d n p).process.known ≡ p.known
known-mark s leader number r block d n p =
    let q : Process = apply_to s d n (begin_copy s leader number block p) in
    known-when (accepts_mark p leader number r d) p (mark_taken s leader number block d n p)
    (known-copy_marked s d n (copy_in q.as_row.copies leader number) q ∙ known-begun (is_some (copy_in p.as_row.copies leader number)) s leader number block p)

-- a head takes an acknowledgement
known-acknowledge : (s : Dimensions) (i r d n : ℕ) (h : Option Head) (p : Process) → (acknowledge s i r d n h p).process.known ≡ p.known
known-acknowledge s i r d n None p = refl
known-acknowledge s i r d n (Some h) p =
    known-when (r == h.rank) p (judge s d (with_head d (Some (acknowledged i n h)) p))
    (known-judge s d (with_head d (Some (acknowledged i n h)) p))

-- every message but a notice
known-received : (s : Dimensions) (from : ProcessId) (m : Message) (p : Process) → is_notice m ≡ false → (receive s from m p).process.known ≡ p.known
known-received s from (tells.Update r d u stable) p plain = known-when _ p (ack_to from r.0 d.0 u.number (update_taken s d.0 u stable p)) refl
known-received s from (tells.Stable r d n) p plain = known-when _ p _ refl
known-received s from (tells.Adopt r d base list) p plain = known-when _ p _ refl
known-received s (DataNode e) (tells.Ack r d n) p plain = refl
known-received s (ParityNode i) (tells.Ack r d n) p plain = known-acknowledge s i r.0 d.0 n (head_at p d.0) p
known-received s from (tells.ReadBlock session block rows) p plain = by p.name where
  by : (name : ProcessId) → (read_comes s session block rows p name).process.known ≡ p.known
  by (DataNode d) = refl
  by (ParityNode i) = refl
known-received s (DataNode e) (tells.Block session bytes n) p plain = refl
known-received s (ParityNode i) (tells.Block session bytes n) p plain = refl
known-received s from (tells.Mark session r block d n) p plain = known-mark s (parity_number session.leader) session.number r.0 block d.0 n p
known-received s (DataNode e) (tells.Row session bytes stamp) p plain = refl
known-received s (ParityNode i) (tells.Row session bytes stamp) p plain = refl
known-received s (DataNode e) (tells.Cease upto) p plain = refl
known-received s (ParityNode i) (tells.Cease upto) p plain = refl
known-received s from (tells.Notice dead) p plain = absurd (cc plain)

-- a call that is asked
known-start : (s : Dimensions) (block : ℕ) (p : Process) → (start_session s block p).process.known ≡ p.known
known-start s block p =
    let leader : ℕ = parity_number p.name in
    let number : ℕ = suc p.as_leader.last_session in
    known-for_each (own_mark s leader number block) (λ l q. known-mark s leader number _ block l _ q) (lost_of s p) (session_opened s number block p)

known-retry : (s : Dimensions) (block : ℕ) (oldest : Option Oldest) (p : Process) → (retry_block s block oldest p).step.process.known ≡ p.known
known-retry s block (Some o) p = refl
known-retry s block None p = known-when (not (list_any (λ g. g.block == block) p.as_leader.sessions)) p (start_session s block p) (known-start s block p)

known-ticketed : (b : Bool) (d : ℕ) (u : Update) (t : ProcessStep) → (ticketed b d u t).step.process.known ≡ t.process.known
known-ticketed true d u t = refl
known-ticketed false d u t = refl

known-acts : (s : Dimensions) (name : CallName) (op : Asked) (d : ℕ) (h : Head) (p : Process) (decision : Decision)
    → (act_on s name op d h p decision).step.process.known ≡ p.known
known-acts s name op d h p (decides.Answer r) = refl
known-acts s name op d h p (decides.Retry n) = refl
known-acts s name op d h p decides.NoSpace = refl
known-acts s name op d h p (decides.NeedBlock b) = known-retry s b (oldest_inherited p (range_with_len 0 s.k)) p
known-acts s name op d h p (decides.Issue body outcome) =
    let u : Update = update_of name op d body outcome p in
    known-ticketed _ d u (issued s d h u p) ∙ known-judge s d _

known-asked : (s : Dimensions) (name : CallName) (op : Asked) (d : ℕ) (p : Process) (h : Option Head) → (ask_head s name op d p h).step.process.known ≡ p.known
known-asked s name op d p None = refl
known-asked s name op d p (Some h) = known-acts s name op d h p _

-- a call that is collected
known-handed : (b : Bool) (d : ℕ) (h : Held) (p : Process) → (handed_out b d h p).step.process.known ≡ p.known
known-handed true d h p = refl
known-handed false d h p = refl

known-held : (d : ℕ) (o : Option Held) (p : Process) (elsewhere : CallStep) → elsewhere.step.process.known ≡ p.known
    → (collect_held d o p elsewhere).step.process.known ≡ p.known
known-held d None p elsewhere same = same
known-held d (Some h) p elsewhere same = known-handed (nat_le h.number (replica_of p d).applied) d h p

known-collected : (caller call : ℕ) (p : Process) (ds : List ℕ) → (collect_from caller call p ds).step.process.known ≡ p.known
known-collected caller call p [] = refl
known-collected caller call p (d ∷ ds) = known-held d (find (is_call caller call) (held_at p d)) p
    (collect_from caller call p ds) (known-collected caller call p ds)

pub known_stays : KnownStays
known_stays s p = record {
  asked = λ name op. known-asked s name op (home_of (key_of op.act) s.k) p (head_at p (home_of (key_of op.act) s.k));
  collected = λ caller call. known-collected caller call p (range_with_len 0 s.k);
  flushed = refl;
  received = λ from m plain. known-received s from m p plain;
}
