-- Steps that leave what a process holds: all that a message makes, and settling.
use Rattle.std.proofs.Common.{ℕ, suc, ◌≡◌, ◌==◌, nat_le, Bool, true, false, List, [], ◌∷◌, Option, Some, None, refl, ◌∙◌}
use Rattle.std.specs.Prelude.{is_some}
use Rattle.std.specs.List.{range_with_len}
use Rattle.group_types.specs.Dimensions.{Dimensions}
use Rattle.group_types.specs.Lists.{at}
use Rattle.group_types.specs.Names.{same_process}
use Rattle.group_types.specs.declared.process.ProcessId.{ProcessId}
use Rattle.group_types.specs.declared.process.ProcessId.TheVariants.{DataNode, ParityNode}
use Rattle.membership.specs.Members.{with_dead}
use Rattle.group_message.specs.declared.message.Message.{Message}
use Rattle.group_message.specs.declared.message.Message.TheVariants as tells
use Rattle.group_message.specs.declared.message.Session.{Session}
use Rattle.group_run.specs.Applying.{ProcessStep, and_then, apply_to, for_each, head_at, replica_of, when, with_head}
use Rattle.group_run.specs.Heading.{acknowledge, acknowledged, judge, judge_head}
use Rattle.group_run.specs.Leaders.{close_sessions, copy_kept, copy_marked, mark_comes, mark_taken, own_mark}
use Rattle.group_run.specs.Leaders.{row_finished, session_opened, start_session, lost_of}
use Rattle.group_run.specs.Process.{Copy, Gathering, Head, Process}
use Rattle.group_run.specs.Receiving.{death_known, enthroned, notice_comes, read_comes, receive, take_over_if, taken_over, takes_over}
use Rattle.group_run.specs.Rows.{accepts_mark, begin_copy, copy_begun, copy_in, is_marked, leader_forgotten, marked, parity_number, with_copies, without_copy}

-- a step that leaves what is held
abbrev pub Holds : Process → ProcessStep → Type 0
Holds p t = t.process.held ≡ p.held

pub holds-each : (xs : List ℕ) (f : ℕ → Process → ProcessStep) (p : Process) → ((x : ℕ) (q : Process) → Holds q (f x q)) → Holds p (for_each xs f p)
holds-each [] f p each = refl
holds-each (x ∷ xs) f p each = holds-each xs f (f x p).process each ∙ each x p

pub holds-when : (b : Bool) (p : Process) (t : ProcessStep) → Holds p t → Holds p (when b p t)
holds-when true p t holds = holds
holds-when false p t holds = refl

pub holds-judge_head : (s : Dimensions) (d : ℕ) (p : Process) (h : Option Head) → Holds p (judge_head s d p h)
holds-judge_head s d p None = refl
holds-judge_head s d p (Some h) = refl

pub holds-judge : (s : Dimensions) (d : ℕ) (p : Process) → Holds p (judge s d p)
holds-judge s d p = holds-judge_head s d p (head_at p d)

-- a row takes a mark
holds-row_finished : (b : Bool) (s : Dimensions) (copy : Copy) (p : Process) → Holds p (row_finished b s copy p)
holds-row_finished true s copy p = refl
holds-row_finished false s copy p = refl

holds-copy_kept : (b : Bool) (s : Dimensions) (copy : Copy) (p : Process) → Holds p (copy_kept b s copy p)
holds-copy_kept true s copy p = holds-row_finished (same_process p.name (ParityNode copy.leader)) s copy
    (with_copies (without_copy copy.leader copy.number p.as_row.copies) p)
holds-copy_kept false s copy p = refl

holds-copy_marked : (s : Dimensions) (d n : ℕ) (copy : Option Copy) (p : Process) → Holds p (copy_marked s d n copy p)
holds-copy_marked s d n None p = refl
holds-copy_marked s d n (Some copy) p = holds-copy_kept (is_marked s (marked d n copy)) s (marked d n copy) p

held-begun : (b : Bool) (s : Dimensions) (leader number block : ℕ) (p : Process) → (copy_begun b s leader number block p).held ≡ p.held
held-begun true s leader number block p = refl
held-begun false s leader number block p = refl

pub holds-mark : (s : Dimensions) (leader number r block d n : ℕ) (p : Process) → Holds p (mark_comes s leader number r block d n p)
holds-mark s leader number r block d n p =
    let q : Process = apply_to s d n (begin_copy s leader number block p) in
    holds-when (accepts_mark p leader number r d) p (mark_taken s leader number block d n p)
    (holds-copy_marked s d n (copy_in q.as_row.copies leader number) q ∙ held-begun (is_some (copy_in p.as_row.copies leader number)) s leader number block p)

-- a leader starts a session
pub holds-start : (s : Dimensions) (block : ℕ) (p : Process) → Holds p (start_session s block p)
holds-start s block p =
    holds-each (lost_of s p) (own_mark s (parity_number p.name) (suc p.as_leader.last_session) block) (session_opened s (suc p.as_leader.last_session) block p)
    (λ l q. holds-mark s (parity_number p.name) (suc p.as_leader.last_session) (at 0 q.ranks l) block l (replica_of q l).applied q)

-- a notice
holds-close : (s : Dimensions) (gs : List Gathering) (p : Process) → Holds p (close_sessions s gs p)
holds-close s [] p = refl
holds-close s (g ∷ gs) p = refl

held-forgotten : (dead : ProcessId) (p : Process) → (leader_forgotten dead p).held ≡ p.held
held-forgotten (DataNode e) p = refl
held-forgotten (ParityNode l) p = refl

holds-over : (s : Dimensions) (d : ℕ) (p : Process) → Holds p (take_over_if s d p)
holds-over s d p = holds-when (takes_over p d p.name) p (taken_over s d p) (holds-judge s d (enthroned s (suc (parity_number p.name)) d p))

holds-notice : (s : Dimensions) (dead : ProcessId) (p : Process) → Holds p (notice_comes s dead p)
holds-notice s dead p =
    let q : Process = death_known dead p in
    let closed : ProcessStep = close_sessions s q.as_leader.sessions q in
    let judged : ProcessStep = and_then closed (for_each (range_with_len 0 s.k) (judge s)) in
    holds-each (range_with_len 0 s.k) (take_over_if s) judged.process (holds-over s)
    ∙ holds-each (range_with_len 0 s.k) (judge s) closed.process (holds-judge s)
    ∙ holds-close s q.as_leader.sessions q ∙ held-forgotten dead (record p { known = with_dead p.known dead })

-- an acknowledgement
holds-acknowledge : (s : Dimensions) (i r d n : ℕ) (h : Option Head) (p : Process) → Holds p (acknowledge s i r d n h p)
holds-acknowledge s i r d n None p = refl
holds-acknowledge s i r d n (Some h) p =
    holds-when (r == h.rank) p (judge s d (with_head d (Some (acknowledged i n h)) p))
    (holds-judge s d (with_head d (Some (acknowledged i n h)) p))

holds-read : (s : Dimensions) (session : Session) (block : ℕ) (rows : List ℕ) (p : Process) (name : ProcessId)
    → Holds p (read_comes s session block rows p name)
holds-read s session block rows p (DataNode d) = refl
holds-read s session block rows p (ParityNode i) = refl

-- no message changes what is held
pub holds-receive : (s : Dimensions) (x : ProcessId) (m : Message) (p : Process) → Holds p (receive s x m p)
holds-receive s x (tells.Update r d u stable) p = holds-when (nat_le (at 0 p.ranks d.0) r.0) p _ refl
holds-receive s (DataNode e) (tells.Ack r d n) p = refl
holds-receive s (ParityNode i) (tells.Ack r d n) p = holds-acknowledge s i r.0 d.0 n (head_at p d.0) p
holds-receive s x (tells.Stable r d n) p = holds-when (nat_le (at 0 p.ranks d.0) r.0) p _ refl
holds-receive s x (tells.Adopt r d base list) p = holds-when (nat_le (at 0 p.ranks d.0) r.0) p _ refl
holds-receive s x (tells.ReadBlock session block rows) p = holds-read s session block rows p p.name
holds-receive s (DataNode e) (tells.Block session bytes n) p = refl
holds-receive s (ParityNode i) (tells.Block session bytes n) p = refl
holds-receive s x (tells.Mark session r block d n) p = holds-mark s (parity_number session.leader) session.number r.0 block d.0 n p
holds-receive s (DataNode e) (tells.Row session bytes stamp) p = refl
holds-receive s (ParityNode i) (tells.Row session bytes stamp) p = refl
holds-receive s (DataNode e) (tells.Cease upto) p = refl
holds-receive s (ParityNode i) (tells.Cease upto) p = refl
holds-receive s x (tells.Notice dead) p = holds-notice s dead p
