-- Steps of a process that put no update behind a partition's log: its history gets no longer, and where the
-- process heads the partition afterwards it inherited what it had before, or all that there was.
use Rattle.std.proofs.Common.{ℕ, suc, ◌≡◌, ◌≢◌, ◌+◌, ◌-◌, ◌==◌, nat_le, Bool, true, false, List, [], ◌∷◌, ◌++◌, length}
use Rattle.std.proofs.Common.{take, drop, Option, Some, None, ◌⊎◌, inl, inr, refl, sym, ap, subst, ◌∙◌, arith}
use Rattle.std.proofs.lemmas.Bool.{cases_eq}
use Rattle.std.proofs.lemmas.List.{length-append, take-append-drop}
use Rattle.std.specs.List.{range_with_len}
use Rattle.group_types.specs.Dimensions.{Dimensions}
use Rattle.group_types.specs.Lists.{at}
use Rattle.group_types.specs.declared.process.ProcessId.{ProcessId}
use Rattle.group_types.specs.declared.process.ProcessId.TheVariants.{DataNode, ParityNode}
use Rattle.group_types.proofs.Lists.{at-put, at-put-other}
use Rattle.group_message.specs.declared.message.Message.{Message}
use Rattle.group_message.specs.declared.message.Message.TheVariants as tells
use Rattle.group_message.specs.declared.message.Session.{Session}
use Rattle.group_message.specs.declared.update.Update.{Update}
use Rattle.group_run.specs.Applying.{ProcessStep, apply_to, for_each, head_at, quiet, replica_of, when, with_head}
use Rattle.group_run.specs.Heading.{acknowledge, acknowledged, judge, judge_head}
use Rattle.group_run.specs.Leaders.{close_sessions, mark_comes, mark_taken}
use Rattle.group_run.specs.Process.{Head, Process, new_head}
use Rattle.group_run.specs.Receiving.{ack_to, adopt_comes, adopting, death_known, enthroned, log_adopted, notice_comes}
use Rattle.group_run.specs.Receiving.{read_comes, receive, take_over_if, taken_over, takes_over, unless_stale}
use Rattle.group_run.specs.Receiving.{update_comes, update_taken, with_rank}
use Rattle.group_run.specs.Replica.{Replica, applied_to, empty_replica, last_of, with_update}
use Rattle.group_run.specs.Rows.{accepts_mark, begin_copy, copy_in, parity_number}
use Rattle.law_histories.proofs.Heads.{replica-apply_to}
use Rattle.law_histories.proofs.Notices.{same-known, still-take}
use Rattle.law_histories.proofs.Rows.{same-begin, still-close, still-copy_marked}
use Rattle.law_histories.proofs.Steps.{SameIn, same-apply}

-- what the head of a partition inherited, seen from a process before it: the same, or all that there was
abbrev pub Inherits : ℕ → Process → Head → Type 0
Inherits d p h = ((h0 : Head) × (head_at p d ≡ Some h0) × (h.inherited ≡ h0.inherited)) ⊎ (h.inherited ≡ last_of (replica_of p d))

-- a process after another, with nothing more in the partition
pub record Long (d : ℕ) (p q : Process) : Type 0 where
  pub length : last_of (replica_of q d) ≡ last_of (replica_of p d)
  pub heads : (h : Head) → head_at q d ≡ Some h → Inherits d p h

pub long-as : (d : ℕ) (p q : Process) → head_at q d ≡ head_at p d → last_of (replica_of q d) ≡ last_of (replica_of p d) → Long d p q
long-as d p q head long = record { length = long; heads = λ h is. inl (h, sym head ∙ is, refl) }

pub long-refl : (d : ℕ) (p : Process) → Long d p p
long-refl d p = long-as d p p refl refl

pub long-trans : (d : ℕ) (p q r : Process) → Long d p q → Long d q r → Long d p r
long-trans d p q r a b = record { length = b.length ∙ a.length; heads = λ h is. by h (b.heads h is) } where
  before : (h h0 : Head) → h.inherited ≡ h0.inherited → Inherits d p h0 → Inherits d p h
  before h h0 same (inl old) = inl (old.0, old.1, same ∙ old.2)
  before h h0 same (inr all) = inr (same ∙ all)

  by : (h : Head) → Inherits d q h → Inherits d p h
  by h (inl old) = before h old.0 old.2 (a.heads old.0 old.1)
  by h (inr all) = inr (all ∙ a.length)

pub long-same : (d : ℕ) (p q : Process) → SameIn d p q → Long d p q
long-same d p q same = long-as d p q same.head (ap last_of same.replica)

pub long-when : (d : ℕ) (b : Bool) (p : Process) (t : ProcessStep) → (b ≡ true → Long d p t.process) → Long d p (when b p t).process
long-when d true p t long = long refl
long-when d false p t long = long-refl d p

pub long-each : (d : ℕ) (f : ℕ → Process → ProcessStep) → ((x : ℕ) (q : Process) → Long d q (f x q).process)
    → (xs : List ℕ) (p : Process) → Long d p (for_each xs f p).process
long-each d f each [] p = long-refl d p
long-each d f each (x ∷ xs) p = long-trans d p (f x p).process (for_each xs f (f x p).process).process (each x p) (long-each d f each xs (f x p).process)

-- applying moves updates out of the log
pub last-applied_to : (n : ℕ) (r : Replica) → last_of (applied_to n r) ≡ last_of r
last-applied_to n r =
    let parts : length (take (n - r.applied) r.log ++ drop (n - r.applied) r.log) ≡ length r.log = ap length (take-append-drop (n - r.applied) r.log) in
    let sum = length-append (take (n - r.applied) r.log) (drop (n - r.applied) r.log) in
    omega (arith, parts, sum)

module _ (s : Dimensions) (d : ℕ) where
  pub long-apply : (e n : ℕ) (p : Process) → Long d p (apply_to s e n p)
  long-apply e n p = by (cases_eq e d) where
    by : (e ≡ d) ⊎ (e ≢ d) → Long d p (apply_to s e n p)
    by (inr other) = long-same d p (apply_to s e n p) (same-apply s d e n p other)
    by (inl same) = subst (λ (k : ℕ). Long d p (apply_to s k n p)) (sym same)
        (long-as d p (apply_to s d n p) refl (ap last_of (replica-apply_to s d n p)
        ∙ last-applied_to n (replica_of p d)))

  pub long-judge : (e : ℕ) (p : Process) → Long d p (judge s e p).process
  long-judge e p = by (head_at p e) where
    by : (h : Option Head) → Long d p (judge_head s e p h).process
    by None = long-refl d p
    by (Some h) = long-apply e _ p

  -- an acknowledgement
  long-acked : (e i n : ℕ) (h : Head) (p : Process) → head_at p e ≡ Some h → Long d p (with_head e (Some (acknowledged i n h)) p)
  long-acked e i n h p heads = record { length = refl; heads = λ g is. by g is (cases_eq d e) } where
    by : (g : Head) → head_at (with_head e (Some (acknowledged i n h)) p) d ≡ Some g → (d ≡ e) ⊎ (d ≢ e) → Inherits d p g
    by g is (inr other) = inl (g, sym (at-put-other None p.heads e d (Some (acknowledged i n h)) other) ∙ is, refl)
    by g is (inl same) =
        let put : Some (acknowledged i n h) ≡ Some g = sym (at-put None None p.heads e (Some (acknowledged i n h)))
        ∙ ap (head_at (with_head e (Some (acknowledged i n h)) p)) (sym same) ∙ is in
        inl (h, ap (head_at p) same ∙ heads, inherits put)
      where
        in_some : Option Head → ℕ
        in_some None = 0
        in_some (Some x) = x.inherited

        inherits : Some (acknowledged i n h) ≡ Some g → g.inherited ≡ h.inherited
        inherits put = ap in_some (sym put)

  long-acknowledge : (i r e n : ℕ) (h : Option Head) (p : Process) → head_at p e ≡ h → Long d p (acknowledge s i r e n h p).process
  long-acknowledge i r e n None p heads = long-refl d p
  long-acknowledge i r e n (Some h) p heads =
      let q : Process = with_head e (Some (acknowledged i n h)) p in
      long-when d (r == h.rank) p (judge s e q) (λ same. long-trans d p q (judge s e q).process (long-acked e i n h p heads) (long-judge e q))

  -- a mark
  pub long-mark : (leader number r block e n : ℕ) (p : Process) → Long d p (mark_comes s leader number r block e n p).process
  long-mark leader number r block e n p =
      let begun : Process = begin_copy s leader number block p in
      let q : Process = apply_to s e n begun in
      long-when d (accepts_mark p leader number r e) p (mark_taken s leader number block e n p)
      (λ takes. long-trans d p begun (mark_taken s leader number block e n p).process (long-same d p begun (same-begin s d leader number block p))
      (long-trans d begun q (mark_taken s leader number block e n p).process (long-apply e n begun)
      (long-same d q (mark_taken s leader number block e n p).process
      (still-copy_marked s d e n (copy_in q.as_row.copies leader number) q).same)))

  -- a new head inherits all that there is
  long-enthroned : (r : ℕ) (p : Process) → Long d p (enthroned s r d p)
  long-enthroned r p =
      record {
        length = refl;
        heads = λ h is. inr (inherits h (sym (at-put None None p.heads d (Some (new_head s r (last_of (replica_of p d)))))
            ∙ is));
      } where
        in_some : Option Head → ℕ
        in_some None = 0
        in_some (Some x) = x.inherited

        inherits : (h : Head) → Some (new_head s r (last_of (replica_of p d))) ≡ Some h → h.inherited ≡ last_of (replica_of p d)
        inherits h put = ap in_some (sym put)

  long-take : (e : ℕ) (p : Process) → Long d p (take_over_if s e p).process
  long-take e p = by (cases_eq e d) where
    by : (e ≡ d) ⊎ (e ≢ d) → Long d p (take_over_if s e p).process
    by (inr other) = long-same d p (take_over_if s e p).process (still-take s d e p other).same
    by (inl same) = subst (λ (k : ℕ). Long d p (take_over_if s k p).process) (sym same)
        (let r : ℕ = suc (parity_number p.name) in
        long-when d (takes_over p d p.name) p (taken_over s d p)
        (λ takes. long-trans d p (enthroned s r d p) (taken_over s d p).process (long-enthroned r p)
        (long-judge d (enthroned s r d p))))

  -- the notice of a death
  long-notice : (dead : ProcessId) (p : Process) → Long d p (notice_comes s dead p).process
  long-notice dead p =
      let known : Process = death_known dead p in
      let same = same-known s d dead p in
      let closed : Process = (close_sessions s known.as_leader.sessions known).process in
      let judged : Process = (for_each (range_with_len 0 s.k) (judge s) closed).process in
      long-trans d p known (notice_comes s dead p).process (long-as d p known same.0 (ap last_of same.2))
      (long-trans d known closed (notice_comes s dead p).process (long-same d known closed (still-close s d known.as_leader.sessions known).same)
      (long-trans d closed judged (notice_comes s dead p).process
      (long-each d (judge s) long-judge (range_with_len 0 s.k) closed)
      (long-each d (take_over_if s) long-take (range_with_len 0 s.k) judged)))

  -- an update or a new head's log of another partition
  long-update : (from : ProcessId) (r e : ℕ) (u : Update) (stable : ℕ) (p : Process) → e ≢ d → Long d p (update_comes s from r e u stable p).process
  long-update from r e u stable p other =
      let q : Process = apply_to s e stable p in
      long-when d (nat_le (at 0 p.ranks e) r) p (ack_to from r e u.number (update_taken s e u stable p))
      (λ takes. long-trans d p q (update_taken s e u stable p) (long-apply e stable p) (long-as d q (update_taken s e u stable p) refl
      (ap last_of (at-put-other empty_replica q.replicas e d (with_update u (replica_of q e)) (λ same. other (sym same))))))

  long-adopt : (from : ProcessId) (r e base : ℕ) (list : List Update) (p : Process) → e ≢ d → Long d p (adopt_comes s from r e base list p).process
  long-adopt from r e base list p other =
      let ranked : Process = with_rank e r p in
      let q : Process = apply_to s e base ranked in
      long-when d (nat_le (at 0 p.ranks e) r) p (ack_to from r e (base + length list) (log_adopted s r e base list p))
      (λ takes. long-trans d p ranked (log_adopted s r e base list p) (long-as d p ranked refl refl)
      (long-trans d ranked q (log_adopted s r e base list p) (long-apply e base ranked) (long-as d q (log_adopted s r e base list p) refl
      (ap last_of (at-put-other empty_replica q.replicas e d (adopting base list (replica_of q e)) (λ same. other (sym same)))))))

  -- a leader asks for a block
  long-read : (session : Session) (block : ℕ) (rows : List ℕ) (p : Process) (name : ProcessId) → Long d p (read_comes s session block rows p name).process
  long-read session block rows p (DataNode e) = long-refl d p
  long-read session block rows p (ParityNode i) = long-refl d p

  -- the message puts nothing behind the partition's log, nor another in its place
  abbrev pub Spares : Message → Process → Type 0
  Spares (tells.Update r e u stable) p = e.0 ≡ d → nat_le (at 0 p.ranks e.0) r.0 ≡ true → ⊥
  Spares (tells.Adopt r e base list) p = e.0 ≡ d → nat_le (at 0 p.ranks e.0) r.0 ≡ true → ⊥
  Spares _ p = Unit {0}

  unless-taken : (e r : ℕ) (p : Process) (t : ProcessStep) → (e ≡ d → nat_le (at 0 p.ranks e) r ≡ true → ⊥) → (e ≢ d → Long d p (unless_stale r e p t).process)
      → Long d p (unless_stale r e p t).process
  unless-taken e r p t never long = by (cases_eq e d) where
    by : (e ≡ d) ⊎ (e ≢ d) → Long d p (unless_stale r e p t).process
    by (inr other) = long other
    by (inl same) = long-when d (nat_le (at 0 p.ranks e) r) p t (λ takes. absurd (never same takes))

  pub long-receive : (x : ProcessId) (m : Message) (p : Process) → Spares m p → Long d p (receive s x m p).process
  long-receive x (tells.Update r e u stable) p spares =
      unless-taken e.0 r.0 p (ack_to x r.0 e.0 u.number (update_taken s e.0 u stable p)) spares
      (λ other. long-update x r.0 e.0 u stable p other)
  long-receive x (tells.Adopt r e base list) p spares =
      unless-taken e.0 r.0 p (ack_to x r.0 e.0 (base + length list) (log_adopted s r.0 e.0 base list p)) spares
      (λ other. long-adopt x r.0 e.0 base list p other)
  long-receive x (tells.Stable r e n) p spares = long-when d (nat_le (at 0 p.ranks e.0) r.0) p (quiet (apply_to s e.0 n p)) (λ takes. long-apply e.0 n p)
  long-receive (DataNode z) (tells.Ack r e n) p spares = long-refl d p
  long-receive (ParityNode i) (tells.Ack r e n) p spares = long-acknowledge i r.0 e.0 n (head_at p e.0) p refl
  long-receive x (tells.ReadBlock session block rows) p spares = long-read session block rows p p.name
  long-receive (DataNode z) (tells.Block session bytes n) p spares = long-as d p _ refl refl
  long-receive (ParityNode i) (tells.Block session bytes n) p spares = long-refl d p
  long-receive x (tells.Mark session r block e n) p spares = long-mark (parity_number session.leader) session.number r.0 block e.0 n p
  long-receive (DataNode z) (tells.Row session bytes stamp) p spares = long-refl d p
  long-receive (ParityNode i) (tells.Row session bytes stamp) p spares = long-as d p _ refl refl
  long-receive (DataNode z) (tells.Cease upto) p spares = long-refl d p
  long-receive (ParityNode i) (tells.Cease upto) p spares = long-as d p _ refl refl
  long-receive x (tells.Notice dead) p spares = long-notice dead p
