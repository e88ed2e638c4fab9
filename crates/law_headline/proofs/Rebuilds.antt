-- A step that rebuilds a block of a partition applies nothing of it, where the process heads the partition.
use Rattle.std.proofs.Common.{ℕ, suc, ◌≡◌, ◌≢◌, ◌+◌, ◌-◌, ◌==◌, nat_le, Bool, true, false, not, List, [], ◌∷◌, length}
use Rattle.std.proofs.Common.{Option, Some, None, ◌⊎◌, inl, inr, refl, sym, ap, subst, ◌∙◌, arith, option_map}
use Rattle.std.proofs.lemmas.Bool.{cases_eq}
use Rattle.std.proofs.lemmas.List.{length-take}
use Rattle.std.specs.List.{list_any, range_with_len}
use Rattle.std.specs.Prelude.{find}
use Rattle.group_types.specs.Dimensions.{Dimensions, space_of}
use Rattle.group_types.specs.Lists.{at}
use Rattle.group_types.specs.declared.process.ProcessId.{ProcessId}
use Rattle.group_types.specs.declared.process.ProcessId.TheVariants.{DataNode, ParityNode}
use Rattle.group_types.proofs.Lists.{at-put, at-put-other}
use Rattle.memc_table.specs.Asked.{Asked}
use Rattle.group_message.specs.declared.message.Message.{Message}
use Rattle.group_message.specs.declared.message.Message.TheVariants as tells
use Rattle.group_message.specs.declared.message.Session.{Session}
use Rattle.group_message.specs.declared.update.Update.{Update}
use Rattle.group_calls.specs.Turns.{CallName}
use Rattle.group_calls.specs.declared.decision.Decision.{Decision}
use Rattle.group_calls.specs.declared.decision.Decision.TheVariants as decides
use Rattle.group_run.specs.Applying.{ProcessStep, apply_to, block_after, for_each, head_at, held_at, quiet}
use Rattle.group_run.specs.Applying.{rebuilt_after, replica_of, when, with_head, with_replica}
use Rattle.group_run.specs.Asking.{Oldest, act_on, ask_head, collect_from, collect_held, found_at, handed_out, is_call}
use Rattle.group_run.specs.Asking.{issued, oldest_inherited, retry_block, ticketed, update_of}
use Rattle.group_run.specs.Deciding.{decide}
use Rattle.group_run.specs.Heading.{acknowledge, acknowledged, judge, judge_head}
use Rattle.group_run.specs.Leaders.{close_sessions, lost_of, mark_comes, mark_taken, own_mark, rebuilt_block, session_opened, start_session}
use Rattle.group_run.specs.Process.{Gathering, Head, Held, Process}
use Rattle.group_run.specs.Receiving.{ack_to, death_known, enthroned, log_adopted, notice_comes, read_comes, receive}
use Rattle.group_run.specs.Receiving.{take_over_if, taken_over, takes_over, update_taken, with_rank}
use Rattle.group_run.specs.Replica.{Replica, applied_to, up_to, with_update}
use Rattle.group_run.specs.Rows.{accepts_mark, begin_copy, copy_in, parity_number}
use Rattle.law_histories.proofs.Heads.{replica-apply_to}
use Rattle.law_histories.proofs.Rows.{same-begin, still-copy_marked, still-mark}
use Rattle.law_bytes.proofs.Applying.{at-rebuilt}

-- no block of the partition is newly rebuilt
abbrev pub NoneNew : ℕ → Process → Process → Type 0
NoneNew d p q = (b : ℕ) → rebuilt_block p.as_leader d b ≡ None → rebuilt_block q.as_leader d b ≡ None

-- or nothing of it is applied
abbrev pub RebuildsStill : ℕ → Process → Process → Type 0
RebuildsStill d p q = NoneNew d p q ⊎ ((replica_of q d).applied ≡ (replica_of p d).applied)

pub none-refl : (d : ℕ) (p : Process) → NoneNew d p p
none-refl d p b none = none

pub none-trans : (d : ℕ) (p q r : Process) → NoneNew d p q → NoneNew d q r → NoneNew d p r
none-trans d p q r first later b none = later b (first b none)

pub none-when : (d : ℕ) (c : Bool) (p : Process) (t : ProcessStep) → NoneNew d p t.process → NoneNew d p (when c p t).process
none-when d true p t new = new
none-when d false p t new = none-refl d p

pub none-each : (d : ℕ) (f : ℕ → Process → ProcessStep) → ((x : ℕ) (q : Process) → NoneNew d q (f x q).process)
    → (xs : List ℕ) (p : Process) → NoneNew d p (for_each xs f p).process
none-each d f each [] p = none-refl d p
none-each d f each (x ∷ xs) p = none-trans d p (f x p).process (for_each xs f (f x p).process).process (each x p) (none-each d f each xs (f x p).process)

-- to apply up to the applied number applies nothing
none-applied : (r : Replica) → (applied_to r.applied r).applied ≡ r.applied
none-applied r = let long = length-take (r.applied - r.applied) r.log in omega (arith, long)

module _ (s : Dimensions) (d : ℕ) where
  pub none-apply : (e n : ℕ) (p : Process) → NoneNew d p (apply_to s e n p)
  none-apply e n p b none = by (cases_eq d e) where
    news : ℕ → List Update
    news x = up_to n (replica_of p x)

    here : rebuilt_block (apply_to s d n p).as_leader d b ≡ None
    here =
        ap (λ (blocks : List (Option (List ℕ))). at None blocks b)
        (at-put [] [] p.as_leader.rebuilt d (rebuilt_after s d (news d) 0 (at [] p.as_leader.rebuilt d)))
        ∙ at-rebuilt s d (news d) 0 (at [] p.as_leader.rebuilt d) b
        ∙ ap (option_map (block_after s (DataNode d) d (0 + b) (news d))) none

    by : (d ≡ e) ⊎ (d ≢ e) → rebuilt_block (apply_to s e n p).as_leader d b ≡ None
    by (inl same) = subst (λ (k : ℕ). rebuilt_block (apply_to s k n p).as_leader d b ≡ None) same here
    by (inr other) = ap (λ (blocks : List (Option (List ℕ))). at None blocks b)
        (at-put-other [] p.as_leader.rebuilt e d (rebuilt_after s e (news e) 0 (at [] p.as_leader.rebuilt e)) other)
        ∙ none

  pub none-judge : (e : ℕ) (p : Process) → NoneNew d p (judge s e p).process
  none-judge e p = by (head_at p e) where
    by : (h : Option Head) → NoneNew d p (judge_head s e p h).process
    by None = none-refl d p
    by (Some h) = none-apply e _ p

  pub none-acknowledge : (i r e n : ℕ) (h : Option Head) (p : Process) → NoneNew d p (acknowledge s i r e n h p).process
  none-acknowledge i r e n None p = none-refl d p
  none-acknowledge i r e n (Some h) p = let q : Process = with_head e (Some (acknowledged i n h)) p in
      none-when d (r == h.rank) p (judge s e q) (none-judge e q)

  pub none-take : (e : ℕ) (p : Process) → NoneNew d p (take_over_if s e p).process
  none-take e p = none-when d (takes_over p e p.name) p (taken_over s e p) (none-judge e (enthroned s (suc (parity_number p.name)) e p))

  none-close : (gs : List Gathering) (p : Process) → NoneNew d p (close_sessions s gs p).process
  none-close [] p = none-refl d p
  none-close (g ∷ gs) p = λ b none. none

  none-known : (dead : ProcessId) (p : Process) → NoneNew d p (death_known dead p)
  none-known (DataNode e) p = λ b none. none
  none-known (ParityNode i) p = λ b none. none

  pub none-notice : (dead : ProcessId) (p : Process) → NoneNew d p (notice_comes s dead p).process
  none-notice dead p =
      let known : Process = death_known dead p in
      let closed : Process = (close_sessions s known.as_leader.sessions known).process in
      let judged : Process = (for_each (range_with_len 0 s.k) (judge s) closed).process in
      none-trans d p known (notice_comes s dead p).process (none-known dead p)
      (none-trans d known closed (notice_comes s dead p).process (none-close known.as_leader.sessions known)
      (none-trans d closed judged (notice_comes s dead p).process
      (none-each d (judge s) none-judge (range_with_len 0 s.k) closed)
      (none-each d (take_over_if s) none-take (range_with_len 0 s.k) judged)))

  pub none-read : (session : Session) (block : ℕ) (rows : List ℕ) (p : Process) (name : ProcessId)
      → NoneNew d p (read_comes s session block rows p name).process
  none-read session block rows p (DataNode e) = none-refl d p
  none-read session block rows p (ParityNode i) = none-refl d p

  -- a mark of another partition, or one that isn't taken
  mark-rebuilds : (leader number r block e n : ℕ) (p : Process) → (e ≡ d → accepts_mark p leader number r e ≡ true → ⊥)
      → RebuildsStill d p (mark_comes s leader number r block e n p).process
  mark-rebuilds leader number r block e n p never = by (cases_eq e d) where
    untaken : (c : Bool) → accepts_mark p leader number r e ≡ c → e ≡ d → NoneNew d p (when c p (mark_taken s leader number block e n p)).process
    untaken true takes here = absurd (never here takes)
    untaken false drops here = none-refl d p

    by : (e ≡ d) ⊎ (e ≢ d) → RebuildsStill d p (mark_comes s leader number r block e n p).process
    by (inr other) = inr (ap (λ (x : Replica). x.applied) (still-mark s d leader number r block e n p other).same.replica)
    by (inl here) = inl (untaken (accepts_mark p leader number r e) refl here)

  -- the message is no mark of the partition that is taken
  abbrev pub Unmarks : Message → Process → Type 0
  Unmarks (tells.Mark session r block e n) p = e.0 ≡ d → accepts_mark p (parity_number session.leader) session.number r.0 e.0 ≡ true → ⊥
  Unmarks _ p = Unit {0}

  pub receive-rebuilds : (x : ProcessId) (m : Message) (p : Process) → Unmarks m p → RebuildsStill d p (receive s x m p).process
  receive-rebuilds x (tells.Update r e u stable) p unmarks =
      inl (none-when d (nat_le (at 0 p.ranks e.0) r.0) p (ack_to x r.0 e.0 u.number (update_taken s e.0 u stable p))
      (none-apply e.0 stable p))
  receive-rebuilds x (tells.Adopt r e base list) p unmarks =
      inl (none-when d (nat_le (at 0 p.ranks e.0) r.0) p
      (ack_to x r.0 e.0 (base + length list) (log_adopted s r.0 e.0 base list p))
      (none-apply e.0 base (with_rank e.0 r.0 p)))
  receive-rebuilds x (tells.Stable r e n) p unmarks = inl (none-when d (nat_le (at 0 p.ranks e.0) r.0) p (quiet (apply_to s e.0 n p)) (none-apply e.0 n p))
  receive-rebuilds (DataNode z) (tells.Ack r e n) p unmarks = inl (none-refl d p)
  receive-rebuilds (ParityNode i) (tells.Ack r e n) p unmarks = inl (none-acknowledge i r.0 e.0 n (head_at p e.0) p)
  receive-rebuilds x (tells.ReadBlock session block rows) p unmarks = inl (none-read session block rows p p.name)
  receive-rebuilds (DataNode z) (tells.Block session bytes n) p unmarks = inr refl
  receive-rebuilds (ParityNode i) (tells.Block session bytes n) p unmarks = inr refl
  receive-rebuilds x (tells.Mark session r block e n) p unmarks = mark-rebuilds (parity_number session.leader) session.number r.0 block e.0 n p unmarks
  receive-rebuilds (DataNode z) (tells.Row session bytes stamp) p unmarks = inr refl
  receive-rebuilds (ParityNode i) (tells.Row session bytes stamp) p unmarks = inr refl
  receive-rebuilds (DataNode z) (tells.Cease upto) p unmarks = inr refl
  receive-rebuilds (ParityNode i) (tells.Cease upto) p unmarks = inr refl
  receive-rebuilds x (tells.Notice dead) p unmarks = inl (none-notice dead p)

  -- a leader's own mark applies nothing
  own-applies : (leader number block l : ℕ) (p : Process) → (replica_of (own_mark s leader number block l p).process d).applied ≡ (replica_of p d).applied
  own-applies leader number block l p = by (cases_eq l d) where
    begun : Process
    begun = begin_copy s leader number block p

    n : ℕ
    n = (replica_of p d).applied

    taken : (replica_of (mark_taken s leader number block d n p).process d).applied ≡ (replica_of p d).applied
    taken =
        let q : Process = apply_to s d n begun in
        ap (λ (x : Replica). x.applied) (
        (still-copy_marked s d d n (copy_in q.as_row.copies leader number) q).same.replica ∙ replica-apply_to s d n begun
        ∙ ap (applied_to n) (same-begin s d leader number block p).replica)
        ∙ none-applied (replica_of p d)

    marks : (c : Bool) → (replica_of (when c p (mark_taken s leader number block d n p)).process d).applied ≡ (replica_of p d).applied
    marks true = taken
    marks false = refl

    by : (l ≡ d) ⊎ (l ≢ d) → (replica_of (own_mark s leader number block l p).process d).applied ≡ (replica_of p d).applied
    by (inr other) = ap (λ (x : Replica). x.applied) (still-mark s d leader number (at 0 p.ranks l) block l (replica_of p l).applied p other).same.replica
    by (inl same) =
        subst (λ (k : ℕ). (replica_of (own_mark s leader number block k p).process d).applied ≡ (replica_of p d).applied) (sym same)
        (marks (accepts_mark p leader number (at 0 p.ranks d) d))

  owns-apply : (leader number block : ℕ) (ls : List ℕ) (p : Process)
      → (replica_of (for_each ls (own_mark s leader number block) p).process d).applied ≡ (replica_of p d).applied
  owns-apply leader number block [] p = refl
  owns-apply leader number block (l ∷ ls) p =
      owns-apply leader number block ls (own_mark s leader number block l p).process
      ∙ own-applies leader number block l p

  retry-applies : (block : ℕ) (o : Option Oldest) (p : Process) → (replica_of (retry_block s block o p).step.process d).applied ≡ (replica_of p d).applied
  retry-applies block (Some o) p = refl
  retry-applies block None p = by (not (list_any (λ g. g.block == block) p.as_leader.sessions)) where
    by : (c : Bool) → (replica_of (when c p (start_session s block p)).process d).applied ≡ (replica_of p d).applied
    by true = owns-apply (parity_number p.name) (suc p.as_leader.last_session) block (lost_of s p) (session_opened s (suc p.as_leader.last_session) block p)
    by false = refl

  pub none-ticketed : (c : Bool) (e : ℕ) (u : Update) (t : ProcessStep) → NoneNew d t.process (ticketed c e u t).step.process
  none-ticketed true e u t = λ b none. none
  none-ticketed false e u t = λ b none. none

  act-rebuilds : (name : CallName) (op : Asked) (e : ℕ) (h : Head) (p : Process) (decision : Decision)
      → RebuildsStill d p (act_on s name op e h p decision).step.process
  act-rebuilds name op e h p (decides.Answer r) = inr refl
  act-rebuilds name op e h p (decides.Retry n) = inr refl
  act-rebuilds name op e h p decides.NoSpace = inr refl
  act-rebuilds name op e h p (decides.NeedBlock b) = inr (retry-applies b (oldest_inherited p (range_with_len 0 s.k)) p)
  act-rebuilds name op e h p (decides.Issue body outcome) =
      let u : Update = update_of name op e body outcome p in
      let t : ProcessStep = issued s e h u p in
      inl (none-trans d p t.process (act_on s name op e h p (decides.Issue body outcome)).step.process
      (none-judge e (with_replica e (with_update u (replica_of p e)) p))
      (none-ticketed (nat_le u.number (replica_of t.process e).applied) e u t))

  pub ask-rebuilds : (name : CallName) (op : Asked) (e : ℕ) (p : Process) (o : Option Head) → RebuildsStill d p (ask_head s name op e p o).step.process
  ask-rebuilds name op e p None = inr refl
  ask-rebuilds name op e p (Some h) = act-rebuilds name op e h p (decide (space_of s) h.inherited (replica_of p e) op (found_at s e p p.name))

  -- a call that is collected leaves what is rebuilt
  none-handed : (c : Bool) (e : ℕ) (h : Held) (p : Process) → NoneNew d p (handed_out c e h p).step.process
  none-handed true e h p = λ b none. none
  none-handed false e h p = λ b none. none

  pub none-collect : (caller call : ℕ) (p : Process) (es : List ℕ) → NoneNew d p (collect_from caller call p es).step.process
  none-collect caller call p [] = none-refl d p
  none-collect caller call p (e ∷ es) = by (find (is_call caller call) (held_at p e)) (none-collect caller call p es) where
    by : (o : Option Held) → NoneNew d p (collect_from caller call p es).step.process
        → NoneNew d p (collect_held e o p (collect_from caller call p es)).step.process
    by None rest = rest
    by (Some h) rest = none-handed (nat_le h.number (replica_of p e).applied) e h p
