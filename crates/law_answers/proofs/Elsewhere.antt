-- Only a partition that a process keeps gets updates there.
use Rattle.std.proofs.Common.{ℕ, ◌≡◌, ◌≢◌, ◌<◌, ◌+◌, ◌==◌, nat_le, Bool, true, false, not, List, [], ◌∷◌, length, find}
use Rattle.std.proofs.Common.{Option, Some, None, ◌⊎◌, inl, inr, refl, sym, ap, subst, ◌∙◌}
use Rattle.std.proofs.lemmas.Bool.{cases_eq}
use Rattle.std.specs.List.{list_any, range_with_len}
use Rattle.group_types.specs.Dimensions.{Dimensions, space_of}
use Rattle.group_types.specs.Hash.{home_of}
use Rattle.group_types.specs.Lists.{at}
use Rattle.group_types.specs.declared.process.ProcessId.{ProcessId}
use Rattle.group_types.specs.declared.process.ProcessId.TheVariants.{DataNode, ParityNode}
use Rattle.group_types.proofs.Lists.{at-put-other}
use Rattle.memc_table.specs.Act.{key_of}
use Rattle.memc_table.specs.Asked.{Asked}
use Rattle.group_message.specs.declared.message.Message.{Message}
use Rattle.group_message.specs.declared.message.Message.TheVariants as tells
use Rattle.group_message.specs.declared.message.Session.{Session}
use Rattle.group_message.specs.declared.update.Update.{Update}
use Rattle.group_calls.specs.Turns.{CallName}
use Rattle.group_calls.specs.declared.decision.Decision.{Decision}
use Rattle.group_calls.specs.declared.decision.Decision.TheVariants as decides
use Rattle.group_run.specs.Applying.{ProcessStep, apply_to, head_at, held_at, quiet, replica_of, when, with_head, with_replica}
use Rattle.group_run.specs.Asking.{Oldest, act_on, ask_head, collect_from, collect_held, found_at, handed_out, is_call}
use Rattle.group_run.specs.Asking.{issued, oldest_inherited, retry_block, ticketed, update_of}
use Rattle.group_run.specs.Deciding.{decide}
use Rattle.group_run.specs.Heading.{acknowledge, acknowledged, judge}
use Rattle.group_run.specs.Leaders.{start_session}
use Rattle.group_run.specs.Process.{Head, Held, Process}
use Rattle.group_run.specs.Receiving.{ack_to, adopting, log_adopted, read_comes, receive, update_taken, with_rank}
use Rattle.group_run.specs.Replica.{Replica, empty_replica, last_of, with_update}
use Rattle.group_run.specs.Rows.{parity_number}
use Rattle.law_moves.proofs.Moves.{Asks, Collects, Flushes, Treats}
use Rattle.law_moves.specs.State.{State}
use Rattle.law_moves.proofs.Members.{IsParity, MayStand}
use Rattle.law_histories.proofs.Reach.{IsKeeper}
use Rattle.law_histories.proofs.Plain.{onward-notice, plain-apply, plain-judge, plain-mark, plain-session, plain-when}

-- the process keeps the partition, which is one of the group
abbrev pub Keeps : Dimensions → ProcessId → ℕ → Type 0
Keeps s p d = IsKeeper d p × (d < s.k)

-- it keeps it, or has as many updates of it as before
abbrev pub KeepsOr : Dimensions → ProcessId → ℕ → Process → Process → Type 0
KeepsOr s x d p q = Keeps s x d ⊎ (last_of (replica_of q d) ≡ last_of (replica_of p d))

parity-keeps : (d : ℕ) (x : ProcessId) → IsParity x → IsKeeper d x
parity-keeps d (ParityNode i) parity = tt
parity-keeps d (DataNode e) parity = absurd parity

module _ (s : Dimensions) (d : ℕ) where
  -- another partition's replica
  other-replica : (p : Process) (e : ℕ) (r : Replica) → d ≢ e → last_of (replica_of (with_replica e r p) d) ≡ last_of (replica_of p d)
  other-replica p e r other = ap last_of (at-put-other empty_replica p.replicas e d r other)

  -- a call that is asked
  retry-last : (block : ℕ) (o : Option Oldest) (p : Process) → last_of (replica_of (retry_block s block o p).step.process d) ≡ last_of (replica_of p d)
  retry-last block (Some o) p = refl
  retry-last block None p =
      (plain-when d (not (list_any (λ g. g.block == block) p.as_leader.sessions)) p (start_session s block p)
      (plain-session s d block p)).last

  ticketed-last : (b : Bool) (e : ℕ) (u : Update) (t : ProcessStep) → last_of (replica_of (ticketed b e u t).step.process d) ≡ last_of (replica_of t.process d)
  ticketed-last true e u t = refl
  ticketed-last false e u t = refl

  act-last : (x : ProcessId) (name : CallName) (op : Asked) (e : ℕ) (h : Head) (p : Process) → Keeps s x e → (decision : Decision)
      → KeepsOr s x d p (act_on s name op e h p decision).step.process
  act-last x name op e h p keeps (decides.Answer reply) = inr refl
  act-last x name op e h p keeps (decides.Retry n) = inr refl
  act-last x name op e h p keeps decides.NoSpace = inr refl
  act-last x name op e h p keeps (decides.NeedBlock b) = inr (retry-last b (oldest_inherited p (range_with_len 0 s.k)) p)
  act-last x name op e h p keeps (decides.Issue body outcome) = by (cases_eq d e) where
    u : Update
    u = update_of name op e body outcome p

    t : ProcessStep
    t = issued s e h u p

    by : (d ≡ e) ⊎ (d ≢ e) → KeepsOr s x d p (ticketed (nat_le u.number (replica_of t.process e).applied) e u t).step.process
    by (inl same) = inl (subst (Keeps s x) (sym same) keeps)
    by (inr other) =
        let q : Process = with_replica e (with_update u (replica_of p e)) p in
        inr (ticketed-last (nat_le u.number (replica_of t.process e).applied) e u t ∙ (plain-judge s d e q).last ∙ other-replica p e
        (with_update u (replica_of p e)) other)

  ask-last : (x : ProcessId) (name : CallName) (op : Asked) (e : ℕ) (p : Process) → ((h : Head) → head_at p e ≡ Some h → Keeps s x e) → (o : Option Head)
      → head_at p e ≡ o
      → KeepsOr s x d p (ask_head s name op e p o).step.process
  ask-last x name op e p keeps None heads = inr refl
  ask-last x name op e p keeps (Some h) heads = act-last x name op e h p (keeps h heads)
      (decide (space_of s) h.inherited (replica_of p e) op (found_at s e p p.name))

  collect-last : (caller call : ℕ) (p : Process) (ds : List ℕ) → last_of (replica_of (collect_from caller call p ds).step.process d) ≡ last_of (replica_of p d)
  collect-last caller call p [] = refl
  collect-last caller call p (e ∷ es) = by (find (is_call caller call) (held_at p e)) (collect-last caller call p es) where
    handed : (b : Bool) (h : Held) → last_of (replica_of (handed_out b e h p).step.process d) ≡ last_of (replica_of p d)
    handed true h = refl
    handed false h = refl

    by : (o : Option Held) → last_of (replica_of (collect_from caller call p es).step.process d) ≡ last_of (replica_of p d)
        → last_of (replica_of (collect_held e o p (collect_from caller call p es)).step.process d) ≡ last_of (replica_of p d)
    by None rest = rest
    by (Some h) rest = handed (nat_le h.number (replica_of p e).applied) h

  pub treated-last : (x : ProcessId) (p : Process) (t : ProcessStep) → ((e : ℕ) (h : Head) → e < s.k → head_at p e ≡ Some h → IsKeeper e x)
      → ((op : Asked) → home_of (key_of op.act) s.k < s.k)
      → Treats s p t → KeepsOr s x d p t.process
  treated-last x p t keeps below (Asks name op bytes) =
      ask-last x name op (home_of (key_of op.act) s.k) p (λ h heads. (keeps (home_of (key_of op.act) s.k) h (below op) heads, below op))
      (head_at p (home_of (key_of op.act) s.k)) refl
  treated-last x p t keeps below (Collects caller call) = inr (collect-last caller call p (range_with_len 0 s.k))
  treated-last x p t keeps below Flushes = inr refl

  -- a message that is received
  acknowledge-last : (i r e n : ℕ) (o : Option Head) (p : Process) → last_of (replica_of (acknowledge s i r e n o p).process d) ≡ last_of (replica_of p d)
  acknowledge-last i r e n None p = refl
  acknowledge-last i r e n (Some h) p = by (r == h.rank) where
    q : Process
    q = with_head e (Some (acknowledged i n h)) p

    by : (b : Bool) → last_of (replica_of (when b p (judge s e q)).process d) ≡ last_of (replica_of p d)
    by true = (plain-judge s d e q).last
    by false = refl

  read-last : (session : Session) (block : ℕ) (rows : List ℕ) (p : Process) (name : ProcessId)
      → last_of (replica_of (read_comes s session block rows p name).process d) ≡ last_of (replica_of p d)
  read-last session block rows p (ParityNode i) = refl
  read-last session block rows p (DataNode e) = refl

  update-last : (x : ProcessId) (from : ProcessId) (r e : ℕ) (u : Update) (stable : ℕ) (p : Process) → Keeps s x e → (b : Bool)
      → KeepsOr s x d p (when b p (ack_to from r e u.number (update_taken s e u stable p))).process
  update-last x from r e u stable p keeps false = inr refl
  update-last x from r e u stable p keeps true = by (cases_eq d e) where
    q : Process
    q = apply_to s e stable p

    by : (d ≡ e) ⊎ (d ≢ e) → KeepsOr s x d p (update_taken s e u stable p)
    by (inl same) = inl (subst (Keeps s x) (sym same) keeps)
    by (inr other) = inr (other-replica q e (with_update u (replica_of q e)) other ∙ (plain-apply s d e stable p).last)

  adopt-last : (x : ProcessId) (from : ProcessId) (r e base : ℕ) (list : List Update) (p : Process) → Keeps s x e → (b : Bool)
      → KeepsOr s x d p (when b p (ack_to from r e (base + length list) (log_adopted s r e base list p))).process
  adopt-last x from r e base list p keeps false = inr refl
  adopt-last x from r e base list p keeps true = by (cases_eq d e) where
    q : Process
    q = apply_to s e base (with_rank e r p)

    by : (d ≡ e) ⊎ (d ≢ e) → KeepsOr s x d p (log_adopted s r e base list p)
    by (inl same) = inl (subst (Keeps s x) (sym same) keeps)
    by (inr other) = inr (other-replica q e (adopting base list (replica_of q e)) other ∙ (plain-apply s d e base (with_rank e r p)).last)

  pub received-last : (v : State) (x y : ProcessId) (m : Message) (p : Process) → MayStand s v y x m → KeepsOr s x d p (receive s y m p).process
  received-last v x y (tells.Update r e u stable) p may =
      update-last x y r.0 e.0 u stable p (parity-keeps e.0 x may.1, may.0.1.partition) (nat_le (at 0 p.ranks e.0) r.0)
  received-last v x y (tells.Adopt r e base list) p may =
      adopt-last x y r.0 e.0 base list p (parity-keeps e.0 x may.2, may.0.1.partition) (nat_le (at 0 p.ranks e.0) r.0)
  received-last v x y (tells.Stable r e n) p may =
      inr (plain-when d (nat_le (at 0 p.ranks e.0) r.0) p (quiet (apply_to s e.0 n p)) (plain-apply s d e.0 n p)).last
  received-last v x (DataNode z) (tells.Ack r e n) p may = inr refl
  received-last v x (ParityNode i) (tells.Ack r e n) p may = inr (acknowledge-last i r.0 e.0 n (head_at p e.0) p)
  received-last v x y (tells.ReadBlock session block rows) p may = inr (read-last session block rows p p.name)
  received-last v x (DataNode z) (tells.Block session bytes n) p may = inr refl
  received-last v x (ParityNode i) (tells.Block session bytes n) p may = inr refl
  received-last v x y (tells.Mark session r block e n) p may = inr (plain-mark s d (parity_number session.leader) session.number r.0 block e.0 n p).last
  received-last v x (DataNode z) (tells.Row session bytes stamp) p may = inr refl
  received-last v x (ParityNode i) (tells.Row session bytes stamp) p may = inr refl
  received-last v x (DataNode z) (tells.Cease upto) p may = inr refl
  received-last v x (ParityNode i) (tells.Cease upto) p may = inr refl
  received-last v x y (tells.Notice dead) p may = inr (onward-notice s d dead p).last
