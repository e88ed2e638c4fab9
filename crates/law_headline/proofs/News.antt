-- A step rebuilds blocks only where its process leads the lost partitions: it has a session open, or opens one.
use Rattle.std.proofs.Common.{ℕ, ◌≡◌, ◌+◌, ◌==◌, nat_le, Bool, true, false, List, length, find, is_some, Option, Some}
use Rattle.std.proofs.Common.{None, ◌⊎◌, inl, inr, refl, sym, ap, subst, ◌∙◌}
use Rattle.group_types.specs.Dimensions.{Dimensions, space_of}
use Rattle.group_types.specs.Lists.{at}
use Rattle.group_types.specs.Names.{same_process}
use Rattle.group_types.specs.declared.process.ProcessId.{ProcessId}
use Rattle.group_types.specs.declared.process.ProcessId.TheVariants.{DataNode, ParityNode}
use Rattle.group_types.specs.declared.run.Run.{Run}
use Rattle.memc_table.specs.Asked.{Asked}
use Rattle.group_message.specs.declared.message.Message.{Message}
use Rattle.group_message.specs.declared.message.Message.TheVariants as tells
use Rattle.group_message.specs.declared.update.Update.{Update}
use Rattle.group_calls.specs.Turns.{CallName}
use Rattle.group_calls.specs.declared.decision.Decision.{Decision}
use Rattle.group_calls.specs.declared.decision.Decision.TheVariants as decides
use Rattle.group_run.specs.Applying.{ProcessStep, apply_to, head_at, quiet, replica_of, when, with_replica}
use Rattle.group_run.specs.Asking.{act_on, ask_head, found_at, issued, update_of}
use Rattle.group_run.specs.Deciding.{Missing, decide}
use Rattle.group_run.specs.Leaders.{block_comes, block_gathered, copy_kept, copy_marked, mark_comes, mark_taken}
use Rattle.group_run.specs.Leaders.{open_session, row_comes, row_finished, row_gathered}
use Rattle.group_run.specs.Process.{Copy, Gathering, Head, Process}
use Rattle.group_run.specs.Receiving.{ack_to, log_adopted, receive, update_taken, with_rank}
use Rattle.group_run.specs.Replica.{with_update}
use Rattle.group_run.specs.Rows.{accepts_mark, begin_copy, copy_begun, copy_in, is_marked, marked, parity_number, with_copies, without_copy}
use Rattle.law_histories.proofs.Deciding.{RestsWell, decides-well}
use Rattle.law_histories.proofs.Rows.{LeadsLost}
use Rattle.law_headline.proofs.Rebuilds.{NoneNew, none-acknowledge, none-apply, none-judge, none-notice, none-read}
use Rattle.law_headline.proofs.Rebuilds.{none-refl, none-ticketed, none-trans, none-when}

-- some session is open
abbrev pub HasOpen : Process → Type 0
HasOpen p = (n : ℕ) × ((g : Gathering) × (open_session p.as_leader n ≡ Some g))

-- no block is newly rebuilt, or a session was open
abbrev pub NewsOpen : Process → Process → Type 0
NewsOpen p q = ((d : ℕ) → NoneNew d p q) ⊎ HasOpen p

module _ (s : Dimensions) where
  row-news : (number i : ℕ) (bytes : List ℕ) (p : Process) → NewsOpen p (row_comes s number i bytes p)
  row-news number i bytes p = by (open_session p.as_leader number) refl where
    same : open_session p.as_leader number ≡ None → row_comes s number i bytes p ≡ p
    same none = ap (λ (o : Option Gathering). record p { as_leader = row_gathered s i bytes o p.as_leader }) none

    by : (o : Option Gathering) → open_session p.as_leader number ≡ o → NewsOpen p (row_comes s number i bytes p)
    by None none = inl (λ d. subst (NoneNew d p) (sym (same none)) (none-refl d p))
    by (Some g) is = inr (number, (g, is))

  block-news : (number e : ℕ) (bytes : List ℕ) (p : Process) → NewsOpen p (block_comes s number e bytes p)
  block-news number e bytes p = by (open_session p.as_leader number) refl where
    same : open_session p.as_leader number ≡ None → block_comes s number e bytes p ≡ p
    same none = ap (λ (o : Option Gathering). record p { as_leader = block_gathered s e bytes o p.as_leader }) none

    by : (o : Option Gathering) → open_session p.as_leader number ≡ o → NewsOpen p (block_comes s number e bytes p)
    by None none = inl (λ d. subst (NoneNew d p) (sym (same none)) (none-refl d p))
    by (Some g) is = inr (number, (g, is))

  -- behind a step that rebuilds nothing and leaves the sessions
  news-behind : (p q r : Process) → ((d : ℕ) → NoneNew d p q) → q.as_leader.sessions ≡ p.as_leader.sessions → NewsOpen q r → NewsOpen p r
  news-behind p q r none same (inl new) = inl (λ d. none-trans d p q r (none d) (new d))
  news-behind p q r none same (inr (n, (g, is))) = inr (n, (g, ap (λ (gs : List Gathering). find (λ x. x.number == n) gs) (sym same) ∙ is))

  mark-news : (leader number r block e n : ℕ) (p : Process) → NewsOpen p (mark_comes s leader number r block e n p).process
  mark-news leader number r block e n p = by (accepts_mark p leader number r e) where
    begun : (b : Bool) → ((copy_begun b s leader number block p).as_leader.sessions ≡ p.as_leader.sessions)
        × ((d : ℕ) → NoneNew d p (copy_begun b s leader number block p))
    begun true = (refl, λ d. none-refl d p)
    begun false = (refl, λ d b none. none)

    start : Process
    start = begin_copy s leader number block p

    applied : Process
    applied = apply_to s e n start

    finished : (b : Bool) (c : Copy) (z : Process) → NewsOpen z (row_finished b s c z).process
    finished true c z = row-news c.number c.leader c.bytes z
    finished false c z = inl (λ d. none-refl d z)

    kept : (b : Bool) (c : Copy) → NewsOpen applied (copy_kept b s c applied).process
    kept true c =
        let z : Process = with_copies (without_copy c.leader c.number applied.as_row.copies) applied in
        news-behind applied z (row_finished (same_process z.name (ParityNode c.leader)) s c z).process
        (λ d b none. none) refl (finished (same_process z.name (ParityNode c.leader)) c z)
    kept false c = inl (λ d b none. none)

    found : (o : Option Copy) → NewsOpen applied (copy_marked s e n o applied).process
    found None = inl (λ d. none-refl d applied)
    found (Some c) = kept (is_marked s (marked e n c)) (marked e n c)

    by : (b : Bool) → NewsOpen p (when b p (mark_taken s leader number block e n p)).process
    by false = inl (λ d. none-refl d p)
    by true =
        let first = begun (is_some (copy_in p.as_row.copies leader number)) in
        news-behind p start (mark_taken s leader number block e n p).process first.1 first.0
        (news-behind start applied (mark_taken s leader number block e n p).process (λ d. none-apply s d e n start) refl
        (found (copy_in applied.as_row.copies leader number)))

  pub receive-news : (x : ProcessId) (m : Message) (p : Process) → NewsOpen p (receive s x m p).process
  receive-news x (tells.Update r e u stable) p =
      inl (λ d. none-when d (nat_le (at 0 p.ranks e.0) r.0) p
      (ack_to x r.0 e.0 u.number (update_taken s e.0 u stable p)) (none-apply s d e.0 stable p))
  receive-news x (tells.Adopt r e base list) p =
      inl (λ d. none-when d (nat_le (at 0 p.ranks e.0) r.0) p
      (ack_to x r.0 e.0 (base + length list) (log_adopted s r.0 e.0 base list p))
      (none-apply s d e.0 base (with_rank e.0 r.0 p)))
  receive-news x (tells.Stable r e n) p = inl (λ d. none-when d (nat_le (at 0 p.ranks e.0) r.0) p (quiet (apply_to s e.0 n p)) (none-apply s d e.0 n p))
  receive-news (DataNode z) (tells.Ack r e n) p = inl (λ d. none-refl d p)
  receive-news (ParityNode i) (tells.Ack r e n) p = inl (λ d. none-acknowledge s d i r.0 e.0 n (head_at p e.0) p)
  receive-news x (tells.ReadBlock session block rows) p = inl (λ d. none-read s d session block rows p p.name)
  receive-news (DataNode z) (tells.Block session bytes n) p = block-news session.number z bytes p
  receive-news (ParityNode i) (tells.Block session bytes n) p = inl (λ d. none-refl d p)
  receive-news x (tells.Mark session r block e n) p = mark-news (parity_number session.leader) session.number r.0 block e.0 n p
  receive-news (DataNode z) (tells.Row session bytes stamp) p = inl (λ d. none-refl d p)
  receive-news (ParityNode i) (tells.Row session bytes stamp) p = row-news session.number i bytes p
  receive-news (DataNode z) (tells.Cease upto) p = inl (λ d. none-refl d p)
  receive-news (ParityNode i) (tells.Cease upto) p = inl (λ d b none. none)
  receive-news x (tells.Notice dead) p = inl (λ d. none-notice s d dead p)

  -- a call that is asked rebuilds nothing, or its head leads all lost partitions
  act-news : (name : CallName) (op : Asked) (e : ℕ) (h : Head) (p : Process) (decision : Decision) → RestsWell (replica_of p e) (LeadsLost s p) decision
      → ((d : ℕ) → NoneNew d p (act_on s name op e h p decision).step.process) ⊎ LeadsLost s p
  act-news name op e h p (decides.Answer r) well = inl (λ d. none-refl d p)
  act-news name op e h p (decides.Retry n) well = inl (λ d. none-refl d p)
  act-news name op e h p decides.NoSpace well = inl (λ d. none-refl d p)
  act-news name op e h p (decides.NeedBlock b) well = inr well
  act-news name op e h p (decides.Issue body outcome) well =
      let u : Update = update_of name op e body outcome p in
      let t : ProcessStep = issued s e h u p in
      inl (λ d. none-trans d p t.process (act_on s name op e h p (decides.Issue body outcome)).step.process
      (none-judge s d e (with_replica e (with_update u (replica_of p e)) p))
      (none-ticketed s d (nat_le u.number (replica_of t.process e).applied) e u t))

  pub ask-news : (name : CallName) (op : Asked) (e : ℕ) (p : Process) (o : Option Head)
      → ((h : Head) → o ≡ Some h → (run : Run) (b : ℕ) → found_at s e p p.name run ≡ Missing b → LeadsLost s p)
      → ((d : ℕ) → NoneNew d p (ask_head s name op e p o).step.process) ⊎ LeadsLost s p
  ask-news name op e p None leads = inl (λ d. none-refl d p)
  ask-news name op e p (Some h) leads =
      act-news name op e h p (decide (space_of s) h.inherited (replica_of p e) op (found_at s e p p.name))
      (decides-well (space_of s) (replica_of p e) op (found_at s e p p.name) (LeadsLost s p) (leads h refl) h.inherited)
