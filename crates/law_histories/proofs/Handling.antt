-- What a process makes of calls and messages, as the laws of acknowledgements look at it.
use Rattle.std.proofs.Common.{ℕ, ◌≡◌, ◌≢◌, ◌==◌, nat_le, Bool, true, false, List, Option, Some, None, ◌⊎◌, inl, inr, refl, sym, ap, subst, ◌∙◌, arith}
use Rattle.std.proofs.lemmas.Bool.{cases_eq}
use Rattle.std.specs.Prelude.{not}
use Rattle.std.specs.List.{list_any, range_with_len}
use Rattle.group_types.specs.Dimensions.{Dimensions, space_of}
use Rattle.group_types.specs.Hash.{home_of}
use Rattle.group_types.specs.Lists.{at}
use Rattle.group_types.specs.declared.process.ProcessId.{ProcessId}
use Rattle.group_types.specs.declared.process.ProcessId.TheVariants.{DataNode, ParityNode}
use Rattle.group_types.proofs.Lists.{at-put-other}
use Rattle.memc_table.specs.Act.{key_of}
use Rattle.memc_table.specs.Asked.{Asked}
use Rattle.group_message.specs.declared.message.Session.{Session}
use Rattle.group_message.specs.declared.update.Update.{Update}
use Rattle.group_calls.specs.Turns.{CallName}
use Rattle.group_calls.specs.declared.decision.Decision.{Decision}
use Rattle.group_calls.specs.declared.decision.Decision.TheVariants as decides
use Rattle.group_run.specs.Applying.{ProcessStep, apply_to, head_at, replica_of, with_replica}
use Rattle.group_run.specs.Asking.{Oldest, act_on, ask_head, found_at, issued, oldest_inherited, retry_block, ticketed, update_of}
use Rattle.group_run.specs.Deciding.{decide}
use Rattle.group_run.specs.Heading.{judge}
use Rattle.group_run.specs.Leaders.{start_session}
use Rattle.group_run.specs.Process.{Head, Process}
use Rattle.group_run.specs.Receiving.{adopting, log_adopted, read_comes, update_taken, with_rank}
use Rattle.group_run.specs.Replica.{Replica, empty_replica, last_of, with_update}
use Rattle.law_moves.proofs.Moves.{Treats, Asks, Collects, Flushes}
use Rattle.law_histories.proofs.Calls.{still-collect}
use Rattle.law_histories.proofs.Told.{Settles}
use Rattle.law_histories.proofs.Plain.{Plain, plain-apply, plain-judge, plain-refl, plain-same, plain-session}
use Rattle.law_histories.proofs.Plain.{plain-trans, plain-when, settles-judge, settles-plain}

-- a call: the head stays, and only a head gets more updates, of which it judges
pub record Handles (s : Dimensions) (d : ℕ) (p q : Process) : Type 0 where
  pub head : head_at q d ≡ head_at p d
  pub rank : at 0 q.ranks d ≡ at 0 p.ranks d
  pub last : (last_of (replica_of q d) ≡ last_of (replica_of p d)) ⊎ ((h : Head) × (head_at p d ≡ Some h))
  pub settles : Settles s d p → Settles s d q

handles-plain : (s : Dimensions) (d : ℕ) (p q : Process) → Plain d p q → Handles s d p q
handles-plain s d p q plain = record { head = plain.head; rank = plain.rank; last = inl plain.last; settles = settles-plain s d p q plain }

-- another partition's replica
plain-other : (d e : ℕ) (r : Replica) (p : Process) → e ≢ d → Plain d p (with_replica e r p)
plain-other d e r p other =
    let same : replica_of (with_replica e r p) d ≡ replica_of p d = at-put-other empty_replica p.replicas e d r (λ is. other (sym is)) in
    let number : (replica_of (with_replica e r p) d).applied ≡ (replica_of p d).applied = ap (λ (x : Replica). x.applied) same in
    record { name = refl; known = refl; head = refl; rank = refl; last = ap last_of same; applied = omega (arith, number) }

module _ (s : Dimensions) (d : ℕ) where
  handles-issued : (e : ℕ) (h : Head) (u : Update) (p : Process) → head_at p e ≡ Some h → Handles s d p (issued s e h u p).process
  handles-issued e h u p heads = by (cases_eq e d) where
    q : Process
    q = with_replica e (with_update u (replica_of p e)) p

    by : (e ≡ d) ⊎ (e ≢ d) → Handles s d p (judge s e q).process
    by (inr other) = handles-plain s d p (judge s e q).process (plain-trans (plain-other d e (with_update u (replica_of p e)) p other) (plain-judge s d e q))
    by (inl same) = let judged : Plain d q (judge s e q).process = plain-judge s d e q in record {
      head = judged.head;
      rank = judged.rank;
      last = inr (h, ap (head_at p) (sym same) ∙ heads);
      settles = λ settles. subst (λ (x : ℕ). Settles s d (judge s x q).process) (sym same) (settles-judge s d q);
    }

  handles-ticketed : (b : Bool) (e : ℕ) (u : Update) (p : Process) (t : ProcessStep) → Handles s d p t.process → Handles s d p (ticketed b e u t).step.process
  handles-ticketed true e u p t handles = handles
  handles-ticketed false e u p t handles = record { head = handles.head; rank = handles.rank; last = handles.last; settles = handles.settles }

  plain-retry : (b : ℕ) (o : Option Oldest) (p : Process) → Plain d p (retry_block s b o p).step.process
  plain-retry b (Some o) p = plain-refl d p
  plain-retry b None p = plain-when d (not (list_any (λ g. g.block == b) p.as_leader.sessions)) p (start_session s b p) (plain-session s d b p)

  handles-act : (name : CallName) (op : Asked) (e : ℕ) (h : Head) (p : Process) (decision : Decision)
      → head_at p e ≡ Some h → Handles s d p (act_on s name op e h p decision).step.process
  handles-act name op e h p (decides.Answer r) heads = handles-plain s d p p (plain-refl d p)
  handles-act name op e h p (decides.Retry n) heads = handles-plain s d p p (plain-refl d p)
  handles-act name op e h p decides.NoSpace heads = handles-plain s d p p (plain-refl d p)
  handles-act name op e h p (decides.NeedBlock b) heads = handles-plain s d p _ (plain-retry b (oldest_inherited p (range_with_len 0 s.k)) p)
  handles-act name op e h p (decides.Issue body outcome) heads =
      let u : Update = update_of name op e body outcome p in
      handles-ticketed (nat_le u.number (replica_of (issued s e h u p).process e).applied) e u p (issued s e h u p) (handles-issued e h u p heads)

  handles-ask : (name : CallName) (op : Asked) (e : ℕ) (p : Process) (o : Option Head) → head_at p e ≡ o → Handles s d p (ask_head s name op e p o).step.process
  handles-ask name op e p None heads = handles-plain s d p p (plain-refl d p)
  handles-ask name op e p (Some h) heads = handles-act name op e h p (decide (space_of s) h.inherited (replica_of p e) op (found_at s e p p.name)) heads

  pub handles-treats : (p : Process) (t : ProcessStep) → Treats s p t → Handles s d p t.process
  handles-treats p _ (Asks name op bytes) = handles-ask name op (home_of (key_of op.act) s.k) p (head_at p (home_of (key_of op.act) s.k)) refl
  handles-treats p _ (Collects caller call) = handles-plain s d p _ (plain-same d p _ (still-collect s d caller call p (range_with_len 0 s.k)).same)
  handles-treats p _ Flushes = handles-plain s d p p (plain-refl d p)

  -- an update of another partition, and a log
  pub plain-taken : (e : ℕ) (u : Update) (stable : ℕ) (p : Process) → e ≢ d → Plain d p (update_taken s e u stable p)
  plain-taken e u stable p other =
      let q : Process = apply_to s e stable p in
      plain-trans (plain-apply s d e stable p) (plain-other d e (with_update u (replica_of q e)) q other)

  pub plain-adopt : (r e base : ℕ) (list : List Update) (p : Process) → e ≢ d → Plain d p (log_adopted s r e base list p)
  plain-adopt r e base list p other =
      let ranked : Process = with_rank e r p in
      let first : Plain d p ranked =
      record {
        name = refl;
        known = refl;
        head = refl;
        rank = at-put-other 0 p.ranks e d r (λ is. other (sym is));
        last = refl;
        applied = omega arith;
      } in
      let q : Process = apply_to s e base ranked in
      plain-trans first (plain-trans (plain-apply s d e base ranked) (plain-other d e (adopting base list (replica_of q e)) q other))

  pub plain-read : (session : Session) (block : ℕ) (rows : List ℕ) (p : Process) (y : ProcessId) → Plain d p (read_comes s session block rows p y).process
  plain-read session block rows p (ParityNode i) = plain-refl d p
  plain-read session block rows p (DataNode e) = plain-refl d p
