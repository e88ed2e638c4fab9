-- Calls at a process put nothing behind the log of a partition, but for an update that is issued in it.
use Rattle.std.proofs.Common.{ℕ, suc, ◌≡◌, ◌≢◌, ◌==◌, nat_le, Bool, true, false, not, Option, Some, None, refl, sym, ap}
use Rattle.std.specs.List.{list_any, range_with_len}
use Rattle.group_types.specs.Dimensions.{Dimensions}
use Rattle.group_types.specs.Lists.{at}
use Rattle.group_types.proofs.Lists.{at-put-other}
use Rattle.memc_table.specs.Asked.{Asked}
use Rattle.group_message.specs.declared.update.Body.{Body}
use Rattle.group_message.specs.declared.update.Outcome.{Outcome}
use Rattle.group_message.specs.declared.update.Update.{Update}
use Rattle.group_calls.specs.Turns.{CallName}
use Rattle.group_calls.specs.declared.decision.Decision.{Decision}
use Rattle.group_calls.specs.declared.decision.Decision.TheVariants as decides
use Rattle.group_run.specs.Applying.{ProcessStep, replica_of, with_replica}
use Rattle.group_run.specs.Asking.{Oldest, act_on, collect_from, holding, issued, oldest_inherited, retry_block, ticketed, update_of}
use Rattle.group_run.specs.Leaders.{lost_of, own_mark, session_opened, start_session}
use Rattle.group_run.specs.Process.{Head, Process}
use Rattle.group_run.specs.Replica.{empty_replica, last_of, with_update}
use Rattle.group_run.specs.Rows.{parity_number}
use Rattle.law_histories.proofs.Calls.{still-collect}
use Rattle.law_headline.proofs.Longs.{Long, long-as, long-each, long-judge, long-mark, long-refl, long-same, long-trans, long-when}

module _ (s : Dimensions) (d : ℕ) where
  -- a leader opens a session
  long-session : (block : ℕ) (p : Process) → Long d p (start_session s block p).process
  long-session block p =
      let leader : ℕ = parity_number p.name in
      let number : ℕ = suc p.as_leader.last_session in
      let opened : Process = session_opened s number block p in
      long-trans d p opened (start_session s block p).process (long-as d p opened refl refl)
      (long-each d (own_mark s leader number block)
      (λ l q. long-mark s d leader number (at 0 q.ranks l) block l (replica_of q l).applied q) (lost_of s p) opened)

  long-retry : (block : ℕ) (o : Option Oldest) (p : Process) → Long d p (retry_block s block o p).step.process
  long-retry block (Some o) p = long-refl d p
  long-retry block None p = long-when d (not (list_any (λ g. g.block == block) p.as_leader.sessions)) p (start_session s block p) (λ none. long-session block p)

  pub long-ticketed : (b : Bool) (e : ℕ) (u : Update) (t : ProcessStep) → Long d t.process (ticketed b e u t).step.process
  long-ticketed true e u t = long-refl d t.process
  long-ticketed false e u t = long-as d t.process (holding e u t.process) refl refl

  -- an update of another partition
  long-issued : (e : ℕ) (h : Head) (u : Update) (p : Process) → e ≢ d → Long d p (issued s e h u p).process
  long-issued e h u p other =
      let told : Process = with_replica e (with_update u (replica_of p e)) p in
      long-trans d p told (issued s e h u p).process
      (long-as d p told refl (ap last_of (at-put-other empty_replica p.replicas e d (with_update u (replica_of p e)) (λ same. other (sym same)))))
      (long-judge s d e told)

  pub long-act : (name : CallName) (op : Asked) (e : ℕ) (h : Head) (p : Process) (decision : Decision)
      → ((body : Body) (outcome : Outcome) → decision ≡ decides.Issue body outcome → e ≢ d) → Long d p (act_on s name op e h p decision).step.process
  long-act name op e h p (decides.Answer r) other = long-refl d p
  long-act name op e h p (decides.Retry n) other = long-refl d p
  long-act name op e h p decides.NoSpace other = long-refl d p
  long-act name op e h p (decides.NeedBlock b) other = long-retry b (oldest_inherited p (range_with_len 0 s.k)) p
  long-act name op e h p (decides.Issue body outcome) other =
      let u : Update = update_of name op e body outcome p in
      let t : ProcessStep = issued s e h u p in
      long-trans d p t.process (act_on s name op e h p (decides.Issue body outcome)).step.process (long-issued e h u p (other body outcome refl))
      (long-ticketed (nat_le u.number (replica_of t.process e).applied) e u t)

  pub long-collect : (caller call : ℕ) (p : Process) → Long d p (collect_from caller call p (range_with_len 0 s.k)).step.process
  long-collect caller call p = long-same d p (collect_from caller call p (range_with_len 0 s.k)).step.process
      (still-collect s d caller call p (range_with_len 0 s.k)).same
