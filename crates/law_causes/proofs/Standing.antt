-- What holds of a living head, in the words that the laws here need.
use Rattle.std.proofs.Common.{ℕ, suc, ◌≡◌, ◌<◌, ◌≤◌, List, Some, sym, subst}
use Rattle.group_types.specs.Dimensions.{Dimensions}
use Rattle.group_types.specs.declared.process.ProcessId.{ProcessId}
use Rattle.group_types.specs.Names.{IsProcess}
use Rattle.group_calls.specs.declared.event.Event.{Event}
use Rattle.group_run.specs.Applying.{head_at, replica_of}
use Rattle.group_run.specs.Fitting.{NumberedFrom}
use Rattle.group_run.specs.Headline.{IsRun}
use Rattle.group_run.specs.History.{History, history_of, no_history}
use Rattle.group_run.specs.Meaning.{Lives, process_of}
use Rattle.group_run.specs.Process.{Head}
use Rattle.group_run.specs.Replica.{last_of}
use Rattle.group_run.specs.World.{World, after}
use Rattle.law_moves.specs.State.{state_of}
use Rattle.law_moves.proofs.Runs.{shape-from, world-from}
use Rattle.law_histories.proofs.Around.{keeper-rank}
use Rattle.law_histories.proofs.Finished.{reached-and-told}
use Rattle.law_histories.proofs.Histories.{log-numbered}
use Rattle.law_histories.proofs.Ranks.{head-from}
use Rattle.law_histories.proofs.Reach.{Any, ReplicaReaches}
use Rattle.law_histories.proofs.Told.{Settles, Told}
use Rattle.law_histories.proofs.ToldKeeping.{Reached}

-- its name, that it has settled what all acknowledged, that its log has consecutive numbers, and that what it
-- inherited is no later than its log
pub record HeadStands (w : World) (p : ProcessId) (d : ℕ) (h : Head) : Type 0 where
  pub name : (process_of w p).name ≡ p
  pub settles : Settles w.shape d (process_of w p)
  pub numbered : NumberedFrom (suc (replica_of (process_of w p) d).applied) (replica_of (process_of w p) d).log
  pub inherited : h.inherited ≤ last_of (replica_of (process_of w p) d)

module _ (h : History) (reached : Reached h.world.shape (state_of h)) (told : Told h.world.shape (state_of h)) where
  heads-stand : (p : ProcessId) (d : ℕ) (y : Head) → Lives h.world p → d < h.world.shape.k
      → head_at (process_of h.world p) d ≡ Some y → HeadStands h.world p d y
  heads-stand p d y lives low heads =
      let reaches : ReplicaReaches Any d ((state_of h).settled d) ((state_of h).process p)
      = (reached.1 d low).replicas p lives.0 lives.1
      (keeper-rank d y.rank p (head-from h.world.shape (state_of h) d reached.0 low p y lives.0 lives.1 heads).0) in
      record {
        name = reached.0.named p lives.0;
        settles = told.settles p d lives.0 lives.1 low;
        numbered = log-numbered ((state_of h).settled d) (replica_of (process_of h.world p) d) reaches.applied reaches.fine.0;
        inherited = (reaches.heads y heads).inherited;
      }

-- every living head stands so, along every run
abbrev pub HeadsStand : World → Type 0
HeadsStand w = (p : ProcessId) (d : ℕ) (y : Head) → Lives w p → d < w.shape.k → head_at (process_of w p) d ≡ Some y → HeadStands w p d y

pub heads-always : (s : Dimensions) (es : List Event) → IsRun s es → HeadsStand (after s es)
heads-always s es run =
    let h : History = history_of s es in
    let shape : h.world.shape ≡ s = shape-from (no_history s) es in
    let both : Reached s (state_of h) × Told s (state_of h) = reached-and-told s es run in
    subst HeadsStand (world-from (no_history s) es)
    (heads-stand h (subst (λ (t : Dimensions). Reached t (state_of h)) (sym shape) both.0) (subst (λ (t : Dimensions). Told t (state_of h)) (sym shape) both.1))

-- each process has its name
pub named-always : (s : Dimensions) (es : List Event) → IsRun s es → (p : ProcessId) → IsProcess (after s es).shape p → (process_of (after s es) p).name ≡ p
named-always s es run =
    let h : History = history_of s es in
    subst (λ (w : World). (p : ProcessId) → IsProcess w.shape p → (process_of w p).name ≡ p) (world-from (no_history s) es)
    (λ p pin. (reached-and-told s es run).0.0.named p (subst (λ (t : Dimensions). IsProcess t p) (shape-from (no_history s) es) pin))
