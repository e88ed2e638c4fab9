-- What is told of every run: of heads that are ready, and of those that wait.
use Rattle.std.proofs.Common.{ℕ, zero, suc, ◌≡◌, ◌<◌, ◌≤◌, List, Option, Some, None, refl, sym, ap, subst, arith}
use Rattle.std.specs.Prelude.{option_map}
use Rattle.group_types.specs.Dimensions.{Dimensions}
use Rattle.group_types.specs.Names.{IsProcess, of_rank}
use Rattle.group_types.specs.declared.process.ProcessId.{ProcessId}
use Rattle.memc_table.specs.Act.{key_of}
use Rattle.group_calls.specs.declared.event.Event.{Event}
use Rattle.group_calls.specs.declared.event.Event.TheVariants.{Ask, Collect, Trace}
use Rattle.group_run.specs.Applying.{head_at}
use Rattle.group_run.specs.Causes.{IsReady, IsUp}
use Rattle.group_run.specs.Headline.{IsRun}
use Rattle.group_run.specs.History.{History, history_of, no_history}
use Rattle.group_run.specs.Meaning.{process_of}
use Rattle.group_run.specs.Process.{Head, Process}
use Rattle.group_run.specs.World.{World, after, step}
use Rattle.law_moves.specs.State.{state_of}
use Rattle.law_moves.proofs.Aways.{seat-from-ready}
use Rattle.law_moves.proofs.Keeping.{members_always}
use Rattle.law_moves.proofs.Members.{Members, seat_of}
use Rattle.law_moves.proofs.Runs.{shape-from, world-from}
use Rattle.law_log.proofs.Tables.{home-below}
use Rattle.law_answers.proofs.Asks.{asks_always}
use Rattle.law_answers.proofs.Traces.{traces_always}
use Rattle.law_answers.proofs.Walks.{collects_always}
use Rattle.law_causes.specs.Unfinished.{UnfinishedAlways}
use Rattle.law_causes.specs.Waiting.{WaitsAlways}
use Rattle.law_causes.proofs.Holding.{holds-issued}
use Rattle.law_causes.proofs.Standing.{heads-always}
use Rattle.law_causes.proofs.Unfinished.{log-unfinished}
use Rattle.law_causes.proofs.Waiting.{ask-waits, collect-waits, trace-waits}

-- a process that heads a partition is one of the group
in-group : (w : World) (p : ProcessId) (d : ℕ) → d < w.shape.k → IsReady w p d → IsProcess w.shape p
in-group w p d low ready = subst (IsProcess w.shape) (sym ready.name) (by ready.rank ready.heads.within) where
  by : (r : ℕ) → r ≤ w.shape.m → IsProcess w.shape (of_rank d r)
  by zero within = low
  by (suc r) within = omega (arith, within)

-- a process that is ready heads the partition
abbrev ReadyHeads : World → Type 0
ReadyHeads w = (p : ProcessId) (d : ℕ) → IsProcess w.shape p → d < w.shape.k → IsUp w p → IsReady w p d → (h : Head) × (head_at (process_of w p) d ≡ Some h)

seat-head : (p : Process) (d r : ℕ) → seat_of p d ≡ Some r → (h : Head) × (head_at p d ≡ Some h)
seat-head p d r seat = by (head_at p d) refl where
  by : (o : Option Head) → head_at p d ≡ o → (h : Head) × (head_at p d ≡ Some h)
  by (Some h) is = (h, is)
  by None is = absurd (cc (seat, ap (option_map (λ (h : Head). h.rank)) is))

ready-heads : (s : Dimensions) (es : List Event) → IsRun s es → ReadyHeads (after s es)
ready-heads s es run =
    let h : History = history_of s es in
    let members : Members h.world.shape (state_of h) = subst (λ (t : Dimensions). Members t (state_of h))
    (sym (shape-from (no_history s) es)) (members_always s es run) in
    subst ReadyHeads (world-from (no_history s) es) (λ p d pin low up ready.
    let seat = seat-from-ready h members p d pin up.process low ready in seat-head (process_of h.world p) d seat.0 seat.1)

pub unfinished_always : UnfinishedAlways
unfinished_always s es run = record {
  heads = λ p d h lives low heads. log-unfinished (after s es) p d h heads (heads-always s es run p d h lives low heads);
  ready = λ p d up ready low.
      let pin = in-group (after s es) p d low ready in
      let head = ready-heads s es run p d pin low up ready in
      (head.0, head.1, log-unfinished (after s es) p d head.0 head.1 (heads-always s es run p d head.0 (pin, up.process) low head.1));
}

some-partition : (s : Dimensions) (es : List Event) → IsRun s es → 1 ≤ (after s es).shape.k
some-partition s es run = subst (λ (w : World). 1 ≤ w.shape.k) (world-from (no_history s) es)
    (subst (λ (t : Dimensions). 1 ≤ t.k) (sym (shape-from (no_history s) es)) run.0.k.0)

pub waits_always : WaitsAlways
waits_always s es run = record {
  asks = λ caller op p d n may is.
      ask-waits w p may.1 (heads-always s es run) (λ e low up ready. ready-heads s es run p e may.1 low up ready) op
      (home-below (key_of op.act) w.shape.k (some-partition s es run))
      (step w (Ask caller op p)).world d n (step w (Ask caller op p)).turn.answer (asks_always s es run caller op p may) is;
  collects = λ caller call p may is.
      collect-waits w p may.1 (heads-always s es run) (λ e low up ready. ready-heads s es run p e may.1 low up ready) caller call
      (λ d x lives holds. let issued = holds-issued s es run p d x lives holds.partition holds.held in (issued.head, issued.heads, issued.within))
      (step w (Collect caller call p)).turn.answer (collects_always s es run caller call p may) is;
  traces = λ caller call d p may is.
      trace-waits w p may.3 (heads-always s es run) (λ e low up ready. ready-heads s es run p e may.3 low up ready) caller call d.0 may.2
      (step w (Trace caller call d p)).turn.answer (traces_always s es run caller call d p may) is;
} where
  w : World
  w = after s es
