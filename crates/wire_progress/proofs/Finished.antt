-- What holds of the machine after a run of the group: its shape, and that heads of a drained group have nothing in their logs.
use Rattle.std.proofs.Common.{ℕ, ◌≡◌, ◌<◌, ◌≤◌, List, [], Some, sym, subst, ◌∙◌, arith}
use Rattle.group_types.specs.Dimensions.{Dimensions}
use Rattle.group_types.specs.Hash.{home_of}
use Rattle.group_types.specs.declared.process.ProcessId.{ProcessId}
use Rattle.group_calls.specs.declared.event.Event.{Event}
use Rattle.group_run.specs.Applying.{head_at, replica_of}
use Rattle.group_run.specs.Headline.{IsRun}
use Rattle.group_run.specs.History.{History, history_of, no_history}
use Rattle.group_run.specs.Meaning.{IsDrained, Lives, process_of}
use Rattle.group_run.specs.Process.{Head}
use Rattle.group_run.specs.World.{World, after}
use Rattle.law_moves.specs.State.{state_of}
use Rattle.law_moves.proofs.Runs.{shape-from, world-from}
use Rattle.law_histories.proofs.Finished.{IsEmpty, log-empty, reached-and-told}
use Rattle.law_histories.proofs.Told.{Told}
use Rattle.law_histories.proofs.ToldKeeping.{Reached}
use Rattle.group_wire.specs.Actions.{Action}
use Rattle.group_wire.specs.Composed.{AreActions, composed, events_of, opening_composed}
use Rattle.group_wire.specs.Composition.{machine}
use Rattle.group_wire.proofs.Compositions.{runs_compose}
use Rattle.group_wire.proofs.Extending.{shape-after}
use Rattle.group_wire.proofs.Honest as honest

pub home-below : (key : List ℕ) (k : ℕ) → 1 ≤ k → home_of key k < k
home-below key k some = omega (arith, some)

pub shape-machine : (s : Dimensions) (actions : List Action) → AreActions s actions → (machine (composed s actions)).shape ≡ s
shape-machine s actions run = shape-after (composed s actions).group.shape (events_of (composed s actions))
    (runs_compose s actions run).run ∙ honest.shape-from (opening_composed s) actions

-- living heads have nothing in their logs
abbrev pub LogsAreEmpty : World → Type 0
LogsAreEmpty w = (p : ProcessId) (d : ℕ) (h : Head) → Lives w p → d < w.shape.k → head_at (process_of w p) d ≡ Some h → (replica_of (process_of w p) d).log ≡ []

pub logs-empty : (s : Dimensions) (es : List Event) → IsRun s es → IsDrained (after s es) → LogsAreEmpty (after s es)
logs-empty s es run drained = subst LogsAreEmpty same
    (λ p d y lives low heads. log-empty h.world.shape (state_of h)
    (subst (λ (t : Dimensions). Reached t (state_of h)) (sym shape) both.0)
    (subst (λ (t : Dimensions). Told t (state_of h)) (sym shape) both.1) empty p d y lives.0 lives.1 low heads)
  where
    h : History
    h = history_of s es

    same : (history_of s es).world ≡ after s es
    same = world-from (no_history s) es

    shape : (history_of s es).world.shape ≡ s
    shape = shape-from (no_history s) es

    both : Reached s (state_of (history_of s es)) × Told s (state_of (history_of s es))
    both = reached-and-told s es run

    empty : IsEmpty (history_of s es).world.shape (state_of (history_of s es))
    empty from to fin tin living apart = subst IsDrained (sym same) drained from to fin (tin, living) apart
