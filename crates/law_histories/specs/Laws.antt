-- What holds in a drained group that isn't down.
use Rattle.std.specs.Prelude.{ℕ, ◌≡◌, ◌≢◌, ◌<◌, List, [], Some}
use Rattle.group_types.specs.Dimensions.{Dimensions}
use Rattle.group_types.specs.Names.{of_rank}
use Rattle.group_types.specs.declared.process.Partition.{Partition}
use Rattle.group_types.specs.declared.process.ProcessId.{ProcessId}
use Rattle.memc_table.specs.Asked.{Asked}
use Rattle.group_calls.specs.declared.event.Answer.TheVariants as says
use Rattle.group_calls.specs.declared.event.Event.{Event}
use Rattle.group_calls.specs.declared.event.Event.TheVariants.{Ask, Trace}
use Rattle.group_run.specs.Applying.{head_at, replica_of}
use Rattle.group_run.specs.Headline.{IsRun, MayCome}
use Rattle.group_run.specs.Meaning.{HasTakenOver, Heads, IsDown, IsDrained, process_of}
use Rattle.group_run.specs.Process.{Head}
use Rattle.group_run.specs.Progress.{IsPending}
use Rattle.group_run.specs.World.{World, after, step}

-- each partition has a head that has taken over
abbrev pub IsHeaded : World → Type 0
IsHeaded w = (d : ℕ) → d < w.shape.k → (r : ℕ) × Heads w d r × HasTakenOver w d r

-- so it is in a drained group that isn't down, along every run
abbrev pub HeadedAlways : Type 0
HeadedAlways = (s : Dimensions) (es : List Event) → IsRun s es → IsDrained (after s es) → ¬ (IsDown (after s es)) → IsHeaded (after s es)

-- each partition's head has nothing in its log
abbrev pub IsFinished : World → Type 0
IsFinished w = (d r : ℕ) → d < w.shape.k → Heads w d r → (h : Head) × (head_at (process_of w (of_rank d r)) d ≡ Some h)
    × ((replica_of (process_of w (of_rank d r)) d).log ≡ [])

abbrev pub FinishedAlways : Type 0
FinishedAlways = (s : Dimensions) (es : List Event) → IsRun s es → IsDrained (after s es) → IsFinished (after s es)

-- no trace has to wait
abbrev pub IsTraced : World → Type 0
IsTraced w = (caller call : ℕ) (d : Partition) (p : ProcessId) → MayCome w (Trace caller call d p) → (step w (Trace caller call d p)).turn.answer ≢ says.NotYet

abbrev pub TracedAlways : Type 0
TracedAlways = (s : Dimensions) (es : List Event) → IsRun s es → IsDrained (after s es) → IsTraced (after s es)

-- no ask has to wait for an update
abbrev pub IsAsked : World → Type 0
IsAsked w = (caller : ℕ) (op : Asked) (p : ProcessId) → MayCome w (Ask caller op p) → ¬ (IsPending (step w (Ask caller op p)).turn.answer)

abbrev pub AskedAlways : Type 0
AskedAlways = (s : Dimensions) (es : List Event) → IsRun s es → IsDrained (after s es) → IsAsked (after s es)
