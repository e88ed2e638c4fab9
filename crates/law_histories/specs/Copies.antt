-- Which copies a row keeps: none of a leader that it knows to be dead.
use Rattle.std.specs.Prelude.{ℕ, ◌≡◌, ◌≢◌, true, List}
use Rattle.group_types.specs.Dimensions.{Dimensions}
use Rattle.group_types.specs.Names.{IsProcess}
use Rattle.group_types.specs.declared.process.ProcessId.TheVariants.{ParityNode}
use Rattle.group_types.specs.Each.{Each}
use Rattle.group_calls.specs.declared.event.Event.{Event}
use Rattle.group_run.specs.Headline.{IsRun}
use Rattle.group_run.specs.Meaning.{IsDrained, Lives, is_dead, process_of}
use Rattle.group_run.specs.World.{World, after}

-- no living process has a copy for a dead leader
abbrev pub DeadForgotten : World → Type 0
DeadForgotten w = (i l : ℕ) → Lives w (ParityNode i) → IsProcess w.shape (ParityNode l) → is_dead w (ParityNode l)
    ≡ true → Each (λ c. c.leader ≢ l) (process_of w (ParityNode i)).as_row.copies

-- so it is in a drained group, along every run
abbrev pub ForgottenAlways : Type 0
ForgottenAlways = (s : Dimensions) (es : List Event) → IsRun s es → IsDrained (after s es) → DeadForgotten (after s es)
