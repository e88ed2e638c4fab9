-- The cause of each answer, event by event, along every run.
use Rattle.std.specs.Prelude.{ℕ, List}
use Rattle.group_types.specs.Dimensions.{Dimensions}
use Rattle.group_types.specs.declared.process.ProcessId.{ProcessId}
use Rattle.group_types.specs.declared.process.Partition.{Partition}
use Rattle.memc_table.specs.Asked.{Asked}
use Rattle.group_calls.specs.declared.event.Event.{Event}
use Rattle.group_calls.specs.declared.event.Event.TheVariants.{Ask, Collect, Deliver, Fail, Flush, Trace}
use Rattle.group_run.specs.Causes.{AnswersHaveCauses, AskCause, AsksLeave, ClearIsServed, CollectCause, DeliverCause, FailCause, FlushCause, TraceCause}
use Rattle.group_run.specs.Headline.{IsRun, MayCome}
use Rattle.group_run.specs.World.{World, after, step}

-- each answer to a delivery has its cause
abbrev pub DeliveriesHaveCauses : World → Type 0
DeliveriesHaveCauses w = (from to : ProcessId) → MayCome w (Deliver from to) → DeliverCause w from to (step w (Deliver from to)).turn.answer

-- each answer to a failure has its cause
abbrev pub FailuresHaveCauses : World → Type 0
FailuresHaveCauses w = (p : ProcessId) (keep : ℕ) → MayCome w (Fail p keep) → FailCause w p (step w (Fail p keep)).turn.answer

-- each answer to a flush has its cause
abbrev pub FlushesHaveCauses : World → Type 0
FlushesHaveCauses w = (p : ProcessId) → MayCome w (Flush p) → FlushCause w p (step w (Flush p)).turn.answer

-- each answer to a collect has its cause
abbrev pub CollectsHaveCauses : World → Type 0
CollectsHaveCauses w = (caller call : ℕ) (p : ProcessId) → MayCome w (Collect caller call p)
    → CollectCause w p caller call (step w (Collect caller call p)).turn.answer

-- each answer to a trace has its cause
abbrev pub TracesHaveCauses : World → Type 0
TracesHaveCauses w = (caller call : ℕ) (d : Partition) (p : ProcessId) → MayCome w (Trace caller call d p)
    → TraceCause w p caller call d.0 (step w (Trace caller call d p)).turn.answer

-- each answer to an ask has its cause
abbrev pub AsksHaveCauses : World → Type 0
AsksHaveCauses w = (caller : ℕ) (op : Asked) (p : ProcessId) → MayCome w (Ask caller op p)
    → AskCause w (step w (Ask caller op p)).world p op (step w (Ask caller op p)).turn.answer

-- so it is along every run
abbrev pub DeliveriesAlways : Type 0
DeliveriesAlways = (s : Dimensions) (es : List Event) → IsRun s es → DeliveriesHaveCauses (after s es)

abbrev pub FailuresAlways : Type 0
FailuresAlways = (s : Dimensions) (es : List Event) → IsRun s es → FailuresHaveCauses (after s es)

abbrev pub FlushesAlways : Type 0
FlushesAlways = (s : Dimensions) (es : List Event) → IsRun s es → FlushesHaveCauses (after s es)

abbrev pub CollectsAlways : Type 0
CollectsAlways = (s : Dimensions) (es : List Event) → IsRun s es → CollectsHaveCauses (after s es)

abbrev pub TracesAlways : Type 0
TracesAlways = (s : Dimensions) (es : List Event) → IsRun s es → TracesHaveCauses (after s es)

abbrev pub AsksAlways : Type 0
AsksAlways = (s : Dimensions) (es : List Event) → IsRun s es → AsksHaveCauses (after s es)

-- each answer has its cause
abbrev pub AnswersAlways : Type 0
AnswersAlways = (s : Dimensions) (es : List Event) → IsRun s es → AnswersHaveCauses (after s es)

-- a call that nothing stands in the way of is served
abbrev pub ClearAlways : Type 0
ClearAlways = (s : Dimensions) (es : List Event) → IsRun s es → ClearIsServed (after s es)

-- each answer to an ask leaves what it should
abbrev pub AsksLeaveAlways : Type 0
AsksLeaveAlways = (s : Dimensions) (es : List Event) → IsRun s es → AsksLeave (after s es)
