-- What is left to show that a drained group is quiet: that no session is open and no copy is left.
use Rattle.std.proofs.Common.{ℕ, ◌≡◌, List, []}
use Rattle.group_types.specs.Dimensions.{Dimensions}
use Rattle.group_types.specs.declared.process.ProcessId.TheVariants.{ParityNode}
use Rattle.group_calls.specs.declared.event.Event.{Event}
use Rattle.group_run.specs.Headline.{IsRun}
use Rattle.group_run.specs.Meaning.{IsDown, IsDrained, Lives, process_of}
use Rattle.group_run.specs.Progress.{IsQuiet}
use Rattle.group_run.specs.World.{after}
use Rattle.law_histories.proofs.Headed.{headed_always}
use Rattle.law_histories.proofs.Quiet.{asked_always, finished_always, traced_always}

-- a drained group is quiet where no session is open and no copy is left
pub quiet-where : (s : Dimensions) (es : List Event) → IsRun s es → IsDrained (after s es) → ¬ (IsDown (after s es))
    → ((i : ℕ) → Lives (after s es) (ParityNode i) → (process_of (after s es) (ParityNode i)).as_leader.sessions ≡ [])
    → ((i : ℕ) → Lives (after s es) (ParityNode i) → (process_of (after s es) (ParityNode i)).as_row.copies ≡ [])
    → IsQuiet (after s es)
quiet-where s es run drained up sessions copies = record {
  headed = headed_always s es run drained up;
  finished = finished_always s es run drained;
  sessions = sessions;
  copies = copies;
  traced = traced_always s es run drained;
  asked = asked_always s es run drained;
}
