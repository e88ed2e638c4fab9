-- What the course of a script asks of its transcript, step by step, and what it tells for each.
use Rattle.std.specs.Prelude.{ℕ, List, [], ◌∷◌, ◌++◌, length, map, Option, Some, Result, Ok, if◌then◌else◌}
use Rattle.std.specs.List.{range_with_len}
use Rattle.group_types.specs.Lists.{at}
use Rattle.group_types.specs.declared.process.ProcessId.{ProcessId}
use Rattle.group_types.specs.declared.run.Run.{Run}
use Rattle.group_calls.specs.declared.event.Event.{Event}
use Rattle.group_calls.specs.declared.event.Event.TheVariants as happens
use Rattle.group_run.specs.Meaning.{is_dead}
use Rattle.group_run.specs.Shown.{held, is_down, stamp_of}
use Rattle.group_run.specs.World.{World, step, turns_from}
use Rattle.scenario_text.specs.Meaning.{line_meaning}
use Rattle.scenario_text.specs.declared.line.Line.{Line}
use Rattle.scenario_text.specs.declared.line.Line.TheVariants.{Ask, Collect, Deliver, Fail, Flush, Trace, Drain, Show, Places}
use Rattle.scenario_text.specs.declared.line.LineFault.{LineFault}
use Rattle.scenario_run.specs.Course.{Goes, Ends, Refused}
use Rattle.scenario_run.specs.Playing.{Play, draining_unless_down, next_of, shape_in}
use Rattle.run_verify.specs.declared.step.Step.{Step}
use Rattle.run_verify.specs.declared.step.Step.TheVariants.{Make, Deliveries, Look, Placing}
use Rattle.run_verify.specs.Told.{ToldStep, Made, Drained, Shown, Lost, Down, Placed}

-- what is told for an event
abbrev pub made : Play → Event → List ToldStep
made p e = Made (step p.world e).turn ∷ []

-- for a drain
abbrev pub drained : World → List Event → List ToldStep
drained w es = Drained (turns_from w es) (length (turns_from w es)) ∷ []

-- for a look at a process
abbrev pub looked : World → ProcessId → Run → ToldStep
looked w p run = if is_down w then Down else (if is_dead w p then Lost else Shown (stamp_of w p) (held w p run))

-- the runs of all partitions' updates, by number
abbrev pub places_of : World → List (List (Option Run))
places_of w = map (λ d. at [] w.places d) (range_with_len 0 w.shape.k)

-- for a line of this meaning behind the group line
abbrev pub told_by : Play → Line → List ToldStep
told_by p (Ask caller from act) = made p (happens.Ask caller (record { moment = p.moment; act = act }) from)
told_by p (Collect caller call from) = made p (happens.Collect caller call from)
told_by p (Deliver from to) = made p (happens.Deliver from to)
told_by p (Fail from keep) = made p (happens.Fail from keep)
told_by p (Flush from) = made p (happens.Flush from)
told_by p (Trace caller call partition from) = made p (happens.Trace caller call partition from)
told_by p Drain = drained p.world (draining_unless_down p.world)
told_by p (Show from run) = looked p.world from run ∷ []
told_by p Places = Placed (places_of p.world) ∷ []
told_by p _ = []

-- for a line that is read so
abbrev pub told_on : Option Play → Result Line LineFault → List ToldStep
told_on (Some p) (Ok line) = told_by p line
told_on _ _ = []

-- for lines, up to the end
abbrev pub told_along : Option Play → List (List ℕ) → List ToldStep
told_along play [] = []
told_along play (line ∷ lines) =
    elim (next_of play line) [
      | Goes next turns text ↦ told_on play (line_meaning (shape_in play) line)
          ++ told_along next lines
      | Ends ↦ []
      | Refused cause ↦ []
    ]

-- the steps of a line of this meaning behind the group line
abbrev pub steps_by : Play → Line → List Step
steps_by p (Ask caller from act) = Make (happens.Ask caller (record { moment = p.moment; act = act }) from) ∷ []
steps_by p (Collect caller call from) = Make (happens.Collect caller call from) ∷ []
steps_by p (Deliver from to) = Make (happens.Deliver from to) ∷ []
steps_by p (Fail from keep) = Make (happens.Fail from keep) ∷ []
steps_by p (Flush from) = Make (happens.Flush from) ∷ []
steps_by p (Trace caller call partition from) = Make (happens.Trace caller call partition from) ∷ []
steps_by p Drain = Deliveries ∷ []
steps_by p (Show from run) = Look from run ∷ []
steps_by p Places = Placing ∷ []
steps_by p _ = []

-- of a line that is read so
abbrev pub steps_on : Option Play → Result Line LineFault → List Step
steps_on (Some p) (Ok line) = steps_by p line
steps_on _ _ = []

-- of lines, up to the end
abbrev pub steps_along : Option Play → List (List ℕ) → List Step
steps_along play [] = []
steps_along play (line ∷ lines) =
    elim (next_of play line) [
      | Goes next turns text ↦ steps_on play (line_meaning (shape_in play) line)
          ++ steps_along next lines
      | Ends ↦ []
      | Refused cause ↦ []
    ]
