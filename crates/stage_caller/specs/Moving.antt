-- One move of a call: one call of its seat.
use Rattle.std.specs.Prelude.{ℕ, ◌≡◌, ◌≢◌, ◌+◌, ◌-◌, ◌*◌, ◌/◌, ◌%◌, ◌<◌, ◌++◌, List}
use Rattle.group_types.specs.Dimensions.{Dimensions, processes_of}
use Rattle.group_types.specs.Names.{IsProcess}
use Rattle.group_types.specs.declared.process.ProcessId.{ProcessId}
use Rattle.memc_proto.specs.declared.end.CallEnd.TheVariants as ends
use Rattle.group_calls.specs.declared.event.Answer.{Answer}
use Rattle.group_stage.specs.Seated.{view_of}
use Rattle.group_stage.specs.declared.answer.StageAnswer.{StageAnswer}
use Rattle.group_stage.specs.declared.answer.StageAnswer.TheVariants as did
use Rattle.group_stage.specs.declared.looking.Looked.{Looked}
use Rattle.group_stage.specs.declared.looking.Looked.TheVariants as look
use Rattle.group_stage.specs.declared.seat.Seat.{Seat}
use Rattle.group_stage.specs.declared.view.Numbered.{Numbered}
use Rattle.stage_caller.specs.Calling.{Brings, IsOver, IsSameSeat, Wish}
use Rattle.stage_caller.specs.declared.step.Move.{Move}
use Rattle.stage_caller.specs.declared.step.Move.TheVariants.{Ask, Collect, Deliver, Look, Trace}
use Rattle.stage_caller.specs.declared.phase.Next.{Next}
use Rattle.stage_caller.specs.declared.phase.Next.TheVariants.{Goes, Ends}
use Rattle.stage_caller.specs.declared.phase.Phase.{Phase}
use Rattle.stage_caller.specs.declared.phase.Phase.TheVariants.{Asks, Waits}
use Rattle.stage_caller.specs.declared.step.Step.{Step}
use Rattle.stage_caller.specs.declared.step.Step.TheVariants as steps

-- from one process to another
pub record IsLink (s : Dimensions) (sender receiver : ProcessId) : Type 0 where
  pub from : IsProcess s sender
  pub to : IsProcess s receiver
  pub apart : sender ≢ receiver

-- the links of a group in turn: at each place the indices of the two processes
abbrev pub sender : Dimensions → ℕ → ℕ
sender s place = place / (processes_of s - 1)

abbrev pub receiver : Dimensions → ℕ → ℕ
receiver s place = (sender s place + 1 + place % (processes_of s - 1)) % processes_of s

-- so many there are: from each process to each other one
abbrev pub links_of : Dimensions → ℕ
links_of s = processes_of s * (processes_of s - 1)

-- a move that may be made at a phase
abbrev pub CanMake : Dimensions → Phase → Move → Type 0
CanMake s phase (Ask p) = (phase ≡ Asks) × IsProcess s p
CanMake s phase (Collect call p) = (phase ≡ Waits call) × IsProcess s p
CanMake s phase (Trace call p) = (phase ≡ Waits call) × IsProcess s p
CanMake s phase (Look from to) = IsLink s from to
CanMake s phase (Deliver from to) = IsLink s from to

-- what is waited for was asked before
abbrev pub WasAskedBefore : ℕ → Phase → Type 0
WasAskedBefore asks Asks = Unit {0}
WasAskedBefore asks (Waits call) = call < asks

-- the step says where its event leads
abbrev pub StepSays : Next → Step → Type 0
StepSays next (steps.Goes phase heard) = next ≡ Goes phase
StepSays next (steps.Ends end) = next ≡ Ends end

-- what a step says by the answer of its seat: to is where an answer leads
abbrev pub SaysByAnswer : (Answer → Next) → Phase → StageAnswer → Step → Type 0
SaysByAnswer to phase (did.Made answer) step = StepSays (to answer) step
SaysByAnswer to phase (did.Busy p) step = StepSays (Goes phase) step
SaysByAnswer to phase did.Worn step = step ≡ steps.Ends ends.Worn

-- what a step says by what a look showed
abbrev pub SaysByLook : Phase → Looked → Step → Type 0
SaysByLook phase look.Worn step = step ≡ steps.Ends ends.Worn
SaysByLook phase look.Waits step = StepSays (Goes phase) step
SaysByLook phase look.Empty step = StepSays (Goes phase) step
SaysByLook phase look.Busy step = StepSays (Goes phase) step

-- a step that says so led there
abbrev pub StepLeads : Seat → Seat → Next → Step → Type 0
StepLeads before after last (steps.Goes phase heard) = (last ≡ Goes phase) × (after.calls ≡ before.calls + 1)
StepLeads before after last (steps.Ends end) = IsOver after last end

-- one call of the seat, which made one event of the call or none
pub record HasStepped (wish : Wish) (phase : Phase) (before : Seat) (step : Step) (after : Seat) : Type 0 where
  pub same : IsSameSeat before after
  pub events : List Numbered
  pub last : Next
  pub made : (view_of after).made ≡ (view_of before).made ++ events
  pub brings : Brings wish before.asks (Goes phase) events last
  pub leads : StepLeads before after last step
