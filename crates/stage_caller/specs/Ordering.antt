-- A caller of a group that threads share, and what its calls and orders make of it.
use Rattle.std.specs.Prelude.{ℕ, ◌≡◌, true, false}
use Rattle.group_types.specs.Names.{IsProcess}
use Rattle.group_types.specs.declared.process.ProcessId.{ProcessId}
use Rattle.memc_table.specs.Asked.{Asked}
use Rattle.memc_proto.specs.declared.end.CallEnd.{CallEnd}
use Rattle.memc_proto.specs.declared.end.FailEnd.{FailEnd}
use Rattle.memc_proto.specs.declared.end.FailEnd.TheVariants as ends
use Rattle.group_stage.specs.Seated.{shape_of}
use Rattle.stage_caller.specs.Calling.{IsCalled, IsSeatCutShort, MadeNoEvent}
use Rattle.stage_caller.specs.Failing.{IsFailed}
use Rattle.stage_caller.specs.declared.phase.Phase.TheVariants.{Asks}
use Rattle.stage_caller.specs.declared.caller.StageCaller.{StageCaller}

-- it is the same caller of the same group, under the same rule
pub record IsSameStage (before after : StageCaller) : Type 0 where
  pub stage : after.stage ≡ before.stage
  pub control : after.control ≡ before.control

-- a call that was made
pub record HasCalledStage (before : StageCaller) (op : Asked) (end : CallEnd) (after : StageCaller) : Type 0 where
  pub same : IsSameStage before after
  pub called : IsCalled before.seat op Asks end after.seat

-- a call that found no memory has made the events that it came to before
pub record HasGone (before : StageCaller) (op : Asked) (after : StageCaller) : Type 0 where
  pub same : IsSameStage before after
  pub stopped : IsSeatCutShort before.seat op Asks after.seat

-- what stands of an order after want of memory: no event was made
pub record HasMadeNone (before after : StageCaller) : Type 0 where
  pub same : IsSameStage before after
  pub idle : MadeNoEvent before.seat after.seat

-- such orders are taken, and the group has the process
pub record TakesOrder (c : StageCaller) (p : ProcessId) : Type 0 where
  pub control : c.control ≡ true
  pub process : IsProcess (shape_of c.stage.now) p

-- an order that a process fail, by its end
abbrev pub IsOrdered : StageCaller → ProcessId → ℕ → FailEnd → StageCaller → Type 0
IsOrdered before p keep ends.Off after = (before.control ≡ false) × (after ≡ before)
IsOrdered before p keep ends.NoProcess after = (before.control ≡ true) × (¬ (IsProcess (shape_of before.stage.now) p)) × (after ≡ before)
IsOrdered before p keep end after = TakesOrder before p × IsSameStage before after × IsFailed before.seat p keep end after.seat
