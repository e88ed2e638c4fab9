-- A caller of one group, and what its calls make of it.
use Rattle.std.specs.Prelude.{ℕ, ◌≡◌, ◌≤◌, Bool, true, false, Option, Some, None}
use Rattle.group_types.specs.Names.{IsProcess}
use Rattle.group_types.specs.declared.process.ProcessId.{ProcessId}
use Rattle.memc_table.specs.Asked.{Asked}
use Rattle.memc_proto.specs.declared.end.CallEnd.{CallEnd}
use Rattle.memc_proto.specs.declared.end.FailEnd.{FailEnd}
use Rattle.memc_proto.specs.declared.end.FailEnd.TheVariants as ends
use Rattle.group_calls.specs.declared.event.Answer.{Answer}
use Rattle.group_calls.specs.declared.event.Answer.TheVariants as says
use Rattle.group_calls.specs.declared.event.Event.TheVariants.{Fail}
use Rattle.group_run.specs.World.{World, step}
use Rattle.world_caller.specs.Calling.{IsCallCutShort, IsCallMade, most_events}

-- the group, which of its callers this is, and whether orders that a process fail are taken
pub record GroupCaller : Type 0 where
  pub world : World
  pub caller : ℕ
  pub control : Bool

-- it is the same caller, under the same rule
pub record IsSameCaller (before after : GroupCaller) : Type 0 where
  pub caller : after.caller ≡ before.caller
  pub control : after.control ≡ before.control

-- a call that was made
pub record HasCalledGroup (before : GroupCaller) (op : Asked) (end : CallEnd) (after : GroupCaller) : Type 0 where
  pub same : IsSameCaller before after
  pub called : IsCallMade before.caller op before.world end after.world

-- a call that found no memory has made the events that it came to before
pub record HasLackedMemory (before : GroupCaller) (op : Asked) (after : GroupCaller) : Type 0 where
  pub same : IsSameCaller before after
  pub stopped : IsCallCutShort before.caller op before.world after.world

-- such orders are taken, and the group has the process
pub record MayOrder (c : GroupCaller) (p : ProcessId) : Type 0 where
  pub control : c.control ≡ true
  pub process : IsProcess c.world.shape p

-- how an order ends that made its event, by the answer
abbrev pub end_of_failure : Answer → Option FailEnd
end_of_failure says.Done = Some ends.Made
end_of_failure says.AlreadyDead = Some ends.AlreadyDead
end_of_failure _ = None

-- the process is ordered to fail, which is one event
pub record HasFailedProcess (before : GroupCaller) (p : ProcessId) (keep : ℕ) (end : FailEnd) (after : GroupCaller) : Type 0 where
  pub taken : MayOrder before p
  pub same : IsSameCaller before after
  pub world : after.world ≡ (step before.world (Fail p keep)).world
  pub ends : end_of_failure (step before.world (Fail p keep)).turn.answer ≡ Some end

-- an order that a process fail, by its end
abbrev pub IsFailureOrdered : GroupCaller → ProcessId → ℕ → FailEnd → GroupCaller → Type 0
IsFailureOrdered before p keep ends.Off after = (before.control ≡ false) × (after ≡ before)
IsFailureOrdered before p keep ends.NoProcess after = (before.control ≡ true) × (¬ (IsProcess before.world.shape p)) × (after ≡ before)
IsFailureOrdered before p keep ends.Worn after = MayOrder before p × (most_events ≤ before.world.events) × (after ≡ before)
IsFailureOrdered before p keep ends.Made after = HasFailedProcess before p keep ends.Made after
IsFailureOrdered before p keep ends.AlreadyDead after = HasFailedProcess before p keep ends.AlreadyDead after
