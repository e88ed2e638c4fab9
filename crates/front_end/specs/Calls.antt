-- The calls of a connection, and what they make of its caller.
use Rattle.std.specs.Prelude.{ℕ, ◌≡◌, List, [], ◌∷◌}
use Rattle.group_types.specs.declared.process.ProcessId.{ProcessId}
use Rattle.memc_table.specs.Asked.{Asked}
use Rattle.memc_proto.specs.declared.end.CallEnd.{CallEnd}
use Rattle.memc_proto.specs.declared.end.FailEnd.{FailEnd}

-- a call that was made, and its end: of an op, or of the order that a process fail
pub data Call : Type 0 where
  Made : Asked → CallEnd → Call
  Failed : ProcessId → ℕ → FailEnd → Call

-- the relations of a caller, which its trait tells: what a call and an order may come to, and what a call for an op and an order
-- leave that found no memory
pub record Ways (C : Type 0) : Type 1 where
  pub made : C → Asked → CallEnd → C → Type 0
  pub failed : C → ProcessId → ℕ → FailEnd → C → Type 0
  pub kept : C → Asked → C → Type 0
  pub unmade : C → C → Type 0

-- a call may lead from one caller to another
abbrev pub LeadsBy : {C : Type 0} → Ways C → C → Call → C → Type 0
LeadsBy ways before (Made op end) after = ways.made before op end after
LeadsBy ways before (Failed at keep end) after = ways.failed before at keep end after

-- calls, one after the other, may lead from one caller to another
abbrev pub Leads : {C : Type 0} → Ways C → C → List Call → C → Type 0
Leads ways before [] after = after ≡ before
Leads {C} ways before (call ∷ calls) after = (next : C) × LeadsBy ways before call next × Leads ways next calls after
