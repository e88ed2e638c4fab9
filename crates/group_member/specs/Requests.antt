-- What is asked of a member, and what becomes of it.
use Rattle.std.specs.Prelude.{ℕ, ◌<◌, Bool, true, false, Option, Some, None, ⊤}
use Rattle.group_types.specs.Dimensions.{Dimensions, callers}
use Rattle.group_types.specs.Names.{IsProcess}
use Rattle.group_types.specs.declared.process.ProcessId.{ProcessId}
use Rattle.memc_table.specs.Act.{key_of}
use Rattle.group_calls.specs.declared.event.Answer.{Answer}
use Rattle.group_calls.specs.declared.event.Answer.TheVariants as says
use Rattle.group_calls.specs.declared.event.Cause.TheVariants as cause
use Rattle.group_run.specs.Process.{Process}
use Rattle.group_node.specs.Asking.{HasNumbers}
use Rattle.group_wire.specs.FromWhom.{IsCallerOf, requested_by}
use Rattle.group_wire.specs.State.{Request, AskFor, TraceOf, gateway_of}

-- a caller whose gateway is a process of the group
pub record HasGateway (s : Dimensions) (caller : ℕ) : Type 0 where
  pub low : caller < callers
  pub gateway : IsProcess s (gateway_of s caller)

-- a trace is of a partition of the group
abbrev pub IsInPartition : Dimensions → Request → Type 0
IsInPartition s (AskFor caller call op) = ⊤
IsInPartition s (TraceOf caller call d) = d < s.k

-- a request that a process of the group can treat
pub record IsTreatable (s : Dimensions) (r : Request) : Type 0 where
  pub caller : HasGateway s (requested_by r)
  pub partition : IsInPartition s r

-- a request that the process can have sent which it comes from
pub record IsRequestFrom (s : Dimensions) (x : ProcessId) (r : Request) : Type 0 where
  pub caller : IsCallerOf s x (requested_by r)
  pub partition : IsInPartition s r

-- a process has the numbers that treating a request may need
abbrev pub HasNumbersFor : Dimensions → Process → Request → Type 0
HasNumbersFor s p (AskFor caller call op) = HasNumbers s (key_of op.act) p
HasNumbersFor s p (TraceOf caller call d) = ⊤

abbrev pub CanTreat : Dimensions → Process → Option Request → Type 0
CanTreat s p None = ⊥
CanTreat s p (Some r) = HasNumbersFor s p r

-- an answer by which nothing was done, and which may be another once something settles or a death is taken
abbrev pub is_early : Request → Answer → Bool
is_early r says.Moved = true
is_early (AskFor caller call op) (says.Retry (cause.Pending d n)) = true
is_early (TraceOf caller call d) says.NotYet = true
is_early r _ = false
