-- Which ops are still to be done in a group over machines.
use Rattle.std.specs.Prelude.{ℕ, ◌≡◌, ⊤, Some}
use Rattle.group_types.specs.Each.{Each}
use Rattle.group_types.specs.declared.process.ProcessId.{ProcessId}
use Rattle.memc_table.specs.Asked.{Asked}
use Rattle.group_wire.specs.Actions.{Action, Begin}
use Rattle.group_wire.specs.State.{Request, AskFor, TraceOf, OpenCall, Gateways}

-- an action begins a call of no other op
abbrev pub BeginsOnly : (Asked → Type 0) → Action → Type 0
BeginsOnly P (Begin caller op) = P op
BeginsOnly P _ = ⊤

-- a request asks for no other op
abbrev pub AsksOnly : (Asked → Type 0) → Request → Type 0
AsksOnly P (AskFor caller call op) = P op
AsksOnly P (TraceOf caller call d) = ⊤

-- no call of another op is open at a gateway, on its way to a member, or kept there
pub record OnlyOpen (P : Asked → Type 0) (gateways : Gateways) : Type 0 where
  pub calls : (caller : ℕ) (o : OpenCall) → gateways.call caller ≡ Some o → P o.op
  pub requests : (x p : ProcessId) → Each (AsksOnly P) (gateways.requests x p)
  pub parked : (p : ProcessId) → Each (AsksOnly P) (gateways.parked p)
