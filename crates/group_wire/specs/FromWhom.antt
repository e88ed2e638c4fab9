-- Whose callers requests and answers name: the member that sent a request is its caller's gateway, and so is the member
-- that an answer comes to. So a member takes others for misfits.
use Rattle.std.specs.Prelude.{ℕ, ◌≡◌, ◌<◌, List}
use Rattle.group_types.specs.Dimensions.{Dimensions, callers}
use Rattle.group_types.specs.Each.{Each}
use Rattle.group_types.specs.Names.{IsProcess}
use Rattle.group_types.specs.declared.process.ProcessId.{ProcessId}
use Rattle.group_wire.specs.Actions.{Action}
use Rattle.group_wire.specs.Composed.{AreActions, composed}
use Rattle.group_wire.specs.State.{Request, AskFor, TraceOf, Told, Gateways, gateway_of}

-- the caller whose call is asked for, or traced
abbrev pub requested_by : Request → ℕ
requested_by (AskFor caller call op) = caller
requested_by (TraceOf caller call d) = caller

-- the caller is one of those whose gateway the member is
abbrev pub IsCallerOf : Dimensions → ProcessId → ℕ → Type 0
IsCallerOf s p caller = (caller < callers) × (gateway_of s caller ≡ p)

pub record NameTheirCallers (s : Dimensions) (gateways : Gateways) : Type 0 where
  -- an answer on a wire to p is to a caller of p
  pub answers : (x p : ProcessId) → Each (λ (t : Told). IsCallerOf s p t.caller) (gateways.answers x p)
  -- a request on a wire from x is of a caller of x, and so is one that was read of that of a member
  pub requests : (x p : ProcessId) → Each (λ (r : Request). IsCallerOf s x (requested_by r)) (gateways.requests x p)
  pub parked : (p : ProcessId) → Each (λ (r : Request). (requested_by r < callers) × IsProcess s (gateway_of s (requested_by r))) (gateways.parked p)

abbrev pub CallersAreTheirs : Type 0
CallersAreTheirs = (s : Dimensions) (actions : List Action) → AreActions s actions → NameTheirCallers s (composed s actions).group.gateways
