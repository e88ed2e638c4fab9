-- What a fault of a connection tells.
use Rattle.std.specs.Prelude.{◌≡◌, ℕ, ◌≤◌, ◌⊎◌, List, [], ◌∷◌, Option, Result, IfErr, ⊤}
use Rattle.edge_io.specs.Faults.{Rose}
use Rattle.edge_io.specs.declared.fault.SinkFault.{SinkFault}
use Rattle.edge_io.specs.declared.fault.SinkFault.TheVariants as sink
use Rattle.memc_table.specs.Asked.{Asked}
use Rattle.front_end.specs.Calls.{Ways}
use Rattle.front_end.specs.Turns.{Due, Acts, Fails, IsMoment}
use Rattle.front_end.specs.declared.end.ConnectionFault.{ConnectionFault}
use Rattle.front_end.specs.declared.end.ConnectionFault.TheVariants.{ReadFault, WriteFault, Want}

-- the fault at a write that took nothing
abbrev pub fault_of_sink : SinkFault → ConnectionFault
fault_of_sink sink.Failed = WriteFault
fault_of_sink sink.Want = Want

-- a write failed, and the sink counted a fault, or there was no memory
abbrev pub IsOfSink : ℕ → ℕ → ConnectionFault → Type 0
IsOfSink before now ReadFault = ⊥
IsOfSink before now WriteFault = Rose before now
IsOfSink before now Want = ⊤

-- the sink's count did not fall, and a fault has its cause there
pub record HasSinkCause {T : Type 0} (before now : ℕ) (result : Result T ConnectionFault) : Type 0 where
  pub later : before ≤ now
  pub cause : IfErr result (IsOfSink before now)

-- the first of the calls that are due found no memory
abbrev pub CutsNext : {C : Type 0} → Ways C → Option ℕ → C → List Due → C → Type 0
CutsNext ways told led [] after = ⊥
CutsNext ways told led (Acts asked ∷ _) after = (op : Asked) × (op.act ≡ asked) × IsMoment told op.moment × ways.kept led op after
CutsNext ways told led (Fails _ _ ∷ _) after = ways.unmade led after

-- the caller stands where its calls led, or the next of those that are due found no memory
abbrev pub CallerStandsAt : {C : Type 0} → Ways C → Option ℕ → C → List Due → C → ConnectionFault → Type 0
CallerStandsAt ways told led dues after Want = (after ≡ led) ⊎ CutsNext ways told led dues after
CallerStandsAt ways told led dues after WriteFault = after ≡ led
CallerStandsAt ways told led dues after ReadFault = after ≡ led
