-- The bytes of every living process of a state.
use Rattle.std.specs.Prelude.{◌≡◌, false}
use Rattle.group_types.specs.Dimensions.{Dimensions}
use Rattle.group_types.specs.Names.{IsProcess}
use Rattle.group_types.specs.declared.process.ProcessId.{ProcessId}
use Rattle.law_moves.specs.State.{State}
use Rattle.law_bytes.specs.Held.{Holds}

-- all living processes do
abbrev pub HoldsBytes : Dimensions → State → Type 0
HoldsBytes s v = (p : ProcessId) → IsProcess s p → v.dead p ≡ false → Holds s v.settled (v.process p)
