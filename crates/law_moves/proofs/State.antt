-- A state at the start of a group.
use Rattle.std.specs.Prelude.{ℕ, ◌≡◌, false, []}
use Rattle.group_types.specs.Dimensions.{Dimensions}
use Rattle.group_types.specs.Names.{IsProcess}
use Rattle.group_types.specs.declared.process.ProcessId.{ProcessId}
use Rattle.group_run.specs.Process.{opening_process}
use Rattle.law_moves.specs.State.{State}

-- a state at the start of a group
pub record Opens (s : Dimensions) (v : State) : Type 0 where
  pub process : (p : ProcessId) → IsProcess s p → v.process p ≡ opening_process s p
  pub living : (p : ProcessId) → IsProcess s p → v.dead p ≡ false
  pub links : (p q : ProcessId) → IsProcess s p → IsProcess s q → v.link p q ≡ []
  pub settled : (d : ℕ) → v.settled d ≡ []
