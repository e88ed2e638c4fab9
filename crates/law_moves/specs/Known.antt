-- Whom a process knows dead: nothing but a notice changes that.
use Rattle.std.specs.Prelude.{ℕ, ◌≡◌, Bool, true, false}
use Rattle.std.specs.List.{range_with_len}
use Rattle.group_types.specs.Dimensions.{Dimensions}
use Rattle.group_types.specs.declared.process.ProcessId.{ProcessId}
use Rattle.memc_table.specs.Asked.{Asked}
use Rattle.group_message.specs.declared.message.Message.{Message}
use Rattle.group_message.specs.declared.message.Message.TheVariants as tells
use Rattle.group_calls.specs.Turns.{CallName}
use Rattle.group_run.specs.Asking.{ask_process, collect_from}
use Rattle.group_run.specs.Process.{Process}
use Rattle.group_run.specs.Receiving.{receive}
use Rattle.group_run.specs.World.{flush_process}

-- the message tells of a death
abbrev pub is_notice : Message → Bool
is_notice (tells.Notice _) = true
is_notice _ = false

-- calls leave whom a process knows dead, and so does every message but a notice
pub record KeepsKnown (s : Dimensions) (p : Process) : Type 0 where
  pub asked : (name : CallName) (op : Asked) → (ask_process s name op p).step.process.known ≡ p.known
  pub collected : (caller call : ℕ) → (collect_from caller call p (range_with_len 0 s.k)).step.process.known ≡ p.known
  pub flushed : (flush_process s p).step.process.known ≡ p.known
  pub received : (from : ProcessId) (m : Message) → is_notice m ≡ false → (receive s from m p).process.known ≡ p.known

-- of every process, whether a run leads to it or not
abbrev pub KnownStays : Type 0
KnownStays = (s : Dimensions) (p : Process) → KeepsKnown s p
