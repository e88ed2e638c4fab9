-- What lets a parity process lead holds from the start and after every step, and with it a session can be started.
use Rattle.std.specs.Prelude.{◌≡◌, ℕ, ◌<◌, List, Some, Contains}
use Rattle.group_types.specs.Dimensions.{Dimensions}
use Rattle.group_types.specs.Shape.{IsShape}
use Rattle.group_types.specs.declared.process.ProcessId.{ProcessId}
use Rattle.group_types.specs.declared.process.ProcessId.TheVariants.{ParityNode}
use Rattle.memc_table.specs.Asked.{Asked}
use Rattle.group_calls.specs.Turns.{CallName}
use Rattle.group_message.specs.declared.message.Message.{Message}
use Rattle.group_run.specs.Applying.{head_at}
use Rattle.group_run.specs.Asking.{ask_process, collect_from}
use Rattle.group_run.specs.Fitting.{Fits}
use Rattle.group_run.specs.Leaders.{lost_of, rows_of}
use Rattle.group_run.specs.Process.{Head, Process, opening_process}
use Rattle.group_run.specs.Receiving.{receive}
use Rattle.group_run.specs.Rows.{parity_number}
use Rattle.block_sessions.specs.Opened.{AreLost}
use Rattle.leader_role.specs.Sound.{IsOfGroup, CanLead}

-- a parity process is sound at the start, and stays so
pub record StaysSound (s : Dimensions) : Type 0 where
  pub opening : (i : ℕ) → IsShape s → i < s.m → CanLead s (opening_process s (ParityNode i))
  pub asked : (name : CallName) (op : Asked) (p : Process) → CanLead s p → CanLead s (ask_process s name op p).step.process
  pub collected : (caller call : ℕ) (p : Process) (ds : List ℕ) → CanLead s p → CanLead s (collect_from caller call p ds).step.process
  pub received : (from : ProcessId) (message : Message) (p : Process) → CanLead s p → Fits s from message p → IsOfGroup s message p
      → CanLead s (receive s from message p).process

-- where it heads a partition, a session has as many rows as partitions are lost, and it is one of the rows
pub record CanStart (s : Dimensions) (p : Process) : Type 0 where
  pub lost : AreLost s (lost_of s p) (rows_of s p)
  pub itself : Contains (rows_of s p) (parity_number p.name)

abbrev pub SoundCanStart : Type 0
SoundCanStart = (s : Dimensions) (p : Process) (d : ℕ) (h : Head) → CanLead s p → head_at p d ≡ Some h → d < s.k → CanStart s p
