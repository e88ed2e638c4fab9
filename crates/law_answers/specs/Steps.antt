-- What one step of a process makes: messages, for whom and how many, and settled updates.
use Rattle.std.specs.Prelude.{ℕ, suc, ◌≡◌, ◌≤◌, List, [], length, All}
use Rattle.std.specs.List.{range_with_len, sum_by}
use Rattle.group_types.specs.Dimensions.{Dimensions}
use Rattle.group_types.specs.Names.{IsProcess}
use Rattle.group_types.specs.Shape.{IsShape}
use Rattle.group_types.specs.declared.process.ProcessId.{ProcessId}
use Rattle.memc_table.specs.Asked.{Asked}
use Rattle.group_message.specs.declared.message.Message.{Message}
use Rattle.group_calls.specs.Turns.{CallName}
use Rattle.group_run.specs.Applying.{Sent}
use Rattle.group_run.specs.Asking.{ask_process, collect_from}
use Rattle.group_run.specs.Fitting.{Fits}
use Rattle.group_run.specs.Process.{Process}
use Rattle.group_run.specs.Receiving.{receive}
use Rattle.group_run.specs.Replica.{Replica}
use Rattle.group_run.specs.World.{flush_process, sent_to}

-- no process gets more of these messages than one for each partition, and one
abbrev pub FewForEach : Dimensions → List Sent → Type 0
FewForEach s sent = (q : ProcessId) → length (sent_to q sent) ≤ suc s.k

-- no step of a process sends more, on a message that fits
pub record SendsFew (s : Dimensions) (p : Process) : Type 0 where
  pub asked : (name : CallName) (op : Asked) → FewForEach s (ask_process s name op p).step.sent
  pub collected : (caller call : ℕ) → (collect_from caller call p (range_with_len 0 s.k)).step.sent ≡ []
  pub flushed : FewForEach s (flush_process s p).step.sent
  pub received : (from : ProcessId) (m : Message) → Fits s from m p → FewForEach s (receive s from m p).sent

-- so it is for every process
abbrev pub AlwaysSendsFew : Type 0
AlwaysSendsFew = (s : Dimensions) (p : Process) → IsShape s → SendsFew s p

-- each of these messages goes to a process of the group
abbrev pub AreInside : Dimensions → List Sent → Type 0
AreInside s sent = All (λ z. IsProcess s z.to) sent

-- what a process sends does, on a message of the group that fits
pub record SendsInside (s : Dimensions) (p : Process) : Type 0 where
  pub asked : (name : CallName) (op : Asked) → AreInside s (ask_process s name op p).step.sent
  pub flushed : AreInside s (flush_process s p).step.sent
  pub received : (from : ProcessId) (m : Message) → IsProcess s from → Fits s from m p → AreInside s (receive s from m p).sent

-- so it is for every process
abbrev pub AlwaysSendsInside : Type 0
AlwaysSendsInside = (s : Dimensions) (p : Process) → SendsInside s p

-- how many updates wait in logs
abbrev pub waiting : List Replica → ℕ
waiting replicas = sum_by (λ r. length r.log) replicas

-- no step of a process settles more than wait in its logs, and one that was asked
pub record SettlesFew (s : Dimensions) (p : Process) : Type 0 where
  pub asked : (name : CallName) (op : Asked) → length (ask_process s name op p).step.settled ≤ suc (waiting p.replicas)
  pub collected : (caller call : ℕ) → (collect_from caller call p (range_with_len 0 s.k)).step.settled ≡ []
  pub flushed : (flush_process s p).step.settled ≡ []
  pub received : (from : ProcessId) (m : Message) → length (receive s from m p).settled ≤ waiting p.replicas

-- so it is for every process
abbrev pub AlwaysSettlesFew : Type 0
AlwaysSettlesFew = (s : Dimensions) (p : Process) → SettlesFew s p
