-- What a data process has beneath its partition.
use Rattle.std.specs.Prelude.{ℕ, ◌<◌, IfSome}
use Rattle.group_types.specs.declared.process.ProcessId.TheVariants.{DataNode}
use Rattle.group_message.specs.declared.update.Update.{Update}
use Rattle.page_map.specs.Spaces.{AllMade}
use Rattle.value_space.specs.Space.{Space}
use Rattle.group_run.specs.Process.{Process, opening_process}
use Rattle.group_run.specs.Replica.{run_of}
use Rattle.head_service.specs.Storage.{Storage}

-- the number of a data process, and its space
pub record DataHolding : Type 0 where
  pub number : ℕ
  pub space : Space

-- the process of these values, where all else is as at the start
abbrev pub data_process_of : DataHolding → Process
data_process_of v = record (opening_process v.space.shape (DataNode v.number)) { space = v.space.bytes }

-- an update of partition d can be added: d is one of the group, and the pages of what it writes are made
abbrev pub ValuesAreReady : DataHolding → ℕ → Update → Type 0
ValuesAreReady v d u = (d < v.space.shape.k) × IfSome (run_of u.body) (λ run. AllMade v.space.shape.block run v.space.made)

-- the values as a head sees them
abbrev pub storage_of : DataHolding → Storage
storage_of v = record { shape = v.space.shape; process = data_process_of v; made = v.space.made; is_ready = ValuesAreReady v }
