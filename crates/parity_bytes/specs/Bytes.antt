-- What a parity process has beneath its partitions.
use Rattle.std.specs.Prelude.{◌≡◌, ℕ, ◌<◌, List, length}
use Rattle.group_types.specs.Dimensions.{Dimensions}
use Rattle.group_types.specs.declared.process.ProcessId.TheVariants.{ParityNode}
use Rattle.group_message.specs.declared.update.Update.{Update}
use Rattle.group_run.specs.Process.{LeaderState, Process, RowState, opening_process}
use Rattle.head_service.specs.Storage.{Storage}
use Rattle.parity_space.specs.Space.{CanBeAdded, CodedSpace}
use Rattle.row_copies.specs.Row.{Row}
use Rattle.block_sessions.specs.Leading.{Leading}

-- the shape of its group, the numbers of the blocks whose pages were made, and the machine's process, of which the
-- name, the space, and what it keeps as a row and as a leader count
pub record ParityHolding : Type 0 where
  pub shape : Dimensions
  pub made : List ℕ
  pub process : Process

-- the parity process with this space, this part of a row and this part of a leader, where all else is as at the start
abbrev pub parity_process_of : Dimensions → ℕ → List ℕ → RowState → LeaderState → Process
parity_process_of s number bytes row leader = record (opening_process s (ParityNode number)) { space = bytes; as_row = row; as_leader = leader }

-- what no message changes: the shape, the pages, whose process it is, and how many partitions have blocks
pub record Stays (old new : ParityHolding) : Type 0 where
  pub shape : new.shape ≡ old.shape
  pub made : new.made ≡ old.made
  pub name : new.process.name ≡ old.process.name
  pub partitions : length new.process.as_leader.rebuilt ≡ length old.process.as_leader.rebuilt

-- an update of partition d can be added: d is one of the group, and the pages of what it writes are made
abbrev pub BytesAreReady : ParityHolding → ℕ → Update → Type 0
BytesAreReady b d u = (d < b.shape.k) × CanBeAdded b.shape b.made u.body

-- the bytes as a head sees them
abbrev pub storage_of_bytes : ParityHolding → Storage
storage_of_bytes b = record { shape = b.shape; process = b.process; made = b.made; is_ready = BytesAreReady b }

-- the parts of one parity process
pub record ArePartsOf (s : Dimensions) (number : ℕ) (space : CodedSpace) (row : Row) (leading : Leading) : Type 0 where
  pub number_below : number < s.m
  pub space_shape : space.shape ≡ s
  pub space_number : space.number ≡ number
  pub row_shape : row.shape ≡ s
  pub row_number : row.number ≡ number
  pub leading_shape : leading.shape ≡ s
