-- What a head finds in the bytes beneath it.
use Rattle.std.specs.Prelude.{ℕ, ◌≡◌, ◌<◌, length}
use Rattle.group_types.specs.Dimensions.{Dimensions}
use Rattle.group_types.specs.declared.run.Run.{Run}
use Rattle.group_calls.specs.declared.found.Found.{Found}
use Rattle.group_calls.specs.declared.found.Found.TheVariants.{Bytes, Missing}
use Rattle.group_run.specs.Asking.{found_at}
use Rattle.group_run.specs.Process.{Process}
use Rattle.head_service.specs.Storage.{Storage}

-- what a process finds in a run of a partition's space
abbrev pub found_in : Dimensions → ℕ → Process → Run → Found
found_in s d p = found_at s d p p.name

-- what a head of the partition finds in a run
abbrev pub found_by : ℕ → Storage → Run → Found
found_by d b = found_in b.shape d b.process

-- the bytes that were found are so many, and a block that is missing is one of the space
abbrev pub IsFound : Dimensions → ℕ → Found → Type 0
IsFound s len (Bytes bytes) = length bytes ≡ len
IsFound s len (Missing b) = b < s.blocks
