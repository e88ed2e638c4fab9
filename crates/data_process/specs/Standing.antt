-- A data process as contracts see it.
use Rattle.std.specs.Prelude.{◌<◌}
use Rattle.head_service.specs.Serving.{Serving}
use Rattle.process_service.specs.Standing.{IsBeneath}
use Rattle.data_process.specs.Values.{DataHolding, storage_of}

-- the values are those of the process and ready for its log, and it is one of the group
pub record IsReadyFor (v : Serving) (w : DataHolding) : Type 0 where
  pub beneath : IsBeneath v (storage_of w)
  pub within : w.number < v.shape.k
