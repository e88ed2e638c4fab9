-- What a parity process is.
use Rattle.head_service.specs.Serving.{Serving, serving}
use Rattle.process_service.specs.Standing.{IsBeneath}
use Rattle.leader_role.specs.Sound.{CanLead}
use Rattle.parity_bytes.specs.Bytes.{ParityHolding, storage_of_bytes}

-- these bytes are beneath the process's partitions
abbrev pub BytesAreBeneath : Serving → ParityHolding → Type 0
BytesAreBeneath v b = IsBeneath v (storage_of_bytes b)

-- the bytes are beneath its partitions, and it can lead
pub record BytesAreReadyFor (v : Serving) (b : ParityHolding) : Type 0 where
  pub over : BytesAreBeneath v b
  pub sound : CanLead v.shape (serving v b.process)
