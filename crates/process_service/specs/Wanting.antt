-- Where memory may be wanted for a call that a process is asked.
use Rattle.std.specs.Prelude.{ℕ, Option, Some, None}
use Rattle.group_types.specs.Dimensions.{Dimensions, space_of}
use Rattle.group_types.specs.Hash.{home_of}
use Rattle.memc_table.specs.Act.{key_of}
use Rattle.memc_table.specs.Asked.{Asked}
use Rattle.group_run.specs.Applying.{head_at, replica_of}
use Rattle.group_run.specs.Process.{Head, Process}
use Rattle.head_service.specs.Beneath.{found_in}
use Rattle.head_service.specs.Wanting.{MayWant}

-- by the head of the key's partition, if the process heads it
abbrev pub WantsBy : Dimensions → Asked → ℕ → Process → Option Head → Type 0
WantsBy s op d p None = ⊥
WantsBy s op d p (Some h) = MayWant (space_of s) h.inherited (replica_of p d) op (found_in s d p)

abbrev pub AskWants : Dimensions → Asked → Process → Type 0
AskWants s op p = WantsBy s op (home_of (key_of op.act) s.k) p (head_at p (home_of (key_of op.act) s.k))
