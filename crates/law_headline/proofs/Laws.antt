-- Each block session follows a plan, along every run.
use Rattle.group_types.specs.Dimensions.{Dimensions}
use Rattle.law_moves.specs.State.{HoldsAlways}
use Rattle.law_bytes.proofs.Stamps.{SessionsStand}

-- each block session follows a plan: all of it is of one block, and stands at one number of each partition
abbrev pub PlansAlways : Type 0
PlansAlways = (s : Dimensions) → HoldsAlways s (SessionsStand s)
