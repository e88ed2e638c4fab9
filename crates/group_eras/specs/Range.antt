-- Ops whose moment and exptime are those of 64 bits that memcached's protocol has.
use Rattle.std.specs.Prelude.{ℤ, pos, negsuc, ◌<◌, ◌≤◌, ◌^◌}
use Rattle.memc_table.specs.Asked.{Asked}
use Rattle.memc_table.specs.declared.act.Act.{Act}
use Rattle.memc_table.specs.declared.act.Act.TheVariants.{Add, Cas, Replace, Set, Touch}
use Rattle.group_calls.specs.declared.event.Event.{Event}
use Rattle.group_calls.specs.declared.event.Event.TheVariants.{Ask}

-- an exptime is below 2^63
abbrev pub IsLow : ℤ → Type 0
IsLow (pos e) = e < 2 ^ 63
IsLow (negsuc e) = Unit {0}

-- so is the exptime that an act brings, if it brings one
abbrev pub HasLowExpiry : Act → Type 0
HasLowExpiry (Set _ _ expiry _) = IsLow expiry
HasLowExpiry (Add _ _ expiry _) = IsLow expiry
HasLowExpiry (Replace _ _ expiry _) = IsLow expiry
HasLowExpiry (Cas _ _ expiry _ _) = IsLow expiry
HasLowExpiry (Touch _ expiry) = IsLow expiry
HasLowExpiry _ = Unit {0}

pub record IsOpInRange (op : Asked) : Type 0 where
  pub moment : op.moment ≤ 2 ^ 62
  pub expiry : HasLowExpiry op.act

-- an event that asks for nothing else
abbrev pub IsInRange : Event → Type 0
IsInRange (Ask caller op p) = IsOpInRange op
IsInRange _ = Unit {0}
