use Rattle.std.specs.Prelude.{ℕ}
use Rattle.memc_table.specs.declared.act.Act.{Act}

-- an op as contracts see it: what is asked, at a moment in seconds
pub record Asked : Type 0 where
  pub moment : ℕ
  pub act : Act
