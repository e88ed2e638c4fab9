-- The two orders of runs.
use Rattle.std.specs.Prelude.{ℕ, ◌+◌, ◌*◌, ◌^◌}
use Rattle.run_alloc.specs.declared.order.Run.{Run}
use Rattle.run_alloc.specs.declared.order.Order.{Order}
use Rattle.run_alloc.specs.declared.order.Order.TheVariants.{Address, Length}

-- the number by which a run is ordered
abbrev pub order_key : Order → Run → ℕ
order_key Address run = run.at
order_key Length run = run.len * 2 ^ 32 + run.at
