-- What the runs in both orders are seen as, and what ties the orders together.
use Rattle.std.specs.Prelude.{◌≡◌, ℕ, ◌+◌, ◌<◌, ◌≤◌, ◌^◌, List, length}
use Rattle.run_alloc.specs.declared.order.Run.{Run}
use Rattle.run_alloc.specs.declared.order.Order.TheVariants.{Address, Length}
use Rattle.run_alloc.specs.Runs.{IsSpread, IsSame}
use Rattle.run_alloc.specs.Shelf.{Shelved}

-- runs in the order of their addresses, and how many more can be added without memory
pub record KeptRuns : Type 0 where
  pub runs : List Run
  pub spare : ℕ

-- the same runs in both orders, with gaps between them
pub record IsPaired (addresses lengths : Shelved) (spare : ℕ) : Type 0 where
  pub by_address : addresses.order ≡ Address
  pub by_length : lengths.order ≡ Length
  pub same : IsSame addresses.runs lengths.runs
  pub spread : IsSpread 0 addresses.runs (2 ^ 32)
  pub room : spare ≤ addresses.spare
  pub length_room : spare ≤ lengths.spare
  pub most : addresses.spare ≤ spare + 127
  pub length_most : lengths.spare ≤ spare + 127
  pub few : length addresses.runs + spare + 127 < 2 ^ 64
