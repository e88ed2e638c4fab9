-- What a shelf of runs is seen as, and what it keeps.
use Rattle.std.specs.Prelude.{◌≡◌, ℕ, ◌+◌, ◌*◌, ◌<◌, ◌≤◌, ◌^◌, List, length, Vec, vec_capacity}
use Rattle.std.specs.List.{All}
use Rattle.std.specs.declared.alloc.Global.{Global}
use Rattle.run_alloc.specs.declared.order.Run.{Run}
use Rattle.run_alloc.specs.declared.order.Order.{Order}
use Rattle.run_alloc.specs.declared.chunk.Chunk.{Chunk}
use Rattle.run_alloc.specs.Order.{order_key}
use Rattle.run_alloc.specs.Shelves.{runs_in, fence, IsLaid, IsEven, IsBlank}

-- runs in an order, and how many more can be put in without memory
pub record Shelved : Type 0 where
  pub order : Order
  pub runs : List Run
  pub spare : ℕ

-- the chunks are laid out in the order from 0 on, and chunks and vectors together have room for 128 runs each but for two of them
pub record IsShelf (order : Order) (chunks : Vec Chunk Global) (stock : Vec (Vec Run Global) Global) (spare : ℕ) : Type 0 where
  pub laid : IsLaid (order_key order) chunks.items (2 ^ 64)
  pub starts : fence chunks.items 1 ≡ 0
  pub even : IsEven chunks.items
  pub blank : All IsBlank stock.items
  pub room : (length chunks.items + length stock.items) * 128 ≡ length (runs_in chunks.items) + spare + 256
  pub few : length (runs_in chunks.items) + spare < 2 ^ 64
  pub chunks_fit : length chunks.items + length stock.items ≤ vec_capacity chunks
  pub stock_fits : length chunks.items + length stock.items ≤ vec_capacity stock
