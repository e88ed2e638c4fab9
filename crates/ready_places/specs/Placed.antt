-- Values by their keys, and the keys of those that are queued.
use Rattle.std.specs.Prelude.{ℕ, ◌≡◌, List, Option, Some, IsSome}
use Rattle.slab.specs.Slab.{Slab, get, with_value}

-- the values, and the queue
pub record Placed (T : Type 0) : Type 0 where
  pub values : Slab T
  pub queue : List ℕ

-- the value that has its place at a key
abbrev pub placed_at : {T : Type 0} → Placed T → ℕ → Option T
placed_at placed key = get placed.values key

-- a key has a place
abbrev pub HasPlace : {T : Type 0} → Placed T → ℕ → Type 0
HasPlace placed key = IsSome (placed_at placed key)

-- the same with another value at a key
abbrev pub with_value_at : {T : Type 0} → Placed T → ℕ → T → Placed T
with_value_at placed key value = record placed { values = with_value placed.values key value }

-- this holds of each value that has a place
abbrev pub EachPlaced : {T : Type 0} → (T → Type 0) → Placed T → Type 0
EachPlaced {T} P placed = (key : ℕ) (value : T) → placed_at placed key ≡ Some value → P value
