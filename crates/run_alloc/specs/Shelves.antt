-- Runs in one order, cut into chunks of bounded length.
use Rattle.std.specs.Prelude.{◌≡◌, ℕ, ◌+◌, ◌<◌, ◌≤◌, ◌^◌, List, [], ◌∷◌, ◌++◌, length, Vec, vec_capacity}
use Rattle.std.specs.List.{All}
use Rattle.std.specs.declared.alloc.Global.{Global}
use Rattle.run_alloc.specs.declared.order.Run.{Run}
use Rattle.run_alloc.specs.declared.chunk.Chunk.{Chunk}

-- the ranks rise from `low` on, and stay below `high`
abbrev pub Rises : (Run → ℕ) → ℕ → List Run → ℕ → Type 0
Rises rank low [] high = low ≤ high
Rises rank low (run ∷ runs) high = (low ≤ rank run) × Rises rank (rank run + 1) runs high

-- the runs of all chunks
abbrev pub runs_in : List Chunk → List Run
runs_in [] = []
runs_in (chunk ∷ chunks) = chunk.runs.items ++ runs_in chunks

-- where the first chunk begins, or `high` where there is none
abbrev pub fence : List Chunk → ℕ → ℕ
fence [] high = high
fence (chunk ∷ _) high = chunk.low

-- the ranks of each chunk rise from its own lowest on, and stay below that of the next
abbrev pub IsLaid : (Run → ℕ) → List Chunk → ℕ → Type 0
IsLaid rank [] high = Unit {0}
IsLaid rank (chunk ∷ chunks) high = Rises rank chunk.low chunk.runs.items (fence chunks high) × IsLaid rank chunks high

-- fewer runs than a full chunk has, and room for those of one that is joined
pub record IsLight (chunk : Chunk) : Type 0 where
  pub light : length chunk.runs.items < 512
  pub room : 640 ≤ vec_capacity chunk.runs

-- no chunk is full, and only the last may have few runs
abbrev pub IsEven : List Chunk → Type 0
IsEven [] = Unit {0}
IsEven (chunk ∷ chunks) = IsLight chunk × ((0 < length chunks → 128 ≤ length chunk.runs.items) × IsEven chunks)

-- a chunk among others, which are even
pub record IsAmid (chunks : List Chunk) (place : ℕ) : Type 0 where
  pub front : List Chunk
  pub chunk : Chunk
  pub back : List Chunk
  pub parts : chunks ≡ front ++ chunk ∷ back
  pub at : length front ≡ place
  pub before : All (λ (c : Chunk). IsLight c × (128 ≤ length c.runs.items)) front
  pub light : length chunk.runs.items < 640
  pub room : 640 ≤ vec_capacity chunk.runs
  pub after : IsEven back

-- and it has few runs only if it is the last
pub record IsRich (chunks : List Chunk) (place : ℕ) : Type 0 where
  pub amid : IsAmid chunks place
  pub rich : 0 < length amid.back → 128 ≤ length amid.chunk.runs.items

-- the upper half of a chunk is a chunk of its own
pub record IsHalved (rank : Run → ℕ) (old new upper : Chunk) : Type 0 where
  pub parts : old.runs.items ≡ new.runs.items ++ upper.runs.items
  pub low : new.low ≡ old.low
  pub first : Run
  pub rest : List Run
  pub begins : upper.runs.items ≡ first ∷ rest
  pub upper_low : upper.low ≡ rank first
  pub lower_len : length new.runs.items ≡ 256
  pub upper_len : 256 ≤ length upper.runs.items
  pub room : 640 ≤ vec_capacity new.runs
  pub upper_room : 640 ≤ vec_capacity upper.runs

-- an empty vector with room for a chunk
pub record IsBlank (runs : Vec Run Global) : Type 0 where
  pub blank : runs.items ≡ []
  pub room : 640 ≤ vec_capacity runs

-- the run was added somewhere
pub record Adds (old new : List Run) (run : Run) : Type 0 where
  pub before : List Run
  pub after : List Run
  pub was : old ≡ before ++ after
  pub is : new ≡ before ++ run ∷ after

-- the run was added behind those of a lower rank
pub record Puts (rank : Run → ℕ) (old new : List Run) (run : Run) : Type 0 where
  pub before : List Run
  pub after : List Run
  pub was : old ≡ before ++ after
  pub is : new ≡ before ++ run ∷ after
  pub below : All (λ (r : Run). rank r < rank run) before
  pub above : All (λ (r : Run). rank run ≤ rank r) after

-- the run is the first whose rank isn't below `from`
pub record IsFirstFrom (rank : Run → ℕ) (runs : List Run) (from : ℕ) (run : Run) : Type 0 where
  pub before : List Run
  pub after : List Run
  pub parts : runs ≡ before ++ run ∷ after
  pub below : All (λ (r : Run). rank r < from) before
  pub reached : from ≤ rank run

-- the run is the last whose rank is below `to`
pub record IsLastBelow (rank : Run → ℕ) (runs : List Run) (to : ℕ) (run : Run) : Type 0 where
  pub before : List Run
  pub after : List Run
  pub parts : runs ≡ before ++ run ∷ after
  pub below : rank run < to
  pub above : All (λ (r : Run). to ≤ rank r) after

-- so many runs have a rank below `rank`
pub record IsPlaceOf (rank : Run → ℕ) (runs : List Run) (to place : ℕ) : Type 0 where
  pub before : List Run
  pub after : List Run
  pub parts : runs ≡ before ++ after
  pub at : length before ≡ place
  pub below : All (λ (r : Run). rank r < to) before
  pub above : All (λ (r : Run). to ≤ rank r) after

-- a run of the rank belongs to the chunk at the place
pub record IsChunkOf (chunks : List Chunk) (rank place : ℕ) : Type 0 where
  pub front : List Chunk
  pub chunk : Chunk
  pub back : List Chunk
  pub parts : chunks ≡ front ++ chunk ∷ back
  pub at : length front ≡ place
  pub from : chunk.low ≤ rank
  pub to : rank < fence back (2 ^ 64)
