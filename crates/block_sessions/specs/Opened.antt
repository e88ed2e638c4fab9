-- An open session.
use Rattle.std.specs.Prelude.{◌≡◌, ℕ, ◌<◌, ◌≤◌, ◌==◌, not, List, All, None, filter, length, replicate}
use Rattle.std.specs.List.{list_any, range_with_len}
use Rattle.std.specs.List.Sorted.{IsStrictlyIncreasing}
use Rattle.group_types.specs.Dimensions.{Dimensions}
use Rattle.group_types.specs.Pieces.{bytes_of, numbers_of}
use Rattle.group_types.specs.declared.piece_list.Piece.{Piece}
use Rattle.group_run.specs.Leaders.{decoded_of}
use Rattle.group_run.specs.Process.{Gathering}
use Rattle.block_sessions.specs.declared.session.OpenSession.{OpenSession}

-- what the machine has of it
abbrev pub gathering_of : OpenSession → Gathering
gathering_of g = record { number = g.number; block = g.block; lost = g.lost.items; rows = g.coded.numbers; blocks_in = g.known.parts; rows_in = g.coded.parts }

-- a session with nothing in
abbrev pub blank_session : Dimensions → ℕ → ℕ → List ℕ → List ℕ → Gathering
blank_session s number block lost rows = record {
  number = number;
  block = block;
  lost = lost;
  rows = rows;
  blocks_in = replicate s.k None;
  rows_in = replicate s.m None;
}

-- the partitions below k that aren't lost
abbrev pub known_of : ℕ → List ℕ → List ℕ
known_of k lost = filter (λ d. not (list_any (λ l. l == d) lost)) (range_with_len 0 k)

-- lost partitions, and as many rows
pub record AreLost (s : Dimensions) (lost rows : List ℕ) : Type 0 where
  pub some : 1 ≤ length lost
  pub rising : IsStrictlyIncreasing lost
  pub below : All (λ l. l < s.k) lost
  pub rows_rise : IsStrictlyIncreasing rows
  pub rows_below : All (λ i. i < s.m) rows
  pub as_many : length rows ≡ length lost

-- a block of each lost partition
pub record AreOut (block : ℕ) (lost : List ℕ) (out : List Piece) : Type 0 where
  pub numbers : numbers_of out ≡ lost
  pub long : All (λ p. length p.bytes ≡ block) out

-- a session of a group of this shape
pub record IsSessionOf (s : Dimensions) (g : OpenSession) : Type 0 where
  pub block : g.block < s.blocks
  pub lost : AreLost s g.lost.items g.coded.numbers
  pub known : g.known.numbers ≡ known_of s.k g.lost.items
  pub blocks_in : length g.known.parts ≡ s.k
  pub rows_in : length g.coded.parts ≡ s.m
  pub known_long : g.known.block ≡ s.block
  pub coded_long : g.coded.block ≡ s.block
  pub out : AreOut s.block g.lost.items g.out

-- its blocks are decoded
pub record IsDecoded (s : Dimensions) (g : Gathering) (out : List Piece) : Type 0 where
  pub numbers : numbers_of out ≡ g.lost
  pub long : All (λ l. length (bytes_of out l) ≡ s.block) g.lost
  pub decoded : All (λ l. bytes_of out l ≡ decoded_of s g l) g.lost
