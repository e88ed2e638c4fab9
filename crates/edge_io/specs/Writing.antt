-- What a text that is written in pieces leaves in a sink.
use Rattle.std.specs.Prelude.{ℕ, ◌<◌, List, length, take}
use Rattle.edge_io.specs.Moving.{Appends}

-- the front of a text was written
pub record HasWritten (before now text : List ℕ) : Type 0 where
  pub count : ℕ
  pub bytes : Appends before now (take count text)

-- the front of a text was written, and not the whole
pub record HasWrittenPart (before now text : List ℕ) : Type 0 where
  pub count : ℕ
  pub short : count < length text
  pub bytes : Appends before now (take count text)
