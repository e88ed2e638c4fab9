-- What a source and a sink in memory are.
use Rattle.std.specs.Prelude.{ℕ, Bool, List, Some}
use Rattle.edge_io.specs.Calls.{CallsMade}
use Rattle.edge_io.specs.Moving.{Input}

-- the bytes handed out and those still to come, whether the last read that didn't fail met the end, the most bytes that
-- one read hands out, and the calls made
pub record Supply : Type 0 where
  pub taken : List ℕ
  pub left : List ℕ
  pub ended : Bool
  pub piece : ℕ
  pub calls : CallsMade

abbrev pub input_of : Supply → Input
input_of s = record { taken = s.taken; ended = s.ended; left = Some s.left }

-- the bytes taken, and the calls made
pub record SinkContents : Type 0 where
  pub held : List ℕ
  pub calls : CallsMade
