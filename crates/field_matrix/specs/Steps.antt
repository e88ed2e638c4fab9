-- A step of elimination.
use Rattle.std.specs.Prelude.{ℕ, ◌==◌, if◌then◌else◌, bit_xor}
use Rattle.field_byte.specs.Field.{product, inverse}
use Rattle.field_matrix.specs.Grids.{Grid}

-- row p of m, divided by the pivot of work
abbrev pub divided : ℕ → Grid → Grid → ℕ → ℕ
divided p work m j = product (inverse (work p p)) (m p j)

-- m after the step that clears column p of work: row p is divided, and each other row gets a
-- multiple of it added
abbrev pub step : ℕ → Grid → Grid → Grid
step p work m i j = if i == p then divided p work m j else bit_xor (m i j) (product (work i p) (divided p work m j))
