-- A mark that comes to a row.
use Rattle.std.specs.Prelude.{◌≡◌, ℕ, None}
use Rattle.group_types.specs.Lists.{at}
use Rattle.group_run.specs.Process.{Copy}

-- the copy is of this block, and the partition isn't marked in it
abbrev pub AwaitsMark : ℕ → ℕ → Copy → Type 0
AwaitsMark block d copy = (at None copy.marks d ≡ None) × (copy.block ≡ block)
