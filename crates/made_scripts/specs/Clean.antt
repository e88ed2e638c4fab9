-- A script with no line that is refused.
use Rattle.std.specs.Prelude.{ℕ, ◌≡◌, ◌≤◌, ◌^◌, List, length, Some, None}
use Rattle.group_types.specs.Dimensions.{Dimensions}
use Rattle.scenario_make.specs.Script.{script_text}
use Rattle.scenario_run.specs.Script.{first_fault, script_shape}

-- the shape of the groups of made scripts
abbrev pub made_shape : Dimensions
made_shape = record { k = 3; m = 2; blocks = 64; block = 64 }

-- no line is refused, the group has this shape, and the text is short
pub record IsClean (s : Dimensions) (text : List ℕ) : Type 0 where
  pub fault : first_fault text ≡ None
  pub shape : script_shape text ≡ Some s
  pub short : length text ≤ 2 ^ 19

-- so is the script of each number
abbrev pub MadeAreClean : Type 0
MadeAreClean = (n : ℕ) → IsClean made_shape (script_text n)
