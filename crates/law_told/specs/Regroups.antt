-- What a line `regroup` tells that names a shape: why nothing is carried, or that all is.
use Rattle.std.specs.Prelude.{ℕ, ◌≡◌, List, [], ◌∷◌, codes, true, Option, Some, Ok}
use Rattle.group_types.specs.Dimensions.{Dimensions}
use Rattle.group_types.specs.declared.process.Partition.{Partition}
use Rattle.scenario_text.specs.Words.{split_words}
use Rattle.scenario_run.specs.Course.{Goes}
use Rattle.group_eras.specs.Promise.{Carries, EraMove, IsLed}
use Rattle.group_eras.specs.Refusal.{CanCarry, IsRefused}
use Rattle.group_eras.specs.declared.fault.CarryFault.TheVariants.{Down, NoSpace, NotDrained}
use Rattle.regroup_run.specs.Meaning.{regroup_line}
use Rattle.regroup_run.specs.Playing.{EraPlay, next_of, regroups}

-- a line `regroup` names this shape
pub record NamesShape (p : EraPlay) (line : List ℕ) (s : Dimensions) : Type 0 where
  pub word : regroups line ≡ true
  pub shape : regroup_line p.eras.world.shape.k (split_words line) ≡ Ok s

-- nothing is carried, and this is written
pub record IsNothingCarried (moves : List EraMove) (text reason : List ℕ) : Type 0 where
  pub nothing : moves ≡ []
  pub written : text ≡ reason

-- each reason is told where it is true, and where there is none all is carried
pub record RegroupTells (p : EraPlay) (s : Dimensions) (moves : List EraMove) (text : List ℕ) : Type 0 where
  pub down : IsRefused p.eras.world s Down → IsNothingCarried moves text (codes "down\n")
  pub waits : IsRefused p.eras.world s NotDrained → IsNothingCarried moves text (codes "not_drained\n")
  pub long : (d : Partition) → IsRefused p.eras.world s (NoSpace d) → IsNothingCarried moves text (codes "no_space\n")
  pub carries : CanCarry p.eras.world s → moves ≡ Carries s ∷ []

abbrev pub RegroupsTell : Type 0
RegroupsTell = (p : EraPlay) (line : List ℕ) (s : Dimensions) (next : Option EraPlay) (moves : List EraMove) (text : List ℕ) → IsLed p.eras → NamesShape p line s
    → next_of (Some p) line ≡ Goes next moves text → RegroupTells p s moves text
