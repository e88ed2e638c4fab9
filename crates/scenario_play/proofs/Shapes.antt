-- A shape's first field out of range.
use Rattle.std.proofs.Common.{◌≡◌, Option, Some, None, Ok, Err, refl, sym, ◌∙◌}
use Rattle.group_types.specs.Dimensions.{Dimensions}
use Rattle.group_types.specs.Shape.{IsFirstOutOfRange, IsShape}
use Rattle.group_types.specs.declared.shape.Field.{Field}
use Rattle.scenario_text.specs.Meaning.{first_out_of_range, group_unless, group_within}
use Rattle.scenario_text.specs.declared.line.Line.TheVariants.{Group}
use Rattle.scenario_text.specs.declared.line.LineFault.TheVariants.{BadShape}
use Rattle.scenario_text.proofs.Limits.{group_within-fault, group_within-shape}

unless : (d : Dimensions) → group_within d ≡ group_unless d (first_out_of_range d)
unfolding group_within
unless d = refl

pub shape-none : (d : Dimensions) → IsShape d → first_out_of_range d ≡ None
shape-none d limits = by (first_out_of_range d) (sym (unless d) ∙ group_within-shape d d refl limits) where
  by : (o : Option Field) → group_unless d o ≡ Ok (Group d) → o ≡ None
  by None is = refl
  by (Some field) is = absurd (cc is)

pub shape-some : (d : Dimensions) (field : Field) → IsFirstOutOfRange d field → first_out_of_range d ≡ Some field
shape-some d field bad = by (first_out_of_range d) (sym (unless d) ∙ group_within-fault d field bad) where
  by : (o : Option Field) → group_unless d o ≡ Err (BadShape field) → o ≡ Some field
  by None is = absurd (cc is)
  by (Some other) is = cc is
