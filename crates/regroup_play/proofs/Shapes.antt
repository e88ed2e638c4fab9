-- Numbers that are the shape of a group, or the first of them that is out of range.
use Rattle.std.proofs.Common.{◌≡◌, Ok, Err, sym, ap, ◌∙◌}
use Rattle.group_types.specs.Dimensions.{Dimensions}
use Rattle.group_types.specs.Shape.{IsFirstOutOfRange, IsShape}
use Rattle.group_types.specs.declared.shape.Field.{Field}
use Rattle.scenario_text.specs.declared.line.LineFault.TheVariants.{BadShape}
use Rattle.scenario_play.proofs.Shapes.{shape-none, shape-some}
use Rattle.regroup_run.specs.Meaning.{shape_unless, shape_within}

pub within-ok : (d s : Dimensions) → s ≡ d → IsShape d → shape_within d ≡ Ok s
unfolding shape_within
within-ok d s same limits = ap (shape_unless d) (shape-none d limits) ∙ ap (λ (x : Dimensions). Ok x) (sym same)

pub within-bad : (d : Dimensions) (field : Field) → IsFirstOutOfRange d field → shape_within d ≡ Err (BadShape field)
unfolding shape_within
within-bad d field bad = ap (shape_unless d) (shape-some d field bad)
