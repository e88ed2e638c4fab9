use Rattle.std.proofs.Common.{ap, refl}
use Rattle.group_types.specs.Dimensions.{Dimensions}
use Rattle.part_tests.proofs.Cases.{each_from}
use Rattle.part_tests.proofs.codes.two_of_three_columns_from_both_rows.Goals as goal

pub decodes-requires-clause-order : goal.decodes-requires-clause-order
decodes-requires-clause-order g c = rw (ap (λ (d : Dimensions). d.k) c.shape-shape.ensures) (each_from 3 _ refl refl refl)
