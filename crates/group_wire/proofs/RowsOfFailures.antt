-- Rows, by computation.
use Rattle.std.proofs.Common.{refl}
use Rattle.std.specs.Fmt.{digits}
use Rattle.field_byte.specs.Field.{product_of_bits, product, inverse_below, inverse}
use Rattle.field_byte.specs.Vectors.{add_bytes, scale}
use Rattle.group_wire.specs.RowsOfFailures.{BothHeadsFail, HeadsAreCondemned, NobodyIsDead, TwoFailAtOnce}
use Rattle.group_wire.specs.RowsOfFailures.{both_heads_fail_actions, heads_are_condemned_actions}
use Rattle.group_wire.specs.RowsOfFailures.{nobody_is_dead_actions, two_fail_at_once_actions}
use Rattle.group_wire.proofs.Checks.{may-come}

pub row_two_fail_at_once : TwoFailAtOnce
unfolding digits product_of_bits product inverse_below inverse add_bytes scale
row_two_fail_at_once = record { may = may-come 1 2 two_fail_at_once_actions refl refl; answered = refl; same = refl; shows = refl; fails = refl }

pub row_both_heads_fail : BothHeadsFail
unfolding digits product_of_bits product inverse_below inverse add_bytes scale
row_both_heads_fail = record { may = may-come 2 2 both_heads_fail_actions refl refl; answered = refl; same = refl; shows = refl; fails = refl }

pub row_nobody_is_dead : NobodyIsDead
unfolding digits product_of_bits product inverse_below inverse add_bytes scale
row_nobody_is_dead = record { may = may-come 3 2 nobody_is_dead_actions refl refl; answered = refl; same = refl; shows = refl; fails = refl }

pub row_heads_are_condemned : HeadsAreCondemned
unfolding digits product_of_bits product inverse_below inverse add_bytes scale
row_heads_are_condemned = record { may = may-come 2 1 heads_are_condemned_actions refl refl; answered = refl; same = refl; shows = refl; fails = refl }
