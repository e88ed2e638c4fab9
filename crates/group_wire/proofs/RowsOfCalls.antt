-- Rows, by computation.
use Rattle.std.proofs.Common.{refl}
use Rattle.std.specs.Fmt.{digits}
use Rattle.field_byte.specs.Field.{product_of_bits, product, inverse_below, inverse}
use Rattle.field_byte.specs.Vectors.{add_bytes, scale}
use Rattle.group_wire.specs.RowsOfCalls.{AHeadFails, AParityFails, NobodyFails, TracedAtTheNextHead}
use Rattle.group_wire.specs.RowsOfCalls.{TwoParitiesNobodyFails, a_head_fails_actions, a_parity_fails_actions}
use Rattle.group_wire.specs.RowsOfCalls.{nobody_fails_actions, traced_at_the_next_head_actions}
use Rattle.group_wire.specs.RowsOfCalls.{two_parities_nobody_fails_actions}
use Rattle.group_wire.proofs.Checks.{may-come}

pub row_nobody_fails : NobodyFails
unfolding digits product_of_bits product inverse_below inverse add_bytes scale
row_nobody_fails = record { may = may-come 2 1 nobody_fails_actions refl refl; answered = refl; same = refl; shows = refl; fails = refl }

pub row_two_parities_nobody_fails : TwoParitiesNobodyFails
unfolding digits product_of_bits product inverse_below inverse add_bytes scale
row_two_parities_nobody_fails = record {
  may = may-come 1 2 two_parities_nobody_fails_actions refl refl;
  answered = refl;
  same = refl;
  shows = refl;
  fails = refl;
}

pub row_a_head_fails : AHeadFails
unfolding digits product_of_bits product inverse_below inverse add_bytes scale
row_a_head_fails = record { may = may-come 1 1 a_head_fails_actions refl refl; answered = refl; same = refl; shows = refl; fails = refl }

pub row_a_parity_fails : AParityFails
unfolding digits product_of_bits product inverse_below inverse add_bytes scale
row_a_parity_fails = record { may = may-come 1 1 a_parity_fails_actions refl refl; answered = refl; same = refl; shows = refl; fails = refl }

pub row_traced_at_the_next_head : TracedAtTheNextHead
unfolding digits product_of_bits product inverse_below inverse add_bytes scale
row_traced_at_the_next_head = record { may = may-come 1 2 traced_at_the_next_head_actions refl refl; answered = refl; same = refl; shows = refl; fails = refl }
