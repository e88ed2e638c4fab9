-- Rows, by computation.
use Rattle.std.proofs.Common.{refl}
use Rattle.std.specs.Fmt.{digits}
use Rattle.field_byte.specs.Field.{product_of_bits, product, inverse_below, inverse}
use Rattle.field_byte.specs.Vectors.{add_bytes, scale}
use Rattle.group_wire.specs.RowsOfEnds.{KeptOfAFailedGateway, ProgramsEnd, TwoFailOneByOne}
use Rattle.group_wire.specs.RowsOfEnds.{kept_of_a_failed_gateway_actions, programs_end_actions}
use Rattle.group_wire.specs.RowsOfEnds.{two_fail_one_by_one_actions}
use Rattle.group_wire.proofs.Checks.{may-come}

pub row_two_fail_one_by_one : TwoFailOneByOne
unfolding digits product_of_bits product inverse_below inverse add_bytes scale
row_two_fail_one_by_one = record { may = may-come 1 2 two_fail_one_by_one_actions refl refl; answered = refl; same = refl; shows = refl; fails = refl }

pub row_programs_end : ProgramsEnd
unfolding digits product_of_bits product inverse_below inverse add_bytes scale
row_programs_end = record { may = may-come 1 1 programs_end_actions refl refl; answered = refl; same = refl; shows = refl; fails = refl }

pub row_kept_of_a_failed_gateway : KeptOfAFailedGateway
unfolding digits product_of_bits product inverse_below inverse add_bytes scale
row_kept_of_a_failed_gateway = record {
  may = may-come 2 1 kept_of_a_failed_gateway_actions refl refl;
  answered = refl;
  same = refl;
  shows = refl;
  fails = refl;
}
