-- Rows, by computation.
use Rattle.std.proofs.Common.{refl}
use Rattle.std.specs.Fmt.{digits}
use Rattle.field_byte.specs.Field.{product_of_bits, product, inverse_below, inverse}
use Rattle.field_byte.specs.Vectors.{add_bytes, scale}
use Rattle.group_wire.specs.RowsOfFates.{ALostAsk, GoneAndAskedAgain, ShownByAFailedOne, a_lost_ask_actions}
use Rattle.group_wire.specs.RowsOfFates.{gone_and_asked_again_actions, shown_by_a_failed_one_actions}
use Rattle.group_wire.proofs.Checks.{may-come}

pub row_gone_and_asked_again : GoneAndAskedAgain
unfolding digits product_of_bits product inverse_below inverse add_bytes scale
row_gone_and_asked_again = record { may = may-come 2 1 gone_and_asked_again_actions refl refl; answered = refl; same = refl; shows = refl; fails = refl }

pub row_a_lost_ask : ALostAsk
unfolding digits product_of_bits product inverse_below inverse add_bytes scale
row_a_lost_ask = record { may = may-come 2 1 a_lost_ask_actions refl refl; answered = refl; same = refl; shows = refl; fails = refl }

pub row_shown_by_a_failed_one : ShownByAFailedOne
unfolding digits product_of_bits product inverse_below inverse add_bytes scale
row_shown_by_a_failed_one = record { may = may-come 2 1 shown_by_a_failed_one_actions refl refl; answered = refl; same = refl; shows = refl; fails = refl }
