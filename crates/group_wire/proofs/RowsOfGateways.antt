-- Rows, by computation.
use Rattle.std.proofs.Common.{refl}
use Rattle.std.specs.Fmt.{digits}
use Rattle.field_byte.specs.Field.{product_of_bits, product, inverse_below, inverse}
use Rattle.field_byte.specs.Vectors.{add_bytes, scale}
use Rattle.group_wire.specs.RowsOfGateways.{AReadIsAskedAgain, Ghosts, KeptBehindACut, ThreeGateways}
use Rattle.group_wire.specs.RowsOfGateways.{a_read_is_asked_again_actions, ghosts_actions, kept_behind_a_cut_actions}
use Rattle.group_wire.specs.RowsOfGateways.{three_gateways_actions}
use Rattle.group_wire.proofs.Checks.{may-come}

pub row_a_read_is_asked_again : AReadIsAskedAgain
unfolding digits product_of_bits product inverse_below inverse add_bytes scale
row_a_read_is_asked_again = record { may = may-come 2 1 a_read_is_asked_again_actions refl refl; answered = refl; same = refl; shows = refl; fails = refl }

pub row_kept_behind_a_cut : KeptBehindACut
unfolding digits product_of_bits product inverse_below inverse add_bytes scale
row_kept_behind_a_cut = record { may = may-come 2 1 kept_behind_a_cut_actions refl refl; answered = refl; same = refl; shows = refl; fails = refl }

pub row_three_gateways : ThreeGateways
unfolding digits product_of_bits product inverse_below inverse add_bytes scale
row_three_gateways = record { may = may-come 2 2 three_gateways_actions refl refl; answered = refl; same = refl; shows = refl; fails = refl }

pub row_ghosts : Ghosts
unfolding digits product_of_bits product inverse_below inverse add_bytes scale
row_ghosts = record { may = may-come 1 1 ghosts_actions refl refl; answered = refl; same = refl; shows = refl; fails = refl }
