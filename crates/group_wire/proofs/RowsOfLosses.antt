-- Rows, by computation.
use Rattle.std.proofs.Common.{refl}
use Rattle.std.specs.Fmt.{digits}
use Rattle.field_byte.specs.Field.{product_of_bits, product, inverse_below, inverse}
use Rattle.field_byte.specs.Vectors.{add_bytes, scale}
use Rattle.group_wire.specs.RowsOfLosses.{ABlockIsRebuilt, APendingUpdate, a_block_is_rebuilt_actions, a_pending_update_actions}
use Rattle.group_wire.proofs.Checks.{may-come}

pub row_a_block_is_rebuilt : ABlockIsRebuilt
unfolding digits product_of_bits product inverse_below inverse add_bytes scale
row_a_block_is_rebuilt = record { may = may-come 2 1 a_block_is_rebuilt_actions refl refl; answered = refl; same = refl; shows = refl; fails = refl }

pub row_a_pending_update : APendingUpdate
unfolding digits product_of_bits product inverse_below inverse add_bytes scale
row_a_pending_update = record { may = may-come 2 2 a_pending_update_actions refl refl; answered = refl; same = refl; shows = refl; fails = refl }
