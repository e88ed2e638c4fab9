use Rattle.std.proofs.Common.{refl}
use Rattle.std.specs.Fmt.{digits}
use Rattle.hex.specs.Hex.{encode_with}
use Rattle.field_byte.specs.Field.{product_of_bits, product, inverse_below, inverse}
use Rattle.field_byte.specs.Vectors.{add_bytes, scale}
use Rattle.group_rows.specs.Losses.{CodeByHand, TouchWithoutBlock, SettledUnsent, MarkedRow}

pub code_by_hand : CodeByHand
unfolding digits encode_with product_of_bits product inverse_below inverse add_bytes scale
code_by_hand = refl

pub touch_without_block : TouchWithoutBlock
unfolding digits encode_with product_of_bits product inverse_below inverse add_bytes scale
touch_without_block = refl

pub settled_unsent : SettledUnsent
unfolding digits encode_with product_of_bits product inverse_below inverse add_bytes scale
settled_unsent = refl

pub marked_row : MarkedRow
unfolding digits encode_with product_of_bits product inverse_below inverse add_bytes scale
marked_row = refl
