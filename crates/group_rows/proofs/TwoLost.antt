use Rattle.std.proofs.Common.{refl}
use Rattle.std.specs.Fmt.{digits}
use Rattle.hex.specs.Hex.{encode_with}
use Rattle.field_byte.specs.Field.{product_of_bits, product, inverse_below, inverse}
use Rattle.field_byte.specs.Vectors.{add_bytes, scale}
use Rattle.group_rows.specs.TwoLost.{TwoLost, SecondLoss}

pub two_lost : TwoLost
unfolding digits encode_with product_of_bits product inverse_below inverse add_bytes scale
two_lost = refl

pub second_loss : SecondLoss
unfolding digits encode_with product_of_bits product inverse_below inverse add_bytes scale
second_loss = refl
