use Rattle.std.proofs.Common.{refl}
use Rattle.std.specs.Fmt.{digits}
use Rattle.hex.specs.Hex.{encode_with}
use Rattle.field_byte.specs.Field.{product_of_bits, product, inverse_below, inverse}
use Rattle.field_byte.specs.Vectors.{add_bytes, scale}
use Rattle.group_rows.specs.Takeovers.{PartialAdoption, FateGone, FateCutBefore, FateCutBehind}

pub partial_adoption : PartialAdoption
unfolding digits encode_with product_of_bits product inverse_below inverse add_bytes scale
partial_adoption = refl

pub fate_gone : FateGone
unfolding digits encode_with product_of_bits product inverse_below inverse add_bytes scale
fate_gone = refl

pub fate_cut_before : FateCutBefore
unfolding digits encode_with product_of_bits product inverse_below inverse add_bytes scale
fate_cut_before = refl

pub fate_cut_behind : FateCutBehind
unfolding digits encode_with product_of_bits product inverse_below inverse add_bytes scale
fate_cut_behind = refl
