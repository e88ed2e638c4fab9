use Rattle.std.proofs.Common.{refl}
use Rattle.std.specs.Fmt.{digits}
use Rattle.hex.specs.Hex.{encode_with}
use Rattle.field_byte.specs.Field.{product_of_bits, product, inverse_below, inverse}
use Rattle.field_byte.specs.Vectors.{add_bytes, scale}
use Rattle.group_rows.specs.Tables.{SmallestScript, FullSpace, TouchInFullSpace, TableCases, Expiry, Numerals}

pub smallest_script : SmallestScript
unfolding digits encode_with product_of_bits product inverse_below inverse add_bytes scale
smallest_script = refl

pub full_space : FullSpace
unfolding digits encode_with product_of_bits product inverse_below inverse add_bytes scale
full_space = refl

pub touch_in_full_space : TouchInFullSpace
unfolding digits encode_with product_of_bits product inverse_below inverse add_bytes scale
touch_in_full_space = refl

pub table_cases : TableCases
unfolding digits encode_with product_of_bits product inverse_below inverse add_bytes scale
table_cases = refl

pub expiry : Expiry
unfolding digits encode_with product_of_bits product inverse_below inverse add_bytes scale
expiry = refl

pub numerals : Numerals
unfolding digits encode_with product_of_bits product inverse_below inverse add_bytes scale
numerals = refl
