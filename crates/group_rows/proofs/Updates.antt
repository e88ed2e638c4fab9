use Rattle.std.proofs.Common.{refl}
use Rattle.std.specs.Fmt.{digits}
use Rattle.hex.specs.Hex.{encode_with}
use Rattle.field_byte.specs.Field.{product_of_bits, product, inverse_below, inverse}
use Rattle.field_byte.specs.Vectors.{add_bytes, scale}
use Rattle.group_rows.specs.Updates.{OldRunNotFree, PendingUpdate, AllParitiesFail, CutBefore, CutBehind, FullWindow}

pub old_run_not_free : OldRunNotFree
unfolding digits encode_with product_of_bits product inverse_below inverse add_bytes scale
old_run_not_free = refl

pub pending_update : PendingUpdate
unfolding digits encode_with product_of_bits product inverse_below inverse add_bytes scale
pending_update = refl

pub all_parities_fail : AllParitiesFail
unfolding digits encode_with product_of_bits product inverse_below inverse add_bytes scale
all_parities_fail = refl

pub cut_before : CutBefore
unfolding digits encode_with product_of_bits product inverse_below inverse add_bytes scale
cut_before = refl

pub cut_behind : CutBehind
unfolding digits encode_with product_of_bits product inverse_below inverse add_bytes scale
cut_behind = refl

pub full_window : FullWindow
unfolding digits encode_with product_of_bits product inverse_below inverse add_bytes scale
full_window = refl
