use Rattle.std.proofs.Common.{bit_xor, ap, ◌∙◌, ◌/◌, ◌%◌, arith}
use Rattle.std.proofs.lemmas.Nat.{xor_of_8}
use Rattle.crc32c.proofs.Entries.{one_is}
use Rattle.crc32c.proofs.Shifting.{byte_step}
use Rattle.crc32c.proofs.steps.after_byte.Goals as goal

pub returns : goal.returns
returns c =
    let low = xor_of_8 (c.args.register % 256) c.args.byte (omega arith) c.ranges.byte.fits in
    ap (λ k. bit_xor k (c.args.register / 256)) (c.one_byte.ensures ∙ one_is _ low) ∙ byte_step c.args.register c.args.byte c.ranges.byte.fits
