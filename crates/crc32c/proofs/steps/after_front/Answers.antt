use Rattle.std.proofs.Common.{arith}
use Rattle.crc32c.proofs.Shifting.{front_taken}
use Rattle.crc32c.proofs.steps.after_front.Goals as goal

pub returns : goal.returns
returns c =
    front_taken c.args.register c.from_le_bytes-eight.result c.after_eight.result c.args.bytes.now c.requires
    (λ i. omega (arith, c.type_inv.bytes i)) c.from_le_bytes-eight.ensures c.after_eight.ensures
