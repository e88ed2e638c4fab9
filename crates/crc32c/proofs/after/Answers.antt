use Rattle.std.proofs.Common.{◌∙◌, ◌+◌, ◌≡◌, suc, drop, sym, ap, arith}
use Rattle.crc32c.specs.Register.{after_bytes}
use Rattle.crc32c.proofs.Shifting.{byte_taken, none_left}
use Rattle.crc32c.proofs.after.Goals as goal

pub bytes-preserved : goal.bytes-preserved
bytes-preserved c =
    let next : c.bytes.byte-index + 1 ≡ suc c.bytes.byte-index = omega arith in
    ap (λ i. after_bytes c.after_byte-register.result (drop i c.eights.rest.now)) next
    ∙ byte_taken c.bytes.register c.after_byte-register.result c.eights.rest.now c.bytes.byte-index c.bytes-test.true
    c.after_byte-register.ensures ∙ c.bytes.invariant

pub returns : goal.returns
returns c = sym (none_left c.bytes.register c.bytes.byte-index c.eights.rest.now (omega (arith, c.bytes-test.false))) ∙ c.bytes.invariant
