use Rattle.std.proofs.Common.{◌≡◌, length, drop}
use Rattle.crc32c.specs.Register.{after_bytes}
use Rattle.crc32c.proofs.after.Given as goal

abbrev pub invariant-eights : goal.invariant-eights
invariant-eights l = after_bytes l.register l.rest ≡ after_bytes l.fn.before l.fn.bytes

abbrev pub decreases-eights : goal.decreases-eights
decreases-eights l = length l.rest

abbrev pub invariant-bytes : goal.invariant-bytes
invariant-bytes l = after_bytes l.register (drop l.byte-index l.byte-items) ≡ after_bytes l.fn.before l.fn.bytes
