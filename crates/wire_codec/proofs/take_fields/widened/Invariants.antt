use Rattle.std.proofs.Common.{◌≡◌, take}
use Rattle.wire_codec.proofs.take_fields.widened.Given as goal

abbrev pub invariant-bytes : goal.invariant-bytes
invariant-bytes l = l.numbers.items ≡ take l.byte-index l.bytes
