use Rattle.std.proofs.Common.{◌≡◌, ◌-◌}
use Rattle.std.specs.Int.{w64}
use Rattle.wire_codec.specs.Reading.{decode_number, many_at}
use Rattle.wire_codec.proofs.Many.{with_front}
use Rattle.wire_codec.proofs.take_fields.take_numbers.Given as goal

abbrev pub invariant-numbers : goal.invariant-numbers
invariant-numbers l = with_front l.numbers.items (many_at (decode_number w64) (l.count - l.counter) l.rest) ≡ many_at (decode_number w64) l.count l.bytes
