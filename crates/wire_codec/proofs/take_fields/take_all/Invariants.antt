use Rattle.std.proofs.Common.{◌≡◌, ◌-◌}
use Rattle.wire_codec.specs.Reading.{many_at, update_at}
use Rattle.wire_codec.proofs.Many.{with_front}
use Rattle.wire_codec.proofs.take_fields.take_all.Given as goal

abbrev pub invariant-updates : goal.invariant-updates
invariant-updates l = with_front l.updates.items (many_at update_at (l.count - l.counter) l.rest) ≡ many_at update_at l.count l.bytes
