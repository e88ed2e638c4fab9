use Rattle.std.proofs.Common.{◌≡◌, take}
use Rattle.wire_frames.specs.Line.{message_lines}
use Rattle.wire_frames.proofs.line.lines_of.Given as goal

abbrev pub invariant-messages : goal.invariant-messages
invariant-messages l = l.text.items ≡ message_lines (take l.message-index l.messages)
