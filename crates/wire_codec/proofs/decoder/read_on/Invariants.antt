use Rattle.std.proofs.Common.{◌+◌, ◌^◌, ◌≤◌, ◌++◌, List, length}
use Rattle.group_message.specs.declared.message.Message.{Message}
use Rattle.wire_codec.specs.Cutting.{DecodesOn}
use Rattle.wire_codec.specs.Stream.{DecoderState, DecodesFrom}
use Rattle.wire_codec.proofs.decoder.read_on.Given as goal

-- what is read of what is left completes what is read of the text
abbrev pub invariant-frames : goal.invariant-frames
invariant-frames l = record {
  fits : l.begun + length l.rest ≤ 2 ^ 62;
  completes : (kept : DecoderState) (given : List Message) → DecodesFrom l.begun kept l.rest given
      → DecodesOn l.fn.at kept l.fn.text l.fn.found.items (l.messages.items ++ given);
}

abbrev pub decreases-frames : goal.decreases-frames
decreases-frames l = length l.rest
