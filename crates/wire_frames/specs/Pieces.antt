-- What comes of the next piece of a stream, and of its end.
use Rattle.std.specs.Prelude.{ℕ, ◌≡◌, ◌≢◌, ◌⊎◌, true, false, List, [], ◌++◌, Result, Ok, Err}
use Rattle.edge_io.specs.Moving.{Appends}
use Rattle.edge_io.specs.Writing.{HasWritten}
use Rattle.group_message.specs.declared.message.Message.{Message}
use Rattle.wire_codec.specs.Stream.{DecoderState, HasDecoded, IsPartial, ReadsFrames}
use Rattle.wire_frames.specs.Line.{message_lines}
use Rattle.wire_frames.specs.declared.status.FramesStatus.{FramesStatus}
use Rattle.wire_frames.specs.declared.status.FramesStatus.TheVariants.{Done, Cut, BadFrame, WriteFault, Want}

-- the status of a stream that ended so
abbrev pub status_in : Result (Unit {0}) FramesStatus → FramesStatus
status_in (Ok _) = Done
status_in (Err status) = status

-- a decoder was fed this input, whose messages these are
abbrev pub WasFed : DecoderState → Type 0
WasFed kept = (input : List ℕ) × (messages : List Message) × HasDecoded kept input messages

-- with a piece more these messages more were read, by a decoder that had met no bad frame
pub record HasGiven (before after : DecoderState) (input piece : List ℕ) (messages : List Message) : Type 0 where
  pub given : List Message
  pub has_read : HasDecoded after (input ++ piece) (messages ++ given)
  pub good : before.bad ≡ false

-- the lines of the messages of a piece were written, or a front of them; or it was not read; or a frame is bad
abbrev pub IsPieceListed : DecoderState → DecoderState → List ℕ → List Message → List ℕ → List ℕ → List ℕ
    → Result (Unit {0}) FramesStatus → Type 0
IsPieceListed before after input messages piece held now (Ok _) =
    (has : HasGiven before after input piece messages) × Appends held now (message_lines has.given)
IsPieceListed before after input messages piece held now (Err (BadFrame at)) =
    HasDecoded after (input ++ piece) messages × (after.bad ≡ true) × (after.begun ≡ at) × (now ≡ held)
IsPieceListed before after input messages piece held now (Err WriteFault) =
    (has : HasGiven before after input piece messages) × HasWritten held now (message_lines has.given)
IsPieceListed before after input messages piece held now (Err Want) =
    ((before.bad ≡ false) × (now ≡ held))
    ⊎ ((has : HasGiven before after input piece messages) × HasWritten held now (message_lines has.given))
IsPieceListed before after input messages piece held now (Err _) = ⊥

-- how a stream ends that has these messages: with no rest, or inside a frame
abbrev pub EndsAs : List ℕ → List Message → Result (Unit {0}) FramesStatus → Type 0
EndsAs input messages (Ok _) = ReadsFrames input messages []
EndsAs input messages (Err Cut) = (rest : List ℕ) × ReadsFrames input messages rest × IsPartial rest × (rest ≢ [])
EndsAs input messages (Err _) = ⊥
