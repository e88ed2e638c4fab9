-- What comes of a stream of frames.
use Rattle.std.specs.Prelude.{ℕ, ◌≡◌, ◌≢◌, ◌<◌, ◌≤◌, ◌^◌, ◌⊎◌, List, [], ◌++◌, length}
use Rattle.edge_io.specs.Moving.{Appends, Input, IsEnded, Takes}
use Rattle.edge_io.specs.Writing.{HasWritten}
use Rattle.group_message.specs.declared.message.Message.{Message}
use Rattle.wire_codec.specs.Stream.{IsBad, IsPartial, ReadsFrames, stream_of}
use Rattle.wire_frames.specs.Line.{message_lines}
use Rattle.wire_frames.specs.declared.status.FramesStatus.{FramesStatus}
use Rattle.wire_frames.specs.declared.status.FramesStatus.TheVariants.{Done, Cut, BadFrame, Worn}
use Rattle.wire_frames.specs.declared.status.FramesStatus.TheVariants.{ReadFault, WriteFault, Want}

-- the most bytes of a stream, and the most that one read takes
abbrev pub longest_stream : ℕ
longest_stream = 2 ^ 62

abbrev pub piece : ℕ
piece = 65536

-- bytes were read, which are the frames of messages and this rest, and the lines of the messages were written
pub record HasListed (input input_now : Input) (held held_now rest : List ℕ) : Type 0 where
  pub read : List ℕ
  pub consumed : Takes input input_now read
  pub messages : List Message
  pub reads : ReadsFrames read messages rest
  pub written : Appends held held_now (message_lines messages)

-- no frame was bad before the last bytes, no more than one read takes
pub record IsBadOnlyNow (read : List ℕ) : Type 0 where
  pub front : List ℕ
  pub last : List ℕ
  pub split : read ≡ front ++ last
  pub few : length last ≤ piece
  pub messages : List Message
  pub rest : List ℕ
  pub reads : ReadsFrames front messages rest
  pub partial : IsPartial rest

-- a piece came behind what was read, of which no frame is bad
pub record PieceHasCome (input input_now : Input) : Type 0 where
  pub read : List ℕ
  pub last : List ℕ
  pub consumed : Takes input input_now (read ++ last)
  pub short : length last ≤ piece
  pub messages : List Message
  pub rest : List ℕ
  pub reads : ReadsFrames read messages rest
  pub partial : IsPartial rest

-- the lines of the messages before the piece were written, and a front of the lines of its own
pub record HasHalted (input input_now : Input) (held held_now : List ℕ) : Type 0 where
  pub come : PieceHasCome input input_now
  pub middle : List ℕ
  pub first : Appends held middle (message_lines come.messages)
  pub given : List Message
  pub rest : List ℕ
  pub reads : ReadsFrames (come.read ++ come.last) (come.messages ++ given) rest
  pub behind : IsPartial rest ⊎ IsBad rest
  pub written : HasWritten middle held_now (message_lines given)

-- the lines of the messages before the piece were written, and the piece was not read
pub record HasUnread (input input_now : Input) (held held_now : List ℕ) : Type 0 where
  pub come : PieceHasCome input input_now
  pub written : Appends held held_now (message_lines come.messages)

-- what stands at each status
abbrev pub HasFramed : Input → Input → List ℕ → List ℕ → FramesStatus → Type 0
HasFramed input input_now held held_now Done =
    (listed : HasListed input input_now held held_now []) × (length listed.read < longest_stream) × IsEnded input_now
HasFramed input input_now held held_now Cut =
    (rest : List ℕ) × (listed : HasListed input input_now held held_now rest) × (length listed.read < longest_stream)
    × IsEnded input_now × IsPartial rest × (rest ≢ [])
HasFramed input input_now held held_now (BadFrame at) =
    (rest : List ℕ) × (listed : HasListed input input_now held held_now rest) × IsBad rest
    × IsBadOnlyNow listed.read × (at ≡ length (stream_of listed.messages))
HasFramed input input_now held held_now Worn =
    (rest : List ℕ) × (listed : HasListed input input_now held held_now rest) × IsPartial rest
    × (length listed.read ≡ longest_stream)
HasFramed input input_now held held_now ReadFault =
    (rest : List ℕ) × HasListed input input_now held held_now rest × IsPartial rest
HasFramed input input_now held held_now WriteFault = HasHalted input input_now held held_now
HasFramed input input_now held held_now Want =
    HasHalted input input_now held held_now ⊎ HasUnread input input_now held held_now
