-- A stream of frames, and what a decoder keeps of it.
use Rattle.std.specs.Prelude.{ℕ, ◌≡◌, ◌+◌, ◌<◌, ◌≤◌, ◌^◌, Bool, false, List, ◌++◌, length, take, MatchBool}
use Rattle.std.specs.List.{flat_map, AllByRecursion}
use Rattle.std.specs.Int.{w32, from_be_bytes}
use Rattle.group_message.specs.declared.message.Message.{Message}
use Rattle.wire_codec.specs.Frame.{frame_of}
use Rattle.wire_codec.specs.Fits.{HasFrame, most}

-- the frames of messages, one behind the other
abbrev pub stream_of : List Message → List ℕ
stream_of messages = flat_map frame_of messages

-- the length that the first four bytes say
abbrev pub announced : List ℕ → ℕ
announced bytes = from_be_bytes w32 (take 4 bytes)

-- a length that a frame may have
abbrev pub IsLength : ℕ → Type 0
IsLength n = (1 ≤ n) × (n ≤ most)

-- no frame of a message stands at the front
abbrev pub HasNone : List ℕ → Type 0
HasNone rest = (m : Message) (more : List ℕ) → HasFrame m → ¬ (rest ≡ frame_of m ++ more)

-- less than a frame: the four bytes of a length aren't there, or fewer bytes behind them than they say, in range
abbrev pub IsPartial : List ℕ → Type 0
IsPartial rest = 4 ≤ length rest → IsLength (announced rest) × (length rest < 4 + announced rest)

-- a frame that is no spelling: its length is out of range, or all its bytes are there and are the frame of no message
pub record IsBad (rest : List ℕ) : Type 0 where
  pub header : 4 ≤ length rest
  pub due : IsLength (announced rest) → 4 + announced rest ≤ length rest
  pub none : HasNone rest

-- an input is the frames of these messages, and then this rest
pub record ReadsFrames (input : List ℕ) (messages : List Message) (rest : List ℕ) : Type 0 where
  pub whole : input ≡ stream_of messages ++ rest
  pub each : AllByRecursion HasFrame messages

-- what a decoder keeps: the place in the stream of the first frame that it hasn't read, whether that is no spelling, and
-- else its bytes so far
pub record DecoderState : Type 0 where
  pub begun : ℕ
  pub bad : Bool
  pub front : List ℕ

-- what is kept of the rest of an input
abbrev pub KeepsRest : DecoderState → List ℕ → Type 0
KeepsRest kept rest = MatchBool kept.bad (IsBad rest) ((rest ≡ kept.front) × IsPartial rest)

-- a decoder that keeps this has read these messages of an input that begins at this place of the stream
pub record DecodesFrom (at : ℕ) (kept : DecoderState) (input : List ℕ) (messages : List Message) : Type 0 where
  pub rest : List ℕ
  pub reads : ReadsFrames input messages rest
  pub stands : KeepsRest kept rest
  pub place : kept.begun + length rest ≡ at + length input

-- a decoder that keeps this was fed this input, and gave these messages
abbrev pub HasDecoded : DecoderState → List ℕ → List Message → Type 0
HasDecoded kept input messages = DecodesFrom 0 kept input messages

-- whatever was fed before, with a piece more these messages more are given
abbrev pub Feeds : DecoderState → DecoderState → List ℕ → List Message → Type 0
Feeds before after piece given = (input : List ℕ) (messages : List Message) → HasDecoded before input messages
    → HasDecoded after (input ++ piece) (messages ++ given)

-- a decoder may be fed so many bytes more: with them the stream has at most 2^62, or it has met a frame that is no spelling
abbrev pub CanBeFed : DecoderState → ℕ → Type 0
CanBeFed kept len = kept.bad ≡ false → kept.begun + length kept.front + len ≤ 2 ^ 62
