-- A frame on a link: its length, its text, and the CRC-32C of both; and a stream of them.
use Rattle.std.specs.Prelude.{ℕ, ◌≡◌, ◌+◌, ◌-◌, ◌<◌, ◌≤◌, ◌==◌, List, ◌++◌, length, take, drop, Option, None, if◌then◌else◌}
use Rattle.std.specs.List.{flat_map, AllByRecursion}
use Rattle.std.specs.Int.{w32, from_be_bytes}
use Rattle.group_types.specs.Dimensions.{Dimensions}
use Rattle.crc32c.specs.Register.{checksum}
use Rattle.wire_codec.specs.Frame.{four}
use Rattle.wire_codec.specs.Stream.{announced, IsLength}
use Rattle.link_frames.specs.declared.frame.Frame.{Frame}
use Rattle.link_frames.specs.Spelling.{link_text}
use Rattle.link_frames.specs.Limits.{HasLink}
use Rattle.link_frames.specs.Texts.{frame_in}

-- bytes, and their sum behind them
abbrev pub summed : List ℕ → List ℕ
summed bytes = bytes ++ four (checksum bytes)

abbrev pub link_frame : Frame → List ℕ
link_frame f = summed (four (length (link_text f)) ++ link_text f)

abbrev pub link_stream : List Frame → List ℕ
link_stream frames = flat_map link_frame frames

-- these bytes are this frame on a link of a group of this shape
pub record IsLinkFrame (s : Dimensions) (bytes : List ℕ) (f : Frame) : Type 0 where
  pub has_link : HasLink s f
  pub spelled : bytes ≡ link_frame f

-- no frame stands at the front
abbrev pub HasNoFrame : Dimensions → List ℕ → Type 0
HasNoFrame s rest = (f : Frame) (more : List ℕ) → HasLink s f → ¬ (rest ≡ link_frame f ++ more)

-- less than a frame: the four bytes of a length aren't there, or fewer bytes behind them than they say with their sum, in range
abbrev pub IsPartialFrame : List ℕ → Type 0
IsPartialFrame rest = 4 ≤ length rest → IsLength (announced rest) × (length rest < 8 + announced rest)

-- a frame that is no spelling: its length is out of range, or all its bytes are there and are no frame with its sum
pub record IsBroken (s : Dimensions) (rest : List ℕ) : Type 0 where
  pub header : 4 ≤ length rest
  pub due : IsLength (announced rest) → 8 + announced rest ≤ length rest
  pub none : HasNoFrame s rest

-- an input is these frames, and then this rest
pub record ReadsLink (s : Dimensions) (input : List ℕ) (frames : List Frame) (rest : List ℕ) : Type 0 where
  pub whole : input ≡ link_stream frames ++ rest
  pub each : AllByRecursion (HasLink s) frames

-- the four bytes of the sum of bytes, as a number
abbrev pub sum_number : List ℕ → ℕ
sum_number bytes = from_be_bytes w32 (four (checksum bytes))

-- the frame that bytes are, if their last four are the sum of those before them
unfoldable pub frame_of_bytes : Dimensions → List ℕ → Option Frame
frame_of_bytes s bytes = if from_be_bytes w32 (drop (length bytes - 4) bytes) == sum_number
    (take (length bytes - 4) bytes) then frame_in s (drop 4 (take (length bytes - 4) bytes)) else None
