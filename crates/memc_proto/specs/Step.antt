use Rattle.std.specs.Prelude.{ℕ, ◌≡◌, ◌+◌, ◌<◌, ◌≤◌, false, List, ◌++◌, length, take, drop, ⊤}
use Rattle.memc_proto.specs.Request.{IsRequest, block_length, request_of}
use Rattle.memc_proto.specs.Reader.{StandsFor, HasRead, ReaderState, is_ended}
use Rattle.memc_proto.specs.declared.line.Line.{Line}
use Rattle.memc_proto.specs.declared.line.Line.TheVariants.{Stores, Skips}
use Rattle.memc_proto.specs.declared.mode.Mode.{Mode}
use Rattle.memc_proto.specs.declared.mode.Mode.TheVariants.{InBlock, Skipping}
use Rattle.memc_proto.specs.declared.request.Request.{Request}
use Rattle.memc_proto.specs.declared.step.Step.{Step}
use Rattle.memc_proto.specs.declared.step.Step.TheVariants.{Whole, Grows, Waits}

-- a step takes no more bytes than there are
abbrev pub IsStepWithin : List ℕ → Step → Type 0
IsStepWithin piece (Whole _ taken) = taken ≤ length piece
IsStepWithin piece Grows = ⊤
IsStepWithin piece (Waits _ from) = from ≤ length piece

-- what a piece makes of what is kept of a rest: a request is whole, or the piece is kept behind
-- what is kept, or its last bytes are kept in another mode
abbrev pub IsReaderStep : Mode → List ℕ → List ℕ → List ℕ → Step → Type 0
IsReaderStep mode front rest piece (Whole request taken) = IsRequest (rest ++ take taken piece) request
IsReaderStep mode front rest piece Grows = StandsFor mode (front ++ piece) (rest ++ piece)
IsReaderStep mode front rest piece (Waits next from) = StandsFor next (drop from piece) (rest ++ piece) × (is_ended next ≡ false)

-- what is kept of a line's block
abbrev pub KeepsBlock : Line → List ℕ → Mode → List ℕ → Type 0
KeepsBlock (Stores store) text mode front = (mode ≡ InBlock store) × (front ≡ text)
KeepsBlock (Skips refusal len) text mode front = (left : ℕ) × (mode ≡ Skipping refusal left) × (length text + left ≡ len)
KeepsBlock _ text mode front = ⊥

-- what the text behind a line that says this, from a place of the piece on, makes of it
abbrev pub IsBlockStep : Line → List ℕ → ℕ → Step → Type 0
IsBlockStep says piece at (Whole request taken) = (taken ≡ at + block_length says) × (request ≡ request_of says (take (block_length says) (drop at piece)))
IsBlockStep says piece at Grows = ⊥
IsBlockStep says piece at (Waits mode from) = (length (drop at piece) < block_length says) × KeepsBlock says (drop at piece) mode (drop from piece)

-- the text begins a line, and was read as these requests behind those found before
pub record ReadsOn (kept : ReaderState) (text : List ℕ) (found requests : List Request) : Type 0 where
  pub given : List Request
  pub behind : requests ≡ found ++ given
  pub has_read : HasRead kept text given
