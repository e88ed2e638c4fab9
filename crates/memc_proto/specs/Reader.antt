use Rattle.std.specs.Prelude.{ℕ, ◌≡◌, ◌+◌, ◌<◌, ◌≤◌, Bool, true, false, List, ◌∷◌, ◌++◌, length, take, ⊤}
use Rattle.std.specs.List.{list_any}
use Rattle.memc_proto.specs.Line.{parsed_line}
use Rattle.memc_proto.specs.Request.{IsPlain, IsLine, block_length}
use Rattle.memc_proto.specs.Reads.{Reads, is_quit}
use Rattle.memc_proto.specs.declared.line.Line.{Line}
use Rattle.memc_proto.specs.declared.line.Line.TheVariants.{Stores, Skips}
use Rattle.memc_proto.specs.declared.mode.Mode.{Mode}
use Rattle.memc_proto.specs.declared.mode.Mode.TheVariants.{InLine, InBlock, Skipping, TooLong, Ended}
use Rattle.memc_proto.specs.declared.request.Request.{Request}

-- what a reader keeps between two pieces
pub record ReaderState : Type 0 where
  pub mode : Mode
  pub front : List ℕ

-- more bytes than a line may have, and no line end among the first that it may have
pub record IsTooLong (rest : List ℕ) : Type 0 where
  pub long : 32768 < length rest
  pub plain : IsPlain (take 32768 rest)

-- the rest is a line that says this, and the first of the bytes that belong to it
pub record Waits (says : Line) (block rest : List ℕ) : Type 0 where
  pub line : List ℕ
  pub whole : rest ≡ line ++ 10 ∷ block
  pub is_line : IsLine line
  pub said : parsed_line line ≡ says
  pub short : length block < block_length says

-- the rest is a refused line, and some of the bytes that it skips, of which so many are left
pub record WaitsFor (says : ℕ → Line) (left : ℕ) (rest : List ℕ) : Type 0 where
  pub len : ℕ
  pub block : List ℕ
  pub waits : Waits (says len) block rest
  pub missing : length block + left ≡ len

-- what is kept stands for the rest of the input, up to a quit
abbrev pub StandsFor : Mode → List ℕ → List ℕ → Type 0
StandsFor InLine front rest = (rest ≡ front) × IsPlain front × (length front ≤ 32768)
StandsFor (InBlock store) front rest = Waits (Stores store) front rest
StandsFor (Skipping refusal left) front rest = WaitsFor (Skips refusal) left rest
StandsFor TooLong front rest = IsTooLong rest
StandsFor Ended front rest = ⊤

-- whether there was a quit
abbrev pub is_ended : Mode → Bool
is_ended Ended = true
is_ended _ = false

-- a reader that keeps this was fed this input, and gave these requests
pub record HasRead (kept : ReaderState) (input : List ℕ) (requests : List Request) : Type 0 where
  pub rest : List ℕ
  pub reads : Reads input requests rest
  pub stands : StandsFor kept.mode kept.front rest
  pub ended : list_any is_quit requests ≡ is_ended kept.mode
