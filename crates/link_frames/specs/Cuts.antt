-- What a reader keeps between pieces, and what it finds at the front of it and a piece.
use Rattle.std.specs.Prelude.{ℕ, ◌≡◌, ◌+◌, ◌-◌, ◌≤◌, Bool, List, ◌++◌, length}
use Rattle.group_types.specs.Dimensions.{Dimensions}
use Rattle.wire_codec.specs.Stream.{announced, IsLength}
use Rattle.link_frames.specs.Links.{IsPartialFrame, IsBroken}
use Rattle.link_frames.specs.declared.cut.LinkCut.{LinkCut}
use Rattle.link_frames.specs.declared.cut.LinkCut.TheVariants.{Partial, Bad, Whole}

-- the group's shape, whether a frame was no spelling, and the bytes so far of the frame that isn't whole
pub record Waiting : Type 0 where
  pub shape : Dimensions
  pub bad : Bool
  pub front : List ℕ

-- all bytes of a frame are there, as its first four say, with a sum behind them; the piece has the last of them
pub record IsWholeCut (front piece : List ℕ) (taken : ℕ) : Type 0 where
  pub in_range : IsLength (announced (front ++ piece))
  pub there : 8 + announced (front ++ piece) ≤ length front + length piece
  pub last : taken ≡ 8 + announced (front ++ piece) - length front

abbrev pub IsLinkCut : List ℕ → List ℕ → LinkCut → Type 0
IsLinkCut front piece Partial = IsPartialFrame (front ++ piece)
IsLinkCut front piece Bad = (s : Dimensions) → IsBroken s (front ++ piece)
IsLinkCut front piece (Whole taken) = IsWholeCut front piece taken
