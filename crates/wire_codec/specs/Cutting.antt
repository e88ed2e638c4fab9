-- The first frame of a text that is kept in two parts.
use Rattle.std.specs.Prelude.{ℕ, ◌≡◌, ◌≤◌, List, ◌++◌, length, take}
use Rattle.group_message.specs.declared.message.Message.{Message}
use Rattle.wire_codec.specs.Fits.{IsFrame}
use Rattle.wire_codec.specs.Stream.{IsPartial, IsBad, DecoderState, DecodesFrom}
use Rattle.wire_codec.specs.declared.cut.Cut.{Cut}
use Rattle.wire_codec.specs.declared.cut.Cut.TheVariants.{Partial, Bad, Whole}

-- a cut takes no more bytes of the piece than there are
abbrev pub IsCutWithin : List ℕ → Cut → Type 0
IsCutWithin piece (Whole m taken) = taken ≤ length piece
IsCutWithin piece Partial = Unit {0}
IsCutWithin piece Bad = Unit {0}

-- what stands at the front of what is kept and a piece behind it
abbrev pub IsFrameCut : List ℕ → List ℕ → Cut → Type 0
IsFrameCut front piece Partial = IsPartial (front ++ piece)
IsFrameCut front piece Bad = IsBad (front ++ piece)
IsFrameCut front piece (Whole m taken) = IsFrame (front ++ take taken piece) m

-- behind those found, what was read of a text that begins at this place
pub record DecodesOn (at : ℕ) (kept : DecoderState) (text : List ℕ) (found messages : List Message) : Type 0 where
  pub given : List Message
  pub behind : messages ≡ found ++ given
  pub has_read : DecodesFrom at kept text given
