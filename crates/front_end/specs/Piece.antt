-- What comes of the next piece of a connection.
use Rattle.std.specs.Prelude.{ℕ, ◌≡◌, ◌⊎◌, true, false, List, [], ◌++◌, Option, Some, None, Result, Ok, Err}
use Rattle.std.specs.List.{list_any}
use Rattle.memc_proto.specs.Reader.{HasRead, IsTooLong, ReaderState}
use Rattle.memc_proto.specs.Reads.{is_quit}
use Rattle.memc_proto.specs.Text.{too_long_text}
use Rattle.memc_proto.specs.declared.request.Request.{Request}
use Rattle.front_end.specs.Answers.{Stand, AreAnswered, AreHalted}
use Rattle.front_end.specs.Calls.{Ways}
use Rattle.front_end.specs.declared.end.ConnectionFault.{ConnectionFault}
use Rattle.front_end.specs.declared.end.ConnectionFault.TheVariants.{ReadFault, WriteFault, Want}
use Rattle.front_end.specs.declared.end.End.{End}
use Rattle.front_end.specs.declared.end.End.TheVariants.{Quit, Ended, Cut, LineTooLong, Worn}

-- a reader that had read these requests of an input took a piece of it: the requests that it gave, and the rest
pub record HasTaken (kept : ReaderState) (input : List ℕ) (earlier : List Request) (piece : List ℕ) : Type 0 where
  pub given : List Request
  pub has_read : HasRead kept (input ++ piece) (earlier ++ given)

module _ {C : Type 0} (ways : Ways C) (told : Option ℕ) where
  -- the requests of the piece were answered, and it ended the connection or did not; or a fault came
  abbrev pub IsPieceServed : Stand C → Stand C → ReaderState → List ℕ → List Request → List ℕ
      → Result (Option End) ConnectionFault → Type 0
  IsPieceServed before after kept input earlier piece (Ok None) =
      (taken : HasTaken kept input earlier piece) × AreAnswered ways told before after taken.given []
      × (list_any is_quit (earlier ++ taken.given) ≡ false) × ¬ (IsTooLong taken.has_read.rest)
  IsPieceServed before after kept input earlier piece (Ok (Some Quit)) =
      (taken : HasTaken kept input earlier piece) × AreAnswered ways told before after taken.given [] × (list_any is_quit (earlier ++ taken.given) ≡ true)
  IsPieceServed before after kept input earlier piece (Ok (Some LineTooLong)) =
      (taken : HasTaken kept input earlier piece) × AreAnswered ways told before after taken.given too_long_text
      × (list_any is_quit (earlier ++ taken.given) ≡ false) × IsTooLong taken.has_read.rest
  IsPieceServed before after kept input earlier piece (Ok (Some Ended)) = ⊥
  IsPieceServed before after kept input earlier piece (Ok (Some Cut)) = ⊥
  IsPieceServed before after kept input earlier piece (Ok (Some Worn)) = ⊥
  IsPieceServed before after kept input earlier piece (Err ReadFault) = ⊥
  IsPieceServed before after kept input earlier piece (Err WriteFault) =
      (taken : HasTaken kept input earlier piece) × AreHalted ways told before after WriteFault [] taken.given taken.has_read.rest
  IsPieceServed before after kept input earlier piece (Err Want) =
      (after ≡ before) ⊎ ((taken : HasTaken kept input earlier piece) × AreHalted ways told before after Want [] taken.given taken.has_read.rest)
