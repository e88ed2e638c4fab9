-- A connection between two pieces of its input.
use Rattle.std.specs.Prelude.{ℕ, ◌≡◌, false, List, [], length, Option}
use Rattle.std.specs.List.{list_any}
use Rattle.edge_io.specs.Moving.{Input, Takes}
use Rattle.memc_proto.specs.Reader.{HasRead, IsTooLong, ReaderState}
use Rattle.memc_proto.specs.Reads.{is_quit}
use Rattle.memc_proto.specs.declared.request.Request.{Request}
use Rattle.front_end.specs.Answers.{Stand, AreAnswered}
use Rattle.front_end.specs.Calls.{Ways}

-- a connection that goes on: its reader was fed what was read, and the requests are answered
pub record ConnectionGoesOn {C : Type 0} (ways : Ways C) (told : Option ℕ) (input input_now : Input)
    (before now : Stand C) (kept : ReaderState) (count : ℕ) : Type 0 where
  pub read : List ℕ
  pub consumed : Takes input input_now read
  pub requests : List Request
  pub has_read : HasRead kept read requests
  pub no_quit : list_any is_quit requests ≡ false
  pub short : ¬ (IsTooLong has_read.rest)
  pub answered : AreAnswered ways told before now requests []
  pub counted : length read ≡ count
