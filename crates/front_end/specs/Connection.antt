-- What comes of a connection.
use Rattle.std.specs.Prelude.{ℕ, ◌≡◌, ◌≢◌, ◌<◌, ◌≤◌, ◌^◌, true, false, List, [], ◌++◌, length, Option, Result, Ok, Err}
use Rattle.std.specs.List.{list_any}
use Rattle.edge_io.specs.Moving.{Input, IsEnded, Takes}
use Rattle.memc_proto.specs.Reader.{IsTooLong}
use Rattle.memc_proto.specs.Reads.{Reads, is_quit}
use Rattle.memc_proto.specs.Text.{too_long_text}
use Rattle.memc_proto.specs.declared.request.Request.{Request}
use Rattle.front_end.specs.Answers.{Stand, AreAnswered, AreHalted}
use Rattle.front_end.specs.Calls.{Ways}
use Rattle.front_end.specs.declared.end.ConnectionFault.{ConnectionFault}
use Rattle.front_end.specs.declared.end.ConnectionFault.TheVariants.{ReadFault, WriteFault, Want}
use Rattle.front_end.specs.declared.end.End.{End}
use Rattle.front_end.specs.declared.end.End.TheVariants.{Quit, Ended, Cut, LineTooLong, Worn}

-- the bytes read are these requests and this rest, and nothing in them ends the connection
pub record IsStillOpen (read : List ℕ) (requests : List Request) (rest : List ℕ) : Type 0 where
  pub reads : Reads read requests rest
  pub no_quit : list_any is_quit requests ≡ false
  pub short : ¬ (IsTooLong rest)

-- a piece came to a connection that was open: before it the first requests were read, with it these requests and this rest
pub record HasCome (input input_now : Input) (first requests : List Request) (rest : List ℕ) : Type 0 where
  pub front : List ℕ
  pub piece : List ℕ
  pub consumed : Takes input input_now (front ++ piece)
  pub short : length piece ≤ 65536
  pub left_over : List ℕ
  pub is_open : IsStillOpen front first left_over
  pub reads : Reads (front ++ piece) requests rest

-- the end of a connection where its input ends with this rest
abbrev pub IsEndAt : List ℕ → End → Type 0
IsEndAt rest Ended = rest ≡ []
IsEndAt rest Cut = rest ≢ []
IsEndAt rest Quit = ⊥
IsEndAt rest LineTooLong = ⊥
IsEndAt rest Worn = ⊥

-- the most bytes of a connection
abbrev pub longest_input : ℕ
longest_input = 2 ^ 62

module _ {C : Type 0} (ways : Ways C) (told : Option ℕ) where
  -- all requests read are answered, and the connection waits for more bytes
  pub record IsWaiting (input input_now : Input) (before after : Stand C) (rest : List ℕ) : Type 0 where
    pub read : List ℕ
    pub consumed : Takes input input_now read
    pub requests : List Request
    pub is_open : IsStillOpen read requests rest
    pub answered : AreAnswered ways told before after requests []

  -- the piece that came last was answered as a whole, and behind the answers this was written
  pub record HasStopped (input input_now : Input) (before after : Stand C) (more : List ℕ) : Type 0 where
    pub first : List Request
    pub requests : List Request
    pub rest : List ℕ
    pub came : HasCome input input_now first requests rest
    pub answered : AreAnswered ways told before after requests more

  -- a write failed while the piece that came last was answered: all requests before it are answered
  pub record HasFailedWriting (input input_now : Input) (before after : Stand C) : Type 0 where
    pub first : List Request
    pub requests : List Request
    pub rest : List ℕ
    pub came : HasCome input input_now first requests rest
    pub halted : AreHalted ways told before after WriteFault first requests rest

  -- there was no memory: for reading what was taken from the source, or for answering what was read
  pub record HasWanted (input input_now : Input) (before after : Stand C) : Type 0 where
    pub read : List ℕ
    pub unread : List ℕ
    pub consumed : Takes input input_now (read ++ unread)
    pub requests : List Request
    pub rest : List ℕ
    pub reads : Reads read requests rest
    pub halted : AreHalted ways told before after Want [] requests rest

  -- what stands at each end of a connection, and at each fault
  abbrev pub HasServed : Input → Input → Stand C → Stand C → Result End ConnectionFault → Type 0
  HasServed input input_now before after (Ok Quit) =
      (stopped : HasStopped input input_now before after []) × (list_any is_quit stopped.requests ≡ true)
  HasServed input input_now before after (Ok LineTooLong) =
      (stopped : HasStopped input input_now before after too_long_text) × (list_any is_quit stopped.requests ≡ false) × IsTooLong stopped.rest
  HasServed input input_now before after (Ok Ended) =
      (waiting : IsWaiting input input_now before after []) × (length waiting.read < longest_input) × IsEnded input_now
  HasServed input input_now before after (Ok Cut) =
      (rest : List ℕ) × (waiting : IsWaiting input input_now before after rest) × (length waiting.read < longest_input) × IsEnded input_now × (rest ≢ [])
  HasServed input input_now before after (Ok Worn) =
      (rest : List ℕ) × (waiting : IsWaiting input input_now before after rest) × (length waiting.read ≡ longest_input)
  HasServed input input_now before after (Err ReadFault) =
      (rest : List ℕ) × IsWaiting input input_now before after rest
  HasServed input input_now before after (Err WriteFault) = HasFailedWriting input input_now before after
  HasServed input input_now before after (Err Want) = HasWanted input input_now before after
