use Rattle.std.proofs.Common.{◌≡◌, ℕ, ◌+◌, ◌<◌, ◌≤◌, List, [], ◌∷◌, ◌++◌, length, take, Option, None, Some, Result, Ok}
use Rattle.std.proofs.Common.{Err, append-nil, length-append, append_assoc, refl, sym, ap, ◌∙◌, subst, inl, inr, arith}
use Rattle.std.specs.Result.{IsErrAnd}
use Rattle.edge_io.specs.Moving.{Input, IsEnded, Takes}
use Rattle.edge_io.proofs.Moving.{Takes-none, Takes-trans}
use Rattle.memc_proto.specs.Reader.{HasRead, ReaderState}
use Rattle.memc_proto.specs.declared.request.Request.{Request}
use Rattle.front_end.specs.Answers.{Stand, AreAnswered, AreHalted}
use Rattle.front_end.specs.Calls.{Ways}
use Rattle.front_end.specs.Connection.{IsStillOpen, IsWaiting, IsEndAt, HasCome, HasServed}
use Rattle.front_end.specs.Going.{ConnectionGoesOn}
use Rattle.front_end.specs.Piece.{HasTaken, IsPieceServed}
use Rattle.front_end.specs.declared.end.ConnectionFault.{ConnectionFault}
use Rattle.front_end.specs.declared.end.ConnectionFault.TheVariants.{ReadFault, WriteFault, Want}
use Rattle.front_end.specs.declared.end.End.{End}
use Rattle.front_end.specs.declared.end.End.TheVariants.{Quit, Ended, Cut, LineTooLong, Worn}
use Rattle.front_end.proofs.Turning.{answered-none, answered-append}

-- nothing was read
pub goes_on-none : {C : Type 0} (ways : Ways C) (told : Option ℕ) (input : Input) (at : Stand C) (kept : ReaderState)
    (count : ℕ) → HasRead kept [] [] → count ≡ 0 → ConnectionGoesOn ways told input input at at kept count
goes_on-none ways told input at kept count has_read zero = record {
  read = [];
  consumed = Takes-none input;
  requests = [];
  has_read = has_read;
  no_quit = refl;
  short = λ long. let over : 32768 < length has_read.rest = long.long in let none : [] ≡ has_read.rest =
      has_read.reads.0 in omega (arith, over, ap length none);
  answered = answered-none ways told at;
  counted = sym zero;
}

is_open : {C : Type 0} (ways : Ways C) (told : Option ℕ) (input input_now : Input) (before now : Stand C) (kept : ReaderState)
    (count : ℕ) (goes : ConnectionGoesOn ways told input input_now before now kept count)
    → IsStillOpen goes.read goes.requests goes.has_read.rest
is_open ways told input input_now before now kept count goes = record { reads = goes.has_read.reads; no_quit = goes.no_quit; short = goes.short }

abbrev waiting : {C : Type 0} (ways : Ways C) (told : Option ℕ) (input middle input_now : Input) (before now : Stand C)
    (kept : ReaderState) (count : ℕ) (rest : List ℕ) (goes : ConnectionGoesOn ways told input middle before now kept count)
    → Takes input input_now goes.read → goes.has_read.rest ≡ rest → IsWaiting ways told input input_now before now rest
waiting ways told input middle input_now before now kept count rest goes consumed is = record {
  read = goes.read;
  consumed = consumed;
  requests = goes.requests;
  is_open = subst (IsStillOpen goes.read goes.requests) is (is_open ways told input middle before now kept count goes);
  answered = goes.answered;
}

-- the input ended
pub served-ended : {C : Type 0} (ways : Ways C) (told : Option ℕ) (input middle input_now : Input)
    (before now : Stand C) (kept : ReaderState) (count : ℕ) (goes : ConnectionGoesOn ways told input middle before now kept count)
    (end : End)
    → count < 4611686018427387904 → Takes middle input_now [] → IsEnded input_now → IsEndAt goes.has_read.rest end
    → HasServed ways told input input_now before now (Ok end)
served-ended ways told input middle input_now before now kept count goes end within consumed ended at = by_end end at
  where
    all : Takes input input_now goes.read
    all = subst (Takes input input_now) (append-nil goes.read) (Takes-trans input middle input_now goes.read [] goes.consumed consumed)

    fewer : length goes.read < 4611686018427387904
    fewer = omega (arith, goes.counted, within)

    by_end : (e : End) → IsEndAt goes.has_read.rest e → HasServed ways told input input_now before now (Ok e)
    by_end Ended none = (waiting ways told input middle input_now before now kept count [] goes all none, fewer, ended)
    by_end Cut some = (goes.has_read.rest, waiting ways told input middle input_now before now kept count goes.has_read.rest goes all refl, fewer, ended, some)
    by_end Quit at = absurd at
    by_end LineTooLong at = absurd at
    by_end Worn at = absurd at

-- a read gave no byte
pub consumes-zero : (input now : Input) (bytes : List ℕ) (n : ℕ) → n ≡ 0 → Takes input now (take n bytes) → Takes input now []
consumes-zero input now bytes n none consumed = subst (λ (k : ℕ). Takes input now (take k bytes)) none consumed

-- as many bytes were read as a connection may have
pub served-worn : {C : Type 0} (ways : Ways C) (told : Option ℕ) (input input_now : Input) (before now : Stand C)
    (kept : ReaderState) (count : ℕ) → ConnectionGoesOn ways told input input_now before now kept count → count ≡ 4611686018427387904
    → HasServed ways told input input_now before now (Ok Worn)
served-worn ways told input input_now before now kept count goes all =
    (goes.has_read.rest, waiting ways told input input_now input_now before now kept count goes.has_read.rest goes goes.consumed refl, goes.counted ∙ all)

-- a read failed
pub served-read_fault : {C : Type 0} (ways : Ways C) (told : Option ℕ) (input middle input_now : Input)
    (before now : Stand C) (kept : ReaderState) (count : ℕ) (result : Result End ConnectionFault)
    → ConnectionGoesOn ways told input middle before now kept count → Takes middle input_now []
    → IsErrAnd result (λ e. e ≡ ReadFault) → HasServed ways told input input_now before now result
served-read_fault ways told input middle input_now before now kept count (Ok _) goes keeps is = absurd is
served-read_fault ways told input middle input_now before now kept count (Err e) goes keeps is =
    subst (λ (f : ConnectionFault). HasServed ways told input input_now before now (Err f)) (sym is) (
      goes.has_read.rest,
      waiting ways told input middle input_now before now kept count goes.has_read.rest goes
          (subst (Takes input input_now) (append-nil goes.read)
          (Takes-trans input middle input_now goes.read [] goes.consumed keeps)) refl,
    )

halted-behind : {C : Type 0} (ways : Ways C) (told : Option ℕ) (before now after : Stand C) (fault : ConnectionFault)
    (earlier given : List Request) (rest : List ℕ)
    → AreAnswered ways told before now earlier [] → AreHalted ways told now after fault [] given rest
    → AreHalted ways told before after fault earlier (earlier ++ given) rest
halted-behind ways told before now after fault earlier given rest answered (inl broken) = inl (record {
  next = broken.next;
  request = broken.request;
  others = broken.others;
  given = ap (λ (rs : List Request). earlier ++ rs) broken.given ∙ sym (append_assoc earlier broken.next (broken.request ∷ broken.others));
  middle = broken.middle;
  answered = answered-append ways told before now broken.middle earlier broken.next [] answered broken.answered;
  broken = broken.broken;
})
halted-behind ways told before now after fault earlier given rest answered (inr closing) =
    inr (closing.0, closing.1, answered-append ways told before now after earlier given closing.0 answered closing.2)

-- that the first requests are answered may be left unsaid
halted-any : {C : Type 0} (ways : Ways C) (told : Option ℕ) (before after : Stand C) (fault : ConnectionFault)
    (first requests : List Request) (rest : List ℕ) → AreHalted ways told before after fault first requests rest
    → AreHalted ways told before after fault [] requests rest
halted-any ways told before after fault first requests rest (inl broken) = inl (record {
  next = first ++ broken.next;
  request = broken.request;
  others = broken.others;
  given = broken.given;
  middle = broken.middle;
  answered = broken.answered;
  broken = broken.broken;
})
halted-any ways told before after fault first requests rest (inr closing) = inr closing

come : {C : Type 0} (ways : Ways C) (told : Option ℕ) (input middle input_now : Input) (before now : Stand C)
    (kept next : ReaderState) (count : ℕ) (goes : ConnectionGoesOn ways told input middle before now kept count) (piece : List ℕ)
    → length piece ≤ 65536 → Takes middle input_now piece → (taken : HasTaken next goes.read goes.requests piece)
    → HasCome input input_now goes.requests (goes.requests ++ taken.given) taken.has_read.rest
come ways told input middle input_now before now kept next count goes piece short consumed taken = record {
  front = goes.read;
  piece = piece;
  consumed = Takes-trans input middle input_now goes.read piece goes.consumed consumed;
  short = short;
  left_over = goes.has_read.rest;
  is_open = is_open ways told input middle before now kept count goes;
  reads = taken.has_read.reads;
}

-- a piece ended the connection
pub served-end : {C : Type 0} (ways : Ways C) (told : Option ℕ) (input middle input_now : Input)
    (before now after : Stand C) (kept next : ReaderState) (count : ℕ)
    (goes : ConnectionGoesOn ways told input middle before now kept count) (piece : List ℕ) (end : End)
    → length piece ≤ 65536 → Takes middle input_now piece → IsPieceServed ways told now after next goes.read goes.requests
    piece (Ok (Some end)) → HasServed ways told input input_now before after (Ok end)
served-end ways told input middle input_now before now after kept next count goes piece Quit short consumed (taken, answered, quit) = (
  record {
    first = goes.requests;
    requests = goes.requests ++ taken.given;
    rest = taken.has_read.rest;
    came = come ways told input middle input_now before now kept next count goes piece short consumed taken;
    answered = answered-append ways told before now after goes.requests taken.given [] goes.answered answered;
  },
  quit,
)
served-end ways told input middle input_now before now after kept next count goes piece LineTooLong short consumed (taken, answered, no_quit, long) = (
  record {
    first = goes.requests;
    requests = goes.requests ++ taken.given;
    rest = taken.has_read.rest;
    came = come ways told input middle input_now before now kept next count goes piece short consumed taken;
    answered = answered-append ways told before now after goes.requests taken.given _ goes.answered answered;
  },
  no_quit,
  long,
)
served-end ways told input middle input_now before now after kept next count goes piece Ended short consumed served = absurd served
served-end ways told input middle input_now before now after kept next count goes piece Cut short consumed served = absurd served
served-end ways told input middle input_now before now after kept next count goes piece Worn short consumed served = absurd served

-- a piece was answered, and the connection goes on
pub goes_on-more : {C : Type 0} (ways : Ways C) (told : Option ℕ) (input middle input_now : Input)
    (before now after : Stand C) (kept next : ReaderState) (count more : ℕ)
    (goes : ConnectionGoesOn ways told input middle before now kept count) (piece : List ℕ)
    → Takes middle input_now piece → more ≡ count + length piece
    → IsPieceServed ways told now after next goes.read goes.requests piece (Ok None)
    → ConnectionGoesOn ways told input input_now before after next more
goes_on-more ways told input middle input_now before now after kept next count more goes piece consumed more_is served = record {
  read = goes.read ++ piece;
  consumed = Takes-trans input middle input_now goes.read piece goes.consumed consumed;
  requests = goes.requests ++ served.0.given;
  has_read = served.0.has_read;
  no_quit = served.2;
  short = served.3;
  answered = answered-append ways told before now after goes.requests served.0.given [] goes.answered served.1;
  counted = omega (arith, length-append goes.read piece, goes.counted, more_is);
}

-- a fault came while a piece was answered
pub served-fault : {C : Type 0} (ways : Ways C) (told : Option ℕ) (input middle input_now : Input)
    (before now after : Stand C) (kept next : ReaderState) (count : ℕ)
    (goes : ConnectionGoesOn ways told input middle before now kept count) (piece : List ℕ) (fault : ConnectionFault)
    (result : Result End ConnectionFault) → length piece ≤ 65536 → Takes middle input_now piece
    → IsPieceServed ways told now after next goes.read goes.requests piece (Err fault) → IsErrAnd result (λ e. e ≡ fault)
    → HasServed ways told input input_now before after result
served-fault {C} ways told input middle input_now before now after kept next count goes piece fault (Ok _) short consumed served is = absurd is
served-fault {C} ways told input middle input_now before now after kept next count goes piece fault (Err e) short
    consumed served is = subst (λ (f : ConnectionFault). HasServed ways told input input_now before after (Err f))
    (sym is) (by_fault fault served)
  where
    all : Takes input input_now (goes.read ++ piece)
    all = Takes-trans input middle input_now goes.read piece goes.consumed consumed

    by_fault : (f : ConnectionFault) → IsPieceServed ways told now after next goes.read goes.requests piece (Err f)
        → HasServed ways told input input_now before after (Err f)
    by_fault ReadFault served = absurd served
    by_fault WriteFault served = record {
      first = goes.requests;
      requests = goes.requests ++ served.0.given;
      rest = served.0.has_read.rest;
      came = come ways told input middle input_now before now kept next count goes piece short consumed served.0;
      halted = halted-behind ways told before now after WriteFault goes.requests served.0.given served.0.has_read.rest goes.answered served.1;
    }
    by_fault Want (inl same) = record {
      read = goes.read;
      unread = piece;
      consumed = all;
      requests = goes.requests;
      rest = goes.has_read.rest;
      reads = goes.has_read.reads;
      halted = inr ([], inl refl, subst (λ (s : Stand C). AreAnswered ways told before s goes.requests []) (sym same) goes.answered);
    }
    by_fault Want (inr served) = record {
      read = goes.read ++ piece;
      unread = [];
      consumed = subst (Takes input input_now) (sym (append-nil (goes.read ++ piece))) all;
      requests = goes.requests ++ served.0.given;
      rest = served.0.has_read.rest;
      reads = served.0.has_read.reads;
      halted = halted-any ways told before after Want goes.requests (goes.requests ++ served.0.given) served.0.has_read.rest
          (halted-behind ways told before now after Want goes.requests served.0.given served.0.has_read.rest goes.answered served.1);
    }

-- there was no memory for the first read
pub served-early : {C : Type 0} (ways : Ways C) (told : Option ℕ) (input : Input) (at : Stand C) (kept : ReaderState)
    (result : Result End ConnectionFault) → HasRead kept [] [] → IsErrAnd result (λ e. e ≡ Want)
    → HasServed ways told input input at at result
served-early ways told input at kept (Ok _) has_read is = absurd is
served-early ways told input at kept (Err e) has_read is = subst (λ (f : ConnectionFault). HasServed ways told input input at at (Err f)) (sym is) (record {
  read = [];
  unread = [];
  consumed = Takes-none input;
  requests = [];
  rest = has_read.rest;
  reads = has_read.reads;
  halted = inr ([], inl refl, answered-none ways told at);
})

-- what a piece came to, by what was answered
pub served-some : {C : Type 0} (ways : Ways C) (told : Option ℕ) (input middle input_now : Input)
    (before now after : Stand C) (kept next : ReaderState) (count : ℕ)
    (goes : ConnectionGoesOn ways told input middle before now kept count) (piece : List ℕ)
    (found : Result (Option End) ConnectionFault) (answer : Option End) (end : End)
    → length piece ≤ 65536 → Takes middle input_now piece → IsPieceServed ways told now after next goes.read goes.requests
    piece found → found ≡ Ok answer → answer ≡ Some end → HasServed ways told input input_now before after (Ok end)
served-some ways told input middle input_now before now after kept next count goes piece found answer end short consumed served found_is answer_is =
    served-end ways told input middle input_now before now after kept next count goes piece end short consumed
    (subst (IsPieceServed ways told now after next goes.read goes.requests piece) (found_is ∙ ap (λ (a : Option End). Ok a) answer_is) served)

pub goes_on-none_yet : {C : Type 0} (ways : Ways C) (told : Option ℕ) (input middle input_now : Input)
    (before now after : Stand C) (kept next : ReaderState) (count more : ℕ)
    (goes : ConnectionGoesOn ways told input middle before now kept count) (piece : List ℕ)
    (found : Result (Option End) ConnectionFault) (answer : Option End)
    → Takes middle input_now piece → more ≡ count + length piece
    → IsPieceServed ways told now after next goes.read goes.requests piece found → found ≡ Ok answer → answer ≡ None
    → ConnectionGoesOn ways told input input_now before after next more
goes_on-none_yet ways told input middle input_now before now after kept next count more goes piece found answer consumed more_is served found_is answer_is =
    goes_on-more ways told input middle input_now before now after kept next count more goes piece consumed more_is
    (subst (IsPieceServed ways told now after next goes.read goes.requests piece) (found_is ∙ ap (λ (a : Option End). Ok a) answer_is) served)

pub served-err : {C : Type 0} (ways : Ways C) (told : Option ℕ) (input middle input_now : Input)
    (before now after : Stand C) (kept next : ReaderState) (count : ℕ)
    (goes : ConnectionGoesOn ways told input middle before now kept count) (piece : List ℕ)
    (found : Result (Option End) ConnectionFault) (fault : ConnectionFault) (result : Result End ConnectionFault)
    → length piece ≤ 65536 → Takes middle input_now piece → IsPieceServed ways told now after next goes.read goes.requests
    piece found → found ≡ Err fault → IsErrAnd result (λ e. e ≡ fault)
    → HasServed ways told input input_now before after result
served-err ways told input middle input_now before now after kept next count goes piece found fault result short consumed served found_is is =
    served-fault ways told input middle input_now before now after kept next count goes piece fault result short
    consumed (subst (IsPieceServed ways told now after next goes.read goes.requests piece) found_is served) is
