use Rattle.std.proofs.Common.{◌≡◌, ℕ, ◌↔◌, ◌||◌, Bool, true, false, List, [], ◌++◌, take, Option, None, Some, Result}
use Rattle.std.proofs.Common.{Ok, Err, IsTrue, append-nil, refl, sym, ap, ◌∙◌, subst, inr}
use Rattle.std.proofs.lemmas.List.Folds.{list_any-append}
use Rattle.edge_io.specs.Moving.{Appends}
use Rattle.std.specs.List.{list_any}
use Rattle.std.specs.Result.{IsErrAnd}
use Rattle.edge_io.specs.Writing.{HasWritten}
use Rattle.memc_proto.specs.Reader.{HasRead, IsTooLong, ReaderState}
use Rattle.memc_proto.specs.Reads.{is_quit}
use Rattle.memc_proto.specs.Text.{too_long_text}
use Rattle.memc_proto.specs.declared.request.Request.{Request}
use Rattle.front_end.specs.Answers.{Stand, stand, AreAnswered, AreHalted}
use Rattle.front_end.specs.Calls.{Ways}
use Rattle.front_end.specs.Faults.{HasSinkCause, IsOfSink}
use Rattle.front_end.specs.Progress.{EndsConnection}
use Rattle.front_end.specs.Piece.{HasTaken, IsPieceServed}
use Rattle.front_end.specs.declared.end.ConnectionFault.{ConnectionFault}
use Rattle.front_end.specs.declared.end.ConnectionFault.TheVariants.{ReadFault, WriteFault, Want}
use Rattle.front_end.specs.declared.end.End.{End}
use Rattle.front_end.specs.declared.end.End.TheVariants.{Quit, Ended, Cut, LineTooLong, Worn}
use Rattle.front_end.proofs.Turning.{answered-append}

-- a fault came while the requests of a piece were answered, or behind them
pub served-halted : {C : Type 0} (ways : Ways C) (told : Option ℕ) (before after : Stand C) (kept : ReaderState)
    (input : List ℕ) (earlier : List Request) (piece : List ℕ) (given : List Request) (faults now : ℕ)
    (fault : ConnectionFault) (result : Result (Option End) ConnectionFault)
    → (has_read : HasRead kept (input ++ piece) (earlier ++ given)) → HasSinkCause {T = Unit {0}} faults now (Err fault)
    → AreHalted ways told before after fault [] given has_read.rest
    → IsErrAnd result (λ e. e ≡ fault) → IsPieceServed ways told before after kept input earlier piece result
served-halted ways told before after kept input earlier piece given faults now fault (Ok _) has_read cause halted is = absurd is
served-halted ways told before after kept input earlier piece given faults now ReadFault (Err e) has_read cause halted is = absurd cause.cause
served-halted ways told before after kept input earlier piece given faults now WriteFault (Err e) has_read cause halted is =
    subst (λ (f : ConnectionFault). IsPieceServed ways told before after kept input earlier piece (Err f)) (sym is)
    (record { given = given; has_read = has_read }, halted)
served-halted ways told before after kept input earlier piece given faults now Want (Err e) has_read cause halted is =
    subst (λ (f : ConnectionFault). IsPieceServed ways told before after kept input earlier piece (Err f)) (sym is)
    (inr (record { given = given; has_read = has_read }, halted))

-- a text was written behind the answers
pub answered-then : {C : Type 0} (ways : Ways C) (told : Option ℕ) (before : Stand C) (at : C) (held now : List ℕ) (requests : List Request) (more : List ℕ)
    → AreAnswered ways told before (stand at held) requests [] → Appends held now more → AreAnswered ways told before (stand at now) requests more
answered-then ways told before at held now requests more answered bytes =
    subst (λ (rs : List Request). AreAnswered ways told before (stand at now) rs more) (append-nil requests)
    (answered-append ways told before (stand at held) (stand at now) requests [] more answered
    (record { turns = []; asked = refl; whole = tt; leads = refl; bytes = bytes }))

-- whether one of the requests is a quit, where no earlier one is
quit-of : (earlier given : List Request) (b : Bool) → list_any is_quit earlier ≡ false → b ≡ list_any is_quit given → list_any is_quit (earlier ++ given) ≡ b
quit-of earlier given b none is = list_any-append is_quit earlier given ∙ ap (λ (x : Bool). x || list_any is_quit given) none ∙ sym is

-- the requests of a piece were answered, and the connection was closed or goes on
pub served-closed : {C : Type 0} (ways : Ways C) (told : Option ℕ) (before : Stand C) (at : C) (held now : List ℕ)
    (kept : ReaderState) (input : List ℕ) (earlier : List Request) (piece : List ℕ) (given : List Request) (quits : Bool)
    (result : Result (Option End) ConnectionFault)
    → (has_read : HasRead kept (input ++ piece) (earlier ++ given)) → list_any is_quit earlier ≡ false
    → quits ≡ list_any is_quit given → AreAnswered ways told before (stand at held) given []
    → (list_any is_quit (earlier ++ given) ≡ quits → EndsConnection quits has_read.rest held now result)
    → IsPieceServed ways told before (stand at now) kept input earlier piece result
served-closed {C} ways told before at held now kept input earlier piece given quits result has_read none quits_is
    answered closing = by_result result (closing quit)
  where
    quit : list_any is_quit (earlier ++ given) ≡ quits
    quit = quit-of earlier given quits none quits_is

    taken : HasTaken kept input earlier piece
    taken = record { given = given; has_read = has_read }

    stays : now ≡ held → AreAnswered ways told before (stand at now) given []
    stays same = subst (λ (bs : List ℕ). AreAnswered ways told before (stand at bs) given []) (sym same) answered

    halted : (fault : ConnectionFault) → IsTooLong has_read.rest → HasWritten held now too_long_text
        → AreHalted ways told before (stand at now) fault [] given has_read.rest
    halted fault long part =
        inr (
          take part.count too_long_text,
          inr (long, (part.count, refl)),
          answered-then ways told before at held now
              given (take part.count too_long_text) answered part.bytes,
        )

    by_result : (result : Result (Option End) ConnectionFault) → EndsConnection quits has_read.rest held now result
        → IsPieceServed ways told before (stand at now) kept input earlier piece result
    by_result (Ok None) closed = (taken, stays closed.2, quit ∙ closed.0, closed.1)
    by_result (Ok (Some Quit)) closed = (taken, stays closed.1, quit ∙ closed.0)
    by_result (Ok (Some LineTooLong)) closed = (
      taken,
      answered-then ways told before at held now given too_long_text answered closed.2,
      quit ∙ closed.0,
      closed.1,
    )
    by_result (Ok (Some Ended)) closed = absurd closed
    by_result (Ok (Some Cut)) closed = absurd closed
    by_result (Ok (Some Worn)) closed = absurd closed
    by_result (Err ReadFault) closed = absurd closed
    by_result (Err WriteFault) closed = (taken, halted WriteFault closed.1 closed.2)
    by_result (Err Want) closed = inr (taken, halted Want closed.1 closed.2)

-- the write of the text at a line that is too long failed
pub closed-fault : (before now : List ℕ) (faults faults_now : ℕ) (quits : Bool)
    (result : Result (Option End) ConnectionFault) (fault : ConnectionFault) (rest text : List ℕ) → quits ≡ false
    → IsTooLong rest → text ≡ too_long_text
    → HasWritten before now text → HasSinkCause {T = Unit {0}} faults faults_now (Err fault)
    → IsErrAnd result (λ e. e ≡ fault) → EndsConnection quits rest before now result
closed-fault before now faults faults_now quits (Ok _) fault rest text no_quit long is part cause same = absurd same
closed-fault before now faults faults_now quits (Err e) fault rest text no_quit long is part cause same =
    subst (λ (f : ConnectionFault). EndsConnection quits rest before now (Err f)) (sym same) (by fault cause.cause)
  where
    by : (f : ConnectionFault) → IsOfSink faults faults_now f → EndsConnection quits rest before now (Err f)
    by ReadFault of = absurd of
    by WriteFault of = (no_quit, long, subst (HasWritten before now) is part)
    by Want of = (no_quit, long, subst (HasWritten before now) is part)

pub closed-told : (before now text : List ℕ) → text ≡ too_long_text → Appends before now text → Appends before now too_long_text
closed-told before now text is whole = subst (Appends before now) is whole

-- what a reader read, by another name of what it keeps
pub read-as : (kept now : ReaderState) (input : List ℕ) (requests : List Request) → now ≡ kept → HasRead kept input requests → HasRead now input requests
read-as kept now input requests same has_read = subst (λ (k : ReaderState). HasRead k input requests) (sym same) has_read

-- a test that says no
pub not-so : (test : Bool) (P : Type 0) → (IsTrue test ↔ P) → test ≡ false → ¬ P
not-so true P iff is holds = cc
not-so false P iff is holds = let e : false ≡ true = iff.1 holds in cc
