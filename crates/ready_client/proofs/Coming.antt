-- The steps of a connection, each of which brings it further.
use Rattle.std.proofs.Common.{◌≡◌, zero, suc, ◌≢◌, ℕ, ◌+◌, ◌≤◌, List, [], ◌++◌, length, Option, Some, None, Result, Ok}
use Rattle.std.proofs.Common.{Err, append-nil, refl, sym, ◌∙◌, subst, inl, inr}
use Rattle.std.specs.List.{list_any}
use Rattle.edge_io.specs.Moving.{Input, Takes}
use Rattle.edge_io.proofs.Moving.{Takes-trans}
use Rattle.memc_proto.specs.Reader.{HasRead, ReaderState}
use Rattle.memc_proto.specs.Reads.{is_quit}
use Rattle.memc_proto.specs.declared.request.Request.{Request}
use Rattle.outbox.specs.Trying.{TryTakes}
use Rattle.outbox.specs.declared.reading.Reading.{Reading}
use Rattle.front_end.specs.Answers.{Stand, stand}
use Rattle.front_end.specs.Calls.{Ways}
use Rattle.front_end.specs.Connection.{HasServed}
use Rattle.front_end.specs.Faults.{HasSinkCause}
use Rattle.front_end.specs.Piece.{IsPieceServed}
use Rattle.front_end.specs.Going.{ConnectionGoesOn}
use Rattle.front_end.specs.Progress.{Progress, HasAnsweredNext, BreaksAt, EndsConnection}
use Rattle.front_end.specs.declared.end.ConnectionFault.{ConnectionFault}
use Rattle.front_end.specs.declared.end.ConnectionFault.TheVariants.{Want}
use Rattle.front_end.specs.declared.end.End.{End}
use Rattle.front_end.proofs.Piecing.{served-halted, served-closed}
use Rattle.front_end.proofs.Serving.{goes_on-more, served-end, served-fault}
use Rattle.front_end.proofs.Stepping.{AnsweredUpTo, up_to-none, up_to-more, up_to-all, up_to-broken}
use Rattle.ready_client.specs.Coming.{Steps, IsUnderWay, HasComeTo, by_close}

-- what was answered in so many steps
up_to : {C : Type 0} (ways : Ways C) (told : Option ℕ) (n : ℕ) (before : Stand C) (given : List Request) (now : Stand C)
    (waiting : List Request) → Steps ways told n before given now waiting
    → AnsweredUpTo ways told before now given waiting
up_to ways told zero before given now waiting steps =
    subst (λ (rs : List Request). AnsweredUpTo ways told before now given rs) (sym steps.1)
    (subst (λ (s : Stand _). AnsweredUpTo ways told before s given given) (sym steps.0)
    (up_to-none ways told before given))
up_to ways told (suc n) before given now waiting steps = up_to-more ways told before steps.0 now given steps.1 waiting
    (up_to ways told n before given steps.0 steps.1 steps.2) steps.3

-- a piece was taken
pub taken : {C : Type 0} (ways : Ways C) (told : Option ℕ) (input input_then input_now : Input) (before at : Stand C) (was now : Progress) (piece : List ℕ)
    → (goes : ConnectionGoesOn ways told input input_then before at was.kept was.count) → Takes input_then input_now piece → length piece ≤ 65536
    → HasRead now.kept (goes.read ++ piece) (goes.requests ++ now.waiting) → now.quits ≡ list_any is_quit now.waiting → now.count ≡ was.count + length piece
    → IsUnderWay ways told input input_now before at now
taken ways told input input_then input_now before at was now piece goes consumed short has_read quits counted = record {
  input_then = input_then;
  then = at;
  kept = was.kept;
  count = was.count;
  goes = goes;
  piece = piece;
  consumed = consumed;
  short = short;
  given = now.waiting;
  has_read = has_read;
  quits = quits;
  counted = counted;
  made = 0;
  steps = (refl, refl);
}

-- a step was made
pub more : {C : Type 0} (ways : Ways C) (told : Option ℕ) (input input_now : Input) (before now next : Stand C) (was then : Progress)
    → IsUnderWay ways told input input_now before now was → HasAnsweredNext ways told now next was.waiting then.waiting
    → then.kept ≡ was.kept → then.quits ≡ was.quits → then.count ≡ was.count
    → IsUnderWay ways told input input_now before next then
more ways told input input_now before now next was then under step kept quits count = record {
  input_then = under.input_then;
  then = under.then;
  kept = under.kept;
  count = under.count;
  goes = under.goes;
  piece = under.piece;
  consumed = under.consumed;
  short = under.short;
  given = under.given;
  has_read = subst (λ (k : ReaderState). HasRead k (under.goes.read ++ under.piece) (under.goes.requests ++ under.given)) (sym kept) under.has_read;
  quits = quits ∙ under.quits;
  counted = count ∙ under.counted;
  made = suc under.made;
  steps = (now, was.waiting, under.steps, step);
}

-- a fault came at a step
pub halts : {C : Type 0} (ways : Ways C) (told : Option ℕ) (input input_now : Input) (before now after : Stand C)
    (was : Progress) (faults faults_now : ℕ) (fault : ConnectionFault)
    → IsUnderWay ways told input input_now before now was → BreaksAt ways told now after fault was.waiting
    → HasSinkCause {T = Unit {0}} faults faults_now (Err fault) → HasServed ways told input input_now before after
    (Err fault)
halts ways told input input_now before now after was faults faults_now fault under breaks cause =
    served-fault ways told input under.input_then input_now before under.then after under.kept was.kept under.count
    under.goes under.piece fault (Err fault) under.short under.consumed
    (served-halted ways told under.then after was.kept under.goes.read under.goes.requests under.piece under.given
    faults faults_now fault (Err fault) under.has_read cause
    (inl (up_to-broken ways told under.then now after fault under.given was.waiting
    (up_to ways told under.made under.then under.given now was.waiting under.steps) breaks)) refl) refl

-- all of a piece is answered, and the connection is closed or goes on
pub closes : {C : Type 0} (ways : Ways C) (told : Option ℕ) (input input_now : Input) (before : Stand C) (at : C)
    (held held_now : List ℕ) (was : Progress) (result : Result (Option End) ConnectionFault)
    → IsUnderWay ways told input input_now before (stand at held) was → was.waiting ≡ []
    → ((fed : List ℕ) (requests : List Request) → (read : HasRead was.kept fed requests) → list_any is_quit requests
    ≡ was.quits → EndsConnection was.quits read.rest held held_now result)
    → HasComeTo ways told input input_now before (stand at held_now) was (by_close result)
closes {C} ways told input input_now before at held held_now was result under none closing = by_result result served
  where
    served : IsPieceServed ways told under.then (stand at held_now) was.kept under.goes.read under.goes.requests under.piece result
    served = served-closed ways told under.then at held held_now was.kept under.goes.read under.goes.requests
        under.piece under.given was.quits result under.has_read under.goes.no_quit under.quits
        (up_to-all ways told under.then (stand at held) under.given was.waiting
        (up_to ways told under.made under.then under.given (stand at held) was.waiting under.steps) none)
        (λ quit. closing (under.goes.read ++ under.piece) (under.goes.requests ++ under.given) under.has_read quit)

    by_result : (result : Result (Option End) ConnectionFault) → IsPieceServed ways told under.then (stand at held_now)
        was.kept under.goes.read under.goes.requests under.piece result
        → HasComeTo ways told input input_now before (stand at held_now) was (by_close result)
    by_result (Ok None) served =
        inl (
          none,
          goes_on-more ways told input under.input_then input_now before under.then (stand at held_now)
              under.kept was.kept under.count was.count under.goes under.piece under.consumed under.counted served,
        )
    by_result (Ok (Some end)) served = served-end ways told input under.input_then input_now before under.then
        (stand at held_now) under.kept was.kept under.count under.goes under.piece end under.short under.consumed served
    by_result (Err fault) served = served-fault ways told input under.input_then input_now before under.then
        (stand at held_now) under.kept was.kept under.count under.goes under.piece fault (Err fault) under.short
        under.consumed served refl

-- there was no memory for a piece
pub wants : {C : Type 0} (ways : Ways C) (told : Option ℕ) (input input_then input_now : Input) (before at : Stand C) (was : Progress) (piece : List ℕ)
    → ConnectionGoesOn ways told input input_then before at was.kept was.count → Takes input_then input_now piece
    → length piece ≤ 65536 → HasServed ways told input input_now before at (Err Want)
wants ways told input input_then input_now before at was piece goes consumed short =
    served-fault ways told input input_then input_now before at at was.kept was.kept was.count goes piece Want (Err Want) short consumed (inl refl) refl

-- the same end, by another name
pub stepped-to : {C : Type 0} (ways : Ways C) (told : Option ℕ) (input input_now : Input) (before now : Stand C)
    (progress : Progress) (end by : Option (Result End ConnectionFault)) → end ≡ by
    → HasComeTo ways told input input_now before now progress by → HasComeTo ways told input input_now before now progress end
stepped-to ways told input input_now before now progress end by is come = subst (HasComeTo ways told input input_now before now progress) (sym is) come

-- a read moved nothing
pub still : {C : Type 0} (ways : Ways C) (told : Option ℕ) (input input_then input_now : Input) (before at now : Stand C) (kept : ReaderState) (count : ℕ)
    → ConnectionGoesOn ways told input input_then before at kept count → now ≡ at → Takes input_then input_now []
    → ConnectionGoesOn ways told input input_now before now kept count
still ways told input input_then input_now before at now kept count goes same nothing =
    subst (λ (s : Stand _). ConnectionGoesOn ways told input input_now before s kept count) (sym same) (record {
      read = goes.read;
      consumed = subst (Takes input input_now) (append-nil goes.read) (Takes-trans input input_then input_now goes.read [] goes.consumed nothing);
      requests = goes.requests;
      has_read = goes.has_read;
      no_quit = goes.no_quit;
      short = goes.short;
      answered = goes.answered;
      counted = goes.counted;
    })

-- a connection at which requests wait is under way, and one at which none does goes on
pub under-of : {C : Type 0} (ways : Ways C) (told : Option ℕ) (input input_now : Input) (before now : Stand C) (progress : Progress) → progress.waiting ≢ []
    → HasComeTo ways told input input_now before now progress None → IsUnderWay ways told input input_now before now progress
under-of ways told input input_now before now progress some (inl idle) = absurd (some idle.0)
under-of ways told input input_now before now progress some (inr under) = under.1

pub goes-of : {C : Type 0} (ways : Ways C) (told : Option ℕ) (input input_now : Input) (before now : Stand C) (progress : Progress) → progress.waiting ≡ []
    → HasComeTo ways told input input_now before now progress None → ConnectionGoesOn ways told input input_now before now progress.kept progress.count
goes-of ways told input input_now before now progress none (inl idle) = idle.1
goes-of ways told input input_now before now progress none (inr under) = absurd (under.0 none)

-- nothing was sent meanwhile
pub moved : {C : Type 0} (ways : Ways C) (told : Option ℕ) (input input_now : Input) (before : Stand C) (at : C)
    (sent sent_now out : List ℕ) (progress : Progress) → sent_now ≡ sent
    → ConnectionGoesOn ways told input input_now before (stand at (sent ++ out)) progress.kept progress.count
    → ConnectionGoesOn ways told input input_now before (stand at (sent_now ++ out)) progress.kept progress.count
moved ways told input input_now before at sent sent_now out progress same goes =
    subst (λ (bs : List ℕ). ConnectionGoesOn ways told input input_now before (stand at (bs ++ out)) progress.kept progress.count)
    (sym same) goes

-- what a read moved, by what it came to
pub came : {E : Type 0} (before now : Input) (result : Result Reading E) (reading by : Reading) (room : List ℕ)
    → TryTakes before now result room → result ≡ Ok reading → reading ≡ by → TryTakes {E = E} before now (Ok by) room
came {E} before now result reading by room takes is same =
    subst (λ (r : Reading). TryTakes {E = E} before now (Ok r) room) same
    (subst (λ (r : Result Reading E). TryTakes before now r room) is takes)
