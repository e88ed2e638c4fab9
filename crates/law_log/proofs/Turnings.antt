-- The turns of a run by their places, and the ask of each call that is in the log.
use Rattle.std.proofs.Common.{ℕ, zero, suc, ◌≡◌, ◌≢◌, ◌+◌, ◌<◌, Bool, true, false, List, [], ◌∷◌, ◌++◌, length, take}
use Rattle.std.proofs.Common.{◌⊎◌, inl, inr, Option, Some, None, if◌then◌else◌, refl, sym, ap, subst, ◌∙◌, arith}
use Rattle.std.specs.Prelude.{Contains, slice_get}
use Rattle.std.proofs.lemmas.Bool.{cases_eq, eq-eqb, ne_eqb}
use Rattle.std.proofs.lemmas.List.{take-append-le, take_at}
use Rattle.std.proofs.lemmas.Option.{get_or_from_slice_get, slice_get_within, slice_get-get_or}
use Rattle.group_types.specs.Dimensions.{Dimensions}
use Rattle.group_types.specs.Lists.{at, put}
use Rattle.group_types.specs.declared.process.ProcessId.{ProcessId}
use Rattle.group_types.proofs.Lists.{at-put, at-put-other, at-replicate}
use Rattle.group_types.specs.Each.{Each, EachTwo}
use Rattle.group_types.proofs.Eaches.{each-append, each-weaker}
use Rattle.memc_table.specs.Asked.{Asked}
use Rattle.group_calls.specs.Turns.{CallName, Turn, asks_in, asks_of, call_entry, name_of}
use Rattle.group_calls.specs.Within.{IsAsk, IsTaken}
use Rattle.group_calls.specs.declared.event.Answer.{Answer}
use Rattle.group_calls.specs.declared.event.Answer.TheVariants as says
use Rattle.group_calls.specs.declared.event.Event.{Event}
use Rattle.group_calls.specs.declared.event.Event.TheVariants.{Ask, Collect, Deliver, Fail, Flush, Trace}
use Rattle.group_run.specs.Asking.{reply_from}
use Rattle.group_run.specs.Headline.{IsRun}
use Rattle.group_run.specs.Replica.{callers}
use Rattle.group_run.specs.World.{AskedCall, World, asked_after, call_of, group_step, is_issued, step, turns_from, world_after, update_name}
use Rattle.law_log.specs.Book.{Book, book_of, booked, call_if, issued_by}
use Rattle.law_log.specs.Stands.{StandsAlways}
use Rattle.law_log.proofs.Books.{book-framed, book_always}
use Rattle.law_log.proofs.Calls.{asked_always, each-contained, next_call}
use Rattle.law_log.proofs.Logging.{LogsOf, logs-event, logs-opening, may-here, some-partition, stands-in, stands-next}

-- members and places
pub get-contained : {X : Type 0} (xs : List X) (i : ℕ) (x : X) → slice_get xs i ≡ Some x → Contains xs x
get-contained xs i x is = (i, slice_get_within xs i x is, get_or_from_slice_get xs i x x is)

pub contained-get : {X : Type 0} (xs : List X) (x : X) → Contains xs x → (i : ℕ) × (slice_get xs i ≡ Some x)
contained-get xs x there = (there.0, slice_get-get_or xs there.0 x there.1 ∙ ap Some there.2)

pub get-left : {X : Type 0} (xs ys : List X) (i : ℕ) (x : X) → slice_get xs i ≡ Some x → slice_get (xs ++ ys) i ≡ Some x
get-left [] ys i x is = absurd (cc is)
get-left (y ∷ xs) ys zero x is = is
get-left (y ∷ xs) ys (suc i) x is = get-left xs ys i x is

pub get-taken : {X : Type 0} (n : ℕ) (xs : List X) (i : ℕ) (x : X) → slice_get (take n xs) i ≡ Some x → slice_get xs i ≡ Some x
get-taken zero xs i x is = absurd (cc is)
get-taken (suc n) [] i x is = absurd (cc is)
get-taken (suc n) (y ∷ xs) zero x is = is
get-taken (suc n) (y ∷ xs) (suc i) x is = get-taken n xs i x is

pub get-last : {X : Type 0} (xs : List X) (x : X) → slice_get (xs ++ x ∷ []) (length xs) ≡ Some x
get-last [] x = refl
get-last (y ∷ xs) x = get-last xs x

each-get : {X : Type 0} (P : X → Type 0) (xs : List X) (i : ℕ) (x : X) → Each P xs → slice_get xs i ≡ Some x → P x
each-get P xs i x all is = each-contained P xs x all (get-contained xs i x is)

pub each_two-get : {X : Type 0} (R : X → X → Type 0) (xs : List X) (i j : ℕ) (a b : X) → EachTwo R xs → i < j
    → slice_get xs i ≡ Some a → slice_get xs j ≡ Some b → R a b
each_two-get R [] i j a b two below is it = absurd (cc is)
each_two-get R (x ∷ xs) zero zero a b two below is it = absurd (omega arith)
each_two-get R (x ∷ xs) zero (suc j) a b two below is it =
    let same : x ≡ a = ap (λ (o : Option _). elim o [ None ↦ x | Some y ↦ y ]) is in
    subst (λ (y : _). R y b) same (each-get (R x) xs j b two.0 it)
each_two-get R (x ∷ xs) (suc i) zero a b two below is it = absurd (omega arith)
each_two-get R (x ∷ xs) (suc i) (suc j) a b two below is it = each_two-get R xs i j a b two.1 (omega arith) is it

-- the event of a turn, and the turns before it
pub record TurnAt (w : World) (es : List Event) (i : ℕ) (turn : Turn) : Type 0 where
  pub before : List Event
  pub event : Event
  pub rest : List Event
  pub is : es ≡ before ++ event ∷ rest
  pub turn_is : turn ≡ (step (world_after w before) event).turn
  pub front : turns_from w before ≡ take i (turns_from w es)
  pub through : turns_from w (before ++ event ∷ []) ≡ take (i + 1) (turns_from w es)

pub turn-at : (w : World) (es : List Event) (i : ℕ) (turn : Turn) → slice_get (turns_from w es) i ≡ Some turn → TurnAt w es i turn
turn-at w [] i turn there = absurd (cc there)
turn-at w (e ∷ es) zero turn there = record {
  before = [];
  event = e;
  rest = es;
  is = refl;
  front = refl;
  through = refl;
  turn_is = ap (λ (o : Option Turn). elim o [ None ↦ turn | Some x ↦ x ]) (sym there);
}
turn-at w (e ∷ es) (suc i) turn there =
    let later : TurnAt (step w e).world es i turn = turn-at (step w e).world es i turn there in
    let more : suc i + 1 ≡ suc (i + 1) = omega arith in
    record {
      before = e ∷ later.before;
      event = later.event;
      rest = later.rest;
      is = ap (λ (xs : List Event). e ∷ xs) later.is;
      turn_is = later.turn_is;
      front = ap (λ (xs : List Turn). (step w e).turn ∷ xs) later.front;
      through = ap (λ (xs : List Turn). (step w e).turn ∷ xs) later.through ∙ ap (λ (n : ℕ). take n (turns_from w (e ∷ es))) (sym more);
    }

-- how often each caller asked
pub asks-append : (caller : ℕ) (xs ys : List Turn) → asks_of caller (xs ++ ys) ≡ asks_of caller xs + asks_of caller ys
asks-append caller [] ys = omega arith
asks-append caller (x ∷ xs) ys = let rest = asks-append caller xs ys in omega arith

pub asks-self : (caller : ℕ) (op : Asked) (p : ProcessId) → asks_in caller (Ask caller op p) ≡ 1
asks-self caller op p = ap (λ (b : Bool). if b then 1 else 0) (eq-eqb caller caller refl)

asks-grow : (w : World) (e : Event) (caller : ℕ) → at 0 (asked_after w.asked (call_of w e)) caller ≡ at 0 w.asked caller + asks_in caller e
asks-grow w (Ask who op p) caller = by (cases_eq caller who) where
  by : (caller ≡ who) ⊎ (caller ≢ who) → at 0 (put 0 w.asked who (suc (at 0 w.asked who))) caller ≡ at 0 w.asked caller + asks_in caller (Ask who op p)
  by (inl same) =
      let now : at 0 (put 0 w.asked who (suc (at 0 w.asked who))) caller ≡ suc (at 0 w.asked who) = ap (at 0 (put 0 w.asked who (suc (at 0 w.asked who)))) same
      ∙ at-put 0 0 w.asked who (suc (at 0 w.asked who)) in
      let was : at 0 w.asked caller ≡ at 0 w.asked who = ap (at 0 w.asked) same in
      let one : asks_in caller (Ask who op p) ≡ 1 = ap (λ (b : Bool). if b then 1 else 0) (eq-eqb who caller (sym same)) in omega arith
  by (inr other) =
      let now = at-put-other 0 w.asked who caller (suc (at 0 w.asked who)) other in
      let none : asks_in caller (Ask who op p) ≡ 0 =
      ap (λ (b : Bool). if b then 1 else 0) (ne_eqb who caller (λ (same : who ≡ caller). other (sym same))) in
      omega arith
asks-grow w (Collect who call p) caller = omega arith
asks-grow w (Deliver from to) caller = omega arith
asks-grow w (Fail p keep) caller = omega arith
asks-grow w (Flush p) caller = omega arith
asks-grow w (Trace who call d p) caller = omega arith

pub asks_counted : (s : Dimensions) (es : List Event) → IsRun s es → (caller : ℕ) → asks_of caller (book_of s es).turns
    ≡ at 0 (book_of s es).history.world.asked caller
asks_counted s es run = book_always s (λ b. (caller : ℕ) → asks_of caller b.turns ≡ at 0 b.history.world.asked caller)
    (λ caller. sym (at-replicate 0 callers caller))
    (λ done e now more may same caller.
    let b : Book = book_of s done in
    let grows = asks-grow b.history.world e caller in
    let both = asks-append caller b.turns ((step b.history.world e).turn ∷ []) in
    let was = same caller in
    omega (arith, grows, both, was)) es run

-- the ask of a call that took effect, or may
pub record HasAsk (turns : List Turn) (name : CallName) (op : Asked) : Type 0 where
  pub place : ℕ
  pub turn : Turn
  pub ask : IsAsk turns place turn name op
  pub taken : IsTaken turn.answer

pub ask-more : (turns : List Turn) (turn : Turn) (i : ℕ) (own : Turn) (name : CallName) (op : Asked)
    → IsAsk turns i own name op → IsAsk (turns ++ turn ∷ []) i own name op
ask-more turns turn i own name op ask = record {
  there = get-left turns (turn ∷ []) i own ask.there;
  at = ask.at;
  event = ask.event;
  place = let below = slice_get_within turns i own ask.there in ap (asks_of name.caller) (take-append-le i turns (turn ∷ []) (omega arith)) ∙ ask.place;
}

has-more : (turns : List Turn) (turn : Turn) (name : CallName) (op : Asked) → HasAsk turns name op → HasAsk (turns ++ turn ∷ []) name op
has-more turns turn name op has = record { place = has.place; turn = has.turn; ask = ask-more turns turn has.place has.turn name op has.ask; taken = has.taken }

-- an update was issued only for a call that is answered with a ticket or a reply
issued-taken : (answer : Answer) → is_issued answer ≡ true → IsTaken answer
issued-taken (says.Reply reply) is = inl (reply, refl)
issued-taken (says.Ticket n) is = inr (n, refl)
issued-taken says.NotYet is = absurd (cc is)
issued-taken says.NoSpace is = absurd (cc is)
issued-taken (says.Retry why) is = absurd (cc is)
issued-taken says.Moved is = absurd (cc is)
issued-taken says.Lost is = absurd (cc is)
issued-taken says.Down is = absurd (cc is)
issued-taken says.Idle is = absurd (cc is)
issued-taken says.Stranger is = absurd (cc is)
issued-taken says.Done is = absurd (cc is)
issued-taken says.AlreadyDead is = absurd (cc is)
issued-taken says.Gone is = absurd (cc is)
issued-taken (says.Stale n) is = absurd (cc is)

module _ (b : Book) (counted : (caller : ℕ) → asks_of caller b.turns ≡ at 0 b.history.world.asked caller) where
  -- the turn of an ask is that of its call
  pub own-ask : (caller : ℕ) (op : Asked) (p : ProcessId)
      → IsAsk (booked b (Ask caller op p)).turns (length b.turns) (step b.history.world (Ask caller op p)).turn (next_call b.history.world caller op).name op
  own-ask caller op p = record {
    there = get-last b.turns (step b.history.world (Ask caller op p)).turn;
    at = p;
    event = refl;
    place = ap (asks_of caller) (take_at b.turns ((step b.history.world (Ask caller op p)).turn ∷ []) (length b.turns) refl) ∙ counted caller;
  }

  has-own : (e : Event) (c : AskedCall) → call_of b.history.world e ≡ Some c → IsTaken (group_step b.history.world e).answer
      → HasAsk (booked b e).turns c.name c.op
  has-own (Ask caller op p) c is taken =
      subst (λ (x : AskedCall). HasAsk (booked b (Ask caller op p)).turns x.name x.op) (ap (λ (o : Option AskedCall). elim o [ None ↦ c | Some x ↦ x ]) is)
      (record { place = length b.turns; turn = (step b.history.world (Ask caller op p)).turn; ask = own-ask caller op p; taken = taken })
  has-own (Collect caller call p) c is taken = absurd (cc is)
  has-own (Deliver from to) c is taken = absurd (cc is)
  has-own (Fail p keep) c is taken = absurd (cc is)
  has-own (Flush p) c is taken = absurd (cc is)
  has-own (Trace caller call d p) c is taken = absurd (cc is)

  issued-own : (e : Event) (call : Option AskedCall) (answer : Answer) → call_of b.history.world e ≡ call → (group_step b.history.world e).answer ≡ answer
      → Each (λ c. HasAsk (booked b e).turns c.name c.op) (issued_by call answer)
  issued-own e None answer is said = tt
  issued-own e (Some c) answer is said = by (is_issued answer) refl where
    by : (t : Bool) → is_issued answer ≡ t → Each (λ x. HasAsk (booked b e).turns x.name x.op) (call_if t c)
    by true test = (has-own e c is (issued-taken (group_step b.history.world e).answer (ap is_issued said ∙ test)), tt)
    by false test = tt

-- the log along every run, with the ask of each issued call and of each entry
pub record AskedOf (b : Book) : Type 0 where
  pub logs : LogsOf b
  pub issued : Each (λ c. HasAsk b.turns c.name c.op) b.issued
  pub entries : Each (λ e. HasAsk b.turns (name_of e) e.op) b.history.world.log

module _ (s : Dimensions) (always : StandsAlways s) where
  pub asked_of_always : (es : List Event) → IsRun s es → AskedOf (book_of s es)
  asked_of_always es run = book_always s AskedOf (record { logs = logs-opening s; issued = tt; entries = tt }) (λ done e now more may holds.
      let b : Book = book_of s done in
      let turn : Turn = (step b.history.world e).turn in
      let counted = asks_counted s done now in
      let calls : Each (λ c. HasAsk (booked b e).turns c.name c.op) (booked b e).issued = each-append (λ c. HasAsk (booked b e).turns c.name c.op) b.issued
      (issued_by (call_of b.history.world e) (group_step b.history.world e).answer)
      (each-weaker (λ c. HasAsk b.turns c.name c.op) (λ c. HasAsk (booked b e).turns c.name c.op)
      (λ c has. has-more b.turns turn c.name c.op has) b.issued holds.issued)
      (issued-own b counted e (call_of b.history.world e) (group_step b.history.world e).answer refl refl) in
      let next = logs-event b (book-framed s done now) (stands-in s always done now) (some-partition s always done now) e (may-here s always done e may)
      (stands-next s always done e more) (asked_always s done now) holds.logs
      (λ log settled. Each (λ x. HasAsk (booked b e).turns (name_of x) x.op) log)
      (each-weaker (λ x. HasAsk b.turns (name_of x) x.op) (λ x. HasAsk (booked b e).turns (name_of x) x.op)
      (λ x has. has-more b.turns turn (name_of x) x.op has) b.history.world.log holds.entries)
      (λ log settled d u low many stands fits step said. each-append (λ x. HasAsk (booked b e).turns (name_of x) x.op)
      log (call_entry (update_name u) step.call.op (reply_from u.outcome) ∷ []) said (
        subst (λ (n : CallName). HasAsk (booked b e).turns n step.call.op) (sym step.name)
            (each-contained (λ x. HasAsk (booked b e).turns x.name x.op) (booked b e).issued step.call calls step.asked),
        tt,
      ))
      (λ c reply is answered refused said. each-append (λ x. HasAsk (booked b e).turns (name_of x) x.op)
      b.history.world.log (call_entry c.name c.op reply ∷ []) said
      (has-own b counted e c is (inl (reply, answered)), tt)) in
      record { logs = next.0; issued = calls; entries = next.1 }) es run
