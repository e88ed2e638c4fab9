-- Each answered call stands in the log once, between its asking and its answering.
use Rattle.std.proofs.Common.{ℕ, zero, suc, ◌≡◌, ◌≢◌, ◌+◌, ◌<◌, ◌≤◌, true, List, [], ◌∷◌, ◌++◌, length, take, get_or}
use Rattle.std.proofs.Common.{◌⊎◌, inl, inr, Some, refl, sym, ap, subst, ◌∙◌, arith}
use Rattle.std.specs.Prelude.{Contains, slice_get}
use Rattle.std.proofs.lemmas.Bool.{cases_lt}
use Rattle.std.proofs.lemmas.List.{append_assoc, length-take, take-take}
use Rattle.std.proofs.lemmas.List.Elements.{Contains-append_right}
use Rattle.std.proofs.lemmas.Option.{slice_get_within, slice_get-get_or}
use Rattle.group_types.specs.Dimensions.{Dimensions}
use Rattle.group_types.specs.Hash.{home_of}
use Rattle.group_types.specs.Lists.{at}
use Rattle.group_types.specs.Each.{EachTwo}
use Rattle.memc_table.specs.Act.{key_of}
use Rattle.memc_table.specs.Asked.{Asked}
use Rattle.memc_table.specs.declared.reply.Reply.{Reply}
use Rattle.group_calls.specs.Turns.{CallName, Turn, accepts, asks_in, asks_of, call_entry, log_of, name_of}
use Rattle.group_calls.specs.Within.{AnswersWithin, Fetches, IsAsk, IsLoggedSince, IsTaken, Traces}
use Rattle.group_calls.specs.declared.entry.Entry.{Entry}
use Rattle.group_calls.specs.declared.event.Answer.TheVariants as says
use Rattle.group_calls.specs.declared.event.Event.{Event}
use Rattle.group_calls.specs.declared.event.Event.TheVariants.{Ask}
use Rattle.law_moves.proofs.Reading.{grown-is, some-same}
use Rattle.group_run.specs.Asking.{reply_from}
use Rattle.group_run.specs.Headline.{IsRun, MayCome}
use Rattle.group_run.specs.World.{World, after, group_step, next_name, opening, step, turns_of}
use Rattle.law_log.specs.Book.{Book, book_of, booked, no_book}
use Rattle.law_log.specs.Stands.{GoneStays, StandsAlways}
use Rattle.law_log.proofs.Ties.{EntryStands, HasEntry, NamesDiffer}
use Rattle.law_log.proofs.Books.{book-append, book-framed, book-shape, book-turns, book-world, run-push}
use Rattle.law_log.proofs.Calls.{each-contained}
use Rattle.law_log.proofs.Fetches.{HandedOut, handed-out}
use Rattle.law_log.proofs.Logging.{log_kept, may-here, some-partition, stands-in}
use Rattle.law_log.proofs.Prompts.{at-once}
use Rattle.law_log.proofs.Turnings.{AskedOf, HasAsk, TurnAt, asked_of_always, asks-self, asks_counted, contained-get}
use Rattle.law_log.proofs.Turnings.{each_two-get, get-contained, get-left, get-taken, turn-at}

-- the first of the turns, and one more
asks-step : (caller : ℕ) (turns : List Turn) (i : ℕ) (turn : Turn) → slice_get turns i ≡ Some turn
    → asks_of caller (take (suc i) turns) ≡ asks_of caller (take i turns) + asks_in caller turn.event
asks-step caller [] i turn is = absurd (cc is)
asks-step caller (x ∷ xs) zero turn is =
    let same : asks_in caller x.event ≡ asks_in caller turn.event = ap (λ (t : Turn). asks_in caller t.event) (some-same x turn is) in omega arith
asks-step caller (x ∷ xs) (suc i) turn is = let rest = asks-step caller xs i turn is in omega arith

asks-more : (caller : ℕ) (turns : List Turn) (m n : ℕ) → m ≤ n → asks_of caller (take m turns) ≤ asks_of caller (take n turns)
asks-more caller turns zero n below = omega arith
asks-more caller turns (suc m) zero below = absurd (omega arith)
asks-more caller [] (suc m) (suc n) below = omega arith
asks-more caller (x ∷ xs) (suc m) (suc n) below = let rest = asks-more caller xs m n (omega arith) in omega arith

-- a call is asked once
not-before : (turns : List Turn) (i j : ℕ) (a b : Turn) (name : CallName) (op other : Asked) → IsAsk turns i a name op → IsAsk turns j b name other → i < j → ⊥
not-before turns i j a b name op other first second below =
    let own : asks_in name.caller a.event ≡ 1 = ap (asks_in name.caller) first.event ∙ asks-self name.caller op first.at in
    let next = asks-step name.caller turns i a first.there in
    let more = asks-more name.caller turns (suc i) j (omega arith) in
    let x = first.place in let y = second.place in omega arith

asked-once : (turns : List Turn) (i j : ℕ) (a b : Turn) (name : CallName) (op other : Asked) → IsAsk turns i a name op → IsAsk turns j b name other → i ≡ j
asked-once turns i j a b name op other first second = by (cases_lt i j) (cases_lt j i) where
  by : (i < j) ⊎ (j ≤ i) → (j < i) ⊎ (i ≤ j) → i ≡ j
  by (inl below) x = absurd (not-before turns i j a b name op other first second below)
  by (inr from) (inl below) = absurd (not-before turns j i b a name other op second first below)
  by (inr from) (inr to) = omega arith

-- an ask among the first turns is one among all
ask-whole : (turns : List Turn) (n j : ℕ) (turn : Turn) (name : CallName) (op : Asked) → IsAsk (take n turns) j turn name op → IsAsk turns j turn name op
ask-whole turns n j turn name op ask =
    let below : j < length (take n turns) = slice_get_within (take n turns) j turn ask.there in
    let low : j ≤ n = omega (arith, length-take n turns) in
    record {
      there = get-taken n turns j turn ask.there;
      at = ask.at;
      event = ask.event;
      place = ap (asks_of name.caller) (sym (take-take j n turns low)) ∙ ask.place;
    }

-- the log of the first turns is the first of the log
log-more : (turns : List Turn) (j n : ℕ) → j ≤ n → (more : List Entry) × (log_of (take n turns) ≡ log_of (take j turns) ++ more)
log-more turns zero n below = (log_of (take n turns), refl)
log-more turns (suc j) zero below = absurd (omega arith)
log-more [] (suc j) (suc n) below = ([], refl)
log-more (x ∷ xs) (suc j) (suc n) below =
    let rest = log-more xs j n (omega arith) in
    (rest.0, ap (λ (log : List Entry). x.logged ++ log) rest.1 ∙ sym (append_assoc x.logged (log_of (take j xs)) rest.0))

module _ (s : Dimensions) (always : StandsAlways s) (es : List Event) (run : IsRun s es) where
  abbrev turns : List Turn
  turns = turns_of s es

  book-turns_of : (xs : List Event) → (book_of s xs).turns ≡ turns_of s xs
  book-turns_of xs = book-turns (no_book s) xs

  whole-log : (book_of s es).history.world.log ≡ log_of turns
  whole-log = log_kept s es run ∙ ap log_of (book-turns_of es)

  whole-asked : AskedOf (book_of s es)
  whole-asked = asked_of_always s always es run

  -- what stands before the event of a turn, and after it
  module _ (i : ℕ) (turn : Turn) (there : slice_get (turns_of s es) i ≡ Some turn) where
    abbrev place : TurnAt (opening s) es i turn
    place = turn-at (opening s) es i turn there

    abbrev b : Book
    b = book_of s (turn-at (opening s) es i turn there).before

    abbrev e : Event
    e = (turn-at (opening s) es i turn there).event

    parts : IsRun s place.before × MayCome (after s place.before) e × IsRun s (place.before ++ e ∷ [])
    parts = let pushed = run-push (opening s) place.before e place.rest
        (subst (λ (xs : List Event). IsRun s xs) place.is run).1 in ((run.0, pushed.0), pushed.1, (run.0, pushed.2))

    through : booked b e ≡ book_of s (place.before ++ e ∷ [])
    through = sym (book-append (no_book s) place.before (e ∷ []))

    turns-before : b.turns ≡ take i turns
    turns-before = book-turns_of place.before ∙ place.front

    turns-through : (booked b e).turns ≡ take (i + 1) turns
    turns-through = ap (λ (x : Book). x.turns) through ∙ book-turns_of (place.before ++ e ∷ []) ∙ place.through

    turn-same : turn ≡ (step b.history.world e).turn
    turn-same = place.turn_is ∙ ap (λ (w : World). (step w e).turn) (sym (book-world s place.before))

    asked-before : AskedOf b
    asked-before = asked_of_always s always place.before parts.0

    asked-through : AskedOf (booked b e)
    asked-through = subst AskedOf (sym through) (asked_of_always s always (place.before ++ e ∷ []) parts.2)

    log-before : b.history.world.log ≡ log_of (take i turns)
    log-before = log_kept s place.before parts.0 ∙ ap log_of turns-before

    log-through : (booked b e).history.world.log ≡ log_of (take (i + 1) turns)
    log-through = ap (λ (x : Book). x.history.world.log) through ∙ log_kept s (place.before ++ e ∷ []) parts.2
        ∙ ap log_of (sym (ap (λ (x : Book). x.turns) through) ∙ turns-through)

    log-grows : (booked b e).history.world.log ≡ b.history.world.log ++ turn.logged
    log-grows = grown-is b.history.world.log (step b.history.world e).turn.logged ∙ ap (λ (t : Turn). b.history.world.log ++ t.logged) (sym turn-same)

    -- no entry of a call that is asked now is in the log before
    not-logged-before : (name : CallName) (op : Asked) → IsAsk turns i turn name op → (x : Entry) → Contains (log_of (take i turns)) x → name_of x ≡ name → ⊥
    not-logged-before name op ask x contained same =
        let below = each-contained (λ y. y.call < at 0 b.history.world.asked y.caller) b.history.world.log x asked-before.logs.entries_asked
        (subst (λ (log : List Entry). Contains log x) (sym log-before) contained) in
        let counted : asks_of x.caller (take i turns) ≡ at 0 b.history.world.asked x.caller =
        ap (asks_of x.caller) (sym turns-before) ∙ asks_counted s place.before parts.0 x.caller in
        let caller : asks_of x.caller (take i turns) ≡ asks_of name.caller (take i turns) = ap (λ (n : CallName). asks_of n.caller (take i turns)) same in
        let call : x.call ≡ name.call = ap (λ (n : CallName). n.call) same in
        let at_ask = ask.place in omega arith

  -- an entry stands behind what was logged before its ask
  since-ask : (j n : ℕ) (ask : Turn) (name : CallName) (op : Asked) → IsAsk turns j ask name op → j ≤ n
      → (p : ℕ) (x : Entry) → slice_get (log_of (take n turns)) p ≡ Some x → name_of x ≡ name
      → length (log_of (take j turns)) ≤ p
  since-ask j n ask name op asks below p x is same = by (cases_lt p (length (log_of (take j turns)))) where
    by : (p < length (log_of (take j turns))) ⊎ (length (log_of (take j turns)) ≤ p) → length (log_of (take j turns)) ≤ p
    by (inr past) = past
    by (inl early) =
        let more = log-more turns j n below in
        let old : slice_get (log_of (take j turns)) p ≡ Some (get_or (log_of (take j turns)) p x) = slice_get-get_or (log_of (take j turns)) p x early in
        let now : slice_get (log_of (take n turns)) p ≡ Some (get_or (log_of (take j turns)) p x)
        = ap (λ (log : List Entry). slice_get log p) more.1 ∙ get-left (log_of (take j turns)) more.0 p (get_or (log_of (take j turns)) p x) old in
        let one : get_or (log_of (take j turns)) p x ≡ x = some-same (get_or (log_of (take j turns)) p x) x (sym now ∙ is) in
        absurd (not-logged-before j ask asks.there name op asks x
        (subst (Contains (log_of (take j turns))) one
        (get-contained (log_of (take j turns)) p (get_or (log_of (take j turns)) p x) old)) same)

  once : (i j : ℕ) (a b : Entry) → i < j → slice_get (log_of turns) i ≡ Some a → slice_get (log_of turns) j ≡ Some b → name_of a ≢ name_of b
  once i j a b below is it = each_two-get NamesDiffer (log_of turns) i j a b (subst (EachTwo NamesDiffer) whole-log whole-asked.logs.stands.once) below is it

  asked : (i : ℕ) (turn : Turn) (entry : Entry) → slice_get turns i ≡ Some turn → Contains turn.logged entry
      → (j : ℕ) × (ask : Turn) × (j ≤ i) × IsAsk turns j ask (name_of entry) entry.op
  asked i turn entry there contained =
      let now : Contains (booked (b i turn there) (e i turn there)).history.world.log entry
      = subst (λ (log : List Entry). Contains log entry) (sym (log-grows i turn there))
      (Contains-append_right (b i turn there).history.world.log turn.logged entry contained) in
      let has : HasAsk (booked (b i turn there) (e i turn there)).turns (name_of entry) entry.op
      = each-contained (λ x. HasAsk (booked (b i turn there) (e i turn there)).turns (name_of x) x.op)
      (booked (b i turn there) (e i turn there)).history.world.log entry (asked-through i turn there).entries now in
      let taken : IsAsk (take (i + 1) turns) has.place has.turn (name_of entry) entry.op
      = subst (λ (ts : List Turn). IsAsk ts has.place has.turn (name_of entry) entry.op) (turns-through i turn there) has.ask in
      let below : has.place < length (take (i + 1) turns) = slice_get_within (take (i + 1) turns) has.place has.turn taken.there in
      (has.place, has.turn, omega (arith, length-take (i + 1) turns), ask-whole turns (i + 1) has.place has.turn (name_of entry) entry.op taken)

  refused : (i : ℕ) (turn : Turn) (name : CallName) (op : Asked) (entry : Entry) → IsAsk turns i turn name op
      → ¬ (IsTaken turn.answer) → Contains (log_of turns) entry → name_of entry ≢ name
  refused i turn name op entry ask none contained same =
      let there : Contains (book_of s es).history.world.log entry = subst (λ (log : List Entry). Contains log entry) (sym whole-log) contained in
      let has : HasAsk (book_of s es).turns (name_of entry) entry.op
      = each-contained (λ x. HasAsk (book_of s es).turns (name_of x) x.op) (book_of s es).history.world.log entry whole-asked.entries there in
      let its : IsAsk turns has.place has.turn name entry.op
      = subst (λ (n : CallName). IsAsk turns has.place has.turn n entry.op) same
      (subst (λ (ts : List Turn). IsAsk ts has.place has.turn (name_of entry) entry.op) (book-turns_of es)
      has.ask) in
      let place : i ≡ has.place = asked-once turns i has.place turn has.turn name op entry.op ask its in
      let one : turn ≡ has.turn = some-same turn has.turn (sym ask.there ∙ ap (slice_get turns) place ∙ its.there) in
      none (subst (λ (t : Turn). IsTaken t.answer) (sym one) has.taken)

  gone : GoneStays s → (i : ℕ) (turn : Turn) (name : CallName) (d : ℕ) (entry : Entry) → slice_get turns i ≡ Some turn → Traces turn.event name d
      → turn.answer ≡ says.Gone → Contains (log_of turns) entry
      → accepts entry.reply ≡ true → home_of (key_of entry.op.act) s.k ≡ d → name_of entry ≢ name
  gone stays i turn name d entry there traces answered contained accepted home same =
      let inside : Contains (book_of s es).history.world.log entry = subst (λ (log : List Entry). Contains log entry) (sym whole-log) contained in
      by (each-contained (EntryStands (book_of s es).history.world.shape (book_of s es).issued
      (book_of s es).history.settled) (book_of s es).history.world.log entry
      whole-asked.logs.stands.entries inside) where
        by : EntryStands (book_of s es).history.world.shape (book_of s es).issued (book_of s es).history.settled entry → ⊥
        by (inr refused) = let no = refused.refused in cc (no, accepted)
        by (inl of) =
            let d_is : home_of (key_of entry.op.act) (book_of s es).history.world.shape.k ≡ d =
            ap (λ (t : Dimensions). home_of (key_of entry.op.act) t.k) (book-shape s es) ∙ home in
            stays es run turn name d (subst (λ (ts : List Turn). Contains ts turn) (sym (book-turns_of es))
            (get-contained turns i turn there)) traces answered of.update
            (subst (λ (k : ℕ). Contains (at [] (book_of s es).history.settled k) of.update) d_is of.there) (of.named ∙ same)

  -- a reply to an ask
  at_once : (i : ℕ) (turn : Turn) (name : CallName) (op : Asked) (reply : Reply) → IsAsk turns i turn name op
      → turn.answer ≡ says.Reply reply → Contains turn.logged (call_entry name op reply)
  at_once i turn name op reply ask answered =
      by (e i turn ask.there) (sym (ap (λ (t : Turn). t.event) (turn-same i turn ask.there)) ∙ ask.event)
      (parts i turn ask.there).1 (turn-same i turn ask.there) (asked-through i turn ask.there) where
        by : (x : Event) → x ≡ Ask name.caller op ask.at → MayCome (after s (place i turn ask.there).before) x
            → turn ≡ (step (b i turn ask.there).history.world x).turn → AskedOf (booked (b i turn ask.there) x)
            → Contains turn.logged (call_entry name op reply)
        by x is may same later =
            let before : List Event = (place i turn ask.there).before in
            let own : Book = b i turn ask.there in
            let now : IsRun s before = (parts i turn ask.there).0 in
            let event : Event = Ask name.caller op ask.at in
            let its_may : MayCome own.history.world event = may-here s always before event (subst (MayCome (after s before)) is may) in
            let its_same : turn ≡ (step own.history.world event).turn = same ∙ ap (λ (y : Event). (step own.history.world y).turn) is in
            let its_later : AskedOf (booked own event) = subst (λ (y : Event). AskedOf (booked own y)) is later in
            let said : (group_step own.history.world event).answer ≡ says.Reply reply = sym (ap (λ (t : Turn). t.answer) its_same) ∙ answered in
            let call : at 0 own.history.world.asked name.caller ≡ name.call
            = sym (asks_counted s before now name.caller) ∙ ap (asks_of name.caller) (turns-before i turn ask.there) ∙ ask.place in
            let named : next_name own.history.world name.caller ≡ name = λ k. record { caller = name.caller; call = call k } in
            subst (λ (n : CallName). Contains turn.logged (call_entry n op reply)) named
            (subst (λ (t : Turn). Contains t.logged (call_entry (next_name own.history.world name.caller) op reply)) (sym its_same)
            (at-once own (book-framed s before now) (stands-in s always before now) (some-partition s always before now)
            name.caller op ask.at its_may.1 (asked-before i turn ask.there).logs its_later.logs reply said))

  -- a reply to a collect or a trace
  later : (i : ℕ) (turn : Turn) (name : CallName) (reply : Reply) → slice_get turns i ≡ Some turn
      → Fetches turn.event name → turn.answer ≡ says.Reply reply → IsLoggedSince turns i name reply
  later i turn name reply there fetches answered =
      let before : List Event = (place i turn there).before in
      let own : Book = b i turn there in
      let now : IsRun s before = (parts i turn there).0 in
      let same : turn ≡ (step own.history.world (e i turn there)).turn = turn-same i turn there in
      let out : HandedOut own.history.world.shape.k (λ d. at [] own.history.settled d) name reply
      = handed-out own (book-framed s before now) (stands-in s always before now) name reply (e i turn there)
      (may-here s always before (e i turn there) (parts i turn there).1)
      (subst (λ (t : Turn). Fetches t.event name) same fetches) (sym (ap (λ (t : Turn). t.answer) same) ∙ answered) in
      let has : HasEntry own.history.world.log out.settles.update
      = each-contained (HasEntry own.history.world.log) (at [] own.history.settled out.partition) out.settles.update
      ((asked-before i turn there).logs.stands.entered out.partition) out.settles.there in
      let named : name_of has.entry ≡ name = has.named ∙ out.settles.named in
      let replied : has.entry.reply ≡ reply = has.replied ∙ ap reply_from out.settles.ended ∙ out.replied in
      let is : has.entry ≡ call_entry name has.entry.op reply = λ k. call_entry (named k) has.entry.op (replied k) in
      let found = contained-get own.history.world.log has.entry has.there in
      let in_log : slice_get (log_of (take (i + 1) turns)) found.0 ≡ Some has.entry
      = ap (λ (log : List Entry). slice_get log found.0) (sym (log-through i turn there) ∙ log-grows i turn there)
      ∙ get-left own.history.world.log turn.logged found.0 has.entry found.1 in
      let asks : HasAsk own.turns (name_of has.entry) has.entry.op
      = each-contained (λ x. HasAsk own.turns (name_of x) x.op) own.history.world.log has.entry (asked-before i turn there).entries has.there in
      let front : IsAsk (take i turns) asks.place asks.turn name has.entry.op
      = subst (λ (n : CallName). IsAsk (take i turns) asks.place asks.turn n has.entry.op) named
      (subst (λ (ts : List Turn). IsAsk ts asks.place asks.turn (name_of has.entry) has.entry.op) (turns-before i turn there) asks.ask) in
      let low : asks.place < length (take i turns) = slice_get_within (take i turns) asks.place asks.turn front.there in
      let ask : IsAsk turns asks.place asks.turn name has.entry.op = ask-whole turns i asks.place asks.turn name has.entry.op front in
      record {
        op = has.entry.op;
        j = asks.place;
        ask = asks.turn;
        asked = ask;
        place = found.0;
        entry = in_log ∙ ap Some is;
        since = since-ask asks.place (i + 1) asks.turn name has.entry.op ask (omega (arith, length-take i turns)) found.0 has.entry in_log named;
      }

  pub answers_within : GoneStays s → AnswersWithin s.k turns
  answers_within stays = record { once = once; asked = asked; at_once = at_once; later = later; refused = refused; gone = gone stays }
