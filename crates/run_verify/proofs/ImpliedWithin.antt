-- A course of steps is legal, and answered within its time.
use Rattle.std.proofs.Common.{◌≡◌, inl, inr, ◌<◌, ◌≤◌, ◌+◌, ◌^◌, ℕ, zero, suc, false, List, [], ◌∷◌, ◌++◌, ◌∙◌, take}
use Rattle.std.proofs.Common.{length, slice_get, Some, append_assoc, refl, sym, ap, subst, arith}
use Rattle.std.proofs.lemmas.List.{append-nil, length-append}
use Rattle.memc_table.specs.Asked.{Asked}
use Rattle.memc_table.specs.Contents.{Contents}
use Rattle.group_calls.specs.Log.{IsLegalFrom}
use Rattle.group_calls.specs.Turns.{CallName, Turn, asks_of, log_of, name_of}
use Rattle.group_calls.specs.Within.{IsAsk, IsTaken}
use Rattle.group_calls.specs.declared.entry.Entry.{Entry}
use Rattle.group_calls.specs.declared.event.Answer.{Answer}
use Rattle.group_calls.specs.declared.event.Answer.TheVariants as answered
use Rattle.group_calls.specs.declared.event.Event.{Event}
use Rattle.group_calls.specs.declared.event.Event.TheVariants as happens
use Rattle.run_verify.specs.Checked.{RepliesWithin}
use Rattle.run_verify.specs.Passing.{Account, account_after_entry, after_answer, call_named, takes_effect, with_shown}
use Rattle.run_verify.specs.Plain.{FitSteps, IsEventInRange}
use Rattle.run_verify.specs.Sheet.{Sheet}
use Rattle.run_verify.specs.Told.{ToldStep, turns_told}
use Rattle.run_verify.specs.Told.{Made, Drained, Shown, Lost, Down, Placed}
use Rattle.run_verify.specs.declared.call.Call.{Call}
use Rattle.run_verify.specs.declared.step.Step.{Step}
use Rattle.run_verify.specs.declared.step.Step.TheVariants.{Make, Deliveries, Look, Placing}
use Rattle.run_verify.proofs.ImpliedAccount.{call_with}
use Rattle.run_verify.proofs.ImpliedCourse.{LogsTo}
use Rattle.run_verify.proofs.ImpliedHeads.{ask-head, get-within}
use Rattle.run_verify.proofs.ImpliedStands.{some_same}
use Rattle.run_verify.proofs.ImpliedSteps.{Course, MadeBy, delivered}
use Rattle.run_verify.proofs.ImpliedTurn.{StandsFor, TurnRight, get-contains, stands-turn, turn-right}

-- ---- legal

legal-logs : (sheet : Sheet) (es more : List Entry) (a b : Account) → LogsTo sheet a es b → IsLegalFrom b.table more → IsLegalFrom a.table (es ++ more)
legal-logs sheet [] more a b same legal = subst (λ (c : Account). IsLegalFrom c.table more) (sym same) legal
legal-logs sheet (e ∷ es) more a b (run, tells, logs) legal = (tells.reply, legal-logs sheet es more (account_after_entry sheet a e run) b logs legal)

table-answer : (a : Account) (event : Event) (answer : Answer) → (after_answer a event answer).table ≡ a.table
table-answer a (happens.Ask caller op p) answer = refl
table-answer a e answer = refl

pub legal-course : (sheet : Sheet) (a : Account) (steps : List Step) (told : List ToldStep) (final : Account)
    → Course sheet a steps told final → IsLegalFrom a.table (log_of (turns_told told))
legal-course sheet a [] [] final course = tt
legal-course sheet a [] (told ∷ more) final course = absurd course
legal-course sheet a (step ∷ steps) [] final course = absurd course
legal-course sheet a (Make event ∷ steps) (Made t ∷ more) final (next, by, course) =
    let onward = legal-course sheet next steps more final course in
    subst (λ (c : Contents). IsLegalFrom c (t.logged ++ log_of (turns_told more))) (table-answer a event t.answer)
    (legal-logs sheet t.logged (log_of (turns_told more)) (after_answer a event t.answer) next by.logs onward)
legal-course sheet a (Deliveries ∷ steps) (Drained turns n ∷ more) final (next, (entries, same, fits, logs), course) =
    let onward = legal-course sheet next steps more final course in
    subst (λ (ts : List Turn). IsLegalFrom a.table (log_of (ts ++ turns_told more))) (sym same)
    (legal-logs sheet entries (log_of (turns_told more)) a next logs onward)
legal-course sheet a (Look p run ∷ steps) (Shown stamp bytes ∷ more) final (next, by, course) =
    subst (λ (c : Account). IsLegalFrom c.table (log_of (turns_told more))) by.next_is
    (legal-course sheet next steps more final course)
legal-course sheet a (Look p run ∷ steps) (Lost ∷ more) final (next, by, course) =
    subst (λ (c : Account). IsLegalFrom c.table (log_of (turns_told more))) by
    (legal-course sheet next steps more final course)
legal-course sheet a (Look p run ∷ steps) (Down ∷ more) final (next, by, course) =
    subst (λ (c : Account). IsLegalFrom c.table (log_of (turns_told more))) by
    (legal-course sheet next steps more final course)
legal-course sheet a (Placing ∷ steps) (Placed runs ∷ more) final (next, by, course) =
    subst (λ (c : Account). IsLegalFrom c.table (log_of (turns_told more))) by.next_is
    (legal-course sheet next steps more final course)
legal-course sheet a (asked ∷ steps) (answer ∷ more) final (next, by, course) = absurd by

-- ---- every turn is right

abbrev pub EachRight : List Turn → List Turn → Type 0
EachRight before [] = Unit {0}
EachRight before (t ∷ ts) = TurnRight before t × EachRight (before ++ t ∷ []) ts

-- the turns are right, and an account stands for all of them
pub record AllRight (before turns : List Turn) : Type 0 where
  pub each : EachRight before turns
  pub account : Account
  pub stands : StandsFor account (before ++ turns)

one-right : (before : List Turn) (t : Turn) (ts : List Turn) → TurnRight before t → AllRight (before ++ t ∷ []) ts → AllRight before (t ∷ ts)
one-right before t ts right rest = record {
  each = (right, rest.each);
  account = rest.account;
  stands = subst (StandsFor rest.account) (append_assoc before (t ∷ []) ts) rest.stands;
}

few-more : (before : List Turn) (t : Turn) (n : ℕ) → length before + suc n < 2 ^ 64 → length (before ++ t ∷ []) + n < 2 ^ 64
few-more before t n few = omega (arith, few, length-append before (t ∷ []))

fewer : (before : List Turn) (n : ℕ) → length before + suc n < 2 ^ 64 → length before + n < 2 ^ 64
fewer before n few = omega (arith, few)

pub right-course : (sheet : Sheet) (a : Account) (steps : List Step) (told : List ToldStep) (final : Account)
    (before : List Turn) → FitSteps sheet.script.shape steps → length before + length steps < 2 ^ 64
    → StandsFor a before → Course sheet a steps told final → AllRight before (turns_told told)
right-course sheet a [] [] final before fits few s course = record { each = tt; account = a; stands = rw (append-nil before) s }
right-course sheet a [] (told ∷ more) final before fits few s course = absurd course
right-course sheet a (step ∷ steps) [] final before fits few s course = absurd course
right-course sheet a (Make event ∷ steps) (Made t ∷ more) final before (fit, fits) few s (next, by, course) =
    let mine : MadeBy sheet a t.event t next = subst (λ (e : Event). MadeBy sheet a e t next) (sym by.event_is) by in
    one-right before t (turns_told more)
    (turn-right sheet a t next before (subst (λ (e : Event). IsEventInRange e) (sym by.event_is) fit)
    (omega (arith, few)) s mine)
    (right-course sheet next steps more final (before ++ t ∷ []) fits (few-more before t (length steps) few)
    (stands-turn sheet a t.event t.answer t.logged next before s mine.logs) course)
right-course sheet a (Deliveries ∷ steps) (Drained turns n ∷ more) final before (fit, fits) few s (next, (entries, same, small, logs), course) =
    let t : Turn = delivered entries in
    let mine : MadeBy sheet a t.event t next = record { event_is = refl; can = refl; fits = tt; rest = []; plain = tt; right = tt; logs = logs } in
    subst (λ (ts : List Turn). AllRight before (ts ++ turns_told more)) (sym same)
    (one-right before t (turns_told more) (turn-right sheet a t next before tt (omega (arith, few)) s mine)
    (right-course sheet next steps more final (before ++ t ∷ []) fits (few-more before t (length steps) few)
    (stands-turn sheet a t.event t.answer t.logged next before s mine.logs) course))
right-course sheet a (Look p run ∷ steps) (Shown stamp bytes ∷ more) final before (fit, fits) few s (next, by, course) =
    right-course sheet next steps more final before fits (fewer before (length steps) few) (shown-stands a next before by.next_is s) course
  where
    shown-stands : (a next : Account) (before : List Turn) → next ≡ with_shown a → StandsFor a before → StandsFor next before
    shown-stands a next before same s = subst (λ (c : Account). StandsFor c before) (sym same)
        (record {
          many = s.many;
          starts = s.starts;
          asked = s.asked;
          called = λ j h name op ask. let c = s.called j h
              name op ask in record { call = c.call; is = c.is; op_is = c.op_is; taken = c.taken };
          logged = s.logged;
          once =
              s.once;
        })
right-course sheet a (Look p run ∷ steps) (Lost ∷ more) final before (fit, fits) few s (next, by, course) =
    right-course sheet next steps more final before fits (fewer before (length steps) few) (subst (λ (c : Account). StandsFor c before) (sym by) s) course
right-course sheet a (Look p run ∷ steps) (Down ∷ more) final before (fit, fits) few s (next, by, course) =
    right-course sheet next steps more final before fits (fewer before (length steps) few) (subst (λ (c : Account). StandsFor c before) (sym by) s) course
right-course sheet a (Placing ∷ steps) (Placed runs ∷ more) final before (fit, fits) few s (next, by, course) =
    right-course sheet next steps more final before fits (fewer before (length steps) few)
    (subst (λ (c : Account). StandsFor c before) (sym by.next_is) s) course
right-course sheet a (asked ∷ steps) (answer ∷ more) final before fits few s (next, by, course) = absurd by

-- ---- within their time

at-turn : (before turns : List Turn) (i : ℕ) (t : Turn) → EachRight before turns → slice_get turns i ≡ Some t → TurnRight (before ++ take i turns) t
at-turn before [] i t each is = cc is
at-turn before (u ∷ turns) zero t each is = let same : u ≡ t = cc is in subst (TurnRight (before ++ [])) same (rw (append-nil before) each.0)
at-turn before (u ∷ turns) (suc i) t each is = subst (λ (b : List Turn). TurnRight b t)
    (append_assoc before (u ∷ []) (take i turns)) (at-turn (before ++ u ∷ []) turns i t each.1 is)

take-next : {A : Type 0} (xs : List A) (i : ℕ) (x : A) → slice_get xs i ≡ Some x → take (suc i) xs ≡ take i xs ++ x ∷ []
take-next [] i x is = cc is
take-next (y ∷ xs) zero x is = let same : y ≡ x = cc is in cc same
take-next (y ∷ xs) (suc i) x is = let rest = take-next xs i x is in cc rest

get-take : {A : Type 0} (xs : List A) (n j : ℕ) (x : A) → slice_get (take n xs) j ≡ Some x → slice_get xs j ≡ Some x
get-take xs zero j x is = cc is
get-take [] (suc n) j x is = is
get-take (y ∷ xs) (suc n) zero x is = is
get-take (y ∷ xs) (suc n) (suc j) x is = get-take xs n j x is

take-take : {A : Type 0} (xs : List A) (n j : ℕ) → j ≤ n → take j (take n xs) ≡ take j xs
take-take xs n zero below = refl
take-take xs zero (suc j) below = absurd (omega (arith, below))
take-take [] (suc n) (suc j) below = refl
take-take (x ∷ xs) (suc n) (suc j) below = ap (λ (ys : List _). x ∷ ys) (take-take xs n j (omega (arith, below)))

length-take-le : {A : Type 0} (xs : List A) (n : ℕ) → length (take n xs) ≤ n
length-take-le xs zero = omega arith
length-take-le [] (suc n) = omega arith
length-take-le (x ∷ xs) (suc n) = let e = length-take-le xs n in omega (arith, e)

-- an ask among the first turns is one among all
ask-take : (turns : List Turn) (n j : ℕ) (t : Turn) (name : CallName) (op : Asked) → IsAsk (take n turns) j t name op → (j < n) × IsAsk turns j t name op
ask-take turns n j t name op ask =
    let within = get-within (take n turns) j t ask.there in
    let below = length-take-le turns n in
    let small : j < n = omega (arith, within, below) in (
      small,
      record {
        there = get-take turns n j t ask.there;
        at = ask.at;
        event = ask.event;
        place = ap (asks_of name.caller) (sym (take-take turns n j (omega (arith, small)))) ∙ ask.place;
      },
    )

not-taken : (answer : Answer) → ¬ (IsTaken answer) → takes_effect answer ≡ false
not-taken (answered.Reply reply) never = absurd (never (inl (reply, refl)))
not-taken (answered.Ticket n) never = absurd (never (inr (n, refl)))
not-taken answer never = refl

pub replies-within : (turns : List Turn) → AllRight [] turns → RepliesWithin turns
replies-within turns all = record {
  once = s.once;
  asked = λ i t e there within.
      let asked = (at-turn [] turns i t all.each there).asked e within in
      let lifted = ask-take turns (suc i) asked.0 asked.1 (name_of e) e.op
      (subst (λ (ts : List Turn). IsAsk ts asked.0 asked.1 (name_of e) e.op) (sym (take-next turns i t there))
      asked.2) in
      let small = lifted.0 in
      (asked.0, asked.1, omega (arith, small), lifted.1);
  at_once = λ i t name op reply ask answer_is. (at-turn [] turns i t all.each ask.there).at_once name op ask.at reply ask.event ask.place answer_is;
  later = λ i t name reply there fetches answer_is.
      let since = (at-turn [] turns i t all.each there).later name reply fetches answer_is in
      let next = take-next turns i t there in
      let lifted = ask-take turns (suc i) since.j since.ask name since.op
      (subst (λ (ts : List Turn). IsAsk ts since.j since.ask name since.op) (sym next) since.asked) in
      let small = lifted.0 in
      let one : i + 1 ≡ suc i = omega arith in
      record {
        op = since.op;
        j = since.j;
        ask = since.ask;
        asked = lifted.1;
        place = since.place;
        entry = rw (one, next) since.entry;
        since = subst (λ (ts : List Turn). length (log_of ts) ≤ since.place)
            (take-take turns (suc i) since.j (omega (arith, small)))
            (subst (λ (ts : List Turn). length (log_of (take since.j ts)) ≤ since.place) (sym next) since.since);
      };
  refused = λ i t name op e ask never within same.
      let head = ask-head turns i t name op ask in
      let called = s.called i head.0 name op head.1 in
      let at = get-contains (log_of turns) e within in
      let logged = subst (λ (n : CallName). call_named all.account n ≡ Some (call_with e (Some e.reply))) same (s.logged at.0 e at.1) in
      let calls = some_same called.call (call_with e (Some e.reply)) (sym called.is ∙ logged) in
      let no : takes_effect head.0.answer ≡ false = ap takes_effect head.2 ∙ not-taken t.answer never in
      cc (sym (ap (λ (c : Call). c.taken) calls) ∙ called.taken ∙ no);
}
  where
    s : StandsFor all.account turns
    s = all.stands
