-- Each ticket is of a call that was asked, and no two are of one call.
use Rattle.std.proofs.Common.{ℕ, zero, suc, ◌≡◌, ◌≢◌, ◌<◌, ◌≤◌, Bool, true, false, List, [], ◌∷◌, ◌++◌, length, map}
use Rattle.std.proofs.Common.{All, AllPairs, Option, Some, None, ◌⊎◌, inl, inr, refl, sym, ap, subst, ◌∙◌, arith}
use Rattle.std.proofs.Common.{if◌then◌else◌}
use Rattle.std.proofs.lemmas.Bool.{cases_eq}
use Rattle.std.specs.List.{list_any}
use Rattle.group_types.specs.Lists.{at, put}
use Rattle.group_types.proofs.Lists.{at-put, at-put-other}
use Rattle.group_types.specs.Dimensions.{Dimensions}
use Rattle.group_types.specs.Each.{Each, EachTwo}
use Rattle.group_types.proofs.Eaches.{each-append, each-weaker, each_two-push}
use Rattle.group_calls.specs.Turns.{CallName, name_of}
use Rattle.group_calls.specs.declared.entry.Entry.{Entry}
use Rattle.group_calls.specs.declared.event.Answer.{Answer}
use Rattle.group_calls.specs.declared.event.Event.{Event}
use Rattle.group_calls.specs.declared.event.Event.TheVariants.{Ask, Collect, Deliver, Fail, Flush, Trace}
use Rattle.group_run.specs.Headline.{IsRun, MayCome}
use Rattle.group_run.specs.World.{AskedCall, Ticket, World, after, asked_after, call_of, group_step, is_issued, next_name}
use Rattle.group_run.specs.World.{op_moved, ops_moved, same_call, step, ticket_if, tickets_after}
use Rattle.law_log.specs.Book.{book_of, booked}
use Rattle.law_log.proofs.Books.{book-world, book_always}
use Rattle.law_answers.specs.Tickets.{TicketsAlways, TicketsStand}

-- the ticket is of a call that was asked
abbrev IsAsked : List ℕ → Ticket → Type 0
IsAsked asked t = t.name.call < at 0 asked t.name.caller

-- counts of asks only grow
asks-rise : (asked : List ℕ) (o : Option AskedCall) (caller : ℕ) → at 0 asked caller ≤ at 0 (asked_after asked o) caller
asks-rise asked None caller = omega arith
asks-rise asked (Some c) caller = by (cases_eq caller c.name.caller) where
  by : (caller ≡ c.name.caller) ⊎ (caller ≢ c.name.caller) → at 0 asked caller ≤ at 0 (put 0 asked c.name.caller (suc (at 0 asked c.name.caller))) caller
  by (inl same) =
      let now = at-put 0 0 asked c.name.caller (suc (at 0 asked c.name.caller)) in
      let here = ap (at 0 (put 0 asked c.name.caller (suc (at 0 asked c.name.caller)))) same in
      let before = ap (at 0 asked) same in
      omega (arith, now, here, before)
  by (inr other) = let is = at-put-other 0 asked c.name.caller caller (suc (at 0 asked c.name.caller)) other in omega (arith, is)

still-asked : (asked : List ℕ) (o : Option AskedCall) (tickets : List Ticket) → Each (IsAsked asked) tickets → Each (IsAsked (asked_after asked o)) tickets
still-asked asked o tickets all = each-weaker (IsAsked asked) (IsAsked (asked_after asked o))
    (λ t low. let rise = asks-rise asked o t.name.caller in omega (arith, low, rise)) tickets all

-- two tickets are of different calls
abbrev Differ : Ticket → Ticket → Type 0
Differ t u = t.name ≢ u.name

-- what is carried
record Stand (asked : List ℕ) (tickets : List Ticket) : Type 0 where
  each : Each (IsAsked asked) tickets
  two : EachTwo Differ tickets

-- a ticket for the next call of its caller
ticket-next : (w : World) (since : ℕ) (e : Event) (answer : Answer) → Stand w.asked w.tickets
    → Stand (asked_after w.asked (call_of w e)) (tickets_after since (call_of w e) answer w.tickets)
ticket-next w since (Ask caller op p) answer stand = by (is_issued answer) where
  c : AskedCall
  c = record { name = next_name w caller; op = op }

  after : List ℕ
  after = asked_after w.asked (Some c)

  old : Each (IsAsked after) w.tickets
  old = still-asked w.asked (Some c) w.tickets stand.each

  ticket : Ticket
  ticket = record { name = c.name; since = since; op = Some c.op }

  new : (t : Ticket) → IsAsked w.asked t → t.name ≢ c.name
  new t low same =
      let caller_is : t.name.caller ≡ caller = ap (λ (n : CallName). n.caller) same in
      let call_is : t.name.call ≡ at 0 w.asked caller = ap (λ (n : CallName). n.call) same in
      let count = ap (at 0 w.asked) caller_is in
      absurd (omega (arith, low, call_is, count))

  by : (b : Bool) → Stand after (ticket_if b since c w.tickets)
  by false = record { each = old; two = stand.two }
  by true = record {
    each = each-append (IsAsked after) w.tickets (ticket ∷ []) old (let now = at-put 0 0 w.asked caller (suc (at 0 w.asked caller)) in omega (arith, now), tt);
    two = each_two-push Differ w.tickets ticket stand.two (each-weaker (IsAsked w.asked) (λ t. Differ t ticket) new w.tickets stand.each);
  }
ticket-next w since (Collect caller call p) answer stand = stand
ticket-next w since (Deliver from to) answer stand = stand
ticket-next w since (Fail p keep) answer stand = stand
ticket-next w since (Flush p) answer stand = stand
ticket-next w since (Trace caller call d p) answer stand = stand

-- tickets keep their names
module _ (logged : List Entry) where
  name-kept : (t : Ticket) → (op_moved logged t).name ≡ t.name
  name-kept t = by (list_any (λ x. same_call (name_of x) t.name) logged) where
    by : (b : Bool) → (if b then record t { op = None } else t).name ≡ t.name
    by true = refl
    by false = refl

  each-moved : (P Q : Ticket → Type 0) → ((t : Ticket) → P t → Q (op_moved logged t)) → (tickets : List Ticket)
      → Each P tickets → Each Q (map (op_moved logged) tickets)
  each-moved P Q turns [] all = tt
  each-moved P Q turns (t ∷ ts) all = (turns t all.0, each-moved P Q turns ts all.1)

  two-moved : (tickets : List Ticket) → EachTwo Differ tickets → EachTwo Differ (map (op_moved logged) tickets)
  two-moved [] all = tt
  two-moved (t ∷ ts) all = (
    each-moved (Differ t) (Differ (op_moved logged t))
        (λ u other same. other (sym (name-kept t) ∙ same ∙ name-kept u)) ts all.0,
    two-moved ts all.1,
  )

  asked-moved : (asked : List ℕ) (t : Ticket) → IsAsked asked t → IsAsked asked (op_moved logged t)
  asked-moved asked t low = subst (λ (n : CallName). n.call < at 0 asked n.caller) (sym (name-kept t)) low

moved-stand : (asked : List ℕ) (logged : List Entry) (tickets : List Ticket) → Stand asked tickets → Stand asked (ops_moved logged tickets)
moved-stand asked [] tickets stand = stand
moved-stand asked (e ∷ es) tickets stand = record {
  each = each-moved (e ∷ es) (IsAsked asked) (IsAsked asked) (asked-moved (e ∷ es) asked) tickets stand.each;
  two = two-moved (e ∷ es) tickets stand.two;
}

-- in the library's words
all-asked : (asked : List ℕ) (tickets : List Ticket) → Each (IsAsked asked) tickets → All (λ t. t.name.call < at 0 asked t.name.caller) tickets
all-asked asked [] all k t below = absurd (omega (arith, below))
all-asked asked (x ∷ xs) all zero t below = all.0
all-asked asked (x ∷ xs) all (suc k) t below = all-asked asked xs all.1 k t (omega (arith, below))

all-differ-from : (x : Ticket) (xs : List Ticket) → Each (Differ x) xs → All (Differ x) xs
all-differ-from x [] all k t below = absurd (omega (arith, below))
all-differ-from x (y ∷ ys) all zero t below = all.0
all-differ-from x (y ∷ ys) all (suc k) t below = all-differ-from x ys all.1 k t (omega (arith, below))

all-differ : (tickets : List Ticket) → EachTwo Differ tickets → AllPairs (λ t u. t.name ≢ u.name) tickets
all-differ [] two i j t before below = absurd (omega (arith, below))
all-differ (x ∷ xs) two i zero t before below = absurd (omega (arith, before))
all-differ (x ∷ xs) two zero (suc j) t before below = all-differ-from x xs two.0 j t (omega (arith, below))
all-differ (x ∷ xs) two (suc i) (suc j) t before below = all-differ xs two.1 i j t (omega (arith, before)) (omega (arith, below))

-- along every run
stand-always : (s : Dimensions) (es : List Event) → IsRun s es → Stand (book_of s es).history.world.asked (book_of s es).history.world.tickets
stand-always s es run = book_always s (λ b. Stand b.history.world.asked b.history.world.tickets) (record { each = tt; two = tt }) next es run where
  next : (done : List Event) (e : Event) → IsRun s done → IsRun s (done ++ e ∷ []) → MayCome (after s done) e
      → Stand (book_of s done).history.world.asked (book_of s done).history.world.tickets
      → Stand (booked (book_of s done) e).history.world.asked (booked (book_of s done) e).history.world.tickets
  next done e ran more may stand =
      let w : World = (book_of s done).history.world in
      moved-stand (asked_after w.asked (call_of w e)) (step w e).turn.logged (tickets_after (length w.log) (call_of w e) (group_step w e).answer w.tickets)
      (ticket-next w (length w.log) e (group_step w e).answer stand)

pub tickets_always : TicketsAlways
tickets_always s es run = subst TicketsStand (book-world s es) (let stand = stand-always s es run in record {
  asked = all-asked (book_of s es).history.world.asked (book_of s es).history.world.tickets stand.each;
  differ = all-differ (book_of s es).history.world.tickets stand.two;
})
