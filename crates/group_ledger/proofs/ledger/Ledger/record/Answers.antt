use Rattle.std.proofs.Common.{ℕ, suc, ◌≡◌, ◌≤◌, ◌+◌, ◌++◌, List, All, length, sym, ap, subst, ◌∙◌, arith}
use Rattle.std.proofs.lemmas.Grind.{common_steps}
use Rattle.std.proofs.lemmas.List.{length-append, with_items_is}
use Rattle.std.specs.Vec.{with_items}
use Rattle.group_run.specs.World.{Ticket, asked_after}
use Rattle.group_ledger.specs.Accounts.{Accounts, accounts_of}
use Rattle.group_ledger.specs.Books.{AreTicketsOfAsked, Books, KeptBooks, call_in, recorded, settled_by}
use Rattle.group_ledger.proofs.Counts.{counts-after, counts-low}
use Rattle.group_ledger.proofs.Moved.{grown-is}
use Rattle.group_ledger.proofs.Partitions.{items_of}
use Rattle.group_ledger.proofs.Recorded.{IsRecorded, in-steps, stand-so, still-stand, tickets-differ}
use Rattle.group_ledger.proofs.ledger.Ledger.record.Goals as goal

pub enter-requires-clause-count : goal.enter-requires-clause-count
enter-requires-clause-count c =
    let few = ap (λ (v : KeptBooks). v.books.events) c.self.view_is in
    counts-low c.args.call c.deref_mut.result.now c.self.inside.events
    (subst (All (λ n. n ≤ c.self.inside.events)) (sym c.deref_mut.ensures.value) c.self.invariant.0.calls_low)
    (omega (arith, few, c.requires.events))

pub settle_all-requires-clause-differ : goal.settle_all-requires-clause-differ
settle_all-requires-clause-differ c =
    let inside : List Ticket = c.self.inside.tickets.items in
    tickets-differ c.args.self.now.books c.args.call c.args.answer.now c.args.settled.now
    (subst (λ (v : KeptBooks). AreTicketsOfAsked v.books.asked v.books.tickets) c.self.view_is c.self.invariant.0.tickets_stand)
    c.deref_mut.result.now c.self.inside.log.items (items_of c.self.inside.places.items) inside
    (record {
      asked_is = c.deref_mut.ensures.value ∙ ap (λ (v : KeptBooks). v.books.asked) c.self.view_is;
      log_is = ap (λ (v : KeptBooks). v.books.log) c.self.view_is;
      places_are = ap (λ (v : KeptBooks). v.books.places) c.self.view_is;
      tickets_are = ap (λ (v : KeptBooks). v.books.tickets) c.self.view_is;
    }) c.deref_mut-3.result.now (c.deref_mut-3.ensures.value ∙ c.enter.ensures.tickets)

-- what was recorded
books-now : (c : goal.After-len) → IsRecorded c.args.self.now.books (call_in c.args.self.now.books.asked c.args.call) c.args.answer.now c.args.settled.now
    c.enter.new.asked (accounts_of c.settle_all.new.log.items (items_of c.settle_all.new.places) c.settle_all.new.tickets)
books-now c =
    let long : length c.deref_mut-2.result.now ≡ length c.self.inside.places.items = ap length c.deref_mut-2.ensures.value in
    let wide : length c.deref_mut-2.result.now ≡ c.args.self.now.books.shape.k
    = long ∙ c.self.invariant.0.partitions_all ∙ ap (λ (v : KeptBooks). v.books.shape.k) c.self.view_is in
    in-steps c.args.self.now.books c.args.call c.args.answer.now c.args.settled.now
    (subst (λ (v : KeptBooks). AreTicketsOfAsked v.books.asked v.books.tickets) c.self.view_is c.self.invariant.0.tickets_stand)
    c.deref_mut.result.now c.self.inside.log.items (items_of c.deref_mut-2.result.now) c.self.inside.tickets.items
    (record {
      asked_is = c.deref_mut.ensures.value ∙ ap (λ (v : KeptBooks). v.books.asked) c.self.view_is;
      log_is = ap (λ (v : KeptBooks). v.books.log) c.self.view_is;
      places_are = ap items_of c.deref_mut-2.ensures.value ∙ ap (λ (v : KeptBooks). v.books.places) c.self.view_is;
      tickets_are = ap (λ (v : KeptBooks). v.books.tickets) c.self.view_is;
    }) c.requires.once c.enter.new.asked c.enter.ensures.asked c.enter.new.log.items c.enter.ensures.log
    c.deref_mut-3.result.now (c.deref_mut-3.ensures.value ∙ c.enter.ensures.tickets)
    (length c.deref_mut-2.result.now) wide _ c.settle_all.ensures.accounts

log-now : (c : goal.After-len) → c.settle_all.new.log.items ≡ c.args.self.now.books.log
    ++ (settled_by (call_in c.args.self.now.books.asked c.args.call) c.args.answer.now c.args.settled.now c.args.self.now.books).logged
log-now c = ap (λ (a : Accounts). a.log) (books-now c).accounts_are ∙ grown-is c.args.self.now.books.log _

-- how long the log was, and is
grows : (c : goal.After-len) → c.len.result ≡ c.len-before.result
    + length (settled_by (call_in c.args.self.now.books.asked c.args.call) c.args.answer.now c.args.settled.now c.args.self.now.books).logged
grows c =
    let before : c.len-before.result ≡ length c.self.inside.log.items = grind (arith, common_steps) in
    let read = ap (λ (v : KeptBooks). length v.books.log) c.self.view_is in
    let now : c.len.result ≡ length c.settle_all.new.log.items = grind (arith, common_steps) in
    let total = ap length (log-now c) ∙ length-append c.args.self.now.books.log _ in
    omega (arith, before, read, now, total)

pub overflow_sub-result : goal.overflow_sub-result
overflow_sub-result c = let more = grows c in omega (arith, more)

asked-now : (c : goal.After-len) → (with_items c.self.inside.asked c.enter.new.asked).items
    ≡ asked_after c.args.self.now.books.asked (call_in c.args.self.now.books.asked c.args.call)
asked-now c = with_items_is c.self.inside.asked c.enter.new.asked (grind (arith, common_steps)) ∙ (books-now c).asked_is

tickets-now : (c : goal.After-len) → (with_items c.enter.new.tickets c.settle_all.new.tickets).items
    ≡ (recorded (call_in c.args.self.now.books.asked c.args.call) c.args.answer.now c.args.settled.now c.args.self.now.books).tickets
tickets-now c = with_items_is c.enter.new.tickets c.settle_all.new.tickets (grind (arith, common_steps))
    ∙ ap (λ (a : Accounts). a.tickets) (books-now c).accounts_are

pub invariant_of-self : goal.invariant_of-self
invariant_of-self c =
    let b : Books = c.args.self.now.books in
    let counts = with_items_is c.self.inside.asked c.enter.new.asked (grind (arith, common_steps)) ∙ c.enter.ensures.asked
    ∙ ap (λ (xs : List ℕ). asked_after xs (call_in xs c.args.call)) c.deref_mut.ensures.value in
    let many = ap length (with_items_is c.self.inside.places c.settle_all.new.places (grind (arith, common_steps))) ∙ c.settle_all.ensures.many
    ∙ ap length c.deref_mut-2.ensures.value in
    let after = counts-after c.args.call c.self.inside.events c.self.inside.asked.items c.requires.caller
    c.self.invariant.0.callers_all c.self.invariant.0.calls_low in
    let stand : AreTicketsOfAsked b.asked b.tickets =
    subst (λ (v : KeptBooks). AreTicketsOfAsked v.books.asked v.books.tickets) c.self.view_is c.self.invariant.0.tickets_stand in (
      record {
        callers_all = ap length counts ∙ after.0;
        calls_low = subst (All (λ n. n ≤ c.self.inside.events + 1)) (sym counts) after.1;
        partitions_all = many ∙ c.self.invariant.0.partitions_all;
        tickets_stand = stand-so _ _ _ _ (asked-now c) (tickets-now c) (still-stand b c.args.call c.args.answer.now c.args.settled.now stand);
      },
      grind (arith, common_steps),
      (λ k d below. grind (arith, common_steps)),
      (λ none. absurd (omega (arith, none))),
    )

pub returns-clause-books : goal.returns-clause-books
returns-clause-books c =
    let made = books-now c in
    let asked-is = asked-now c in
    let places-are = ap items_of (with_items_is c.self.inside.places c.settle_all.new.places (grind (arith, common_steps)))
    ∙ ap (λ (a : Accounts). a.places) made.accounts_are in
    let tickets-are = tickets-now c in
    let log-is = ap (λ (a : Accounts). a.log) made.accounts_are in
    let events-are : c.self.inside.events + 1 ≡ suc c.args.self.now.books.events = let same =
    ap (λ (v : KeptBooks). v.books.events) c.self.view_is in omega (arith, same) in
    let shape-is = ap (λ (v : KeptBooks). v.books.shape) c.self.view_is in
    λ i. record { shape = shape-is i; events = events-are i; asked = asked-is i; log = log-is i; places = places-are i; tickets = tickets-are i }

pub returns-clause-logged : goal.returns-clause-logged
returns-clause-logged c = let more = grows c in omega (arith, more)
