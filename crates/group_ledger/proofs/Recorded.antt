-- What is recorded of an event is the machine's.
use Rattle.std.proofs.Common.{ℕ, suc, ◌≡◌, ◌≢◌, ◌<◌, ◌≤◌, ◌⊎◌, inl, inr, Bool, true, false, List, [], ◌∷◌, ◌++◌, Option}
use Rattle.std.proofs.Common.{Some, None, All, length, refl, sym, ap, subst, ◌∙◌, arith, if◌then◌else◌, ◌||◌}
use Rattle.std.proofs.lemmas.Bool.{cases_eq}
use Rattle.std.proofs.lemmas.List.Elements.{All-map, All-push, All-weaker}
use Rattle.std.proofs.lemmas.List.Quantifiers.{all_pairs_push}
use Rattle.std.specs.List.{range_with_len}
use Rattle.group_types.specs.Lists.{at, put}
use Rattle.group_types.proofs.Lists.{at-put, at-put-other}
use Rattle.group_types.specs.declared.run.Run.{Run}
use Rattle.memc_table.specs.declared.reply.Reply.{Reply}
use Rattle.group_calls.specs.Turns.{CallName, accepts, call_entry, name_of}
use Rattle.group_calls.specs.declared.entry.Entry.{Entry}
use Rattle.group_calls.specs.declared.event.Answer.{Answer}
use Rattle.group_calls.specs.declared.event.Answer.TheVariants as says
use Rattle.group_run.specs.Applying.{Settlement}
use Rattle.group_run.specs.World.{AskedCall, Ledger, Ticket, asked_after, grown, is_issued, logged_at_once, op_moved}
use Rattle.group_run.specs.World.{refusal_logged, same_call, ticket_if, tickets_after}
use Rattle.group_ledger.specs.Accounts.{Accounts, accounts_after, accounts_of}
use Rattle.group_ledger.specs.Books.{AreTicketsOfAsked, Books, Once, call_in, recorded, settled_by}
use Rattle.group_ledger.specs.Taking.{Differ}
use Rattle.group_ledger.specs.declared.entering.NewCall.{NewCall}
use Rattle.group_ledger.proofs.Calls.{same-not}
use Rattle.group_ledger.proofs.Moved.{grown-is, moved, moved-at-once, moved-none, name-kept, settles}
use Rattle.group_ledger.proofs.Settled.{differ-map}

-- no ticket is of the call
abbrev pub Fresh : Option AskedCall → List Ticket → Type 0
Fresh None ts = Unit {0}
Fresh (Some c) ts = All (λ t. t.name ≢ c.name) ts

pub fresh-call : (asked : List ℕ) (o : Option NewCall) (ts : List Ticket) → All (λ t. t.name.call < at 0 asked t.name.caller) ts → Fresh (call_in asked o) ts
fresh-call asked None ts all = tt
fresh-call asked (Some c) ts all = λ k d below same.
    let caller = ap (λ (n : CallName). at 0 asked n.caller) same in
    let call = ap (λ (n : CallName). n.call) same in
    let low = all k d below in
    omega (arith, caller, call, low)

-- an entry of a call without a ticket moves no op
moved-fresh : (e : Entry) (ts : List Ticket) → All (λ t. t.name ≢ name_of e) ts → moved (e ∷ []) ts ≡ ts
moved-fresh e [] fresh = refl
moved-fresh e (t ∷ ts) fresh =
    let other : same_call (name_of e) t.name ≡ false = same-not (name_of e) t.name (λ same. fresh 0 t (omega arith) (sym same)) in
    ap (λ (b : Bool). (if b || false then record t { op = None } else t) ∷ moved (e ∷ []) ts) other
    ∙ ap (λ (xs : List Ticket). t ∷ xs) (moved-fresh e ts (λ k d below. fresh (suc k) d (omega (arith, below))))

-- what is logged at once moves no op
refusal-moves : (since : ℕ) (c : AskedCall) (r : Reply) (ts : List Ticket) → All (λ t. t.name ≢ c.name) ts → (b : Bool)
    → moved (refusal_logged b c r) (ticket_if b since c ts) ≡ ticket_if b since c ts
refusal-moves since c r ts fresh true = moved-none (ticket_if true since c ts)
refusal-moves since c r ts fresh false = moved-fresh (call_entry c.name c.op r) ts fresh

pub at-once-moves : (since : ℕ) (o : Option AskedCall) (answer : Answer) (ts : List Ticket) → Fresh o ts
    → moved (logged_at_once o answer) (tickets_after since o answer ts) ≡ tickets_after since o answer ts
at-once-moves since None answer ts fresh = moved-none ts
at-once-moves since (Some c) (says.Reply r) ts fresh = refusal-moves since c r ts fresh (accepts r)
at-once-moves since (Some c) (says.Ticket n) ts fresh = moved-none (tickets_after since (Some c) (says.Ticket n) ts)
at-once-moves since (Some c) says.NotYet ts fresh = moved-none ts
at-once-moves since (Some c) says.NoSpace ts fresh = moved-none ts
at-once-moves since (Some c) (says.Retry _) ts fresh = moved-none ts
at-once-moves since (Some c) says.Moved ts fresh = moved-none ts
at-once-moves since (Some c) says.Lost ts fresh = moved-none ts
at-once-moves since (Some c) says.Down ts fresh = moved-none ts
at-once-moves since (Some c) says.Idle ts fresh = moved-none ts
at-once-moves since (Some c) says.Stranger ts fresh = moved-none ts
at-once-moves since (Some c) says.Done ts fresh = moved-none ts
at-once-moves since (Some c) says.AlreadyDead ts fresh = moved-none ts
at-once-moves since (Some c) says.Gone ts fresh = moved-none ts
at-once-moves since (Some c) (says.Stale _) ts fresh = moved-none ts

-- tickets differ, the new one too
ticket-differs : (b : Bool) (since : ℕ) (c : AskedCall) (ts : List Ticket) → Differ ts → All (λ t. t.name ≢ c.name) ts → Differ (ticket_if b since c ts)
ticket-differs true since c ts differ fresh = all_pairs_push (λ t u. t.name ≢ u.name) ts (record { name = c.name; since = since; op = Some c.op }) differ fresh
ticket-differs false since c ts differ fresh = differ

pub still-differ : (since : ℕ) (o : Option AskedCall) (answer : Answer) (ts : List Ticket) → Differ ts → Fresh o ts → Differ (tickets_after since o answer ts)
still-differ since None answer ts differ fresh = differ
still-differ since (Some c) answer ts differ fresh = ticket-differs (is_issued answer) since c ts differ fresh

-- the log, the places and the tickets of the books
abbrev pub accounts_in : Books → Accounts
accounts_in b = accounts_of b.log b.places b.tickets

pub accounts-are : (b : Books) (o : Option AskedCall) (answer : Answer) (settled : List Settlement) → Fresh o b.tickets → Differ b.tickets
    → Once (settled_by o answer settled b).logged
    → accounts_after settled (range_with_len 0 b.shape.k)
    (accounts_of (b.log ++ logged_at_once o answer) b.places (tickets_after (length b.log) o answer b.tickets))
    ≡ accounts_in (recorded o answer settled b)
accounts-are b o answer settled fresh differs once =
    let ts : List Ticket = tickets_after (length b.log) o answer b.tickets in
    let differ : Differ ts = still-differ (length b.log) o answer b.tickets differs fresh in
    let end : Ledger = settled_by o answer settled b in
    let ds : List ℕ = range_with_len 0 b.shape.k in
    ap (λ (xs : List Ticket). accounts_after settled ds (accounts_of (b.log ++ logged_at_once o answer) b.places xs))
    (sym (at-once-moves (length b.log) o answer b.tickets fresh))
    ∙ settles ts differ settled b.log ds (record { logged = logged_at_once o answer; places = b.places }) once
    ∙ ap (λ (es : List Entry). accounts_of es end.places (moved end.logged ts)) (sym (grown-is b.log end.logged))
    ∙ ap (λ (xs : List Ticket). accounts_of (grown b.log end.logged) end.places xs) (moved-at-once end.logged ts)

-- the same in steps: what a call made of them, and then what is settled
pub record IsRecorded (b : Books) (o : Option AskedCall) (answer : Answer) (settled : List Settlement) (asked : List ℕ) (a : Accounts) : Type 0 where
  pub asked_is : asked ≡ asked_after b.asked o
  pub accounts_are : a ≡ accounts_in (recorded o answer settled b)

-- what the books have, as it is read from a struct
pub record IsRead (b : Books) (asked : List ℕ) (log : List Entry) (places : List (List (Option Run))) (tickets : List Ticket) : Type 0 where
  pub asked_is : asked ≡ b.asked
  pub log_is : log ≡ b.log
  pub places_are : places ≡ b.places
  pub tickets_are : tickets ≡ b.tickets

module _ (b : Books) (c : Option NewCall) (answer : Answer) (settled : List Settlement) (stand : AreTicketsOfAsked b.asked b.tickets)
    (asked : List ℕ) (log : List Entry) (places : List (List (Option Run))) (tickets : List Ticket) (is : IsRead b asked log places tickets) where
  abbrev pub o : Option AskedCall
  o = call_in b.asked c

  same : call_in asked c ≡ o
  same = ap (λ (xs : List ℕ). call_in xs c) is.asked_is

  tickets-then : (tickets2 : List Ticket) → tickets2 ≡ tickets_after (length log) (call_in asked c) answer tickets
      → tickets2 ≡ tickets_after (length b.log) o answer b.tickets
  tickets-then tickets2 e = e ∙ ap (λ (es : List Entry). tickets_after (length es) (call_in asked c) answer tickets) is.log_is
      ∙ ap (λ (x : Option AskedCall). tickets_after (length b.log) x answer tickets) same ∙ ap (tickets_after (length b.log) o answer) is.tickets_are

  fresh : Fresh o b.tickets
  fresh = fresh-call b.asked c b.tickets stand.asked_all

  pub tickets-differ : (tickets2 : List Ticket) → tickets2 ≡ tickets_after (length log) (call_in asked c) answer tickets → Differ tickets2
  tickets-differ tickets2 e = subst Differ (sym (tickets-then tickets2 e)) (still-differ (length b.log) o answer b.tickets stand.differ fresh)

  pub in-steps : Once (settled_by o answer settled b).logged → (asked2 : List ℕ) → asked2 ≡ asked_after asked (call_in asked c)
      → (log2 : List Entry) → log2 ≡ log ++ logged_at_once (call_in asked c) answer
      → (tickets2 : List Ticket) → tickets2 ≡ tickets_after (length log) (call_in asked c) answer tickets
      → (k : ℕ) → k ≡ b.shape.k → (a : Accounts) → a ≡ accounts_after settled (range_with_len 0 k) (accounts_of log2 places tickets2)
      → IsRecorded b o answer settled asked2 a
  in-steps once asked2 counted log2 log-is tickets2 tickets-are k wide a a-is =
      let log-now : log2 ≡ b.log ++ logged_at_once o answer
      = log-is ∙ ap (λ (x : Option AskedCall). log ++ logged_at_once x answer) same ∙ ap (λ (es : List Entry). es ++ logged_at_once o answer) is.log_is in
      let ds : ℕ → List ℕ = λ n. range_with_len 0 n in
      record {
        asked_is = counted ∙ ap (λ (x : Option AskedCall). asked_after asked x) same ∙ ap (λ (xs : List ℕ). asked_after xs o) is.asked_is;
        accounts_are = a-is ∙ ap (λ (n : ℕ). accounts_after settled (ds n) (accounts_of log2 places tickets2)) wide
            ∙ ap (λ (es : List Entry). accounts_after settled (ds b.shape.k) (accounts_of es places tickets2)) log-now
            ∙ ap (λ (rs : List (List (Option Run))). accounts_after settled (ds b.shape.k)
            (accounts_of (b.log ++ logged_at_once o answer) rs tickets2)) is.places_are
            ∙ ap (λ (ts : List Ticket). accounts_after settled (ds b.shape.k) (accounts_of (b.log ++ logged_at_once o answer) b.places ts))
            (tickets-then tickets2 tickets-are)
            ∙ accounts-are b o answer settled fresh stand.differ once;
      }

-- tickets stand once an event is recorded
asks-rise : (asked : List ℕ) (o : Option AskedCall) (caller : ℕ) → at 0 asked caller ≤ at 0 (asked_after asked o) caller
asks-rise asked None caller = omega arith
asks-rise asked (Some c) caller = by (cases_eq caller c.name.caller) where
  by : (caller ≡ c.name.caller) ⊎ (caller ≢ c.name.caller) → at 0 asked caller ≤ at 0 (put 0 asked c.name.caller (suc (at 0 asked c.name.caller))) caller
  by (inl same) =
      let now = at-put 0 0 asked c.name.caller (suc (at 0 asked c.name.caller)) in
      let here = ap (at 0 (put 0 asked c.name.caller (suc (at 0 asked c.name.caller)))) same in
      let before = ap (at 0 asked) same in
      omega (arith, now, here, before)
  by (inr other) = let is = at-put-other 0 asked c.name.caller caller (suc (at 0 asked c.name.caller)) other in omega (arith, is)

-- a ticket of a call that was asked
abbrev IsAsked : List ℕ → Ticket → Type 0
IsAsked asked t = t.name.call < at 0 asked t.name.caller

ticket-asked : (b : Bool) (since : ℕ) (asked : List ℕ) (c : NewCall) (ts : List Ticket) → All (IsAsked asked) ts
    → All (IsAsked (asked_after asked (call_in asked (Some c))))
    (ticket_if b since (record { name = record { caller = c.caller; call = at 0 asked c.caller }; op = c.op }) ts)
ticket-asked b since asked c ts all = by b where
  old : All (IsAsked (asked_after asked (call_in asked (Some c)))) ts
  old = All-weaker (IsAsked asked) (IsAsked (asked_after asked (call_in asked (Some c))))
      (λ t low. let rise = asks-rise asked (call_in asked (Some c)) t.name.caller in omega (arith, low, rise)) ts all

  by : (b : Bool) → All (IsAsked (asked_after asked (call_in asked (Some c))))
      (ticket_if b since (record { name = record { caller = c.caller; call = at 0 asked c.caller }; op = c.op }) ts)
  by true = All-push (IsAsked (asked_after asked (call_in asked (Some c)))) ts _ old
      (let now = at-put 0 0 asked c.caller (suc (at 0 asked c.caller)) in omega (arith, now))
  by false = old

tickets-asked : (o : Option NewCall) (since : ℕ) (answer : Answer) (asked : List ℕ) (ts : List Ticket) → All (IsAsked asked) ts
    → All (IsAsked (asked_after asked (call_in asked o))) (tickets_after since (call_in asked o) answer ts)
tickets-asked None since answer asked ts all = all
tickets-asked (Some c) since answer asked ts all = ticket-asked (is_issued answer) since asked c ts all

moved-asked : (asked : List ℕ) (es : List Entry) (ts : List Ticket) → All (IsAsked asked) ts → All (IsAsked asked) (moved es ts)
moved-asked asked es ts all = All-map (IsAsked asked) (op_moved es) ts
    (All-weaker (IsAsked asked) (λ t. IsAsked asked (op_moved es t))
    (λ t low. subst (λ (n : CallName). n.call < at 0 asked n.caller) (sym (name-kept es t)) low) ts all)

pub still-stand : (b : Books) (c : Option NewCall) (answer : Answer) (settled : List Settlement) → AreTicketsOfAsked b.asked b.tickets
    → AreTicketsOfAsked (recorded (call_in b.asked c) answer settled b).asked (recorded (call_in b.asked c) answer settled b).tickets
still-stand b c answer settled stand =
    let es : List Entry = (settled_by (call_in b.asked c) answer settled b).logged in
    let ts : List Ticket = tickets_after (length b.log) (call_in b.asked c) answer b.tickets in
    subst (AreTicketsOfAsked (asked_after b.asked (call_in b.asked c))) (moved-at-once es ts) (record {
      asked_all = moved-asked (asked_after b.asked (call_in b.asked c)) es ts (tickets-asked c (length b.log) answer b.asked b.tickets stand.asked_all);
      differ = differ-map (op_moved es) (name-kept es) ts
          (still-differ (length b.log) (call_in b.asked c) answer b.tickets stand.differ (fresh-call b.asked c b.tickets stand.asked_all));
    })

pub stand-so : (asked asked2 : List ℕ) (tickets tickets2 : List Ticket) → asked2 ≡ asked → tickets2 ≡ tickets → AreTicketsOfAsked asked tickets
    → AreTicketsOfAsked asked2 tickets2
stand-so asked asked2 tickets tickets2 asked-is tickets-are stand =
    subst (λ (xs : List ℕ). AreTicketsOfAsked xs tickets2) (sym asked-is) (subst (AreTicketsOfAsked asked) (sym tickets-are) stand)

pub stand-none : (asked : List ℕ) (tickets : List Ticket) → tickets ≡ [] → AreTicketsOfAsked asked tickets
stand-none asked tickets none = stand-so asked asked [] tickets refl none (record {
  asked_all = λ k d below. absurd (omega (arith, below));
  differ = λ i j d before below same. omega (arith, below);
})
