-- What an event logs: entries of calls whose op waits in a ticket, and that of its own call.
use Rattle.std.proofs.Common.{ℕ, ◌≡◌, Bool, true, false, ◌||◌, List, [], ◌∷◌, ◌++◌, length, map, ◌⊎◌, inl, inr, Option}
use Rattle.std.proofs.Common.{Some, None, if◌then◌else◌, refl, sym, ap, subst, ◌∙◌}
use Rattle.std.specs.List.{list_any, range_with_len}
use Rattle.memc_table.specs.Asked.{Asked}
use Rattle.memc_table.specs.declared.reply.Reply.{Reply}
use Rattle.group_message.specs.declared.update.Update.{Update}
use Rattle.group_calls.specs.Turns.{CallName, accepts, call_entry, name_of}
use Rattle.group_calls.specs.declared.entry.Entry.{Entry}
use Rattle.group_calls.specs.declared.event.Answer.{Answer}
use Rattle.group_calls.specs.declared.event.Answer.TheVariants as says
use Rattle.group_calls.specs.declared.event.Event.{Event}
use Rattle.group_calls.specs.declared.event.Event.TheVariants.{Ask}
use Rattle.group_run.specs.Applying.{Settlement}
use Rattle.group_run.specs.Asking.{reply_from}
use Rattle.group_run.specs.World.{AskedCall, Ledger, Ticket, World, call_of, entries_for, entry_then, group_step}
use Rattle.group_run.specs.World.{ledger_after, ledger_with, logged_at_once, new_ones, next_name, op_in, op_moved}
use Rattle.group_run.specs.World.{ops_moved, refusal_logged, same_call, settled_in, step, ticket_if, tickets_after}
use Rattle.group_run.specs.World.{update_name, is_issued}
use Rattle.group_types.specs.declared.process.ProcessId.{ProcessId}
use Rattle.law_log.proofs.Ties.{is_logged}
use Rattle.law_moves.proofs.Reading.{grown-is}
use Rattle.group_types.specs.Each.{Each}
use Rattle.group_types.proofs.Eaches.{each-append}
use Rattle.law_log.proofs.Entries.{call-eq, call-refl}
use Rattle.group_types.specs.Lists.{at}

none-some : {X : Type 0} {x : X} → None ≡ Some x → ⊥
none-some is = cc is

some-same : {X : Type 0} {x y : X} → Some x ≡ Some y → x ≡ y
some-same is = cc is

abbrev no_op : Option Asked
no_op = None

each-never : {X : Type 0} (xs : List X) → Each (λ _. ⊥) xs → xs ≡ []
each-never [] all = refl
each-never (x ∷ xs) all = absurd all.0

-- no call's op waits to be logged
abbrev pub NoneWaits : List Ticket → Type 0
NoneWaits tickets = (name : CallName) (op : Asked) → op_in name tickets ≡ Some op → ⊥

-- only this call's op may wait
abbrev pub OneWaits : CallName → Asked → List Ticket → Type 0
OneWaits n asked tickets = (name : CallName) (op : Asked) → op_in name tickets ≡ Some op → (name ≡ n) × (op ≡ asked)

-- the entry is of this call
abbrev pub IsOf : CallName → Asked → Entry → Type 0
IsOf n asked e = (name_of e ≡ n) × (e.op ≡ asked)

-- entries that all have what each op that waits gives them
module _ (tickets : List Ticket) (P : Entry → Type 0) (of : (u : Update) (op : Asked) → op_in (update_name u) tickets
    ≡ Some op → P (call_entry (update_name u) op (reply_from u.outcome))) where
  entries-each : (us : List Update) → Each P (entries_for tickets us)
  entries-each [] = tt
  entries-each (u ∷ us) = by (op_in (update_name u) tickets) refl (entries-each us) where
    by : (o : Option Asked) → op_in (update_name u) tickets ≡ o → Each P (entries_for tickets us) → Each P (entry_then u o (entries_for tickets us))
    by None is rest = rest
    by (Some op) is rest = (of u op is, rest)

  ledger-each : (settled : List Settlement) (ds : List ℕ) (ledger : Ledger) → Each P ledger.logged → Each P (ledger_after tickets settled ds ledger).logged
  ledger-each settled [] ledger all = all
  ledger-each settled (d ∷ ds) ledger all =
      let news : List Update = new_ones (length (at [] ledger.places d)) (settled_in d settled) in
      ledger-each settled ds (ledger_with tickets d news ledger)
      (subst (Each P) (sym (grown-is ledger.logged (entries_for tickets news)))
      (each-append P ledger.logged (entries_for tickets news) all (entries-each news)))

-- the tickets of a step before ops move into the log
abbrev pub tickets_in : World → Event → List Ticket
tickets_in w e = tickets_after (length w.log) (call_of w e) (group_step w e).answer w.tickets

step-each : (w : World) (e : Event) (P : Entry → Type 0)
    → ((u : Update) (op : Asked) → op_in (update_name u) (tickets_in w e) ≡ Some op
    → P (call_entry (update_name u) op (reply_from u.outcome)))
    → Each P (logged_at_once (call_of w e) (group_step w e).answer) → Each P (step w e).turn.logged
step-each w e P of all = ledger-each (tickets_in w e) P of (group_step w e).settled (range_with_len 0 w.shape.k) _ all

-- ops that wait after an event waited before it
module _ (logged : List Entry) (name : CallName) (op : Asked) where
  map-waits : (ts : List Ticket) → op_in name (map (op_moved logged) ts) ≡ Some op → op_in name ts ≡ Some op
  map-waits [] is = is
  map-waits (t ∷ ts) is = by (list_any (λ e. same_call (name_of e) t.name) logged) (same_call t.name name) refl (map-waits ts) is where
    rest : Option Asked
    rest = op_in name (map (op_moved logged) ts)

    by : (b c : Bool) → same_call t.name name ≡ c → (rest ≡ Some op → op_in name ts ≡ Some op)
        → op_in name ((if b then record t { op = None } else t) ∷ map (op_moved logged) ts) ≡ Some op
        → op_in name (t ∷ ts) ≡ Some op
    by true true same more is = absurd (none-some (sym (ap (λ (x : Bool). if x then no_op else rest) same) ∙ is))
    by true false same more is = ap (λ (x : Bool). if x then t.op else op_in name ts) same ∙ more (sym (ap (λ (x : Bool). if x then no_op else rest) same) ∙ is)
    by false true same more is = ap (λ (x : Bool). if x then t.op else op_in name ts) same ∙ sym (ap (λ (x : Bool). if x then t.op else rest) same) ∙ is
    by false false same more is = ap (λ (x : Bool). if x then t.op else op_in name ts) same ∙ more (sym (ap (λ (x : Bool). if x then t.op else rest) same) ∙ is)

-- the op of a call whose entry is logged waits no more
map-done : (logged : List Entry) (n : CallName) (op : Asked) → is_logged logged n ≡ true → (ts : List Ticket) → op_in n (map (op_moved logged) ts) ≡ Some op → ⊥
map-done logged n op there [] is = none-some is
map-done logged n op there (t ∷ ts) is = by (same_call t.name n) refl (map-done logged n op there ts) where
  rest : Option Asked
  rest = op_in n (map (op_moved logged) ts)

  -- its ticket, whether its entry is among those that are logged
  at : (b c : Bool) → (c ≡ true → b ≡ true) → same_call t.name n ≡ c → (rest ≡ Some op → ⊥)
      → op_in n ((if b then record t { op = None } else t) ∷ map (op_moved logged) ts) ≡ Some op → ⊥
  at true true both same more is = none-some (sym (ap (λ (x : Bool). if x then no_op else rest) same) ∙ is)
  at true false both same more is = more (sym (ap (λ (x : Bool). if x then no_op else rest) same) ∙ is)
  at false true both same more is = absurd (cc (both refl))
  at false false both same more is = more (sym (ap (λ (x : Bool). if x then t.op else rest) same) ∙ is)

  by : (c : Bool) → same_call t.name n ≡ c → (rest ≡ Some op → ⊥) → ⊥
  by c same more = at (is_logged logged t.name) c (λ yes. ap (is_logged logged) (call-eq t.name n (same ∙ yes)) ∙ there) same more is

moved-waits : (logged : List Entry) (ts : List Ticket) (name : CallName) (op : Asked) → op_in name (ops_moved logged ts) ≡ Some op → op_in name ts ≡ Some op
moved-waits [] ts name op is = is
moved-waits (e ∷ es) ts name op is = map-waits (e ∷ es) name op ts is

-- where one call's op may wait and its entry is logged, none waits behind
pub none-left : (n : CallName) (asked : Asked) (ts : List Ticket) (e : Entry) (es : List Entry) → OneWaits n asked ts
    → IsOf n asked e → NoneWaits (ops_moved (e ∷ es) ts)
none-left n asked ts e es one of name op is =
    let was = one name op (map-waits (e ∷ es) name op ts is) in
    let there : is_logged (e ∷ es) n ≡ true = ap (λ (x : CallName). same_call x n || is_logged es n) of.0
    ∙ ap (λ (b : Bool). b || is_logged es n) (call-refl n) in
    map-done (e ∷ es) n op there ts (ap (λ (x : CallName). op_in x (ops_moved (e ∷ es) ts)) (sym was.0) ∙ is)

-- a ticket behind others of which none has an op
pushed : (name : CallName) (op : Asked) (n : CallName) (asked : Asked) (since : ℕ) (ts : List Ticket)
    → (op_in name ts ≡ Some op → ⊥) → op_in name (ts ++ record { name = n; since = since; op = Some asked } ∷ [])
    ≡ Some op → (name ≡ n) × (op ≡ asked)
pushed name op n asked since [] none is = last (same_call n name) refl is where
  last : (c : Bool) → same_call n name ≡ c → (if c then Some asked else no_op) ≡ Some op → (name ≡ n) × (op ≡ asked)
  last true same is = (sym (call-eq n name same), sym (some-same is))
  last false same is = absurd (none-some is)
pushed name op n asked since (x ∷ xs) none is = at (same_call x.name name) refl (pushed name op n asked since xs) where
  more : List Ticket
  more = xs ++ record { name = n; since = since; op = Some asked } ∷ []

  at : (c : Bool) → same_call x.name name ≡ c → ((op_in name xs ≡ Some op → ⊥) → op_in name more ≡ Some op → (name ≡ n)
      × (op ≡ asked)) → (name ≡ n) × (op ≡ asked)
  at true same rest =
      absurd (none (ap (λ (b : Bool). if b then x.op else op_in name xs) same
      ∙ sym (ap (λ (b : Bool). if b then x.op else op_in name more) same) ∙ is))
  at false same rest = rest (λ there. none (ap (λ (b : Bool). if b then x.op else op_in name xs) same ∙ there))
      (sym (ap (λ (b : Bool). if b then x.op else op_in name more) same) ∙ is)

-- an event that asks nothing
module _ (w : World) (e : Event) (quiet : call_of w e ≡ None) where
  same-tickets : tickets_in w e ≡ w.tickets
  same-tickets = ap (λ (c : Option AskedCall). tickets_after (length w.log) c (group_step w e).answer w.tickets) quiet

  quiet-each : (P : Entry → Type 0)
      → ((u : Update) (op : Asked) → op_in (update_name u) w.tickets ≡ Some op
      → P (call_entry (update_name u) op (reply_from u.outcome))) → Each P (step w e).turn.logged
  quiet-each P of = step-each w e P (λ u op is. of u op (ap (op_in (update_name u)) (sym same-tickets) ∙ is))
      (subst (λ (c : Option AskedCall). Each P (logged_at_once c (group_step w e).answer)) (sym quiet) tt)

  -- logs nothing where no op waits
  pub quiet-none : NoneWaits w.tickets → (step w e).turn.logged ≡ []
  quiet-none none = each-never (step w e).turn.logged (quiet-each (λ _. ⊥) (λ u op is. none (update_name u) op is))

  -- and what waits after it waited before
  pub quiet-waits : (name : CallName) (op : Asked) → op_in name (step w e).world.tickets ≡ Some op → op_in name w.tickets ≡ Some op
  quiet-waits name op is = ap (op_in name) (sym same-tickets) ∙ moved-waits (step w e).turn.logged (tickets_in w e) name op is

  -- where one call's op waits, it logs entries of that call
  pub quiet-of : (n : CallName) (asked : Asked) → OneWaits n asked w.tickets → Each (IsOf n asked) (step w e).turn.logged
  quiet-of n asked one = quiet-each (IsOf n asked) (λ u op is. one (update_name u) op is)

  -- and none waits behind the entry of that call
  pub quiet-done : (n : CallName) (asked : Asked) → OneWaits n asked w.tickets → (x : Entry) (xs : List Entry)
      → (step w e).turn.logged ≡ x ∷ xs → NoneWaits (step w e).world.tickets
  quiet-done n asked one x xs is = subst (λ (es : List Entry). NoneWaits (ops_moved es (tickets_in w e))) (sym is)
      (none-left n asked (tickets_in w e) x xs
      (λ name op there. one name op (ap (op_in name) (sym same-tickets) ∙ there))
      (subst (Each (IsOf n asked)) is (quiet-of n asked one)).0)

-- an ask, where no op waits before it
module _ (w : World) (caller : ℕ) (asked : Asked) (p : ProcessId) (none : NoneWaits w.tickets) where
  abbrev n : CallName
  n = next_name w caller

  abbrev answer : Answer
  answer = (group_step w (Ask caller asked p)).answer

  ask-waits : (issued : Bool) → is_issued answer ≡ issued → OneWaits n asked (tickets_in w (Ask caller asked p))
  ask-waits issued said name op is = by issued refl where
    in_it : ticket_if issued (length w.log) (record { name = n; op = asked }) w.tickets ≡ tickets_in w (Ask caller asked p)
    in_it = ap (λ (b : Bool). ticket_if b (length w.log) (record { name = n; op = asked }) w.tickets) (sym said)

    by : (b : Bool) → issued ≡ b → (name ≡ n) × (op ≡ asked)
    by true sure = pushed name op n asked (length w.log) w.tickets (none name op)
        (ap (λ (b : Bool). op_in name (ticket_if b (length w.log) (record { name = n; op = asked }) w.tickets))
        (sym sure) ∙ ap (op_in name) in_it ∙ is)
    by false not =
        absurd (none name op
        (ap (λ (b : Bool). op_in name (ticket_if b (length w.log) (record { name = n; op = asked }) w.tickets))
        (sym not) ∙ ap (op_in name) in_it ∙ is))

  -- an ask logs entries of its own call alone, and no other op waits behind it
  logs-at-once : (a : Answer) → Each (IsOf n asked) (logged_at_once (call_of w (Ask caller asked p)) a)
  logs-at-once (says.Reply reply) = by (accepts reply) where
    by : (b : Bool) → Each (IsOf n asked) (refusal_logged b (record { name = n; op = asked }) reply)
    by true = tt
    by false = ((refl, refl), tt)
  logs-at-once (says.Ticket number) = tt
  logs-at-once says.NotYet = tt
  logs-at-once says.NoSpace = tt
  logs-at-once (says.Retry why) = tt
  logs-at-once says.Moved = tt
  logs-at-once says.Lost = tt
  logs-at-once says.Down = tt
  logs-at-once says.Idle = tt
  logs-at-once says.Stranger = tt
  logs-at-once says.Done = tt
  logs-at-once says.AlreadyDead = tt
  logs-at-once says.Gone = tt
  logs-at-once (says.Stale call) = tt

  pub ask-of : Each (IsOf n asked) (step w (Ask caller asked p)).turn.logged
  ask-of = step-each w (Ask caller asked p) (IsOf n asked) (λ u op is. ask-waits (is_issued answer) refl (update_name u) op is) (logs-at-once answer)

  pub ask-one : OneWaits n asked (step w (Ask caller asked p)).world.tickets
  ask-one name op is = ask-waits (is_issued answer) refl name op
      (moved-waits (step w (Ask caller asked p)).turn.logged (tickets_in w (Ask caller asked p)) name op is)

  -- the entry of its call is logged, so none waits
  pub ask-done : (e : Entry) (es : List Entry) → (step w (Ask caller asked p)).turn.logged ≡ e ∷ es → NoneWaits (step w (Ask caller asked p)).world.tickets
  ask-done e es is = subst (λ (xs : List Entry). NoneWaits (ops_moved xs (tickets_in w (Ask caller asked p)))) (sym is)
      (none-left n asked (tickets_in w (Ask caller asked p)) e es (ask-waits (is_issued answer) refl) (subst (Each (IsOf n asked)) is ask-of).0)

  -- where no update was issued and there is no reply, nothing is logged, and nothing waits
  pub ask-nothing : is_issued answer ≡ false → logged_at_once (call_of w (Ask caller asked p)) answer ≡ []
      → ((step w (Ask caller asked p)).turn.logged ≡ []) × NoneWaits (step w (Ask caller asked p)).world.tickets
  ask-nothing idle silent = (
    logs-none,
    λ name op is. waits-none name op
        (moved-waits (step w (Ask caller asked p)).turn.logged (tickets_in w (Ask caller asked p)) name op is),
  )
    where
      waits-none : NoneWaits (tickets_in w (Ask caller asked p))
      waits-none = subst (λ (b : Bool). NoneWaits (ticket_if b (length w.log) (record { name = n; op = asked }) w.tickets)) (sym idle) none

      logs-none : (step w (Ask caller asked p)).turn.logged ≡ []
      logs-none = each-never (step w (Ask caller asked p)).turn.logged
          (step-each w (Ask caller asked p) (λ _. ⊥) (λ u op is. waits-none (update_name u) op is)
          (subst (Each (λ _. ⊥)) (sym silent) tt))
