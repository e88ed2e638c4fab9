-- Ops that move out of their tickets one after another are those that the machine moves at once.
use Rattle.std.proofs.Common.{ℕ, suc, ◌≡◌, ◌≢◌, ◌||◌, Bool, true, false, List, [], ◌∷◌, ◌++◌, Option, Some, None}
use Rattle.std.proofs.Common.{length, map, get_or, refl, sym, ap, subst, ◌∙◌, arith, if◌then◌else◌}
use Rattle.std.proofs.lemmas.List.{append-nil, append_assoc, get_or_append_left, length-append}
use Rattle.std.proofs.lemmas.List.Folds.{list_any-append}
use Rattle.std.specs.List.{list_any}
use Rattle.group_types.specs.Lists.{at, put}
use Rattle.group_types.specs.declared.run.Run.{Run}
use Rattle.memc_table.specs.Asked.{Asked}
use Rattle.group_message.specs.declared.update.Update.{Update}
use Rattle.group_calls.specs.Turns.{CallName, call_entry, name_of}
use Rattle.group_calls.specs.declared.entry.Entry.{Entry}
use Rattle.group_run.specs.Applying.{Settlement}
use Rattle.group_run.specs.Asking.{reply_from}
use Rattle.group_run.specs.World.{Ledger, Ticket, entries_for, entry_then, grown, ledger_after, ledger_with, op_in, op_moved, ops_moved, same_call, update_name}
use Rattle.group_ledger.specs.Accounts.{Accounts, accounts_after, accounts_of, news_of, update_runs, with_news}
use Rattle.group_ledger.specs.Books.{Once}
use Rattle.group_ledger.specs.Taking.{Differ, entries_taken, op_taken, ops_taken}
use Rattle.group_ledger.proofs.Calls.{same-is, same-not}
use Rattle.group_ledger.proofs.Taken.{differ-rest, none-behind, none-taken, other-kept, own-taken}
use Rattle.group_ledger.proofs.Settled.{differ-map}

-- whether an entry is of a call
abbrev pub is_among : CallName → List Entry → Bool
is_among name es = list_any (λ e. same_call (name_of e) name) es

-- the tickets after the ops of these entries moved into the log
abbrev pub moved : List Entry → List Ticket → List Ticket
moved es ts = map (op_moved es) ts

cleared : Bool → Ticket → Ticket
cleared b t = if b then record t { op = None } else t

-- the lists are empty together
pub moved-none : (ts : List Ticket) → moved [] ts ≡ ts
moved-none [] = refl
moved-none (t ∷ ts) = ap (λ (xs : List Ticket). t ∷ xs) (moved-none ts)

pub moved-at-once : (es : List Entry) (ts : List Ticket) → moved es ts ≡ ops_moved es ts
moved-at-once [] ts = moved-none ts
moved-at-once (e ∷ es) ts = refl

-- one more op moves
one-more : (es : List Entry) (e : Entry) (t : Ticket) → op_taken (name_of e) (op_moved es t) ≡ op_moved (es ++ e ∷ []) t
one-more es e t = by (is_among t.name es) (same_call (name_of e) t.name) refl refl where
  both : (a b : Bool) → is_among t.name es ≡ a → same_call (name_of e) t.name ≡ b → is_among t.name (es ++ e ∷ []) ≡ (a || (b || false))
  both a b x y = list_any-append (λ e. same_call (name_of e) t.name) es (e ∷ [])
      ∙ ap (λ (v : Bool). v || (same_call (name_of e) t.name || false)) x ∙ ap (λ (v : Bool). a || (v || false)) y

  by : (a b : Bool) → is_among t.name es ≡ a → same_call (name_of e) t.name ≡ b → op_taken (name_of e) (op_moved es t) ≡ op_moved (es ++ e ∷ []) t
  by true true x y =
      ap (λ (v : Bool). op_taken (name_of e) (if v then record t { op = None } else t)) x
      ∙ ap (λ (v : Bool). if v then record t { op = None } else record t { op = None }) y
      ∙ sym (ap (λ (v : Bool). if v then record t { op = None } else t) (both true true x y))
  by true false x y =
      ap (λ (v : Bool). op_taken (name_of e) (if v then record t { op = None } else t)) x
      ∙ ap (λ (v : Bool). if v then record t { op = None } else record t { op = None }) y
      ∙ sym (ap (λ (v : Bool). if v then record t { op = None } else t) (both true false x y))
  by false true x y =
      ap (λ (v : Bool). op_taken (name_of e) (if v then record t { op = None } else t)) x
      ∙ ap (λ (v : Bool). if v then record t { op = None } else t) y
      ∙ sym (ap (λ (v : Bool). if v then record t { op = None } else t) (both false true x y))
  by false false x y =
      ap (λ (v : Bool). op_taken (name_of e) (if v then record t { op = None } else t)) x
      ∙ ap (λ (v : Bool). if v then record t { op = None } else t) y
      ∙ sym (ap (λ (v : Bool). if v then record t { op = None } else t) (both false false x y))

pub moved-more : (es : List Entry) (e : Entry) (ts : List Ticket) → map (op_taken (name_of e)) (moved es ts) ≡ moved (es ++ e ∷ []) ts
moved-more es e [] = refl
moved-more es e (t ∷ ts) = ap (λ (x : Ticket). x ∷ map (op_taken (name_of e)) (moved es ts)) (one-more es e t)
    ∙ ap (λ (xs : List Ticket). op_moved (es ++ e ∷ []) t ∷ xs) (moved-more es e ts)

-- tickets keep their names
pub name-kept : (es : List Entry) (t : Ticket) → (op_moved es t).name ≡ t.name
name-kept es t = by (is_among t.name es) where
  by : (b : Bool) → (if b then record t { op = None } else t).name ≡ t.name
  by true = refl
  by false = refl

-- a moved ticket in front
op-first : (name : CallName) (es : List Entry) (t : Ticket) (ts : List Ticket)
    → op_in name (moved es (t ∷ ts)) ≡ (if same_call t.name name then (op_moved es t).op else op_in name (moved es ts))
op-first name es t ts = ap (λ (n : CallName). if same_call n name then (op_moved es t).op else op_in name (moved es ts)) (name-kept es t)

-- the op of a call that is in no entry is where it was
pub op-kept : (name : CallName) (es : List Entry) → is_among name es ≡ false → (ts : List Ticket) → op_in name (moved es ts) ≡ op_in name ts
op-kept name es fresh [] = refl
op-kept name es fresh (t ∷ ts) = op-first name es t ts ∙ by (same_call t.name name) refl (op-kept name es fresh ts) where
  by : (b : Bool) → same_call t.name name ≡ b → op_in name (moved es ts) ≡ op_in name ts
      → (if same_call t.name name then (op_moved es t).op else op_in name (moved es ts)) ≡ (if same_call t.name name then t.op else op_in name ts)
  by true own rest =
      ap (λ (v : Bool). if same_call t.name name then (if v then record t { op = None } else t).op else op_in name (moved es ts))
      (ap (λ (n : CallName). is_among n es) (same-is t.name name own) ∙ fresh)
      ∙ ap (λ (o : Option Asked). if same_call t.name name then t.op else o) rest
  by false other rest =
      ap (λ (v : Bool). if v then (op_moved es t).op else op_in name (moved es ts)) other ∙ rest
      ∙ sym (ap (λ (v : Bool). if v then t.op else op_in name ts) other)

-- a call without an op has none later
still-none : (es : List Entry) (t : Ticket) → t.op ≡ None → (op_moved es t).op ≡ None
still-none es t none = by (is_among t.name es) where
  by : (b : Bool) → (if b then record t { op = None } else t).op ≡ None
  by true = refl
  by false = none

op-none : (name : CallName) (es : List Entry) (ts : List Ticket) → op_in name ts ≡ None → op_in name (moved es ts) ≡ None
op-none name es [] none = refl
op-none name es (t ∷ ts) none = op-first name es t ts ∙ by (same_call t.name name) refl (op-none name es ts) where
  by : (b : Bool) → same_call t.name name ≡ b → (op_in name ts ≡ None → op_in name (moved es ts) ≡ None)
      → (if same_call t.name name then (op_moved es t).op else op_in name (moved es ts)) ≡ None
  by true own rest =
      ap (λ (v : Bool). if v then (op_moved es t).op else op_in name (moved es ts)) own
      ∙ still-none es t (sym (ap (λ (v : Bool). if v then t.op else op_in name ts) own) ∙ none)
  by false other rest =
      ap (λ (v : Bool). if v then (op_moved es t).op else op_in name (moved es ts)) other
      ∙ rest (sym (ap (λ (v : Bool). if v then t.op else op_in name ts) other) ∙ none)

-- where a call has no op, none is taken
nothing-taken : (name : CallName) (ts : List Ticket) → Differ ts → op_in name ts ≡ None → map (op_taken name) ts ≡ ts
nothing-taken name [] differ none = refl
nothing-taken name (t ∷ ts) differ none = by (same_call t.name name) refl (nothing-taken name ts (differ-rest t ts differ)) where
  by : (b : Bool) → same_call t.name name ≡ b → (op_in name ts ≡ None → map (op_taken name) ts ≡ ts) → map (op_taken name) (t ∷ ts) ≡ t ∷ ts
  by true own rest =
      let gone : t.op ≡ None = sym (ap (λ (v : Bool). if v then t.op else op_in name ts) own) ∙ none in
      ap (λ (x : Ticket). x ∷ map (op_taken name) ts) (own-taken name t own ∙ ap (λ (o : Option Asked). record t { op = o }) (sym gone))
      ∙ ap (λ (xs : List Ticket). t ∷ xs) (none-taken name ts (none-behind name t ts differ own))
  by false other rest =
      ap (λ (x : Ticket). x ∷ map (op_taken name) ts) (other-kept name t other)
      ∙ ap (λ (xs : List Ticket). t ∷ xs) (rest (sym (ap (λ (v : Bool). if v then t.op else op_in name ts) other) ∙ none))

-- an entry behind others is of another call
behind-at : (xs : List Entry) (e : Entry) (rest : List Entry) (d : Entry) → get_or (xs ++ e ∷ rest) (length xs) d ≡ e
behind-at [] e rest d = refl
behind-at (x ∷ xs) e rest d = behind-at xs e rest d

once-rest : (x : Entry) (xs : List Entry) → Once (x ∷ xs) → Once xs
once-rest x xs once i j d before below = once (suc i) (suc j) d (omega (arith, before)) (omega (arith, below))

fresh-behind : (xs : List Entry) (e : Entry) (rest : List Entry) → Once (xs ++ e ∷ rest) → is_among (name_of e) xs ≡ false
fresh-behind [] e rest once = refl
fresh-behind (x ∷ xs) e rest once =
    let long = length-append xs (e ∷ rest) in
    let other : name_of x ≢ name_of e
    = λ same. once 0 (suc (length xs)) x (omega arith) (omega (arith, long)) (same ∙ ap name_of (sym (behind-at xs e rest x))) in
    ap (λ (v : Bool). v || is_among (name_of e) xs) (same-not (name_of x) (name_of e) other) ∙ fresh-behind xs e rest (once-rest x (xs ++ e ∷ rest) once)

pub grown-is : {X : Type 0} (xs ys : List X) → grown xs ys ≡ xs ++ ys
grown-is xs [] = sym (append-nil xs)
grown-is xs (y ∷ ys) = refl

-- settled updates, one after the other, after these entries: the machine's entries, and its tickets
record Moves (ts : List Ticket) (us : List Update) (es : List Entry) : Type 0 where
  entries : entries_taken (moved es ts) us ≡ entries_for ts us
  tickets : ops_taken us (moved es ts) ≡ moved (es ++ entries_for ts us) ts

module _ (ts : List Ticket) (differ : Differ ts) where
  moves-one : (u : Update) (us : List Update) (es : List Entry) → ((fs : List Entry) → Once (fs ++ entries_for ts us) → Moves ts us fs)
      → (o : Option Asked) → op_in (update_name u) ts ≡ o → Once (es ++ entries_for ts (u ∷ us)) → Moves ts (u ∷ us) es
  moves-one u us es rest None none once =
      let name : CallName = update_name u in
      let is : entries_for ts (u ∷ us) ≡ entries_for ts us = ap (λ (o : Option Asked). entry_then u o (entries_for ts us)) none in
      let later : op_in name (moved es ts) ≡ None = op-none name es ts none in
      let same : map (op_taken name) (moved es ts) ≡ moved es ts = nothing-taken name (moved es ts) (differ-map (op_moved es) (name-kept es) ts differ) later in
      let made : Moves ts us es = rest es (subst (λ (fs : List Entry). Once (es ++ fs)) is once) in
      record {
        entries = ap (λ (o : Option Asked). entry_then u o (entries_taken (map (op_taken name) (moved es ts)) us)) later
            ∙ ap (λ (xs : List Ticket). entries_taken xs us) same ∙ made.entries ∙ sym is;
        tickets = ap (ops_taken us) same ∙ made.tickets ∙ sym (ap (λ (fs : List Entry). moved (es ++ fs) ts) is);
      }
  moves-one u us es rest (Some op) some once =
      let name : CallName = update_name u in
      let e : Entry = call_entry name op (reply_from u.outcome) in
      let is : entries_for ts (u ∷ us) ≡ e ∷ entries_for ts us = ap (λ (o : Option Asked). entry_then u o (entries_for ts us)) some in
      let once2 : Once (es ++ e ∷ entries_for ts us) = subst (λ (fs : List Entry). Once (es ++ fs)) is once in
      let later : op_in name (moved es ts) ≡ Some op = op-kept name es (fresh-behind es e (entries_for ts us) once2) ts ∙ some in
      let more : map (op_taken name) (moved es ts) ≡ moved (es ++ e ∷ []) ts = moved-more es e ts in
      let joined : (es ++ e ∷ []) ++ entries_for ts us ≡ es ++ e ∷ entries_for ts us = append_assoc es (e ∷ []) (entries_for ts us) in
      let made : Moves ts us (es ++ e ∷ []) = rest (es ++ e ∷ []) (subst Once (sym joined) once2) in
      record {
        entries = ap (λ (o : Option Asked). entry_then u o (entries_taken (map (op_taken name) (moved es ts)) us)) later
            ∙ ap (λ (xs : List Ticket). e ∷ entries_taken xs us) more ∙ ap (λ (fs : List Entry). e ∷ fs) made.entries ∙ sym is;
        tickets = ap (ops_taken us) more ∙ made.tickets ∙ ap (λ (fs : List Entry). moved fs ts) joined ∙ sym (ap (λ (fs : List Entry). moved (es ++ fs) ts) is);
      }

  moves : (us : List Update) (es : List Entry) → Once (es ++ entries_for ts us) → Moves ts us es
  moves [] es once = record { entries = refl; tickets = ap (λ (fs : List Entry). moved fs ts) (sym (append-nil es)) }
  moves (u ∷ us) es once = moves-one u us es (moves us) (op_in (update_name u) ts) refl once

  -- the accounts of the machine's ledger, behind what the log had
  abbrev pub standing : List Entry → Ledger → Accounts
  standing before l = accounts_of (before ++ l.logged) l.places (moved l.logged ts)

  -- entries only come behind
  ledger-more : (settled : List Settlement) (ds : List ℕ) (l : Ledger) → (rest : List Entry) × ((ledger_after ts settled ds l).logged ≡ l.logged ++ rest)
  ledger-more settled [] l = ([], sym (append-nil l.logged))
  ledger-more settled (d ∷ ds) l =
      let news : List Update = news_of d (length (at [] l.places d)) settled in
      let more = ledger-more settled ds (ledger_with ts d news l) in (
        entries_for ts news ++ more.0,
        more.1 ∙ ap (λ (es : List Entry). es ++ more.0) (grown-is l.logged (entries_for ts news)) ∙ append_assoc l.logged (entries_for ts news) more.0,
      )

  once-front : (xs ys : List Entry) → Once (xs ++ ys) → Once xs
  once-front xs ys once i j d before below same =
      let long = length-append xs ys in
      once i j d before (omega (arith, below, long)) (ap name_of (get_or_append_left xs ys d i (omega (arith, before, below))) ∙ same
      ∙ sym (ap name_of (get_or_append_left xs ys d j below)))

  settles-one : (d : ℕ) (before : List Entry) (l : Ledger) (us : List Update) → Once (l.logged ++ entries_for ts us)
      → with_news d us (standing before l) ≡ standing before (ledger_with ts d us l)
  settles-one d before l us once =
      let made : Moves ts us l.logged = moves us l.logged once in
      let es : List Entry = entries_for ts us in
      let logged : grown l.logged es ≡ l.logged ++ es = grown-is l.logged es in
      let log-is : (before ++ l.logged) ++ entries_taken (moved l.logged ts) us ≡ before ++ grown l.logged es
      = append_assoc before l.logged (entries_taken (moved l.logged ts) us) ∙ ap (λ (fs : List Entry). before ++ (l.logged ++ fs)) made.entries
      ∙ sym (ap (λ (fs : List Entry). before ++ fs) logged) in
      let tickets-are : ops_taken us (moved l.logged ts) ≡ moved (grown l.logged es) ts = made.tickets ∙ sym (ap (λ (fs : List Entry). moved fs ts) logged) in
      let here : List (Option Run) = at [] l.places d in
      ap (λ (fs : List Entry). accounts_of fs (put [] l.places d (here ++ update_runs us)) (ops_taken us (moved l.logged ts))) log-is
      ∙ ap (λ (rs : List (Option Run)). accounts_of (before ++ grown l.logged es) (put [] l.places d rs) (ops_taken us (moved l.logged ts)))
      (sym (grown-is here (update_runs us)))
      ∙ ap (λ (xs : List Ticket). accounts_of (before ++ grown l.logged es) (put [] l.places d (grown here (update_runs us))) xs) tickets-are

  pub settles : (settled : List Settlement) (before : List Entry) (ds : List ℕ) (l : Ledger) → Once (ledger_after ts settled ds l).logged
      → accounts_after settled ds (standing before l) ≡ standing before (ledger_after ts settled ds l)
  settles settled before [] l once = refl
  settles settled before (d ∷ ds) l once =
      let us : List Update = news_of d (length (at [] l.places d)) settled in
      let next : Ledger = ledger_with ts d us l in
      let more = ledger-more settled ds next in
      let once2 : Once next.logged = once-front next.logged more.0 (subst Once more.1 once) in
      ap (accounts_after settled ds)
      (settles-one d before l us (subst Once (grown-is l.logged (entries_for ts us)) once2))
      ∙ settles settled before ds next once
