-- What is settled of a partition, one update after the other.
use Rattle.std.proofs.Common.{ℕ, suc, ◌≡◌, ◌<◌, ◌≤◌, ◌+◌, ◌==◌, ◌&&◌, nat_lt, Bool, true, false, List, [], ◌∷◌, ◌++◌}
use Rattle.std.proofs.Common.{Option, Some, None, length, map, drop, get_or, refl, sym, ap, subst, ◌∙◌, arith}
use Rattle.std.proofs.Common.{if◌then◌else◌}
use Rattle.std.proofs.lemmas.List.{append_assoc, get_or-map, length-append, length-map}
use Rattle.std.proofs.Math.Seq.{drop-cons}
use Rattle.group_types.specs.declared.run.Run.{Run}
use Rattle.memc_table.specs.Asked.{Asked}
use Rattle.group_message.specs.declared.update.Update.{Update}
use Rattle.group_calls.specs.Turns.{CallName}
use Rattle.group_calls.specs.declared.entry.Entry.{Entry}
use Rattle.group_run.specs.Applying.{Settlement}
use Rattle.group_run.specs.Replica.{run_of}
use Rattle.group_run.specs.World.{Ticket, entry_then, front_if, new_ones, op_in, same_call, settled_in, update_name}
use Rattle.group_ledger.specs.Accounts.{news_of, update_runs}
use Rattle.group_ledger.specs.Taking.{Differ, entries_taken, op_taken, ops_taken}

-- with what is left of a partition, these are the log, its places and the tickets in the end
pub record IsLeft (d count : ℕ) (rest : List Settlement) (log : List Entry) (places : List (Option Run)) (tickets : List Ticket)
    (log_then : List Entry) (places_then : List (Option Run)) (tickets_then : List Ticket) : Type 0 where
  pub log_is : log ++ entries_taken tickets (news_of d count rest) ≡ log_then
  pub places_are : places ++ update_runs (news_of d count rest) ≡ places_then
  pub tickets_are : ops_taken (news_of d count rest) tickets ≡ tickets_then
  pub differ : Differ tickets

-- an update is new, or it isn't
abbrev pub is_new : ℕ → ℕ → Settlement → Bool
is_new d count x = x.partition == d && nat_lt count x.update.number

new-in : (count : ℕ) (u : Update) (us : List Update) (b : Bool) → nat_lt count u.number ≡ b → new_ones count (u ∷ us) ≡ front_if b u (new_ones count us)
new-in count u us true high = ap (λ (b : Bool). if b then u ∷ new_ones count us else new_ones count us) high
new-in count u us false low = ap (λ (b : Bool). if b then u ∷ new_ones count us else new_ones count us) low

-- an update of the partition counts among those that are settled
pub new-counts : (d count : ℕ) (x : Settlement) (rest : List Settlement) → is_new d count x ≡ true
    → length (settled_in d (x ∷ rest)) ≡ suc (length (settled_in d rest))
new-counts d count x rest new = by (x.partition == d) refl new where
  by : (here : Bool) → (x.partition == d) ≡ here → (here && nat_lt count x.update.number) ≡ true
      → length (settled_in d (x ∷ rest)) ≡ suc (length (settled_in d rest))
  by true here new = ap (λ (b : Bool). length (front_if b x.update (settled_in d rest))) here
  by false here new = absurd (cc new)

pub entry-few : (u : Update) (op : Option Asked) (log : List Entry) → length (log ++ entry_then u op []) ≤ length log + 1
entry-few u None log = let is = length-append log [] in omega (arith, is)
entry-few u (Some op) log = let is = length-append log (entry_then u (Some op) []) in omega (arith, is)

pub new-first : (d count : ℕ) (x : Settlement) (rest : List Settlement) → is_new d count x ≡ true → news_of d count (x ∷ rest) ≡ x.update ∷ news_of d count rest
new-first d count x rest new = by (x.partition == d) (nat_lt count x.update.number) refl refl new where
  by : (here high : Bool) → (x.partition == d) ≡ here → nat_lt count x.update.number ≡ high → (here && high) ≡ true
      → news_of d count (x ∷ rest) ≡ x.update ∷ news_of d count rest
  by true true here high new =
      ap (λ (b : Bool). new_ones count (front_if b x.update (settled_in d rest))) here ∙ new-in count x.update (settled_in d rest) true high
  by true false here low new = absurd (cc new)
  by false high here e new = absurd (cc new)

-- tickets keep their names
name-kept : (name : CallName) (t : Ticket) → (op_taken name t).name ≡ t.name
name-kept name t = by (same_call name t.name) where
  by : (b : Bool) → (if b then record t { op = None } else t).name ≡ t.name
  by true = refl
  by false = refl

pub differ-map : (f : Ticket → Ticket) → ((t : Ticket) → (f t).name ≡ t.name) → (ts : List Ticket) → Differ ts → Differ (map f ts)
differ-map f kept ts differ i j d before below same =
    let long = length-map ts f in
    let at : (k : ℕ) → k < length ts → (get_or (map f ts) k d).name ≡ (get_or ts k d).name
    = λ k within. ap (λ (t : Ticket). t.name) (get_or-map f ts k d d within) ∙ kept (get_or ts k d) in
    differ i j d before (omega (arith, below, long)) (sym (at i (omega (arith, before, below, long))) ∙ same ∙ at j (omega (arith, below, long)))

differ-taken : (name : CallName) (ts : List Ticket) → Differ ts → Differ (map (op_taken name) ts)
differ-taken name ts differ = differ-map (op_taken name) (name-kept name) ts differ

entry-behind : (u : Update) (op : Option Asked) (log entries : List Entry) → (log ++ entry_then u op []) ++ entries ≡ log ++ entry_then u op entries
entry-behind u None log entries = append_assoc log [] entries
entry-behind u (Some op) log entries = append_assoc log _ entries

-- one more is settled
pub left-settled : (d count : ℕ) (from rest : List Settlement) (x : Settlement) (log log2 log_then : List Entry)
    (places places2 places_then : List (Option Run))
    (tickets tickets2 tickets_then : List Ticket) → from ≡ x ∷ rest → is_new d count x ≡ true
    → log2 ≡ log ++ entry_then x.update (op_in (update_name x.update) tickets) [] → places2 ≡ places ++ run_of x.update.body ∷ []
    → tickets2 ≡ map (op_taken (update_name x.update)) tickets
    → IsLeft d count from log places tickets log_then places_then tickets_then → IsLeft d count rest log2 places2 tickets2 log_then places_then tickets_then
left-settled d count from rest x log log2 log_then places places2 places_then tickets tickets2 tickets_then front new log-is places-are tickets-are left =
    let us : List Update = news_of d count rest in
    let u : Update = x.update in
    let news : news_of d count from ≡ u ∷ us = ap (news_of d count) front ∙ new-first d count x rest new in
    record {
      log_is = ap (λ (es : List Entry). es ++ entries_taken tickets2 us) log-is
          ∙ ap (λ (ts : List Ticket). (log ++ entry_then u (op_in (update_name u) tickets) []) ++ entries_taken ts us) tickets-are
          ∙ entry-behind u (op_in (update_name u) tickets) log (entries_taken (map (op_taken (update_name u)) tickets) us)
          ∙ sym (ap (λ (xs : List Update). log ++ entries_taken tickets xs) news) ∙ left.log_is;
      places_are = ap (λ (rs : List (Option Run)). rs ++ update_runs us) places-are ∙ append_assoc places (run_of u.body ∷ []) (update_runs us)
          ∙ sym (ap (λ (xs : List Update). places ++ update_runs xs) news) ∙ left.places_are;
      tickets_are = ap (ops_taken us) tickets-are ∙ sym (ap (λ (xs : List Update). ops_taken xs tickets) news) ∙ left.tickets_are;
      differ = subst Differ (sym tickets-are) (differ-taken (update_name u) tickets left.differ);
    }

-- what is left from a place on, the one at the place in front
pub drop-front : {X : Type 0} (xs : List X) (i : ℕ) (x : X) → i < length xs → x ≡ get_or xs i x → drop i xs ≡ x ∷ drop (i + 1) xs
drop-front xs i x within is =
    let more : suc i ≡ i + 1 = omega arith in
    drop-cons xs i x within ∙ ap (λ (n : ℕ). get_or xs i x ∷ drop n xs) more ∙ ap (λ (y : _). y ∷ drop (i + 1) xs) (sym is)
