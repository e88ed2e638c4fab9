-- What an event logs of the call that it asks has the op that was asked.
use Rattle.std.proofs.Common.{◌≡◌, ℕ, ◌<◌, ◌==◌, ◌&&◌, Bool, true, false, List, [], ◌∷◌, ◌++◌, Option, Some, None}
use Rattle.std.proofs.Common.{if◌then◌else◌, refl, sym, ap, subst, ◌∙◌, append-nil, arith}
use mathlib.Core.Bool.{false≢true}
use Rattle.std.proofs.lemmas.Option.{none-some}
use Rattle.std.specs.Option.{unwrap_or}
use Rattle.std.proofs.lemmas.Bool.Decides.{nat_tests}
use Rattle.std.specs.List.{range_with_len}
use Rattle.std.specs.Prelude.{All, length}
use Rattle.std.proofs.lemmas.List.Elements.{All-head, All-tail}
use Rattle.group_types.specs.Lists.{at}
use Rattle.group_types.specs.Each.{Each}
use Rattle.group_types.specs.declared.process.ProcessId.{ProcessId}
use Rattle.memc_table.specs.Asked.{Asked}
use Rattle.memc_table.specs.declared.reply.Reply.{Reply}
use Rattle.group_message.specs.declared.update.Update.{Update}
use Rattle.group_calls.specs.Turns.{CallName, accepts, call_entry, name_of}
use Rattle.group_calls.specs.declared.entry.Entry.{Entry}
use Rattle.group_calls.specs.declared.event.Answer.{Answer}
use Rattle.group_calls.specs.declared.event.Answer.TheVariants as says
use Rattle.group_calls.specs.declared.event.Event.TheVariants.{Ask}
use Rattle.group_run.specs.Asking.{reply_from}
use Rattle.group_run.specs.Applying.{Settlement}
use Rattle.group_run.specs.World.{Ledger, Ticket, World, call_of, entries_for, entry_then, group_step, grown, is_issued}
use Rattle.group_run.specs.World.{ledger_after, ledger_with, logged_at_once, new_ones, next_name, op_in, same_call}
use Rattle.group_run.specs.World.{settled_in, step, ticket_if, tickets_after, update_name, refusal_logged}

module _ (P : Entry → Type 0) (tickets : List Ticket) (holds : (name : CallName) (op : Asked) (reply : Reply)
    → op_in name tickets ≡ Some op → P (call_entry name op reply)) where
  for-settled : (us : List Update) → Each P (entries_for tickets us)
  for-settled [] = tt
  for-settled (u ∷ us) = by (op_in (update_name u) tickets) refl (for-settled us) where
    by : (found : Option Asked) → op_in (update_name u) tickets ≡ found → Each P (entries_for tickets us) → Each P (entry_then u found (entries_for tickets us))
    by None is rest = rest
    by (Some op) is rest = (holds (update_name u) op (reply_from u.outcome) is, rest)

  both : (xs ys : List Entry) → Each P xs → Each P ys → Each P (xs ++ ys)
  both [] ys all more = more
  both (x ∷ xs) ys (here, rest) more = (here, both xs ys rest more)

  for-grown : (xs ys : List Entry) → Each P xs → Each P ys → Each P (grown xs ys)
  for-grown xs [] all more = all
  for-grown xs (y ∷ ys) all more = both xs (y ∷ ys) all more

  pub for-ledger : (settled : List Settlement) (ds : List ℕ) (ledger : Ledger) → Each P ledger.logged → Each P (ledger_after tickets settled ds ledger).logged
  for-ledger settled [] ledger all = all
  for-ledger settled (d ∷ ds) ledger all =
      let news : List Update = new_ones (length (at [] ledger.places d)) (settled_in d settled) in
      for-ledger settled ds (ledger_with tickets d news ledger) (for-grown ledger.logged (entries_for tickets news) all (for-settled news))

same-name : (a b : CallName) → same_call a b ≡ true → (a.caller ≡ b.caller) × (a.call ≡ b.call)
same-name a b is = by (a.caller == b.caller) (a.call == b.call) refl refl is where
  by : (x y : Bool) → (a.caller == b.caller) ≡ x → (a.call == b.call) ≡ y → (x && y) ≡ true → (a.caller ≡ b.caller) × (a.call ≡ b.call)
  by true true x y both = (grind (arith, nat_tests), grind (arith, nat_tests))
  by true false x y both = absurd (false≢true both)
  by false z x y both = absurd (false≢true both)

-- an old ticket is of another call
module _ (w : World) (caller : ℕ) where
  abbrev pub IsOld : Ticket → Type 0
  IsOld t = t.name.call < at 0 w.asked t.name.caller

  other : (t : Ticket) → IsOld t → same_call t.name (next_name w caller) ≡ true → ⊥
  other t old same =
      let (caller_is, call_is) = same-name t.name (next_name w caller) same in
      let low : t.name.call < at 0 w.asked caller = subst (λ (n : ℕ). t.name.call < at 0 w.asked n) caller_is old in
      omega (arith, low, call_is)

  behind : (ts rest : List Ticket) → All IsOld ts → op_in (next_name w caller) (ts ++ rest) ≡ op_in (next_name w caller) rest
  behind [] rest old = refl
  behind (t ∷ ts) rest old = by (same_call t.name (next_name w caller)) refl (behind ts rest (All-tail IsOld t ts old)) where
    by : (b : Bool) → same_call t.name (next_name w caller) ≡ b → op_in (next_name w caller) (ts ++ rest) ≡ op_in (next_name w caller) rest
        → (if b then t.op else op_in (next_name w caller) (ts ++ rest)) ≡ op_in (next_name w caller) rest
    by true is later = absurd (other t (All-head IsOld t ts old) is)
    by false is later = later

  none : (ts : List Ticket) → All IsOld ts → op_in (next_name w caller) ts ≡ None
  none ts old = ap (op_in (next_name w caller)) (sym (append-nil ts)) ∙ behind ts [] old

  module _ (op : Asked) where
    -- an entry of the call has its op
    abbrev pub HasItsOp : Entry → Type 0
    HasItsOp entry = same_call (next_name w caller) (name_of entry) ≡ true → entry.op ≡ op

    only : (o : Asked) (b : Bool) → (if b then Some op else None) ≡ Some o → o ≡ op
    only o true is = same_Some is where
      same_Some : {x y : Asked} → Some x ≡ Some y → y ≡ x
      same_Some e = sym (ap (λ (m : Option Asked). unwrap_or m op) e)
    only o false is = absurd (none-some o is)

    has-its-op : (issued : Bool) (since : ℕ) → All IsOld w.tickets → (name : CallName) (o : Asked) (reply : Reply)
        → op_in name (ticket_if issued since (record { name = next_name w caller; op = op }) w.tickets) ≡ Some o → HasItsOp (call_entry name o reply)
    has-its-op issued since old name o reply found same =
        by issued (subst
        (λ (n : CallName). op_in n (ticket_if issued since (record { name = next_name w caller; op = op }) w.tickets)
        ≡ Some o) name_is found) where
          name_is : name ≡ next_name w caller
          name_is = let (caller_is, call_is) = same-name (next_name w caller) name same in λ i. record { caller = sym caller_is i; call = sym call_is i }

          by : (b : Bool) → op_in (next_name w caller) (ticket_if b since (record { name = next_name w caller; op = op }) w.tickets) ≡ Some o → o ≡ op
          by true is = only o (same_call (next_name w caller) (next_name w caller)) (sym (behind w.tickets _ old) ∙ is)
          by false is = absurd (none-some o (sym (none w.tickets old) ∙ is))

    at-once : (answer : Answer) → Each HasItsOp (logged_at_once (Some (record { name = next_name w caller; op = op })) answer)
    at-once (says.Reply reply) = by (accepts reply) where
      by : (b : Bool) → Each HasItsOp (refusal_logged b (record { name = next_name w caller; op = op }) reply)
      by true = tt
      by false = ((λ same. refl), tt)
    at-once says.Lost = tt
    at-once says.Down = tt
    at-once says.Moved = tt
    at-once (says.Ticket n) = tt
    at-once says.NotYet = tt
    at-once says.NoSpace = tt
    at-once (says.Retry c) = tt
    at-once says.Idle = tt
    at-once says.Stranger = tt
    at-once says.Done = tt
    at-once says.AlreadyDead = tt
    at-once says.Gone = tt
    at-once (says.Stale n) = tt

    pub logged-ops : (p : ProcessId) → All IsOld w.tickets → Each HasItsOp (step w (Ask caller op p)).turn.logged
    logged-ops p old =
        let t = group_step w (Ask caller op p) in
        for-ledger HasItsOp (tickets_after (length w.log) (call_of w (Ask caller op p)) t.answer w.tickets) (has-its-op (is_issued t.answer) (length w.log) old)
        t.settled (range_with_len 0 w.shape.k) (record { logged = logged_at_once (call_of w (Ask caller op p)) t.answer; places = w.places }) (at-once t.answer)
