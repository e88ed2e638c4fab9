-- What an event logs is of its own call, or accepted; and who is accepted by a cas has a cas number above 0.
use Rattle.std.proofs.Common.{ℕ, zero, suc, ◌≡◌, ◌≤◌, ◌+◌, ◌==◌, Bool, true, false, List, [], ◌∷◌, length, Option, Some}
use Rattle.std.proofs.Common.{None, if◌then◌else◌, ◌⊎◌, inl, inr, refl, sym, ap, subst, ◌∙◌, arith}
use Rattle.std.specs.Prelude.{Contains}
use Rattle.std.specs.List.{range_with_len}
use Rattle.std.proofs.lemmas.Bool.{eqb-true}
use Rattle.std.proofs.lemmas.List.Elements.{Contains-append_cases}
use Rattle.memc_table.specs.Act.{key_of}
use Rattle.memc_table.specs.Asked.{Asked}
use Rattle.memc_table.specs.Contents.{Contents, after_ruling, count_of, reply_in, reply_of, ruling_on, table_after}
use Rattle.memc_table.specs.Expiry.{live_at}
use Rattle.memc_table.specs.Ruling.{ruling_of}
use Rattle.memc_table.specs.declared.act.Act.{Act}
use Rattle.memc_table.specs.declared.act.Act.TheVariants.{Add, Append, Cas, Decr, Delete, Get, Incr, Prepend, Replace, Set, Touch}
use Rattle.memc_table.specs.declared.holding.Holding.{Holding}
use Rattle.memc_table.specs.declared.reply.Reply.{Reply}
use Rattle.memc_table.specs.declared.reply.Reply.TheVariants as reply
use Rattle.memc_table.specs.declared.ruling.Ruling.{Ruling}
use Rattle.memc_table.specs.declared.ruling.Ruling.TheVariants.{Accepted, Refused}
use Rattle.group_types.specs.Lists.{at, same_key}
use Rattle.group_message.specs.declared.update.Update.{Update}
use Rattle.group_calls.specs.Log.{IsLegalFrom}
use Rattle.group_calls.specs.Turns.{accepts, name_of}
use Rattle.group_calls.specs.declared.entry.Entry.{Entry}
use Rattle.group_calls.specs.declared.event.Answer.{Answer}
use Rattle.group_calls.specs.declared.event.Answer.TheVariants as says
use Rattle.group_calls.specs.declared.event.Event.{Event}
use Rattle.group_run.specs.Applying.{Settlement}
use Rattle.group_run.specs.World.{AskedCall, Ledger, Ticket, World, call_of, entries_for, entry_then, group_step, grown}
use Rattle.group_run.specs.World.{ledger_after, ledger_with, logged_at_once, new_ones, op_in, refusal_logged}
use Rattle.group_run.specs.World.{settled_in, step, tickets_after, update_name}
use Rattle.law_moves.proofs.Reading.{grown-is}
use Rattle.law_log.proofs.Entries.{accepted-from}
use Rattle.group_eras.proofs.Shifts.{HasCas, LeavesCas, cas-live, ruling-cas}

accepted-for : (tickets : List Ticket) (us : List Update) (e : Entry) → Contains (entries_for tickets us) e → accepts e.reply ≡ true
accepted-for tickets [] e there = absurd (let low = there.1 in omega (arith, low))
accepted-for tickets (u ∷ us) e there = by (op_in (update_name u) tickets) there (accepted-for tickets us e) where
  by : (o : Option Asked) → Contains (entry_then u o (entries_for tickets us)) e
      → (Contains (entries_for tickets us) e → accepts e.reply ≡ true) → accepts e.reply ≡ true
  by None there rest = rest there
  by (Some op) (zero, low, is) rest = ap (λ (x : Entry). accepts x.reply) (sym is) ∙ accepted-from u.outcome
  by (Some op) (suc i, low, is) rest = rest (i, omega (arith, low), is)

in-ledger : (tickets : List Ticket) (settled : List Settlement) (ds : List ℕ) (ledger : Ledger) (e : Entry)
    → Contains (ledger_after tickets settled ds ledger).logged e
    → Contains ledger.logged e ⊎ (accepts e.reply ≡ true)
in-ledger tickets settled [] ledger e there = inl there
in-ledger tickets settled (d ∷ ds) ledger e there = by (in-ledger tickets settled ds (ledger_with tickets d (news d) ledger) e there) where
  news : ℕ → List Update
  news d = new_ones (length (at [] ledger.places d)) (settled_in d settled)

  split : (us : List Update) → Contains (grown ledger.logged (entries_for tickets us)) e → Contains ledger.logged e ⊎ (accepts e.reply ≡ true)
  split us here =
      cases (Contains-append_cases ledger.logged (entries_for tickets us) e
      (subst (λ (es : List Entry). Contains es e) (grown-is ledger.logged (entries_for tickets us)) here)) where
        cases : Contains ledger.logged e ⊎ Contains (entries_for tickets us) e → Contains ledger.logged e ⊎ (accepts e.reply ≡ true)
        cases (inl old) = inl old
        cases (inr new) = inr (accepted-for tickets us e new)

  by : Contains (grown ledger.logged (entries_for tickets (news d))) e ⊎ (accepts e.reply ≡ true) → Contains ledger.logged e ⊎ (accepts e.reply ≡ true)
  by (inl here) = split (news d) here
  by (inr accepted) = inr accepted

at-once : (o : Option AskedCall) (answer : Answer) (e : Entry) → Contains (logged_at_once o answer) e → (c : AskedCall) × (o ≡ Some c) × (name_of e ≡ c.name)
at-once None answer e there = absurd (let low = there.1 in omega (arith, low))
at-once (Some c) answer e there = (c, refl, by answer there) where
  refusal : (b : Bool) (r : Reply) → Contains (refusal_logged b c r) e → name_of e ≡ c.name
  refusal true r there = absurd (let low = there.1 in omega (arith, low))
  refusal false r (zero, low, is) = ap name_of (sym is)
  refusal false r (suc i, low, is) = absurd (omega (arith, low))

  by : (answer : Answer) → Contains (logged_at_once (Some c) answer) e → name_of e ≡ c.name
  by (says.Reply r) there = refusal (accepts r) r there
  by (says.Ticket n) there = absurd (let low = there.1 in omega (arith, low))
  by says.NotYet there = absurd (let low = there.1 in omega (arith, low))
  by says.NoSpace there = absurd (let low = there.1 in omega (arith, low))
  by (says.Retry why) there = absurd (let low = there.1 in omega (arith, low))
  by says.Moved there = absurd (let low = there.1 in omega (arith, low))
  by says.Lost there = absurd (let low = there.1 in omega (arith, low))
  by says.Down there = absurd (let low = there.1 in omega (arith, low))
  by says.Idle there = absurd (let low = there.1 in omega (arith, low))
  by says.Stranger there = absurd (let low = there.1 in omega (arith, low))
  by says.Done there = absurd (let low = there.1 in omega (arith, low))
  by says.AlreadyDead there = absurd (let low = there.1 in omega (arith, low))
  by says.Gone there = absurd (let low = there.1 in omega (arith, low))
  by (says.Stale n) there = absurd (let low = there.1 in omega (arith, low))

-- an entry that an event logs is of the call that it asks, or accepted
pub own-or-accepted : (w : World) (e : Event) (entry : Entry) → Contains (step w e).turn.logged entry
    → ((c : AskedCall) × (call_of w e ≡ Some c) × (name_of entry ≡ c.name)) ⊎ (accepts entry.reply ≡ true)
own-or-accepted w e entry there = by (in-ledger tickets (group_step w e).settled (range_with_len 0 w.shape.k) start entry there) where
  tickets : List Ticket
  tickets = tickets_after (length w.log) (call_of w e) (group_step w e).answer w.tickets

  start : Ledger
  start = record { logged = logged_at_once (call_of w e) (group_step w e).answer; places = w.places }

  by : Contains (logged_at_once (call_of w e) (group_step w e).answer) entry ⊎ (accepts entry.reply ≡ true)
      → ((c : AskedCall) × (call_of w e ≡ Some c) × (name_of entry ≡ c.name)) ⊎ (accepts entry.reply ≡ true)
  by (inl here) = inl (at-once (call_of w e) (group_step w e).answer entry here)
  by (inr accepted) = inr accepted

-- a table whose items have cas numbers above 0
abbrev pub AllHaveCas : Contents → Type 0
AllHaveCas t = (key : List ℕ) → HasCas (t.items key)

pub cas-after : (t : Contents) (op : Asked) → AllHaveCas t → AllHaveCas (table_after t op)
cas-after t op all other =
    by (ruling_on t op) (ruling-cas op.moment (count_of t (key_of op.act) + 1) op.act
    (live_at op.moment (t.items (key_of op.act))) (omega arith)
    (cas-live [] 0 op.moment (t.items (key_of op.act)) (all (key_of op.act)))) where
      choose : (b : Bool) (left : Option Holding) → HasCas left → HasCas (if b then left else t.items other)
      choose true left has = has
      choose false left has = all other

      by : (r : Ruling) → LeavesCas r → HasCas ((after_ruling t (key_of op.act) r).items other)
      by (Refused reply) has = all other
      by (Accepted reply left) has = choose (same_key (key_of op.act) other) left has

-- the cas number that an act brings is above 0, if it brings one
abbrev pub BringsCas : Act → Type 0
BringsCas (Cas key flags expiry cas value) = 1 ≤ cas
BringsCas _ = Unit {0}

brings : (t n : ℕ) (act : Act) (y : Option Holding) → HasCas y → accepts (reply_in (ruling_of t n act y)) ≡ true → BringsCas act
brings t n (Get key) y has is = tt
brings t n (Set key flags expiry value) y has is = tt
brings t n (Add key flags expiry value) y has is = tt
brings t n (Replace key flags expiry value) y has is = tt
brings t n (Cas key flags expiry cas value) None has is = absurd (cc is)
brings t n (Cas key flags expiry cas value) (Some h) has is = by (h.item.cas == cas) refl is where
  by : (b : Bool) → (h.item.cas == cas) ≡ b
      → accepts (reply_in (if b then ruling_of t n (Set key flags expiry value) None else Refused reply.Exists)) ≡ true
      → 1 ≤ cas
  by true same is = let one : h.item.cas ≡ cas = eqb-true h.item.cas cas same in omega (arith, one, has)
  by false same is = absurd (cc is)
brings t n (Delete key) y has is = tt
brings t n (Touch key expiry) y has is = tt
brings t n (Append key value) y has is = tt
brings t n (Prepend key value) y has is = tt
brings t n (Incr key by) y has is = tt
brings t n (Decr key by) y has is = tt

pub accepted-brings : (t : Contents) (log : List Entry) (e : Entry) → AllHaveCas t → IsLegalFrom t log → Contains log e
    → accepts e.reply ≡ true → BringsCas e.op.act
accepted-brings t [] e all legal there is = absurd (let low = there.1 in omega (arith, low))
accepted-brings t (x ∷ xs) e all legal (zero, low, same) is =
    let op : Asked = x.op in
    let here : accepts (reply_of t x.op) ≡ true = ap accepts (sym legal.0) ∙ ap (λ (y : Entry). accepts y.reply) same ∙ is in
    subst (λ (y : Entry). BringsCas y.op.act) same
    (brings op.moment (count_of t (key_of op.act) + 1) op.act (live_at op.moment (t.items (key_of op.act)))
    (cas-live [] 0 op.moment (t.items (key_of op.act)) (all (key_of op.act))) here)
accepted-brings t (x ∷ xs) e all legal (suc i, low, same) is = accepted-brings (table_after t x.op) xs e
    (cas-after t x.op all) legal.1 (i, omega (arith, low), same) is
