-- The log after an event: the issued calls grow, a refusal is logged at once, and what is settled comes in.
use Rattle.std.proofs.Common.{ℕ, suc, ◌≡◌, ◌≢◌, ◌<◌, ◌≤◌, Bool, true, false, List, [], ◌∷◌, ◌++◌, length, map, ◌⊎◌, inl}
use Rattle.std.proofs.Common.{inr, Option, Some, None, if◌then◌else◌, refl, sym, ap, subst, ◌∙◌, arith}
use Rattle.std.specs.List.{range_with_len}
use Rattle.std.proofs.lemmas.List.{append-nil}
use Rattle.std.proofs.lemmas.List.Elements.{Contains-append_left}
use Rattle.group_types.specs.Dimensions.{Dimensions}
use Rattle.group_types.specs.Hash.{home_of}
use Rattle.group_types.specs.Lists.{at, put}
use Rattle.group_types.specs.declared.run.Run.{Run}
use Rattle.group_types.specs.Each.{Each, EachTwo}
use Rattle.group_types.proofs.Eaches.{each-append, each-weaker, each-both, each_two-push}
use Rattle.memc_table.specs.Act.{key_of}
use Rattle.memc_table.specs.Asked.{Asked}
use Rattle.memc_table.specs.Contents.{Contents, empty_table}
use Rattle.memc_table.specs.declared.reply.Reply.{Reply}
use Rattle.memc_table.specs.declared.ruling.Ruling.TheVariants.{Refused}
use Rattle.group_message.specs.declared.update.Update.{Update}
use Rattle.group_calls.specs.Log.{table_of}
use Rattle.group_calls.specs.Turns.{CallName, accepts, call_entry, name_of}
use Rattle.group_calls.specs.declared.entry.Entry.{Entry}
use Rattle.group_calls.specs.declared.event.Answer.{Answer}
use Rattle.group_calls.specs.declared.event.Answer.TheVariants as says
use Rattle.law_moves.proofs.Reading.{grown-is}
use Rattle.law_moves.proofs.Settled.{settled-at}
use Rattle.group_run.specs.Applying.{Settlement}
use Rattle.group_run.specs.Asking.{reply_from}
use Rattle.group_run.specs.History.{settled_after}
use Rattle.group_run.specs.World.{AskedCall, Ledger, Ticket, asked_after, grown, is_issued, ledger_after, logged_at_once}
use Rattle.group_run.specs.World.{op_in, op_moved, ops_moved, refusal_logged, ticket_if, tickets_after, update_name}
use Rattle.law_updates.specs.Fine.{AreSteps, ComesBefore, IsStep}
use Rattle.law_updates.specs.Right.{ruling_in}
use Rattle.law_updates.specs.Store.{StoreFits, no_store, store_after}
use Rattle.law_log.specs.Book.{call_if, issued_by}
use Rattle.law_log.proofs.Ties.{ArePlaced, AreTickets, EntryStands, HasEntry, LogStands, NamesDiffer, Ties, is_logged}
use Rattle.law_log.proofs.Calls.{AreAsked, asked-more, asked-new, each-contained}
use Rattle.law_log.proofs.Entries.{entry-stands, fits-here, fresh, logged-left, logged-not-left, logged-right, not-logged, op-of, step-here}
use Rattle.law_log.proofs.Ledgers.{ledger-keeps}
use Rattle.law_log.proofs.Tables.{legal-append, refusal-ties, table-append}

-- each entry is of a call that was asked
abbrev pub EntriesAsked : List ℕ → List Entry → Type 0
EntriesAsked asked log = Each (λ e. e.call < at 0 asked e.caller) log

-- what stands of the log beside the issued calls, the tickets, the places and the counts of asks
pub record Logs (s : Dimensions) (issued : List AskedCall) (log : List Entry) (settled : List (List Update))
    (tickets : List Ticket) (places : List (List (Option Run))) (asked : List ℕ) : Type 0 where
  pub stands : LogStands s issued log settled
  pub has_tickets : AreTickets log issued tickets
  pub placed : ArePlaced places settled
  pub entries_asked : EntriesAsked asked log
  pub differ : EachTwo (λ x y. x.name ≢ y.name) issued

-- the call is the next one of its caller
abbrev pub IsNext : List ℕ → Option AskedCall → Type 0
IsNext asked None = Unit {0}
IsNext asked (Some c) = c.name.call ≡ at 0 asked c.name.caller

-- a refusal that is given at once is the table's on what is settled
abbrev pub RefusesWell : Dimensions → List (List Update) → Option AskedCall → Answer → Type 0
RefusesWell s settled call answer = (c : AskedCall) (reply : Reply) → call ≡ Some c → answer ≡ says.Reply reply → accepts reply ≡ false
    → let d : ℕ = home_of (key_of c.op.act) s.k in ruling_in (store_after s d (at [] settled d)) (suc (length (at [] settled d))) c.op ≡ Refused reply

-- a sentence on the log beside what is settled that the entry of each update keeps which is settled for the first
-- time
abbrev pub OfUpdates : Dimensions → List AskedCall → (List Entry → List (List Update) → Type 0) → Type 0
OfUpdates s calls E = (log : List Entry) (settled : List (List Update)) (d : ℕ) (u : Update) → d < s.k → length settled ≡ s.k → LogStands s calls log settled
    → StoreFits s (store_after s d (at [] settled d)) → (step : IsStep s calls d (suc (length (at [] settled d))) (store_after s d (at [] settled d)) u)
    → E log settled → E (log ++ call_entry (update_name u) step.call.op (reply_from u.outcome) ∷ []) (put [] settled d (at [] settled d ++ u ∷ []))

-- a name that was asked isn't the next one
pub next-new : (asked : List ℕ) (c : AskedCall) (name : CallName) → c.name.call ≡ at 0 asked c.name.caller → name.call < at 0 asked name.caller → name ≢ c.name
next-new asked c name next below same =
    let caller : at 0 asked name.caller ≡ at 0 asked c.name.caller = ap (λ (n : CallName). at 0 asked n.caller) same in
    let call : name.call ≡ c.name.call = ap (λ (n : CallName). n.call) same in omega arith

-- the counts of asks only grow
entries-more : (asked : List ℕ) (call : Option AskedCall) (log : List Entry) → EntriesAsked asked log → EntriesAsked (asked_after asked call) log
entries-more asked None log all = all
entries-more asked (Some c) [] all = tt
entries-more asked (Some c) (e ∷ es) all = (
  (asked-more asked c (record { name = name_of e; op = e.op } ∷ []) (all.0, tt)).0,
  entries-more asked (Some c) es all.1,
)

-- one more ticket
tickets-push : (log : List Entry) (calls : List AskedCall) (tickets : List Ticket) (c : AskedCall) (since : ℕ) → AreTickets log calls tickets
    → AreTickets log (calls ++ c ∷ []) (tickets ++ record { name = c.name; since = since; op = Some c.op } ∷ [])
tickets-push log [] [] c since are = (refl, inl refl, tt)
tickets-push log [] (t ∷ ts) c since are = absurd are
tickets-push log (x ∷ xs) [] c since are = absurd are
tickets-push log (x ∷ xs) (t ∷ ts) c since are = (are.0, are.1, tickets-push log xs ts c since are.2)

-- ops move into the log
module _ (log logged : List Entry) where
  moved-one : (x : AskedCall) (t : Ticket) → t.name ≡ x.name → (t.op ≡ Some x.op) ⊎ (is_logged log x.name ≡ true)
      → ((op_moved logged t).name ≡ x.name) × (((op_moved logged t).op ≡ Some x.op) ⊎ (is_logged (log ++ logged) x.name ≡ true))
  moved-one x t name op = by (is_logged logged t.name) refl where
    left : (t.op ≡ Some x.op) ⊎ (is_logged log x.name ≡ true) → (t.op ≡ Some x.op) ⊎ (is_logged (log ++ logged) x.name ≡ true)
    left (inl is) = inl is
    left (inr is) = inr (logged-left log logged x.name is)

    by : (b : Bool) → is_logged logged t.name ≡ b
        → ((if b then record t { op = None } else t).name ≡ x.name)
        × (((if b then record t { op = None } else t).op ≡ Some x.op) ⊎ (is_logged (log ++ logged) x.name ≡ true))
    by true test = (name, inr (logged-right log logged x.name (ap (is_logged logged) (sym name) ∙ test)))
    by false test = (name, left op)

  moved-all : (calls : List AskedCall) (tickets : List Ticket) → AreTickets log calls tickets → AreTickets (log ++ logged) calls (map (op_moved logged) tickets)
  moved-all [] [] are = tt
  moved-all [] (t ∷ ts) are = absurd are
  moved-all (x ∷ xs) [] are = absurd are
  moved-all (x ∷ xs) (t ∷ ts) are = let one = moved-one x t are.0 are.1 in (one.0, one.1, moved-all xs ts are.2)

tickets-moved : (log logged : List Entry) (calls : List AskedCall) (tickets : List Ticket) → AreTickets log calls tickets
    → AreTickets (log ++ logged) calls (ops_moved logged tickets)
tickets-moved log [] calls tickets are = subst (λ (es : List Entry). AreTickets es calls tickets) (sym (append-nil log)) are
tickets-moved log (e ∷ es) calls tickets are = moved-all log (e ∷ es) calls tickets are

module _ (s : Dimensions) (some : 1 ≤ s.k) (issued : List AskedCall) (log : List Entry) (settled : List (List Update))
    (tickets : List Ticket) (places : List (List (Option Run))) (asked : List ℕ)
    (logs : Logs s issued log settled tickets places asked) where
  -- the log beside one more issued call
  stands-more : (c : AskedCall) → IsNext asked (Some c) → LogStands s (issued ++ c ∷ []) log settled
  stands-more c next = record {
    legal = logs.stands.legal;
    ties = logs.stands.ties;
    once = logs.stands.once;
    entered = logs.stands.entered;
    entries = each-weaker (λ e. EntryStands s issued settled e × (e.call < at 0 asked e.caller))
        (EntryStands s (issued ++ c ∷ []) settled) (λ e both. more e both.0 both.1) log
        (each-both (EntryStands s issued settled) (λ e. e.call < at 0 asked e.caller) log logs.stands.entries logs.entries_asked);
  } where
    more : (e : Entry) → EntryStands s issued settled e → e.call < at 0 asked e.caller → EntryStands s (issued ++ c ∷ []) settled e
    more e (inl of) below = inl (record {
      call = Contains-append_left issued (c ∷ []) (record { name = name_of e; op = e.op }) of.call;
      update = of.update;
      there = of.there;
      named = of.named;
      accepted = of.accepted;
    })
    more e (inr refused) below = inr (record {
      refused = refused.refused;
      other = each-append (λ x. x.name ≢ name_of e) issued (c ∷ []) refused.other ((λ same. next-new asked c (name_of e) next below (sym same)), tt);
    })

  -- after the issued calls grew by what was answered
  record Grown (now : List AskedCall) (open_tickets : List Ticket) : Type 0 where
    pub stands : LogStands s now log settled
    pub has_tickets : AreTickets log now open_tickets
    pub differ : EachTwo (λ x y. x.name ≢ y.name) now

  grown-if : (b : Bool) (c : AskedCall) → IsNext asked (Some c) → AreAsked asked issued → Grown (issued ++ call_if b c) (ticket_if b (length log) c tickets)
  grown-if true c next all = record {
    stands = stands-more c next;
    has_tickets = tickets-push log issued tickets c (length log) logs.has_tickets;
    differ =
        each_two-push (λ x y. x.name ≢ y.name) issued c logs.differ
        (each-weaker (λ x. x.name.call < at 0 asked x.name.caller) (λ x. x.name ≢ c.name) (λ x below. next-new asked c x.name next below) issued all);
  }
  grown-if false c next all = subst (λ (now : List AskedCall). Grown now tickets) (sym (append-nil issued))
      (record { stands = logs.stands; has_tickets = logs.has_tickets; differ = logs.differ })

  grown-by : (call : Option AskedCall) (answer : Answer) → IsNext asked call → AreAsked asked issued
      → Grown (issued ++ issued_by call answer) (tickets_after (length log) call answer tickets)
  grown-by None answer next all = subst (λ (now : List AskedCall). Grown now tickets) (sym (append-nil issued))
      (record { stands = logs.stands; has_tickets = logs.has_tickets; differ = logs.differ })
  grown-by (Some c) answer next all = grown-if (is_issued answer) c next all

  -- a refusal that is logged at once
  record Once (now : List AskedCall) (call : Option AskedCall) (logged : List Entry) : Type 0 where
    pub stands : LogStands s now (log ++ logged) settled
    pub entries_asked : EntriesAsked (asked_after asked call) (log ++ logged)

  none-logged : (now : List AskedCall) (call : Option AskedCall) → LogStands s now log settled → Once now call []
  none-logged now call stands = record {
    stands = subst (λ (es : List Entry). LogStands s now es settled) (sym (append-nil log)) stands;
    entries_asked = subst (EntriesAsked (asked_after asked call)) (sym (append-nil log)) (entries-more asked call log logs.entries_asked);
  }

  one-logged : (c : AskedCall) (reply : Reply) → IsNext asked (Some c) → AreAsked asked issued
      → AreAsked (asked_after asked (Some c)) (c ∷ []) → accepts reply ≡ false
      → (let d : ℕ = home_of (key_of c.op.act) s.k in ruling_in (store_after s d (at [] settled d)) (suc (length (at [] settled d))) c.op ≡ Refused reply)
      → Once issued (Some c) (call_entry c.name c.op reply ∷ [])
  one-logged c reply next all counted refused ruled =
      let entry : Entry = call_entry c.name c.op reply in
      let t : Contents = table_of (empty_table s.k) log in
      let both = refusal-ties s some settled t logs.stands.ties c.op reply ruled in
      record {
        stands = record {
          legal = legal-append (empty_table s.k) log (entry ∷ []) logs.stands.legal (both.0, tt);
          ties = subst (Ties s settled) (sym (table-append (empty_table s.k) log (entry ∷ []))) both.1;
          entries = each-append (EntryStands s issued settled) log (entry ∷ []) logs.stands.entries (
            inr (record {
              refused = refused;
              other = each-weaker (λ x. x.name.call < at 0 asked x.name.caller) (λ x. x.name ≢ c.name)
                  (λ x below. next-new asked c x.name next below) issued all;
            }),
            tt,
          );
          once = each_two-push NamesDiffer log entry logs.stands.once
              (each-weaker (λ e. e.call < at 0 asked e.caller) (λ e. name_of e ≢ c.name)
              (λ e below. next-new asked c (name_of e) next below) log logs.entries_asked);
          entered = λ d. each-weaker (HasEntry log) (HasEntry (log ++ entry ∷ [])) (λ u has. record {
            entry = has.entry;
            there = Contains-append_left log (entry ∷ []) has.entry has.there;
            named = has.named;
            replied = has.replied;
          }) (at [] settled d) (logs.stands.entered d);
        };
        entries_asked = each-append (λ e. e.call < at 0 (asked_after asked (Some c)) e.caller) log (entry ∷ [])
            (entries-more asked (Some c) log logs.entries_asked) (counted.0, tt);
      }

  once-reply : (c : AskedCall) (reply : Reply) (b : Bool) → accepts reply ≡ b → IsNext asked (Some c) → AreAsked asked issued
      → AreAsked (asked_after asked (Some c)) (c ∷ [])
      → RefusesWell s settled (Some c) (says.Reply reply) → LogStands s (issued ++ call_if b c) log settled
      → Once (issued ++ call_if b c) (Some c) (refusal_logged b c reply)
  once-reply c reply true test next all counted refuses stands = none-logged (issued ++ c ∷ []) (Some c) stands
  once-reply c reply false test next all counted refuses stands =
      subst (λ (now : List AskedCall). Once now (Some c) (call_entry c.name c.op reply ∷ [])) (sym (append-nil issued))
      (one-logged c reply next all counted test (refuses c reply refl refl test))

  once-by : (call : Option AskedCall) (answer : Answer) → IsNext asked call → AreAsked asked issued
      → ((c : AskedCall) → call ≡ Some c → AreAsked (asked_after asked (Some c)) (c ∷ []))
      → RefusesWell s settled call answer → LogStands s (issued ++ issued_by call answer) log settled
      → Once (issued ++ issued_by call answer) call (logged_at_once call answer)
  once-by None answer next all counted refuses stands = none-logged (issued ++ []) None stands
  once-by (Some c) (says.Reply reply) next all counted refuses stands = once-reply c reply (accepts reply) refl next all (counted c refl) refuses stands
  once-by (Some c) (says.Ticket n) next all counted refuses stands = none-logged (issued ++ c ∷ []) (Some c) stands
  once-by (Some c) says.NotYet next all counted refuses stands = none-logged (issued ++ []) (Some c) stands
  once-by (Some c) says.NoSpace next all counted refuses stands = none-logged (issued ++ []) (Some c) stands
  once-by (Some c) (says.Retry why) next all counted refuses stands = none-logged (issued ++ []) (Some c) stands
  once-by (Some c) says.Moved next all counted refuses stands = none-logged (issued ++ []) (Some c) stands
  once-by (Some c) says.Lost next all counted refuses stands = none-logged (issued ++ []) (Some c) stands
  once-by (Some c) says.Down next all counted refuses stands = none-logged (issued ++ []) (Some c) stands
  once-by (Some c) says.Idle next all counted refuses stands = none-logged (issued ++ []) (Some c) stands
  once-by (Some c) says.Stranger next all counted refuses stands = none-logged (issued ++ []) (Some c) stands
  once-by (Some c) says.Done next all counted refuses stands = none-logged (issued ++ []) (Some c) stands
  once-by (Some c) says.AlreadyDead next all counted refuses stands = none-logged (issued ++ []) (Some c) stands
  once-by (Some c) says.Gone next all counted refuses stands = none-logged (issued ++ []) (Some c) stands
  once-by (Some c) (says.Stale n) next all counted refuses stands = none-logged (issued ++ []) (Some c) stands

  -- what each new update keeps: the log stands, its entries were asked, it only grew, and whatever else is said of
  -- it beside what is settled
  record Keeps (E : List Entry → List (List Update) → Type 0) (now : List AskedCall) (asked_now : List ℕ) (es : List Entry)
      (us : List (List Update)) : Type 0 where
    pub said : E es us
    pub stands : LogStands s now es us
    pub entries_asked : EntriesAsked asked_now es
    pub grown : (name : CallName) → is_logged es name ≡ false → is_logged log name ≡ false

  module _ (call : Option AskedCall) (answer : Answer) (t : List Settlement) (many : length settled ≡ s.k)
      (steps : (d : ℕ) → d < s.k → AreSteps s (issued ++ issued_by call answer) d 0 (no_store s) (at [] (settled_after t (range_with_len 0 s.k) settled) d))
      (rising : (d : ℕ) → d < s.k → EachTwo ComesBefore (at [] (settled_after t (range_with_len 0 s.k) settled) d))
      (counted : AreAsked (asked_after asked call) (issued ++ issued_by call answer)) (all : AreAsked asked issued)
      (next : IsNext asked call) (refuses : RefusesWell s settled call answer)
      (E : List Entry → List (List Update) → Type 0) (before : E log settled) (of_update : OfUpdates s (issued ++ issued_by call answer) E)
      (of_refusal : (c : AskedCall) (reply : Reply) → call ≡ Some c → answer ≡ says.Reply reply → accepts reply ≡ false
      → E log settled → E (log ++ call_entry c.name c.op reply ∷ []) settled) where
    abbrev now : List AskedCall
    now = issued ++ issued_by call answer

    abbrev tickets_now : List Ticket
    tickets_now = tickets_after (length log) call answer tickets

    abbrev final : ℕ → List Update
    final d = at [] (settled_after t (range_with_len 0 s.k) settled) d

    law : Grown now tickets_now → (es : List Entry) (us : List (List Update)) (d : ℕ) (u : Update) (rest : List Update) → d < s.k → length us ≡ s.k
        → final d ≡ at [] us d ++ u ∷ rest → Keeps E now (asked_after asked call) es us
        → (op : Asked) × (op_in (update_name u) tickets_now ≡ Some op)
        × Keeps E now (asked_after asked call) (es ++ call_entry (update_name u) op (reply_from u.outcome) ∷ []) (put [] us d (at [] us d ++ u ∷ []))
    law more es us d u rest low as_many is keeps =
        let step = step-here s some now more.differ final steps rising es us d u rest low is keeps.stands as_many in
        let others = fresh s some now more.differ final steps rising es us d u rest low is keeps.stands as_many in
        let unlogged : is_logged log step.call.name ≡ false =
        keeps.grown step.call.name (ap (is_logged es) (sym step.name) ∙ not-logged es (update_name u) others) in (
          step.call.op,
          ap (λ (n : CallName). op_in n tickets_now) step.name ∙ op-of log now tickets_now step.call more.has_tickets more.differ step.asked unlogged,
          record {
            stands = entry-stands s some now more.differ final steps rising es us d u rest low is keeps.stands as_many;
            entries_asked = each-append (λ e. e.call < at 0 (asked_after asked call) e.caller) es
                (call_entry (update_name u) step.call.op (reply_from u.outcome) ∷ []) keeps.entries_asked (
                  subst (λ (n : CallName). n.call < at 0 (asked_after asked call) n.caller) (sym step.name)
                      (each-contained (λ c. c.name.call < at 0 (asked_after asked call) c.name.caller) now step.call counted
                      step.asked),
                  tt,
                );
            said = of_update es us d u low as_many keeps.stands
                (fits-here s some now more.differ final steps rising es us d u rest low is keeps.stands as_many) step
                keeps.said;
            grown = λ name none. keeps.grown name (logged-not-left es (call_entry (update_name u) step.call.op (reply_from u.outcome) ∷ []) name none);
          },
        )

    asked-here : (c : AskedCall) → call ≡ Some c → AreAsked (asked_after asked (Some c)) (c ∷ [])
    asked-here c is = (
      let e : c.name.call ≡ at 0 asked c.name.caller = subst (IsNext asked) is next in
          let new = asked-new asked c.name.caller c.op in omega arith,
      tt,
    )

    none-said : E (log ++ []) settled
    none-said = subst (λ (es : List Entry). E es settled) (sym (append-nil log)) before

    said-once : (c : AskedCall) (reply : Reply) → call ≡ Some c → answer ≡ says.Reply reply → (b : Bool) → accepts reply ≡ b
        → E (log ++ refusal_logged b c reply) settled
    said-once c reply is answered true test = none-said
    said-once c reply is answered false test = of_refusal c reply is answered test before

    said-at-once : (x : Option AskedCall) (a : Answer) → call ≡ x → answer ≡ a → E (log ++ logged_at_once x a) settled
    said-at-once None a is answered = none-said
    said-at-once (Some c) (says.Reply reply) is answered = said-once c reply is answered (accepts reply) refl
    said-at-once (Some c) (says.Ticket n) is answered = none-said
    said-at-once (Some c) says.NotYet is answered = none-said
    said-at-once (Some c) says.NoSpace is answered = none-said
    said-at-once (Some c) (says.Retry why) is answered = none-said
    said-at-once (Some c) says.Moved is answered = none-said
    said-at-once (Some c) says.Lost is answered = none-said
    said-at-once (Some c) says.Down is answered = none-said
    said-at-once (Some c) says.Idle is answered = none-said
    said-at-once (Some c) says.Stranger is answered = none-said
    said-at-once (Some c) says.Done is answered = none-said
    said-at-once (Some c) says.AlreadyDead is answered = none-said
    said-at-once (Some c) says.Gone is answered = none-said
    said-at-once (Some c) (says.Stale n) is answered = none-said

    pub logs-next : let ledger : Ledger = ledger_after tickets_now t (range_with_len 0 s.k) (record { logged = logged_at_once call answer; places = places }) in
        Logs s now (grown log ledger.logged) (settled_after t (range_with_len 0 s.k) settled)
        (ops_moved ledger.logged tickets_now) ledger.places (asked_after asked call)
        × E (grown log ledger.logged) (settled_after t (range_with_len 0 s.k) settled)
    logs-next =
        let more : Grown now tickets_now = grown-by call answer next all in
        let once : Once now call (logged_at_once call answer) = once-by call answer next all asked-here refuses more.stands in
        let first : Ledger = record { logged = logged_at_once call answer; places = places } in
        let ledger : Ledger = ledger_after tickets_now t (range_with_len 0 s.k) first in
        let done = ledger-keeps s tickets_now final (Keeps E now (asked_after asked call)) (law more) t s.k 0 log first settled (omega arith) many logs.placed
        (λ d from to. settled-at t s.k 0 d settled from to)
        (record {
          stands = once.stands;
          entries_asked = once.entries_asked;
          said = said-at-once call answer refl refl;
          grown = λ name none. logged-not-left log (logged_at_once call answer) name none;
        }) in
        subst (λ (es : List Entry). Logs s now es (settled_after t (range_with_len 0 s.k) settled)
        (ops_moved ledger.logged tickets_now) ledger.places (asked_after asked call)
        × E es (settled_after t (range_with_len 0 s.k) settled)) (sym (grown-is log ledger.logged)) (
          record {
            stands = done.0.stands;
            has_tickets = tickets-moved log ledger.logged now tickets_now more.has_tickets;
            placed = done.1;
            entries_asked = done.0.entries_asked;
            differ = more.differ;
          },
          done.0.said,
        )
