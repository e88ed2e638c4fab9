-- What a call makes of the counts, the log and the tickets.
use Rattle.std.proofs.Common.{ℕ, suc, ◌≡◌, ◌<◌, ◌+◌, Bool, true, false, List, [], ◌∷◌, ◌++◌, Some, length, get_or, set}
use Rattle.std.proofs.Common.{refl, sym, ap, ◌∙◌, arith, if◌then◌else◌}
use Rattle.std.proofs.lemmas.List.{append-nil}
use Rattle.group_types.specs.Lists.{at, put}
use Rattle.group_types.proofs.Lists.{at_index, set_put}
use Rattle.memc_table.specs.declared.reply.Reply.{Reply}
use Rattle.group_calls.specs.Turns.{accepts, call_entry}
use Rattle.group_calls.specs.declared.event.Answer.{Answer}
use Rattle.group_calls.specs.declared.event.Answer.TheVariants as says
use Rattle.group_run.specs.World.{AskedCall, Ticket, logged_at_once, refusal_logged, ticket_if}
use Rattle.group_ledger.specs.Books.{refusal_if, refusal_in}

pub count-here : (asked : List ℕ) (caller : ℕ) → caller < length asked → get_or asked caller 0 ≡ at 0 asked caller
count-here asked caller within = sym (at_index 0 0 asked caller within)

pub counted : (asked : List ℕ) (caller : ℕ) → caller < length asked → set asked caller (get_or asked caller 0 + 1)
    ≡ put 0 asked caller (suc (at 0 asked caller))
counted asked caller within =
    let here = count-here asked caller within in
    let more : get_or asked caller 0 + 1 ≡ suc (at 0 asked caller) = omega (arith, here) in
    set_put 0 asked caller (get_or asked caller 0 + 1) within ∙ ap (put 0 asked caller) more

pub ticketed : (b : Bool) (since : ℕ) (c : AskedCall) (ts : List Ticket)
    → ts ++ (if b then record { name = c.name; since = since; op = Some c.op } ∷ [] else []) ≡ ticket_if b since c ts
ticketed true since c ts = refl
ticketed false since c ts = append-nil ts

refused-so : (c : AskedCall) (b : Bool) (r reply : Reply) → Some reply ≡ refusal_if b r → call_entry c.name c.op reply ∷ [] ≡ refusal_logged b c r
refused-so c true r reply is = absurd (cc is)
refused-so c false r reply is = ap (λ (x : Reply). call_entry c.name c.op x ∷ []) (cc is)

pub refused : (c : AskedCall) (answer : Answer) (reply : Reply) → Some reply ≡ refusal_in answer
    → call_entry c.name c.op reply ∷ [] ≡ logged_at_once (Some c) answer
refused c (says.Reply r) reply is = refused-so c (accepts r) r reply is
refused c (says.Ticket _) reply is = absurd (cc is)
refused c says.NotYet reply is = absurd (cc is)
refused c says.NoSpace reply is = absurd (cc is)
refused c (says.Retry _) reply is = absurd (cc is)
refused c says.Moved reply is = absurd (cc is)
refused c says.Lost reply is = absurd (cc is)
refused c says.Down reply is = absurd (cc is)
refused c says.Idle reply is = absurd (cc is)
refused c says.Stranger reply is = absurd (cc is)
refused c says.Done reply is = absurd (cc is)
refused c says.AlreadyDead reply is = absurd (cc is)
refused c says.Gone reply is = absurd (cc is)
refused c (says.Stale _) reply is = absurd (cc is)
