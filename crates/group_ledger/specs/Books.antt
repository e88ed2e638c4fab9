-- What a group keeps beside its nodes, and what the machine makes of it with an event's answer.
use Rattle.std.specs.Prelude.{ℕ, suc, ◌≡◌, ◌≢◌, ◌<◌, ◌≤◌, Bool, true, false, List, Option, Some, None, length, All, AllPairs}
use Rattle.std.specs.List.{range_with_len}
use Rattle.group_types.specs.Dimensions.{Dimensions}
use Rattle.group_types.specs.Lists.{at}
use Rattle.group_types.specs.declared.run.Run.{Run}
use Rattle.memc_table.specs.declared.reply.Reply.{Reply}
use Rattle.group_calls.specs.Turns.{accepts, name_of}
use Rattle.group_calls.specs.declared.entry.Entry.{Entry}
use Rattle.group_calls.specs.declared.event.Answer.{Answer}
use Rattle.group_calls.specs.declared.event.Answer.TheVariants as says
use Rattle.group_run.specs.Applying.{Settlement}
use Rattle.group_run.specs.Process.{Node}
use Rattle.group_run.specs.Replica.{callers}
use Rattle.group_run.specs.World.{AskedCall, Ledger, Ticket, World, asked_after, grown, ledger_after, logged_at_once, ops_moved, tickets_after}
use Rattle.group_ledger.specs.Taking.{Differ}
use Rattle.group_ledger.specs.declared.entering.NewCall.{NewCall}

-- a group but for its nodes
pub record Books : Type 0 where
  pub shape : Dimensions
  pub events : ℕ
  pub asked : List ℕ
  pub log : List Entry
  pub places : List (List (Option Run))
  pub tickets : List Ticket

abbrev pub books_of : World → Books
books_of w = record { shape = w.shape; events = w.events; asked = w.asked; log = w.log; places = w.places; tickets = w.tickets }

abbrev pub world_of : List Node → Books → World
world_of nodes b = record { shape = b.shape; nodes = nodes; events = b.events; asked = b.asked; log = b.log; places = b.places; tickets = b.tickets }

-- what an event logs, and where the updates of each partition stand then
abbrev pub settled_by : Option AskedCall → Answer → List Settlement → Books → Ledger
settled_by call answer settled b =
    ledger_after (tickets_after (length b.log) call answer b.tickets) settled (range_with_len 0 b.shape.k)
    (record { logged = logged_at_once call answer; places = b.places })

-- the books once an event is recorded
abbrev pub recorded : Option AskedCall → Answer → List Settlement → Books → Books
recorded call answer settled b =
    let ledger : Ledger = settled_by call answer settled b in
    record {
      shape = b.shape;
      events = suc b.events;
      asked = asked_after b.asked call;
      log = grown b.log ledger.logged;
      places = ledger.places;
      tickets = ops_moved ledger.logged (tickets_after (length b.log) call answer b.tickets);
    }

-- no two entries are of one call
abbrev pub Once : List Entry → Type 0
Once entries = AllPairs (λ a b. name_of a ≢ name_of b) entries

-- the call that a caller asks next
abbrev pub call_in : List ℕ → Option NewCall → Option AskedCall
call_in asked None = None
call_in asked (Some c) = Some (record { name = record { caller = c.caller; call = at 0 asked c.caller }; op = c.op })

-- the reply of a refusal
abbrev pub refusal_if : Bool → Reply → Option Reply
refusal_if true reply = None
refusal_if false reply = Some reply

abbrev pub refusal_in : Answer → Option Reply
refusal_in (says.Reply reply) = refusal_if (accepts reply) reply
refusal_in _ = None

-- the books, and the room for one call and for settled updates, together
pub record KeptBooks : Type 0 where
  pub books : Books
  pub room : ℕ

-- each ticket is of a call that was asked, and no two are of one call
pub record AreTicketsOfAsked (asked : List ℕ) (tickets : List Ticket) : Type 0 where
  pub asked_all : All (λ t. t.name.call < at 0 asked t.name.caller) tickets
  pub differ : Differ tickets

-- there are counts of all callers, none above that of the events, and places of all partitions
pub record AreWholeBooks (k events : ℕ) (asked : List ℕ) (places : ℕ) (tickets : List Ticket) : Type 0 where
  pub callers_all : length asked ≡ callers
  pub calls_low : All (λ n. n ≤ events) asked
  pub partitions_all : places ≡ k
  pub tickets_stand : AreTicketsOfAsked asked tickets
