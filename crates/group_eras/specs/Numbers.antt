-- Which answers have a number of a partition, to which the base is added, and what is told with it.
use Rattle.std.specs.Prelude.{ℕ, ◌≡◌, ◌<◌, Contains}
use Rattle.group_types.specs.declared.process.ProcessId.{ProcessId}
use Rattle.memc_table.specs.Act.{key_of}
use Rattle.memc_table.specs.Asked.{Asked}
use Rattle.memc_table.specs.Contents.{count_of}
use Rattle.memc_table.specs.declared.reply.Reply.{Reply}
use Rattle.group_calls.specs.Turns.{call_entry}
use Rattle.group_calls.specs.declared.event.Answer.{Answer}
use Rattle.group_calls.specs.declared.event.Answer.TheVariants as says
use Rattle.group_calls.specs.declared.event.Cause.TheVariants as cause
use Rattle.group_calls.specs.declared.event.Event.{Event}
use Rattle.group_calls.specs.declared.event.Event.TheVariants.{Ask}
use Rattle.memc_table.specs.declared.reply.Reply.TheVariants as reply
use Rattle.group_run.specs.World.{next_name}
use Rattle.group_eras.specs.Eras.{Eras, MayMake, era_step, turn_in}
use Rattle.group_eras.specs.Promise.{IsLed, table_over}

-- a cas number, a ticket, or the number of an update that is waited for
abbrev pub HasNumber : Answer → Type 0
HasNumber (says.Reply (reply.Value item)) = Unit {0}
HasNumber (says.Ticket n) = Unit {0}
HasNumber (says.Retry (cause.Pending d n)) = Unit {0}
HasNumber _ = ⊥

abbrev pub IsAsking : Event → Type 0
IsAsking (Ask caller op p) = Unit {0}
IsAsking _ = ⊥

-- only an ask is answered so
abbrev pub OthersTellNone : Type 0
OthersTellNone = (e : Eras) (event : Event) → IsLed e → MayMake e event → ¬ (IsAsking event) → ¬ (HasNumber (turn_in e event).answer)

-- the reply to an ask, as it is told, is that of its entry in the log over all eras
abbrev pub RepliesAreLogged : Type 0
RepliesAreLogged = (e : Eras) (caller : ℕ) (op : Asked) (p : ProcessId) (r : Reply) → IsLed e
    → MayMake e (Ask caller op p) → (era_step e (Ask caller op p)).answer ≡ says.Reply r
    → Contains (era_step e (Ask caller op p)).logged (e.era, call_entry (next_name e.world caller) op r)

-- a ticket's number, as it is told, is above those of all updates that the log over all eras has of its partition
abbrev pub TicketsAreNew : Type 0
TicketsAreNew = (e : Eras) (caller : ℕ) (op : Asked) (p : ProcessId) (n : ℕ) → IsLed e → MayMake e (Ask caller op p)
    → (era_step e (Ask caller op p)).answer ≡ says.Ticket n
    → count_of (table_over e) (key_of op.act) < n
