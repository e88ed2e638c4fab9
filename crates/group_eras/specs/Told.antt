-- How numbers of an era are told: in each partition they go on from a base, the number of its updates in earlier eras.
use Rattle.std.specs.Prelude.{ℕ, suc, ◌+◌, ◌-◌, List, [], ◌∷◌, Option, Some, None, if◌then◌else◌}
use Rattle.group_types.specs.Hash.{home_of}
use Rattle.group_types.specs.Lists.{at}
use Rattle.memc_table.specs.Act.{key_of}
use Rattle.memc_table.specs.Asked.{Asked}
use Rattle.memc_table.specs.declared.act.Act.{Act}
use Rattle.memc_table.specs.declared.act.Act.TheVariants.{Cas}
use Rattle.memc_table.specs.declared.reply.Reply.{Reply}
use Rattle.memc_table.specs.declared.reply.Reply.TheVariants as reply
use Rattle.group_calls.specs.Turns.{call_entry, name_of}
use Rattle.group_calls.specs.declared.entry.Entry.{Entry}
use Rattle.group_calls.specs.declared.event.Answer.{Answer}
use Rattle.group_calls.specs.declared.event.Answer.TheVariants as says
use Rattle.group_calls.specs.declared.event.Cause.TheVariants as cause
use Rattle.group_calls.specs.declared.event.Event.{Event}
use Rattle.group_calls.specs.declared.event.Event.TheVariants.{Ask}
use Rattle.group_run.specs.World.{AskedCall, same_call}

-- the base of each partition
abbrev pub Bases : Type 0
Bases = List ℕ

-- a number of partition d, as it is told
abbrev pub with_base : Bases → ℕ → ℕ → ℕ
with_base bases d n = at 0 bases d + n

-- and as it comes in: one that isn't above the base goes in as 0, which no item has
abbrev pub without_base : Bases → ℕ → ℕ → ℕ
without_base bases d n = n - at 0 bases d

-- a reply on a key of partition d
abbrev pub based_reply : Bases → ℕ → Reply → Reply
based_reply bases d (reply.Value item) = reply.Value (record item { cas = with_base bases d item.cas })
based_reply bases d other = other

-- an answer to a call on a key of partition d
abbrev pub told_answer : Bases → ℕ → Answer → Answer
told_answer bases d (says.Reply r) = says.Reply (based_reply bases d r)
told_answer bases d (says.Ticket n) = says.Ticket (with_base bases d n)
told_answer bases d (says.Retry (cause.Pending e n)) = says.Retry (cause.Pending e (with_base bases e.0 n))
told_answer bases d other = other

-- an answer to an event: only an ask is answered with numbers of a partition
abbrev pub told_of_event : Bases → ℕ → Event → Answer → Answer
told_of_event bases k (Ask caller op p) answer = told_answer bases (home_of (key_of op.act) k) answer
told_of_event bases k _ answer = answer

-- the cas number that an act brings, changed
abbrev pub with_cas : (ℕ → ℕ) → Act → Act
with_cas f (Cas key flags expiry cas value) = Cas key flags expiry (f cas) value
with_cas f act = act

-- an op as it is asked of the era's world
abbrev pub op_for_era : Bases → ℕ → Asked → Asked
op_for_era bases k op = record { moment = op.moment; act = with_cas (without_base bases (home_of (key_of op.act) k)) op.act }

-- an op of the era's world, as it is told
abbrev pub op_out : Bases → ℕ → Asked → Asked
op_out bases k op = record { moment = op.moment; act = with_cas (with_base bases (home_of (key_of op.act) k)) op.act }

-- an event as the era's world makes it
abbrev pub event_in : Bases → ℕ → Event → Event
event_in bases k (Ask caller op p) = Ask caller (op_for_era bases k op) p
event_in bases k e = e

-- the op of an entry, as it was asked: that of the call which is asked just now, if it is this one
abbrev pub told_op : Bases → ℕ → Option AskedCall → Entry → Asked
told_op bases k None entry = op_out bases k entry.op
told_op bases k (Some c) entry = if same_call c.name (name_of entry) then c.op else op_out bases k entry.op

-- an entry of the era's log
abbrev pub told_entry : Bases → ℕ → Option AskedCall → Entry → Entry
told_entry bases k asking entry = call_entry (name_of entry) (told_op bases k asking entry) (based_reply bases (home_of (key_of entry.op.act) k) entry.reply)

-- a stamp whose numbers are of the partitions from d on
abbrev pub told_stamp : Bases → ℕ → List ℕ → List ℕ
told_stamp bases d [] = []
told_stamp bases d (n ∷ ns) = with_base bases d n ∷ told_stamp bases (suc d) ns
