-- What a head decides of a call, from its replica and the bytes that it has.
use Rattle.std.specs.Prelude.{ℕ, suc, ◌==◌, nat_le, nat_lt, Bool, true, false, ◌&&◌, ◌||◌, List, length, replicate, Option, Some, None, if◌then◌else◌}
use Rattle.field_byte.specs.Vectors.{add_bytes}
use Rattle.group_types.specs.declared.run.Run.{Run}
use Rattle.item_index.specs.declared.slot.Slot.{Slot}
use Rattle.memc_table.specs.Act.{key_of}
use Rattle.memc_table.specs.Asked.{Asked}
use Rattle.memc_table.specs.Expiry.{is_live, live_at}
use Rattle.memc_table.specs.Ruling.{ruling_of}
use Rattle.memc_table.specs.declared.act.Act.{Act}
use Rattle.memc_table.specs.declared.act.Act.TheVariants as asks
use Rattle.memc_table.specs.declared.holding.Holding.{Holding}
use Rattle.memc_table.specs.declared.reply.Reply.{Reply}
use Rattle.memc_table.specs.declared.reply.Reply.TheVariants as reply
use Rattle.memc_table.specs.declared.ruling.Ruling.{Ruling}
use Rattle.memc_table.specs.declared.ruling.Ruling.TheVariants.{Refused, Accepted}
use Rattle.group_message.specs.declared.update.Body.TheVariants.{Put, Remove, Touch}
use Rattle.group_message.specs.declared.update.Outcome.{Outcome}
use Rattle.group_message.specs.declared.update.Outcome.TheVariants as ends
use Rattle.group_calls.specs.declared.decision.Decision.{Decision}
use Rattle.group_calls.specs.declared.decision.Decision.TheVariants.{Answer, Retry, NoSpace, NeedBlock, Issue}
pub use Rattle.group_calls.specs.declared.found.Found.{Found}
pub use Rattle.group_calls.specs.declared.found.Found.TheVariants.{Bytes, Missing}
use Rattle.group_run.specs.Free.{place_for}
use Rattle.group_run.specs.Replica.{Replica, slot_in, run_in, number_on, last_of}

-- how many updates of a partition may be unfinished
abbrev pub window : ℕ
window = 256

-- the act is a get
abbrev pub is_get : Act → Bool
is_get (asks.Get _) = true
is_get _ = false

-- the act is a touch
abbrev pub is_touch : Act → Bool
is_touch (asks.Touch _ _) = true
is_touch _ = false

-- the act reads the bytes of the item
abbrev pub reads_bytes : Act → Bool
reads_bytes (asks.Get _) = true
reads_bytes (asks.Append _ _) = true
reads_bytes (asks.Prepend _ _) = true
reads_bytes (asks.Incr _ _) = true
reads_bytes (asks.Decr _ _) = true
reads_bytes _ = false

-- what an update that gets this reply is answered, at once or later
abbrev pub outcome_of : Reply → Outcome
outcome_of (reply.Number n) = ends.Number n
outcome_of reply.Deleted = ends.Deleted
outcome_of reply.Touched = ends.Touched
outcome_of _ = ends.Stored

-- an item with these bytes, as the table holds it
abbrev pub held_as : Slot → List ℕ → Holding
held_as slot bytes = record { item = record { flags = slot.flags; cas = slot.cas; value = bytes }; until = slot.until }

-- what the table makes of an op, on a settled item with these bytes
abbrev pub ruling_with : Replica → Asked → Option Slot → List ℕ → Ruling
ruling_with r op None bytes = ruling_of op.moment (suc (last_of r)) op.act None
ruling_with r op (Some slot) bytes = ruling_of op.moment (suc (last_of r)) op.act (live_at op.moment (Some (held_as slot bytes)))

-- how many bytes an item has, 0 where there is none
abbrev pub slot_length : Option Slot → ℕ
slot_length None = 0
slot_length (Some slot) = slot.len

-- the bytes of an item that nobody looks at: as many zeros, which are no digits
abbrev pub unseen : Option Slot → List ℕ
unseen slot = replicate (slot_length slot) 0

-- a refusal holds whatever the bytes of the item are: all but its value, where it has some, and but
-- that it is no number, where it has 1 to 20
abbrev pub is_blind : ℕ → Reply → Bool
is_blind len (reply.Value _) = len == 0
is_blind len reply.NotNumber = len == 0 || nat_lt 20 len
is_blind len _ = true

-- the reply that needs no byte of the item, if there is one
abbrev pub blind_reply : ℕ → Ruling → Option Reply
blind_reply len (Refused r) = if is_blind len r then Some r else None
blind_reply len (Accepted _ _) = None

-- an unfinished update on the key that the op has to wait for: any, or for a `get` one that the head
-- inherited
abbrev pub waits_for : ℕ → Act → Option ℕ → Option ℕ
waits_for inherited act None = None
waits_for inherited act (Some n) = if is_get act then (if nat_le n inherited then Some n else None) else Some n

-- the run whose bytes an op needs: that of a live item of at least one byte
abbrev pub run_needed : Asked → Option Slot → Option Run
run_needed op None = None
run_needed op (Some slot) = if reads_bytes op.act && is_live op.moment slot.until && nat_lt 0 slot.len then Some (run_in slot) else None

-- the bytes of the item, where they are needed
abbrev pub item_found : (Run → Found) → Option Slot → Option Run → Found
item_found read slot None = Bytes (unseen slot)
item_found read slot (Some run) = read run

-- a value is written over what stands in its run, as a difference
abbrev pub decide_written : Outcome → Holding → Run → Found → Decision
decide_written outcome h run (Missing b) = NeedBlock b
decide_written outcome h run (Bytes under) = Issue (Put h.item.flags h.until run (add_bytes h.item.value under)) outcome

-- a value gets its run, if one is free
abbrev pub decide_placed : (Run → Found) → Outcome → Holding → Option Run → Decision
decide_placed read outcome h None = NoSpace
decide_placed read outcome h (Some run) = decide_written outcome h run (read run)

-- an accepted op becomes an update by what it leaves: no item, the item with another end, or a value
abbrev pub decide_left : ℕ → Replica → (Run → Found) → Outcome → Bool → Option Holding → Decision
decide_left space r read outcome touch None = Issue Remove outcome
decide_left space r read outcome true (Some h) = Issue (Touch h.until) outcome
decide_left space r read outcome false (Some h) = decide_placed read outcome h (place_for space r (length h.item.value))

-- no more than 256 updates wait
abbrev pub decide_accepted : Bool → Replica → Decision → Decision
decide_accepted true r decision = Retry (suc r.applied)
decide_accepted false r decision = decision

-- the decision once the item's bytes are known
abbrev pub decide_ruled : ℕ → Replica → Asked → (Run → Found) → Ruling → Decision
decide_ruled space r op read (Refused refusal) = Answer refusal
decide_ruled space r op read (Accepted accepted leaves) =
    decide_accepted (nat_le window (length r.log)) r (decide_left space r read (outcome_of accepted) (is_touch op.act) leaves)

-- the decision once the item's bytes were looked for
abbrev pub decide_found : ℕ → Replica → Asked → (Run → Found) → Option Slot → Found → Decision
decide_found space r op read slot (Missing b) = NeedBlock b
decide_found space r op read slot (Bytes bytes) = decide_ruled space r op read (ruling_with r op slot bytes)

-- the decision where no update on the key stands in the way: a reply that needs no byte is given
abbrev pub decide_blind : ℕ → Replica → Asked → (Run → Found) → Option Slot → Option Reply → Decision
decide_blind space r op read slot (Some blind) = Answer blind
decide_blind space r op read slot None = decide_found space r op read slot (item_found read slot (run_needed op slot))

-- the decision once it is known what the op has to wait for
abbrev pub decide_waiting : ℕ → Replica → Asked → (Run → Found) → Option Slot → Option ℕ → Decision
decide_waiting space r op read slot (Some n) = Retry n
decide_waiting space r op read slot None = decide_blind space r op read slot (blind_reply (slot_length slot) (ruling_with r op slot (unseen slot)))

-- what a head that inherited updates up to a number decides of an op, from its replica and from what it
-- finds in runs
abbrev pub decide : ℕ → ℕ → Replica → Asked → (Run → Found) → Decision
decide space inherited r op read =
    decide_waiting space r op read (slot_in r.items (key_of op.act)) (waits_for inherited op.act (number_on r.log (key_of op.act)))
