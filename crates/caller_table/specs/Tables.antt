-- The calls of a connection over a fresh group, and the one table of which their ends are.
use Rattle.std.specs.Prelude.{ℕ, ◌≡◌, true, List, [], ◌∷◌, ◌++◌}
use Rattle.group_types.specs.Dimensions.{Dimensions}
use Rattle.group_types.specs.Shape.{IsShape}
use Rattle.memc_table.specs.Asked.{Asked}
use Rattle.memc_table.specs.Contents.{Contents, empty_table, reply_of, table_after}
use Rattle.memc_table.specs.declared.reply.Reply.{Reply}
use Rattle.memc_proto.specs.declared.end.CallEnd.{CallEnd}
use Rattle.memc_proto.specs.declared.end.CallEnd.TheVariants as ends
use Rattle.group_calls.specs.Log.{table_of}
use Rattle.group_calls.specs.Turns.{CallName, call_entry}
use Rattle.group_run.specs.World.{World, opening}
use Rattle.front_end.specs.Calls.{Call, Made, Failed, Ways, Leads}
use Rattle.world_caller.specs.Behind.{world_ways}
use Rattle.world_caller.specs.Callers.{GroupCaller, HasCalledGroup}

-- the caller of a connection: its group, whose calls it makes, and whether it takes orders that a process fail
abbrev pub Caller : Type 0
Caller = GroupCaller

-- what calls make of a group
abbrev pub group_ways : Ways GroupCaller
group_ways = world_ways

-- the first caller of a group at its start, with orders taken that a process fail
abbrev pub fresh : Dimensions → GroupCaller
fresh s = record { world = opening s; caller = 0; control = true }

-- the table that the log of a group leaves
abbrev pub table_in : World → Contents
table_in w = table_of (empty_table w.shape.k) w.log

-- a call was replied to as the table has it, and its entry alone was logged
pub record IsReplied (caller : ℕ) (w : World) (op : Asked) (reply : Reply) (v : World) : Type 0 where
  pub is : reply ≡ reply_of (table_in w) op
  pub call : ℕ
  pub logged : v.log ≡ w.log ++ call_entry (record { caller = caller; call = call }) op reply ∷ []

-- the log and the places are as they were
pub record IsLeft (w v : World) : Type 0 where
  pub log : v.log ≡ w.log
  pub places : v.places ≡ w.places

-- the end of a call beside the table: a reply is the table's; a call for which there was no space, or that met a group
-- that is down, leaves the table; of a group that is worn out nothing is said; no call ends as that of a moved group
abbrev pub IsEndByTable : ℕ → World → Asked → CallEnd → World → Type 0
IsEndByTable caller w op (ends.Reply reply) v = IsReplied caller w op reply v
IsEndByTable caller w op ends.NoSpace v = IsLeft w v
IsEndByTable caller w op ends.Down v = IsLeft w v
IsEndByTable caller w op ends.Worn v = Unit {0}
IsEndByTable caller w op ends.Moves v = ⊥

-- the ends of calls are those of one table, in order
abbrev pub AreOfTable : Contents → List Call → Type 0
AreOfTable t [] = Unit {0}
AreOfTable t (Made op (ends.Reply reply) ∷ calls) = (reply ≡ reply_of t op) × AreOfTable (table_after t op) calls
AreOfTable t (Made op _ ∷ calls) = AreOfTable t calls
AreOfTable t (Failed _ _ _ ∷ calls) = AreOfTable t calls

-- whatever call comes next, its end is of the table
abbrev pub NextIsOfTable : GroupCaller → Type 0
NextIsOfTable c = (op : Asked) (end : CallEnd) (after : GroupCaller) → HasCalledGroup c op end after → IsEndByTable c.caller c.world op end after.world

-- whatever calls lead from a fresh group on, their ends are of one table, which begins empty; and so is that of the next,
-- with what it leaves of the log and the places
pub record IsOneTable (s : Dimensions) : Type 0 where
  pub calls : (made : List Call) (c : GroupCaller) → Leads group_ways (fresh s) made c → AreOfTable (empty_table s.k) made
  pub next : (made : List Call) (c : GroupCaller) → Leads group_ways (fresh s) made c → NextIsOfTable c

-- so it is for every shape
abbrev pub OneTableAlways : Type 0
OneTableAlways = (s : Dimensions) → IsShape s → IsOneTable s
