-- Turns of a run, the log that they leave, and the names of calls.
use Rattle.std.specs.Prelude.{ℕ, ◌+◌, ◌==◌, Bool, true, false, List, [], ◌∷◌, ◌++◌, if◌then◌else◌}
use Rattle.memc_table.specs.Asked.{Asked}
use Rattle.group_calls.specs.declared.entry.Entry.{Entry}
use Rattle.group_calls.specs.declared.event.Answer.{Answer}
use Rattle.group_calls.specs.declared.event.Event.{Event}
use Rattle.group_calls.specs.declared.event.Event.TheVariants.{Ask, Collect, Deliver, Fail, Flush, Trace}
use Rattle.memc_table.specs.declared.reply.Reply.{Reply}
use Rattle.memc_table.specs.declared.reply.Reply.TheVariants.{Stored, Deleted, Touched, Number}

-- one event of a run, with its answer and the entries that it logged
pub record Turn : Type 0 where
  pub event : Event
  pub answer : Answer
  pub logged : List Entry

-- the log of a run: what its events logged, in order
abbrev pub log_of : List Turn → List Entry
log_of [] = []
log_of (turn ∷ turns) = turn.logged ++ log_of turns

-- the name of a call: its caller, and its place among that caller's asks, from 0
pub record CallName : Type 0 where
  pub caller : ℕ
  pub call : ℕ

-- the name of the call that an entry is of
abbrev pub name_of : Entry → CallName
name_of entry = record { caller = entry.caller; call = entry.call }

-- the entry of a call
abbrev pub call_entry : CallName → Asked → Reply → Entry
call_entry name op reply = record { caller = name.caller; call = name.call; op = op; reply = reply }

-- 1 for an ask of this caller, whatever it is answered
abbrev pub asks_in : ℕ → Event → ℕ
asks_in caller (Ask who _ _) = if who == caller then 1 else 0
asks_in caller (Collect _ _ _) = 0
asks_in caller (Deliver _ _) = 0
asks_in caller (Fail _ _) = 0
asks_in caller (Flush _) = 0
asks_in caller (Trace _ _ _ _) = 0

-- how many calls a caller made
abbrev pub asks_of : ℕ → List Turn → ℕ
asks_of caller [] = 0
asks_of caller (turn ∷ turns) = asks_in caller turn.event + asks_of caller turns

-- a reply of the table that accepts an update
abbrev pub accepts : Reply → Bool
accepts Stored = true
accepts Deleted = true
accepts Touched = true
accepts (Number _) = true
accepts _ = false
