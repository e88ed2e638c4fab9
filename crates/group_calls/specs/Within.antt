use Rattle.std.specs.Prelude.{ℕ, ◌≡◌, ◌≢◌, ◌<◌, ◌≤◌, ◌+◌, ◌⊎◌, true, List, length, take, slice_get, Some, Contains}
use Rattle.group_types.specs.Hash.{home_of}
use Rattle.group_types.specs.declared.process.ProcessId.{ProcessId}
use Rattle.memc_table.specs.Act.{key_of}
use Rattle.memc_table.specs.Asked.{Asked}
use Rattle.group_calls.specs.Turns.{Turn, CallName, log_of, asks_of, name_of, call_entry, accepts}
use Rattle.group_calls.specs.declared.entry.Entry.{Entry}
use Rattle.group_calls.specs.declared.event.Answer.{Answer}
use Rattle.group_calls.specs.declared.event.Answer.TheVariants as answered
use Rattle.group_calls.specs.declared.event.Event.{Event}
use Rattle.group_calls.specs.declared.event.Event.TheVariants.{Ask, Collect, Deliver, Fail, Flush, Trace}
use Rattle.memc_table.specs.declared.reply.Reply.{Reply}

-- turn i of a run is the ask of this name for this op
pub record IsAsk (turns : List Turn) (i : ℕ) (turn : Turn) (name : CallName) (op : Asked) : Type 0 where
  pub there : slice_get turns i ≡ Some turn
  pub at : ProcessId
  pub event : turn.event ≡ Ask name.caller op at
  pub place : asks_of name.caller (take i turns) ≡ name.call

-- the event asks what became of the call of this name
abbrev pub Fetches : Event → CallName → Type 0
Fetches (Collect caller call _) name = (caller ≡ name.caller) × (call ≡ name.call)
Fetches (Trace caller call _ _) name = (caller ≡ name.caller) × (call ≡ name.call)
Fetches (Ask _ _ _) name = ⊥
Fetches (Deliver _ _) name = ⊥
Fetches (Fail _ _) name = ⊥
Fetches (Flush _) name = ⊥

-- the event traces the call of this name in a partition
abbrev pub Traces : Event → CallName → ℕ → Type 0
Traces (Trace caller call partition _) name d = (caller ≡ name.caller) × (call ≡ name.call) × (partition.0 ≡ d)
Traces (Collect _ _ _) name d = ⊥
Traces (Ask _ _ _) name d = ⊥
Traces (Deliver _ _) name d = ⊥
Traces (Fail _ _) name d = ⊥
Traces (Flush _) name d = ⊥

-- the answer stands for a call that took effect, or that may
abbrev pub IsTaken : Answer → Type 0
IsTaken answer = ((reply : Reply) × (answer ≡ answered.Reply reply)) ⊎ ((number : ℕ) × (answer ≡ answered.Ticket number))

-- the entry of an ask stands in the log of the turns up to i, at a place that the log reached only
-- after the ask began
pub record IsLoggedSince (turns : List Turn) (i : ℕ) (name : CallName) (reply : Reply) : Type 0 where
  pub op : Asked
  pub j : ℕ
  pub ask : Turn
  pub asked : IsAsk turns j ask name op
  pub place : ℕ
  pub entry : slice_get (log_of (take (i + 1) turns)) place ≡ Some (call_entry name op reply)
  pub since : length (log_of (take j turns)) ≤ place

-- answered within its time: each answered call stands in the log once, between its asking and its
-- answering
pub record AnswersWithin (k : ℕ) (turns : List Turn) : Type 0 where
  -- no two entries have one name
  pub once : (i j : ℕ) (a b : Entry) → i < j → slice_get (log_of turns) i ≡ Some a → slice_get (log_of turns) j ≡ Some b → name_of a ≢ name_of b
  -- each entry has the op of the ask of its name, which is not later than the event that logged it
  pub asked : (i : ℕ) (turn : Turn) (entry : Entry) → slice_get turns i ≡ Some turn → Contains turn.logged entry
      → (j : ℕ) × (ask : Turn) × (j ≤ i) × IsAsk turns j ask (name_of entry) entry.op
  -- a reply to an ask is the one of its entry, which this event logged
  pub at_once : (i : ℕ) (turn : Turn) (name : CallName) (op : Asked) (reply : Reply) → IsAsk turns i turn name op
      → turn.answer ≡ answered.Reply reply → Contains turn.logged (call_entry name op reply)
  -- a reply to a collect or a trace is the one of its entry
  pub later : (i : ℕ) (turn : Turn) (name : CallName) (reply : Reply) → slice_get turns i ≡ Some turn
      → Fetches turn.event name → turn.answer ≡ answered.Reply reply → IsLoggedSince turns i name reply
  -- a call that got neither a reply nor a ticket is in no entry
  pub refused : (i : ℕ) (turn : Turn) (name : CallName) (op : Asked) (entry : Entry) → IsAsk turns i turn name op
      → ¬ (IsTaken turn.answer) → Contains (log_of turns) entry → name_of entry ≢ name
  -- a call that is gone from a partition is in no accepted entry of it
  pub gone : (i : ℕ) (turn : Turn) (name : CallName) (d : ℕ) (entry : Entry) → slice_get turns i ≡ Some turn
      → Traces turn.event name d → turn.answer ≡ answered.Gone → Contains (log_of turns) entry
      → accepts entry.reply ≡ true → home_of (key_of entry.op.act) k ≡ d → name_of entry ≢ name
