-- Calls of a cluster that are answered within their time, with places in the cluster's log. A call's name is a group, a
-- caller, and its place among that caller's asks in the group.
use Rattle.std.specs.Prelude.{ℕ, ◌≡◌, ◌≢◌, ◌<◌, ◌≤◌, ◌+◌, ◌==◌, true, List, [], ◌∷◌, length, take, slice_get, Some, Contains}
use Rattle.group_types.specs.Hash.{home_of}
use Rattle.group_types.specs.declared.process.ProcessId.{ProcessId}
use Rattle.memc_table.specs.Act.{key_of}
use Rattle.memc_table.specs.Asked.{Asked}
use Rattle.memc_table.specs.declared.reply.Reply.{Reply}
use Rattle.group_calls.specs.Turns.{Turn, CallName, accepts, asks_of, call_entry, name_of}
use Rattle.group_calls.specs.Within.{Fetches, IsTaken, Traces}
use Rattle.group_calls.specs.declared.entry.Entry.{Entry}
use Rattle.group_calls.specs.declared.event.Answer.TheVariants as answered
use Rattle.group_calls.specs.declared.event.Event.TheVariants.{Ask}
use Rattle.group_run.specs.World.{front_if}
use Rattle.group_layout.specs.Cluster.{ClusterEntry, GroupTurn, logged_in}

-- what is one group's among things that each are of a group
abbrev pub of_group : {X Y : Type 0} → (X → ℕ) → (X → Y) → ℕ → List X → List Y
of_group group part j [] = []
of_group group part j (x ∷ xs) = front_if (group x == j) (part x) (of_group group part j xs)

-- a group's turns
abbrev pub turns_in : ℕ → List GroupTurn → List Turn
turns_in j turns = of_group (λ t. t.group) (λ t. t.turn) j turns

-- turn i is the ask of this name in its group, for this op
pub record IsAskIn (turns : List GroupTurn) (i : ℕ) (t : GroupTurn) (name : CallName) (op : Asked) : Type 0 where
  pub there : slice_get turns i ≡ Some t
  pub at : ProcessId
  pub event : t.turn.event ≡ Ask name.caller op at
  pub place : asks_of name.caller (turns_in t.group (take i turns)) ≡ name.call

-- the entry of an ask in group j stands in the log of the turns up to i, at a place that the log reached only after
-- the ask began
pub record IsLoggedSinceIn (turns : List GroupTurn) (i j : ℕ) (name : CallName) (reply : Reply) : Type 0 where
  pub op : Asked
  pub asking : ℕ
  pub ask : GroupTurn
  pub asked : IsAskIn turns asking ask name op
  pub own : ask.group ≡ j
  pub place : ℕ
  pub entry : slice_get (logged_in (take (i + 1) turns)) place ≡ Some (j, call_entry name op reply)
  pub since : length (logged_in (take asking turns)) ≤ place

-- answered within its time: each answered call stands in the cluster's log once, between its asking and its answering
pub record ClusterAnswersWithin (k : ℕ) (turns : List GroupTurn) : Type 0 where
  -- no two entries have one name
  pub once : (i j : ℕ) (a b : ClusterEntry) → i < j → slice_get (logged_in turns) i ≡ Some a
      → slice_get (logged_in turns) j ≡ Some b → a.0 ≡ b.0 → name_of a.1 ≢ name_of b.1
  -- each entry has the op of the ask of its name, which is not later than the event that logged it
  pub asked : (i : ℕ) (t : GroupTurn) (entry : Entry) → slice_get turns i ≡ Some t → Contains t.turn.logged entry
      → (j : ℕ) × (ask : GroupTurn) × (j ≤ i) × (ask.group ≡ t.group) × IsAskIn turns j ask (name_of entry) entry.op
  -- a reply to an ask is the one of its entry, which this event logged
  pub at_once : (i : ℕ) (t : GroupTurn) (name : CallName) (op : Asked) (reply : Reply) → IsAskIn turns i t name op
      → t.turn.answer ≡ answered.Reply reply → Contains t.turn.logged (call_entry name op reply)
  -- a reply to a collect or a trace is the one of its entry
  pub later : (i : ℕ) (t : GroupTurn) (name : CallName) (reply : Reply) → slice_get turns i ≡ Some t
      → Fetches t.turn.event name → t.turn.answer ≡ answered.Reply reply → IsLoggedSinceIn turns i t.group name reply
  -- a call that got neither a reply nor a ticket is in no entry
  pub refused : (i : ℕ) (t : GroupTurn) (name : CallName) (op : Asked) (entry : Entry) → IsAskIn turns i t name op
      → ¬ (IsTaken t.turn.answer) → Contains (logged_in turns) (t.group, entry) → name_of entry ≢ name
  -- a call that is gone from a partition of its group is in no accepted entry of it
  pub gone : (i : ℕ) (t : GroupTurn) (name : CallName) (d : ℕ) (entry : Entry) → slice_get turns i ≡ Some t
      → Traces t.turn.event name d → t.turn.answer ≡ answered.Gone → Contains (logged_in turns) (t.group, entry)
      → accepts entry.reply ≡ true → home_of (key_of entry.op.act) k ≡ d → name_of entry ≢ name
