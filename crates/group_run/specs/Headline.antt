-- The sentences of the headline, for a group after a run in which at most m processes were lost. They
-- are named here and proved above.
use Rattle.std.specs.Prelude.{ℕ, suc, ◌≡◌, ◌≢◌, ◌<◌, ◌≤◌, ◌+◌, true, false, List, [], ◌∷◌, length, take, slice_get, Option, Some, None, Contains, All, AllPairs}
use Rattle.group_types.specs.Dimensions.{Dimensions, space_of}
use Rattle.group_types.specs.Hash.{home_of}
use Rattle.group_types.specs.Lists.{at}
use Rattle.group_types.specs.Names.{IsProcess}
use Rattle.group_types.specs.Shape.{IsShape}
use Rattle.group_types.specs.declared.process.ProcessId.{ProcessId}
use Rattle.group_types.specs.declared.process.ProcessId.TheVariants.{DataNode, ParityNode}
use Rattle.group_types.specs.declared.run.Run.{Run}
use Rattle.item_index.specs.declared.slot.Slot.{Slot}
use Rattle.memc_table.specs.Act.{act_value, key_of}
use Rattle.memc_table.specs.declared.holding.Holding.{Holding}
use Rattle.group_message.specs.declared.update.Update.{Update}
use Rattle.group_calls.specs.Log.{IsLegal}
use Rattle.group_calls.specs.Turns.{log_of}
use Rattle.group_calls.specs.Within.{AnswersWithin}
use Rattle.group_calls.specs.declared.event.Event.{Event}
use Rattle.group_calls.specs.declared.event.Event.TheVariants.{Ask, Collect, Deliver, Fail, Flush, Trace}
use Rattle.group_run.specs.Applying.{replica_of}
use Rattle.erasure_code.specs.Code.{coded}
use Rattle.erasure_code.specs.Spaces.{bytes_at}
use Rattle.group_run.specs.Deciding.{window}
use Rattle.group_run.specs.Free.{in_run}
use Rattle.group_run.specs.Meaning.{Logged, updates_of, count_logged, table_at, run_on, values_after, spaces_at}
use Rattle.group_run.specs.Meaning.{process_of, Lives, IsDown, AgreesOn, AgreeingSurvivors}
use Rattle.group_run.specs.Replica.{Replica, callers, slot_in, run_in, last_of, run_of}
use Rattle.group_run.specs.World.{World, after, turns_of, step, opening}

-- an event that may come: its callers and processes are in range, a value consists of bytes, a link is
-- between two, and the call that is traced was asked
abbrev pub MayCome : World → Event → Type 0
MayCome w (Ask caller op p) = (caller < callers) × IsProcess w.shape p × All (λ b. b < 256) (act_value op.act)
MayCome w (Collect caller call p) = (caller < callers) × IsProcess w.shape p
MayCome w (Deliver from to) = IsProcess w.shape from × IsProcess w.shape to × (from ≢ to)
MayCome w (Fail p keep) = IsProcess w.shape p
MayCome w (Flush p) = IsProcess w.shape p
MayCome w (Trace caller call d p) = (caller < callers) × (call < at 0 w.asked caller) × (d.0 < w.shape.k) × IsProcess w.shape p

-- a list of events that may come, one after the other
abbrev pub IsRunFrom : World → List Event → Type 0
IsRunFrom w [] = Unit {0}
IsRunFrom w (e ∷ es) = MayCome w e × IsRunFrom (step w e).world es

-- a list of events that may come from the start of a group on
abbrev pub IsRun : Dimensions → List Event → Type 0
IsRun s es = IsShape s × IsRunFrom (opening s) es

-- one log: the log that the group keeps is that of the turns, its answers are those of one table, and
-- each answered call stands in it once, within its time
pub record OneLog (s : Dimensions) (es : List Event) : Type 0 where
  pub kept : (after s es).log ≡ log_of (turns_of s es)
  pub legal : IsLegal s.k (after s es).log
  pub within : AnswersWithin s.k (turns_of s es)

-- a settled item is the one that the table has, in the run of its last update that has one
abbrev pub IsItem : Option Slot → Option Holding → Option Run → Type 0
IsItem None None run = Unit {0}
IsItem (Some slot) (Some h) run = (run ≡ Some (run_in slot)) × (slot.flags ≡ h.item.flags) × (slot.cas ≡ h.item.cas)
    × (slot.until ≡ h.until) × (slot.len ≡ length h.item.value)
IsItem None (Some h) run = ⊥
IsItem (Some slot) None run = ⊥

-- the settled items of a replica are those of the table after as many updates as it has applied, each key
-- once, and no other partition's
pub record IsSettled (w : World) (d : ℕ) (r : Replica) : Type 0 where
  pub items : (key : List ℕ) → home_of key w.shape.k ≡ d
      → IsItem (slot_in r.items key) ((table_at w d r.applied).items key)
      (run_on key None (take r.applied (updates_of w d)))
  pub homes : All (λ x. home_of x.0 w.shape.k ≡ d) r.items
  pub once : AllPairs (λ x y. x.0 ≢ y.0) r.items

-- an update of a log is the one of partition d that has its number
pub record IsLogged (u : Logged) (v : Update) : Type 0 where
  pub caller : v.caller ≡ u.entry.caller
  pub call : v.call ≡ u.entry.call
  pub key : v.key ≡ key_of u.entry.op.act
  pub run : run_of v.body ≡ u.run

-- no logged update is undone: a replica has applied or keeps in its log, by consecutive numbers, every
-- update of the partition
pub record KeepsAll (w : World) (d : ℕ) (r : Replica) : Type 0 where
  pub applied : r.applied ≤ count_logged w d
  pub reached : count_logged w d ≤ last_of r
  pub settled : IsSettled w d r
  pub numbers : (j : ℕ) (v : Update) → slice_get r.log j ≡ Some v → v.number ≡ suc (r.applied + j)
  pub log : (j : ℕ) (u : Logged) (v : Update) → slice_get r.log j ≡ Some v → slice_get (updates_of w d) (r.applied + j) ≡ Some u → IsLogged u v

-- no logged update is undone, at any living process
pub record NotUndone (w : World) : Type 0 where
  pub at_data : (d : ℕ) → Lives w (DataNode d) → KeepsAll w d (replica_of (process_of w (DataNode d)) d)
  pub all_applied : (d : ℕ) → Lives w (DataNode d) → (replica_of (process_of w (DataNode d)) d).applied ≡ count_logged w d
  pub at_parity : (i d : ℕ) → d < w.shape.k → Lives w (ParityNode i) → KeepsAll w d (replica_of (process_of w (ParityNode i)) d)

-- no log has more than 256 updates
pub record LogsAreShort (w : World) : Type 0 where
  pub at_data : (d : ℕ) → Lives w (DataNode d) → length (replica_of (process_of w (DataNode d)) d).log ≤ window
  pub at_parity : (i d : ℕ) → d < w.shape.k → Lives w (ParityNode i) → length (replica_of (process_of w (ParityNode i)) d).log ≤ window

-- agree on a stamp: each living data process holds the values up to its settled number, and each living
-- parity process the code of the values up to its stamp
pub record AgreeOnStamp (w : World) : Type 0 where
  pub data_holds : (d : ℕ) → Lives w (DataNode d) → (process_of w (DataNode d)).space ≡ values_after w d (replica_of (process_of w (DataNode d)) d).applied
  pub parity_holds : (i : ℕ) (v : List ℕ) → Lives w (ParityNode i) → length v ≡ w.shape.k → AgreesOn w v (ParityNode i)
      → (process_of w (ParityNode i)).space ≡ coded w.shape.m i (space_of w.shape) (spaces_at w 0 v)

-- columns agree with what a process holds
abbrev pub FitsHeld : World → List (List ℕ) → ProcessId → Type 0
FitsHeld w columns (DataNode d) = slice_get columns d ≡ Some (process_of w (DataNode d)).space
FitsHeld w columns (ParityNode i) = (process_of w (ParityNode i)).space ≡ coded w.shape.m i (space_of w.shape) columns

-- columns of bytes, one for each partition, as long as a space
pub record AreColumns (w : World) (columns : List (List ℕ)) : Type 0 where
  pub many : length columns ≡ w.shape.k
  pub long : All (λ column. length column ≡ space_of w.shape) columns
  pub bytes : All (All (λ byte. byte < 256)) columns

-- decode exactly: the values up to the stamp are the only columns that agree with the bytes of k survivors
-- that agree on it
pub record DecodesExactly (w : World) (ps : List ProcessId) (v : List ℕ) : Type 0 where
  pub fit : (p : ProcessId) → Contains ps p → FitsHeld w (spaces_at w 0 v) p
  pub only : (columns : List (List ℕ)) → AreColumns w columns → ((p : ProcessId) → Contains ps p → FitsHeld w columns p) → columns ≡ spaces_at w 0 v

-- two runs have no address in common
abbrev pub AreApart : Run → Run → Type 0
AreApart a b = (x : ℕ) → in_run x a ≡ true → in_run x b ≡ false

-- values written: an update's run lies in the space, is as long as its value, and avoids the runs of the
-- items before it
pub record HasClearRun (w : World) (d n : ℕ) (run : Run) (h : Holding) : Type 0 where
  pub inside : run.at + run.len ≤ space_of w.shape
  pub long : run.len ≡ length h.item.value
  pub apart : (key : List ℕ) (other : Run) → run_on key None (take n (updates_of w d)) ≡ Some other → AreApart run other

-- an item that the table has after n updates of partition d has its value in the space after these, at the
-- run of its last update that has one
pub record HasItsValue (w : World) (d n : ℕ) (key : List ℕ) (h : Holding) : Type 0 where
  pub run : Run
  pub at_run : run_on key None (take n (updates_of w d)) ≡ Some run
  pub value : bytes_at run.at run.len (values_after w d n) ≡ h.item.value

-- every update that has a run is written at it, and so every item has its value
pub record ValuesWritten (w : World) : Type 0 where
  pub runs : (d n : ℕ) (u : Logged) (run : Run) → d < w.shape.k → slice_get (updates_of w d) n ≡ Some u
      → u.run ≡ Some run → (h : Holding) × (u.item ≡ Some h) × HasClearRun w d n run h
  pub items : (d n : ℕ) (key : List ℕ) (h : Holding) → d < w.shape.k → n ≤ count_logged w d → home_of key w.shape.k ≡ d
      → (table_at w d n).items key ≡ Some h → HasItsValue w d n key h

-- the headline, of a group that isn't down but for its log and its values, which stay what they are
pub record Headline (s : Dimensions) (es : List Event) : Type 0 where
  pub one_log : OneLog s es
  pub not_undone : ¬ (IsDown (after s es)) → NotUndone (after s es)
  pub agree : ¬ (IsDown (after s es)) → AgreeOnStamp (after s es)
  pub decode : ¬ (IsDown (after s es)) → (ps : List ProcessId) (v : List ℕ) → AgreeingSurvivors (after s es) ps v → DecodesExactly (after s es) ps v
  pub values : ValuesWritten (after s es)
