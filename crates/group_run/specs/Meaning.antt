-- What a run means, told apart from how it goes: by the log alone, and by what each process holds.
use Rattle.std.specs.Prelude.{ℕ, zero, suc, ◌≡◌, ◌≢◌, ◌<◌, ◌≤◌, ◌+◌, ◌==◌, Bool, true, false, List, [], ◌∷◌, ◌++◌}
use Rattle.std.specs.Prelude.{length, take, drop, replicate, slice_get, Option, Some, None, Contains, if◌then◌else◌}
use Rattle.group_types.specs.Dimensions.{space_of}
use Rattle.group_types.specs.Hash.{home_of}
use Rattle.group_types.specs.Lists.{at, same_key}
use Rattle.group_types.specs.Names.{IsProcess, IsHead, of_rank, index_of}
use Rattle.group_types.specs.declared.process.ProcessId.{ProcessId}
use Rattle.group_types.specs.declared.process.ProcessId.TheVariants.{DataNode, ParityNode}
use Rattle.group_types.specs.declared.run.Run.{Run}
use Rattle.membership.specs.Members.{knows_dead}
use Rattle.memc_table.specs.Act.{key_of}
use Rattle.memc_table.specs.Contents.{Contents, empty_table, table_after}
use Rattle.memc_table.specs.declared.holding.Holding.{Holding}
use Rattle.group_message.specs.declared.message.Message.{Message}
use Rattle.group_message.specs.declared.message.Message.TheVariants as tells
use Rattle.group_calls.specs.Log.{table_of}
use Rattle.group_calls.specs.Turns.{accepts}
use Rattle.group_calls.specs.declared.entry.Entry.{Entry}
use Rattle.group_run.specs.Applying.{replica_of, head_at}
use Rattle.group_run.specs.Process.{Head, Process}
use Rattle.group_run.specs.Replica.{last_of}
use Rattle.group_run.specs.World.{World, dead_nodes, front_if, process_node}

-- an update of a partition, as the log tells it: its entry, its run, and the value that its key has in
-- the table after it, if the key has an item then
pub record Logged : Type 0 where
  pub entry : Entry
  pub run : Option Run
  pub item : Option Holding

-- the entry is an accepted update of partition d, of k
abbrev pub is_update_of : ℕ → ℕ → Entry → Bool
is_update_of k d entry = if accepts entry.reply then home_of (key_of entry.op.act) k == d else false

-- the run of the next update, if it has one
abbrev pub next_run : List (Option Run) → Option Run
next_run [] = None
next_run (run ∷ _) = run

-- the runs that are left behind an entry
abbrev pub runs_left : Bool → List (Option Run) → List (Option Run)
runs_left true runs = drop 1 runs
runs_left false runs = runs

-- the updates of partition d in a log, from a table on, with their runs in order
abbrev pub updates_from : ℕ → ℕ → Contents → List (Option Run) → List Entry → List Logged
updates_from k d t runs [] = []
updates_from k d t runs (e ∷ es) =
    let u : Contents = table_after t e.op in
    front_if (is_update_of k d e) (record { entry = e; run = next_run runs; item = u.items (key_of e.op.act) })
    (updates_from k d u (runs_left (is_update_of k d e) runs) es)

-- the updates of a partition: the n-th has the number n
abbrev pub updates_of : World → ℕ → List Logged
updates_of w d = updates_from w.shape.k d (empty_table w.shape.k) (at [] w.places d) w.log

-- how many updates of a partition the log has
abbrev pub count_logged : World → ℕ → ℕ
count_logged w d = length (updates_of w d)

-- how many updates are still to come behind an entry that is one, or isn't
abbrev pub left_after : Bool → ℕ → ℕ
left_after true n = n
left_after false n = suc n

-- the first entries of a log, up to the n-th update of partition d
abbrev pub cut_after : ℕ → ℕ → ℕ → List Entry → List Entry
cut_after k d n [] = []
cut_after k d zero (e ∷ es) = []
cut_after k d (suc n) (e ∷ es) = e ∷ cut_after k d (left_after (is_update_of k d e) n) es

-- the table after the first n updates of partition d
abbrev pub table_at : World → ℕ → ℕ → Contents
table_at w d n = table_of (empty_table w.shape.k) (cut_after w.shape.k d n w.log)

-- the run of a key's item after an update on the key: its own, the old one where it has none, and none
-- where it leaves no item
abbrev pub item_run_after : Option Holding → Option Run → Option Run → Option Run
item_run_after None run old = None
item_run_after (Some _) None old = old
item_run_after (Some _) (Some run) old = Some run

-- the run of a key after an update, which changes it only where it is on that key
abbrev pub run_unless : Bool → Logged → Option Run → Option Run
run_unless true u old = item_run_after u.item u.run old
run_unless false u old = old

-- the run of a key after updates, in order: that of the last update on it that has one
abbrev pub run_on : List ℕ → Option Run → List Logged → Option Run
run_on key old [] = old
run_on key old (u ∷ us) = run_on key (run_unless (same_key (key_of u.entry.op.act) key) u old) us

-- a space with a value written at a run
abbrev pub written : Option Run → Option Holding → List ℕ → List ℕ
written (Some run) (Some h) space = take run.at space ++ h.item.value ++ drop (run.at + run.len) space
written (Some run) None space = space
written None item space = space

-- a space after updates: each one's value stands at its run
abbrev pub space_from : List ℕ → List Logged → List ℕ
space_from space [] = space
space_from space (u ∷ us) = space_from (written u.run u.item space) us

-- the space of partition d after its first n updates
abbrev pub values_after : World → ℕ → ℕ → List ℕ
values_after w d n = space_from (replicate (space_of w.shape) 0) (take n (updates_of w d))

-- the spaces of all partitions from d on, each after as many updates as a stamp says
abbrev pub spaces_at : World → ℕ → List ℕ → List (List ℕ)
spaces_at w d [] = []
spaces_at w d (n ∷ ns) = values_after w d n ∷ spaces_at w (suc d) ns

-- the process of a node
abbrev pub process_of : World → ProcessId → Process
process_of w p = (process_node w p).process

-- whether a process is dead
abbrev pub is_dead : World → ProcessId → Bool
is_dead w p = (process_node w p).dead

-- the process is one of the group, and lives
abbrev pub Lives : World → ProcessId → Type 0
Lives w p = IsProcess w.shape p × (is_dead w p ≡ false)

-- the group is down exactly where more than m processes are dead
abbrev pub IsDown : World → Type 0
IsDown w = w.shape.m < dead_nodes w.nodes

-- the link from one process to another
abbrev pub link : World → ProcessId → ProcessId → List Message
link w from to = at [] (process_node w from).links (index_of w.shape to)

-- the process of rank r heads partition d: it lives, and those of lower rank are dead
abbrev pub Heads : World → ℕ → ℕ → Type 0
Heads w d r = IsHead w.shape.m (is_dead w) d r

-- it has taken over: no notice of a process of lower rank is on its way to it
abbrev pub HasTakenOver : World → ℕ → ℕ → Type 0
HasTakenOver w d r = (q : ℕ) (from : ProcessId) → q < r → IsProcess w.shape from → from ≢ of_rank d r
    → ¬ (Contains (link w from (of_rank d r)) (tells.Notice (of_rank d q)))

-- a parity process has acknowledged number n, or a later one, to a head
abbrev pub HasAcked : Head → ℕ → ℕ → Type 0
HasAcked h i n = (a : ℕ) × (at None h.acks i ≡ Some a) × (n ≤ a)

-- update n is unfinished at a head: it is above the settled number, and some other parity process that
-- isn't known to be dead hasn't acknowledged it
pub record IsUnfinished (w : World) (p : ProcessId) (d n : ℕ) (h : Head) : Type 0 where
  pub heads : head_at (process_of w p) d ≡ Some h
  pub above : (replica_of (process_of w p) d).applied < n
  pub within : n ≤ last_of (replica_of (process_of w p) d)
  pub waits : (i : ℕ) × (i < w.shape.m) × (ParityNode i ≢ p) × (knows_dead (process_of w p).known (ParityNode i) ≡ false) × (¬ (HasAcked h i n))

-- drained: every link into a living process is empty
abbrev pub IsDrained : World → Type 0
IsDrained w = (from to : ProcessId) → IsProcess w.shape from → Lives w to → from ≢ to → link w from to ≡ []

-- the stamp of a parity process, and the settled number of a data process, at a list of numbers
abbrev pub AgreesOn : World → List ℕ → ProcessId → Type 0
AgreesOn w v (DataNode d) = slice_get v d ≡ Some (replica_of (process_of w (DataNode d)) d).applied
AgreesOn w v (ParityNode i) = (d : ℕ) → d < w.shape.k → slice_get v d ≡ Some (replica_of (process_of w (ParityNode i)) d).applied

-- no process stands twice in a list
abbrev pub AreDistinct : List ProcessId → Type 0
AreDistinct [] = Unit {0}
AreDistinct (p ∷ ps) = (¬ (Contains ps p)) × AreDistinct ps

-- k living processes of the group that agree on a stamp
pub record AgreeingSurvivors (w : World) (ps : List ProcessId) (v : List ℕ) : Type 0 where
  pub many : length ps ≡ w.shape.k
  pub stamp : length v ≡ w.shape.k
  pub distinct : AreDistinct ps
  pub living : (p : ProcessId) → Contains ps p → Lives w p
  pub agree : (p : ProcessId) → Contains ps p → AgreesOn w v p
