-- What a message has to meet at the process that receives it, unless it is dropped there. Laws prove it
-- of every delivery, and the processes ask for it.
use Rattle.std.specs.Prelude.{ℕ, suc, ◌≡◌, ◌≢◌, ◌+◌, ◌-◌, ◌<◌, ◌≤◌, ◌==◌, false, true, ⊤, List, [], ◌∷◌, length, drop}
use Rattle.std.specs.Prelude.{All, AllPairs, Contains, IfSome, Some, None}
use Rattle.group_types.specs.Dimensions.{Dimensions, space_of}
use Rattle.group_types.specs.Lists.{at}
use Rattle.group_types.specs.Names.{IsProcess, of_rank}
use Rattle.group_types.specs.declared.process.ProcessId.{ProcessId}
use Rattle.group_types.specs.declared.process.ProcessId.TheVariants.{DataNode, ParityNode}
use Rattle.group_types.specs.declared.run.Run.{Run}
use Rattle.membership.specs.Members.{knows_dead}
use Rattle.group_message.specs.declared.message.Message.{Message}
use Rattle.group_message.specs.declared.message.Message.TheVariants as tells
use Rattle.group_message.specs.declared.message.Session.{Session}
use Rattle.group_message.specs.declared.update.Body.{Body}
use Rattle.group_message.specs.declared.update.Body.TheVariants.{Put, Remove, Touch}
use Rattle.group_message.specs.declared.update.Update.{Update}
use Rattle.run_alloc.specs.Free.{AllFree}
use Rattle.group_run.specs.Applying.{replica_of, head_at}
use Rattle.group_run.specs.Deciding.{window}
use Rattle.group_run.specs.Free.{is_free}
use Rattle.group_run.specs.Leaders.{open_session}
use Rattle.group_run.specs.Process.{Process, Head}
use Rattle.group_run.specs.Replica.{Replica, callers, slot_in, run_of, freed_by, items_after, applied_to, last_of, with_log, with_update}
use Rattle.group_run.specs.Rows.{parity_number, copy_in, accepts_mark}

-- to a data process come acknowledgements, questions for a block, and notices
abbrev pub IsForData : Message → Type 0
IsForData (tells.Ack _ _ _) = ⊤
IsForData (tells.ReadBlock _ _ _) = ⊤
IsForData (tells.Notice _) = ⊤
IsForData _ = ⊥

-- to a parity process comes all but questions, and of blocks and rows those of its own sessions
abbrev pub IsForParity : ProcessId → Message → Type 0
IsForParity name (tells.ReadBlock _ _ _) = ⊥
IsForParity name (tells.Block session _ _) = session.leader ≡ name
IsForParity name (tells.Row session _ _) = session.leader ≡ name
IsForParity name _ = ⊤

-- a run of `len` addresses, all in the space
pub record IsRunOf (space len : ℕ) (run : Run) : Type 0 where
  pub long : run.len ≡ len
  pub inside : run.at + run.len ≤ space

-- a value that is put has a run of its length
abbrev pub Writes : ℕ → Body → Type 0
Writes space (Put _ _ run delta) = IsRunOf space (length delta) run
Writes space Remove = ⊤
Writes space (Touch _) = ⊤

-- the update can come next to the replica; the item on its key is the one that the log's updates leave
pub record CanCome (space : ℕ) (r : Replica) (u : Update) : Type 0 where
  pub caller : u.caller < callers
  pub writes : Writes space u.body
  pub free : IfSome (run_of u.body) (λ run. AllFree (is_free space r) run.at run.len)
  pub frees : u.frees ≡ freed_by u.body (slot_in (items_after r.items r.log) u.key)

-- the updates can come, one after the other
abbrev pub AllCanCome : ℕ → Replica → List Update → Type 0
AllCanCome space r [] = ⊤
AllCanCome space r (u ∷ us) = CanCome space r u × AllCanCome space (with_update u r) us

-- the updates have the numbers from `first` on
abbrev pub NumberedFrom : ℕ → List Update → Type 0
NumberedFrom first [] = ⊤
NumberedFrom first (u ∷ us) = (u.number ≡ first) × NumberedFrom (suc first) us

-- a partition of the group, with a rank in it
pub record IsRanked (s : Dimensions) (d r : ℕ) : Type 0 where
  pub partition : d < s.k
  pub rank : r ≤ s.m

-- what a head tells comes from the process of its rank in a partition of the group
pub record IsToldBy (s : Dimensions) (from : ProcessId) (d r : ℕ) : Type 0 where
  pub ranked : IsRanked s d r
  pub sender : from ≡ of_rank d r

-- an update is the next one, once what is stable is applied
pub record UpdateFits (s : Dimensions) (r : Replica) (u : Update) (stable : ℕ) : Type 0 where
  pub next : u.number ≡ suc (last_of r)
  pub reached : stable ≤ last_of r
  pub comes : CanCome (space_of s) (applied_to stable r) u
  pub few : length (applied_to stable r).log < window

-- a new head's list takes the place of the log, once everything up to its base is applied
pub record AdoptFits (s : Dimensions) (r : Replica) (base : ℕ) (list : List Update) : Type 0 where
  pub reached : base ≤ last_of r
  pub numbers : NumberedFrom (suc base) list
  pub reaches : (applied_to base r).applied ≤ base + length list
  pub come : AllCanCome (space_of s) (with_log [] (applied_to base r)) (drop ((applied_to base r).applied - base) list)
  pub few : length list ≤ window

-- an acknowledgement is of a partition that is headed under its rank, of a number that was issued
pub record AckFits (s : Dimensions) (from : ProcessId) (p : Process) (r d n : ℕ) : Type 0 where
  pub ranked : IsRanked s d r
  pub sender : (i : ℕ) × (from ≡ ParityNode i) × (i < s.m)
  pub heads : (h : Head) × (head_at p d ≡ Some h) × (h.rank ≡ r)
  pub issued : n ≤ last_of (replica_of p d)

-- a mark's partition isn't marked in the session's copy, which is of its block, and its number is one that
-- the row can apply up to
pub record MarkFits (s : Dimensions) (p : Process) (session : Session) (block d n : ℕ) : Type 0 where
  pub leader : (l : ℕ) × (session.leader ≡ ParityNode l) × (l < s.m)
  pub partition : d < s.k
  pub inside : block < s.blocks
  pub above : (replica_of p d).applied ≤ n
  pub issued : n ≤ last_of (replica_of p d)
  pub unmarked : IfSome (copy_in p.as_row.copies (parity_number session.leader) session.number) (λ c. (at None c.marks d ≡ None) × (c.block ≡ block))

-- a block that a leader asks for is one of the space, and the rows are different ones of the group
pub record ReadFits (s : Dimensions) (p : Process) (session : Session) (block : ℕ) (rows : List ℕ) : Type 0 where
  pub holder : (d : ℕ) × (p.name ≡ DataNode d) × (d < s.k)
  pub leader : (l : ℕ) × (session.leader ≡ ParityNode l) × (l < s.m)
  pub inside : block < s.blocks
  pub in_group : All (λ i. i < s.m) rows
  pub differ : AllPairs (λ i j. i ≢ j) rows

-- a block of an open session is one of a partition that isn't lost
pub record BlockFits (s : Dimensions) (from : ProcessId) (p : Process) (number : ℕ) (bytes : List ℕ) : Type 0 where
  pub sender : (d : ℕ) × (from ≡ DataNode d) × (d < s.k) × IfSome (open_session p.as_leader number) (λ g. ¬ (Contains g.lost d))
  pub long : length bytes ≡ s.block

-- a row of an open session is one that it asked
pub record RowFits (s : Dimensions) (from : ProcessId) (p : Process) (number : ℕ) (bytes : List ℕ) : Type 0 where
  pub sender : (i : ℕ) × (from ≡ ParityNode i) × (i < s.m) × IfSome (open_session p.as_leader number) (λ g. Contains g.rows i)
  pub long : length bytes ≡ s.block

-- a notice names another process, which isn't known to be dead
pub record NoticeFits (s : Dimensions) (p : Process) (dead : ProcessId) : Type 0 where
  pub process : IsProcess s dead
  pub other : dead ≢ p.name
  pub news : knows_dead p.known dead ≡ false

-- a message fits what the process holds that receives it, and comes from whom it may; an update, a settled number and a new
-- head's list fit only unless their rank is stale, below the receiver's, and a mark only unless the row drops it
abbrev pub Fits : Dimensions → ProcessId → Message → Process → Type 0
Fits s from (tells.Update r d u stable) p = IsToldBy s from d.0 r.0 × ((unless_stale : at 0 p.ranks d.0 ≤ r.0) → UpdateFits s (replica_of p d.0) u stable)
Fits s from (tells.Ack r d n) p = AckFits s from p r.0 d.0 n
Fits s from (tells.Stable r d n) p = IsToldBy s from d.0 r.0 × ((unless_stale : at 0 p.ranks d.0 ≤ r.0) → n ≤ last_of (replica_of p d.0))
Fits s from (tells.Adopt r d base list) p = IsToldBy s from d.0 r.0 × ((unless_stale : at 0 p.ranks d.0 ≤ r.0) → AdoptFits s (replica_of p d.0) base list)
Fits s from (tells.ReadBlock session block rows) p = ReadFits s p session block rows
Fits s from (tells.Block session bytes n) p = BlockFits s from p session.number bytes
Fits s from (tells.Mark session r block d n) p =
    (unless_dropped : accepts_mark p (parity_number session.leader) session.number r.0 d.0 ≡ true)
    → MarkFits s p session block d.0 n
Fits s from (tells.Row session bytes stamp) p = RowFits s from p session.number bytes
Fits s from (tells.Cease upto) p = (i : ℕ) × (from ≡ ParityNode i) × (i < s.m)
Fits s from (tells.Notice dead) p = (from ≡ dead) × NoticeFits s p dead
