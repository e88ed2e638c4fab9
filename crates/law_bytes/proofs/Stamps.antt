-- All that one block session has under way and has gathered is of one block, of the same rows, and of one
-- number of each partition.
use Rattle.std.specs.Prelude.{ℕ, ◌≡◌, ◌≢◌, ◌<◌, ◌≤◌, true, false, List, length, take, is_some, Some, None, Contains, IfSome}
use Rattle.group_types.specs.Dimensions.{Dimensions}
use Rattle.group_types.specs.Lists.{at}
use Rattle.group_types.specs.Names.{IsProcess}
use Rattle.group_types.specs.declared.process.ProcessId.{ProcessId}
use Rattle.group_types.specs.declared.process.ProcessId.TheVariants.{DataNode, ParityNode}
use Rattle.group_types.specs.Each.{Each}
use Rattle.group_message.specs.declared.message.Message.{Message}
use Rattle.group_message.specs.declared.message.Message.TheVariants as tells
use Rattle.group_message.specs.declared.message.Session.{Session}
use Rattle.group_message.specs.declared.update.Update.{Update}
use Rattle.group_run.specs.Applying.{head_at, replica_of}
use Rattle.group_run.specs.Leaders.{open_session}
use Rattle.group_run.specs.Process.{Copy, Gathering, Process}
use Rattle.group_run.specs.Rows.{copy_in}
use Rattle.law_moves.specs.State.{State}
use Rattle.law_bytes.specs.Areas.{IsBlock, code, value}

-- what all of a session has in common: the block, the rows that are to give their code, and the number at
-- which each partition stands
pub record Plan : Type 0 where
  pub block : ℕ
  pub rows : List ℕ
  pub numbers : ℕ → ℕ

-- the settled updates of each partition up to the plan's numbers
abbrev pub planned : (ℕ → List Update) → Plan → ℕ → List Update
planned settled plan d = take (plan.numbers d) (settled d)

-- the session is that of this number of parity process l
abbrev pub OfSession : ℕ → ℕ → Session → Type 0
OfSession l n session = (session.leader ≡ ParityNode l) × (session.number ≡ n)

-- a parity process is among the rows
abbrev pub AmongRows : List ℕ → ProcessId → Type 0
AmongRows rows (DataNode e) = Unit {0}
AmongRows rows (ParityNode i) = Contains rows i

-- a data process's block has its values at the plan's number
abbrev pub BlockFollows : Dimensions → (ℕ → List Update) → Plan → ProcessId → List ℕ → ℕ → Type 0
BlockFollows s settled plan (DataNode e) bytes n = (n ≡ plan.numbers e) × IsBlock s plan.block (value (planned settled plan e)) bytes
BlockFollows s settled plan (ParityNode i) bytes n = Unit {0}

-- a parity process's row is the code at the plan's numbers, which are its stamp
abbrev pub RowFollows : Dimensions → (ℕ → List Update) → Plan → ProcessId → List ℕ → List ℕ → Type 0
RowFollows s settled plan (DataNode e) bytes stamp = Unit {0}
RowFollows s settled plan (ParityNode i) bytes stamp =
    Contains plan.rows i × IsBlock s plan.block (code s i (planned settled plan)) bytes × ((d : ℕ) → d < s.k → at 0 stamp d ≡ plan.numbers d)

-- a message from x to q, if it is of the session, follows the plan
abbrev pub Follows : Dimensions → (ℕ → List Update) → ℕ → ℕ → Plan → ProcessId → ProcessId → Message → Type 0
Follows s settled l n plan x q (tells.ReadBlock session block rows) = OfSession l n session → (block ≡ plan.block) × (rows ≡ plan.rows)
Follows s settled l n plan x q (tells.Mark session r block d number) = OfSession l n session → (block ≡ plan.block)
    × (number ≡ plan.numbers d.0) × AmongRows plan.rows q
Follows s settled l n plan x q (tells.Block session bytes number) = OfSession l n session → BlockFollows s settled plan x bytes number
Follows s settled l n plan x q (tells.Row session bytes stamp) = OfSession l n session → RowFollows s settled plan x bytes stamp
Follows s settled l n plan x q _ = Unit {0}

-- a row's copy is of the plan's block, is marked at the plan's numbers, and is marked somewhere
pub record CopyFollows (s : Dimensions) (plan : Plan) (c : Copy) : Type 0 where
  pub block : c.block ≡ plan.block
  pub marks : (d number : ℕ) → d < s.k → at None c.marks d ≡ Some number → number ≡ plan.numbers d
  pub marked : (d : ℕ) × (d < s.k) × (is_some (at None c.marks d) ≡ true)

-- an open session is of the plan's block and rows, and what it has gathered are their code and the other
-- partitions' values at the plan's numbers
pub record GatheringFollows (s : Dimensions) (settled : ℕ → List Update) (plan : Plan) (g : Gathering) : Type 0 where
  pub block : g.block ≡ plan.block
  pub inside : g.block < s.blocks
  pub rows : g.rows ≡ plan.rows
  pub rows_in : (i : ℕ) (bytes : List ℕ) → at None g.rows_in i ≡ Some bytes → Contains plan.rows i
      × IsBlock s plan.block (code s i (planned settled plan)) bytes
  pub blocks_in : (d : ℕ) (bytes : List ℕ) → at None g.blocks_in d ≡ Some bytes → (d < s.k) × IsBlock s plan.block (value (planned settled plan d)) bytes

-- what a process has of the session follows the plan: its copy, if it is a row, and the open session, if it
-- is the leader, which has opened no session above its last
pub record ProcessFollows (s : Dimensions) (settled : ℕ → List Update) (l n : ℕ) (plan : Plan) (p : Process) : Type 0 where
  pub copy : (r : ℕ) → p.name ≡ ParityNode r → IfSome (copy_in p.as_row.copies l n) (λ c. Contains plan.rows r × CopyFollows s plan c)
  pub session : p.name ≡ ParityNode l → IfSome (open_session p.as_leader n) (λ g. (n ≤ p.as_leader.last_session) × GatheringFollows s settled plan g)

-- what the leader of an open session has applied of a lost partition reaches the plan's number, and that, where
-- it heads the partition, is not below what it inherited
abbrev pub LostFollows : ℕ → ℕ → Plan → Process → Type 0
LostFollows l n plan p = p.name ≡ ParityNode l → IfSome (open_session p.as_leader n) (λ g. (e : ℕ) → Contains g.lost e
    → (plan.numbers e ≤ (replica_of p e).applied) × IfSome (head_at p e) (λ h. h.inherited ≤ plan.numbers e))

-- all of the session follows the plan, whose numbers are settled
pub record SessionFollows (s : Dimensions) (v : State) (l n : ℕ) (plan : Plan) : Type 0 where
  pub within : (d : ℕ) → d < s.k → plan.numbers d ≤ length (v.settled d)
  pub links : (x q : ProcessId) → IsProcess s x → IsProcess s q → x ≢ q → v.dead q ≡ false → Each (Follows s v.settled l n plan x q) (v.link x q)
  pub processes : (p : ProcessId) → IsProcess s p → v.dead p ≡ false → ProcessFollows s v.settled l n plan (v.process p)
  pub lost : (p : ProcessId) → IsProcess s p → v.dead p ≡ false → LostFollows l n plan (v.process p)

-- each session of each parity process follows a plan
abbrev pub SessionsStand : Dimensions → State → Type 0
SessionsStand s v = (l n : ℕ) → l < s.m → (plan : Plan) × SessionFollows s v l n plan
