-- What a parity head issued itself changes no byte of a block that it hasn't rebuilt.
use Rattle.std.specs.Prelude.{ℕ, ◌≡◌, ◌+◌, ◌*◌, ◌<◌, ◌≤◌, false, List, drop, take, Some, None}
use Rattle.group_types.specs.Dimensions.{Dimensions}
use Rattle.group_types.specs.declared.process.ProcessId.TheVariants.{ParityNode}
use Rattle.group_types.specs.Each.{Each}
use Rattle.group_message.specs.declared.update.Update.{Update}
use Rattle.group_run.specs.Applying.{head_at, replica_of}
use Rattle.group_run.specs.Leaders.{rebuilt_block}
use Rattle.group_run.specs.Process.{Head, Process}
use Rattle.group_run.specs.History.{history}
use Rattle.law_moves.specs.State.{State}
use Rattle.law_moves.proofs.Members.{IsParity}
use Rattle.law_bytes.specs.Areas.{IsBlock, change, value}

-- an update changes no byte of block b
abbrev pub StaysOff : Dimensions → ℕ → Update → Type 0
StaysOff s b u = (x : ℕ) → x < s.block → change u.body (b * s.block + x) ≡ 0

-- what a process issued of partition d, where it heads it, stays off the blocks that it hasn't rebuilt: that
-- is what its history has behind what it inherited
abbrev pub HeadOff : Dimensions → ℕ → List Update → Process → Type 0
HeadOff s d settled p = (h : Head) (b : ℕ) → head_at p d ≡ Some h → rebuilt_block p.as_leader d b ≡ None
    → Each (StaysOff s b) (drop h.inherited (history settled (replica_of p d)))

-- so it is at all living parity processes
abbrev pub HeadsOff : Dimensions → State → Type 0
HeadsOff s v = (i d : ℕ) → i < s.m → v.dead (ParityNode i) ≡ false → d < s.k → HeadOff s d (v.settled d) (v.process (ParityNode i))

-- the settled updates up to a number that isn't below what the head inherited have in such a block the values
-- of all that it has applied
abbrev pub SameValues : Dimensions → ℕ → List Update → Process → Type 0
SameValues s d settled p = (h : Head) (b n x : ℕ) → head_at p d ≡ Some h → rebuilt_block p.as_leader d b ≡ None
    → h.inherited ≤ n → n ≤ (replica_of p d).applied → x < s.block
    → value (take n settled) (b * s.block + x) ≡ value (take (replica_of p d).applied settled) (b * s.block + x)

-- a block of partition d that a process newly rebuilds has the settled values at a number from what it inherited,
-- as head of the partition, up to what it has applied
pub record RebuiltAt (s : Dimensions) (d b : ℕ) (settled : List Update) (p : Process) (bytes : List ℕ) : Type 0 where
  pub parity : IsParity p.name
  pub head : Head
  pub heads : head_at p d ≡ Some head
  pub number : ℕ
  pub inherited : head.inherited ≤ number
  pub applied : number ≤ (replica_of p d).applied
  pub values : IsBlock s b (value (take number settled)) bytes

-- so it is of all blocks that weren't rebuilt before a step, and are after it
abbrev pub RebuildsAt : Dimensions → (ℕ → List Update) → Process → Process → Type 0
RebuildsAt s settled p q = (d b : ℕ) (bytes : List ℕ) → d < s.k → rebuilt_block p.as_leader d b ≡ None
    → rebuilt_block q.as_leader d b ≡ Some bytes → RebuiltAt s d b (settled d) p bytes
