-- What the messages of block sessions carry, and of what copies and open sessions are: whole blocks of the space,
-- for leaders and rows of the group.
use Rattle.std.specs.Prelude.{ℕ, ◌≡◌, ◌≢◌, ◌<◌, false, List, length, All, AllPairs, Some}
use Rattle.group_types.specs.Dimensions.{Dimensions, space_of}
use Rattle.group_types.specs.Hash.{home_of}
use Rattle.group_types.specs.Names.{IsProcess}
use Rattle.group_types.specs.Shape.{IsShape}
use Rattle.group_types.specs.declared.process.ProcessId.{ProcessId}
use Rattle.group_types.specs.declared.process.ProcessId.TheVariants.{ParityNode}
use Rattle.group_types.specs.Each.{Each}
use Rattle.memc_table.specs.Act.{key_of}
use Rattle.memc_table.specs.Asked.{Asked}
use Rattle.group_message.specs.declared.message.Message.{Message}
use Rattle.group_message.specs.declared.message.Message.TheVariants as tells
use Rattle.group_message.specs.declared.message.Session.{Session}
use Rattle.group_calls.specs.declared.decision.Decision.TheVariants as decides
use Rattle.group_run.specs.Applying.{ProcessStep, head_at, replica_of}
use Rattle.group_run.specs.Asking.{found_at}
use Rattle.group_run.specs.Deciding.{decide}
use Rattle.group_run.specs.Process.{Copy, Gathering, Head, Process}
use Rattle.group_run.specs.Receiving.{receive}
use Rattle.law_moves.proofs.Moves.{Acted, Died, Popped, Treats}
use Rattle.law_moves.specs.State.{State}
use Rattle.law_moves.proofs.State.{Opens}
use Rattle.law_moves.proofs.Members.{IsParity, Members}
use Rattle.law_bytes.proofs.Held.{HoldsBytes}

-- the session is of a parity process of the group
abbrev pub IsLed : Dimensions → Session → Type 0
IsLed s session = (l : ℕ) × (session.leader ≡ ParityNode l) × (l < s.m)

-- a question for a block of the space, with different rows of the group
pub record AsksSound (s : Dimensions) (session : Session) (block : ℕ) (rows : List ℕ) : Type 0 where
  pub leader : IsLed s session
  pub inside : block < s.blocks
  pub in_group : All (λ i. i < s.m) rows
  pub differ : AllPairs (λ i j. i ≢ j) rows

-- what a message from x carries
abbrev pub Sound : Dimensions → ProcessId → Message → Type 0
Sound s x (tells.ReadBlock session block rows) = AsksSound s session block rows
Sound s x (tells.Mark session r block d n) = IsLed s session × (block < s.blocks)
Sound s x (tells.Block session bytes n) = length bytes ≡ s.block
Sound s x (tells.Row session bytes stamp) = length bytes ≡ s.block
Sound s x (tells.Ack r d n) = IsParity x
Sound s x (tells.Cease upto) = IsParity x
Sound s x _ = Unit {0}

-- a copy is of a whole block of the space
pub record CopySound (s : Dimensions) (c : Copy) : Type 0 where
  pub inside : c.block < s.blocks
  pub long : length c.bytes ≡ s.block

-- an open session is a parity process's, for a block of the space
pub record SessionSound (s : Dimensions) (name : ProcessId) (g : Gathering) : Type 0 where
  pub leader : IsParity name
  pub inside : g.block < s.blocks

-- the copies and the open sessions of a process are
pub record ProcessSound (s : Dimensions) (p : Process) : Type 0 where
  pub copies : Each (CopySound s) p.as_row.copies
  pub sessions : Each (SessionSound s p.name) p.as_leader.sessions

-- every message in a link into a living process carries so, and every living process has so
pub record LinksSound (s : Dimensions) (v : State) : Type 0 where
  pub links : (x q : ProcessId) → IsProcess s x → IsProcess s q → x ≢ q → v.dead q ≡ false → Each (Sound s x) (v.link x q)
  pub processes : (p : ProcessId) → IsProcess s p → v.dead p ≡ false → ProcessSound s (v.process p)

-- a block that a head needs rebuilt first for a call is one of the space, and the head is a parity process
abbrev pub NeedsSound : Dimensions → Process → Asked → Type 0
NeedsSound s p op = (h : Head) (b : ℕ) → head_at p (home_of (key_of op.act) s.k) ≡ Some h
    → decide (space_of s) h.inherited (replica_of p (home_of (key_of op.act) s.k)) op (found_at s (home_of (key_of op.act) s.k) p p.name) ≡ decides.NeedBlock b
    → IsParity p.name × (b < s.blocks)

-- every move keeps it, where what calls need is so
pub record SoundKept (s : Dimensions) : Type 0 where
  pub opens : (v : State) → Opens s v → LinksSound s v
  pub treats : (v w : State) (p : ProcessId) (t : ProcessStep) → IsProcess s p → v.dead p ≡ false
      → Treats s (v.process p) t → Members s v → Members s w → HoldsBytes s v
      → ((op : Asked) → NeedsSound s (v.process p) op) → LinksSound s v → Acted s v w p t → LinksSound s w
  pub receives : (v u w : State) (x p : ProcessId) (m : Message) → IsProcess s x → IsProcess s p → x ≢ p
      → v.dead p ≡ false → Members s v → Members s w → HoldsBytes s v
      → LinksSound s v → Popped s v u x p m → Acted s u w p (receive s x m (v.process p)) → LinksSound s w
  pub dies : (v w : State) (p : ProcessId) (keep : ℕ) → IsProcess s p → LinksSound s v → Died s v w p keep → LinksSound s w

-- so it is for every shape
abbrev pub SoundAlwaysKept : Type 0
SoundAlwaysKept = (s : Dimensions) → IsShape s → SoundKept s
