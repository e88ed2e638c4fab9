-- What acknowledgements tell a head: the newest one of a living parity process, kept or on its way, is of all that
-- the process has, and the head has settled what all acknowledged.
use Rattle.std.specs.Prelude.{ℕ, ◌≡◌, ◌≢◌, ◌<◌, ◌≤◌, ◌==◌, ◌⊎◌, false, List, [], ◌∷◌, Option, Some, None, if◌then◌else◌}
use Rattle.group_types.specs.Dimensions.{Dimensions}
use Rattle.group_types.specs.Lists.{at}
use Rattle.group_types.specs.Names.{IsProcess}
use Rattle.group_types.specs.declared.process.ProcessId.{ProcessId}
use Rattle.group_types.specs.declared.process.ProcessId.TheVariants.{ParityNode}
use Rattle.group_message.specs.declared.message.Message.{Message}
use Rattle.group_message.specs.declared.message.Message.TheVariants as tells
use Rattle.group_run.specs.Applying.{head_at, replica_of}
use Rattle.group_run.specs.Heading.{least_acked, other_parities}
use Rattle.group_run.specs.Process.{Head, Process}
use Rattle.group_run.specs.Replica.{last_of}
use Rattle.law_moves.specs.State.{State, HoldsAlways}

-- a head has settled what all acknowledged that it doesn't know dead
abbrev pub Settles : Dimensions → ℕ → Process → Type 0
Settles s d p = (h : Head) → head_at p d ≡ Some h → least_acked h (last_of (replica_of p d)) (other_parities s.m p.name p.known) ≤ (replica_of p d).applied

-- the number that is acknowledged of partition d once a message has come
abbrev pub told_by : ℕ → Option ℕ → Message → Option ℕ
told_by d o (tells.Ack r e n) = if e.0 == d then Some n else o
told_by d o (tells.Update r e u stable) = o
told_by d o (tells.Adopt r e base list) = o
told_by d o (tells.Stable r e n) = o
told_by d o (tells.ReadBlock session block rows) = o
told_by d o (tells.Block session bytes n) = o
told_by d o (tells.Mark session r block e n) = o
told_by d o (tells.Row session bytes stamp) = o
told_by d o (tells.Cease upto) = o
told_by d o (tells.Notice dead) = o

-- and once a link's messages have come, in order
abbrev pub newest : ℕ → Option ℕ → List Message → Option ℕ
newest d o [] = o
newest d o (m ∷ ms) = newest d (told_by d o m) ms

-- all up to the last number is acknowledged; the first head needs no acknowledgement of nothing
abbrev pub IsTold : ℕ → Option ℕ → ℕ → Type 0
IsTold rank o last = (o ≡ Some last) ⊎ ((rank ≡ 0) × (o ≡ None) × (last ≡ 0))

-- a parity process under the head's rank has acknowledged all that it has, by its link to the head
abbrev pub Acks : ℕ → ℕ → Option Head → ℕ → ℕ → List Message → Type 0
Acks d i head rank last back = (h : Head) → head ≡ Some h → rank ≡ h.rank → IsTold h.rank (newest d (at None h.acks i) back) last

-- so it is of all living processes
pub record Told (s : Dimensions) (v : State) : Type 0 where
  pub settles : (p : ProcessId) (d : ℕ) → IsProcess s p → v.dead p ≡ false → d < s.k → Settles s d (v.process p)
  pub acks : (x : ProcessId) (i d : ℕ) → IsProcess s x → i < s.m → x ≢ ParityNode i → v.dead x ≡ false → v.dead (ParityNode i) ≡ false → d < s.k
      → Acks d i (head_at (v.process x) d) (at 0 (v.process (ParityNode i)).ranks d)
      (last_of (replica_of (v.process (ParityNode i)) d)) (v.link (ParityNode i) x)

-- so it is along every run
abbrev pub ToldAlways : Type 0
ToldAlways = (s : Dimensions) → HoldsAlways s (Told s)
