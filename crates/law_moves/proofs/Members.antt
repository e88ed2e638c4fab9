-- Who lives and who is known dead, who heads what, and which messages may stand in which link.
use Rattle.std.specs.Prelude.{ℕ, suc, ◌≡◌, ◌≢◌, ◌≤◌, ◌<◌, ◌==◌, Bool, true, false, ◌&&◌, List, [], ◌∷◌, ◌++◌, Option, Some, None, option_map, if◌then◌else◌}
use Rattle.std.specs.List.{list_all, range_with_len}
use Rattle.group_types.specs.Dimensions.{Dimensions}
use Rattle.group_types.specs.Lists.{at}
use Rattle.group_types.specs.Names.{IsProcess, of_rank}
use Rattle.group_types.specs.declared.process.ProcessId.{ProcessId}
use Rattle.group_types.specs.declared.process.ProcessId.TheVariants.{DataNode, ParityNode}
use Rattle.group_types.specs.Each.{Each}
use Rattle.membership.specs.Members.{Membership, knows_dead}
use Rattle.group_message.specs.declared.message.Message.{Message}
use Rattle.group_message.specs.declared.message.Message.TheVariants as tells
use Rattle.group_run.specs.Applying.{head_at}
use Rattle.group_run.specs.Process.{Process}
use Rattle.law_moves.specs.State.{State, HoldsAlways}
use Rattle.law_moves.specs.Known.{is_notice}

-- no message tells of a death
abbrev pub IsPlain : List Message → Type 0
IsPlain link = Each (λ m. is_notice m ≡ false) link

-- the notice of x stands at the end, and no other
pub record EndsInNotice (x : ProcessId) (link : List Message) : Type 0 where
  pub front : List Message
  pub is : link ≡ front ++ tells.Notice x ∷ []
  pub plain : IsPlain front

-- a link from x, by whether x is dead and whether the receiver knows that: of a living process it has no
-- notice; of a dead one it ends in the notice, until that is received, and is empty then
abbrev pub Stands : ProcessId → Bool → Bool → List Message → Type 0
Stands x false false link = IsPlain link
Stands x false true link = ⊥
Stands x true false link = EndsInNotice x link
Stands x true true link = link ≡ []

-- the rank under which a process heads a partition, if it heads it
abbrev pub seat_of : Process → ℕ → Option ℕ
seat_of p d = option_map (λ h. h.rank) (head_at p d)

-- all processes of lower rank than parity process i are known to be dead
abbrev pub knows_lower : Membership → ℕ → ℕ → Bool
knows_lower known d i = knows_dead known (DataNode d) && list_all (λ j. knows_dead known (ParityNode j)) (range_with_len 0 i)

-- a parity process heads a partition where it knows all of lower rank to be dead; then, and only then, its
-- rank is its own, and else a lower one
abbrev pub SitsWhen : Bool → ℕ → Option ℕ → ℕ → Type 0
SitsWhen true i seat rank = (seat ≡ Some (suc i)) × (rank ≡ suc i)
SitsWhen false i seat rank = (seat ≡ None) × (rank ≤ i)

-- a process heads what it should: a data process its own partition under rank 0, and no other
abbrev pub Sits : Process → ℕ → ProcessId → Type 0
Sits p d (DataNode e) = (seat_of p d ≡ (if d == e then Some 0 else None)) × (at 0 p.ranks d ≡ 0)
Sits p d (ParityNode i) = SitsWhen (knows_lower p.known d i) i (seat_of p d) (at 0 p.ranks d)

-- a rank is in use in a partition only where all of lower rank are dead, and its process, if it lives, heads
-- the partition
pub record Reigns (s : Dimensions) (v : State) (d r : ℕ) : Type 0 where
  pub partition : d < s.k
  pub rank : r ≤ s.m
  pub below : (j : ℕ) → j < r → v.dead (of_rank d j) ≡ true
  pub leads : v.dead (of_rank d r) ≡ false → seat_of (v.process (of_rank d r)) d ≡ Some r

-- a message that a process sends as one of rank r in partition d
abbrev pub IsFrom : Dimensions → State → ProcessId → ℕ → ℕ → Type 0
IsFrom s v x d r = (x ≡ of_rank d r) × Reigns s v d r

-- the process is a data process, or a parity process
abbrev pub IsData : ProcessId → Type 0
IsData (DataNode _) = Unit {0}
IsData (ParityNode _) = ⊥

abbrev pub IsParity : ProcessId → Type 0
IsParity (DataNode _) = ⊥
IsParity (ParityNode _) = Unit {0}

-- which messages may stand in the link from x to q
abbrev pub MayStand : Dimensions → State → ProcessId → ProcessId → Message → Type 0
MayStand s v x q (tells.Update r d u stable) = IsFrom s v x d.0 r.0 × IsParity q
MayStand s v x q (tells.Stable r d n) = IsFrom s v x d.0 r.0 × IsParity q
MayStand s v x q (tells.Adopt r d base list) = IsFrom s v x d.0 r.0 × (0 < r.0) × IsParity q
MayStand s v x q (tells.Ack r d n) = IsFrom s v q d.0 r.0
MayStand s v x q (tells.Mark session r block d n) = IsFrom s v x d.0 r.0 × (0 < r.0 → session.leader ≡ x) × IsParity q
MayStand s v x q (tells.ReadBlock session block rows) = (session.leader ≡ x) × IsParity x × IsData q
MayStand s v x q (tells.Block session bytes n) = (session.leader ≡ q) × IsData x × IsParity q
MayStand s v x q (tells.Row session bytes stamp) = (session.leader ≡ q) × IsParity x × IsParity q
MayStand s v x q (tells.Cease upto) = IsParity q
MayStand s v x q (tells.Notice dead) = Unit {0}

-- what holds of the members of a group
pub record Members (s : Dimensions) (v : State) : Type 0 where
  pub named : (p : ProcessId) → IsProcess s p → (v.process p).name ≡ p
  pub not_self : (p : ProcessId) → IsProcess s p → v.dead p ≡ false → knows_dead (v.process p).known p ≡ false
  pub stands : (x q : ProcessId) → IsProcess s x → IsProcess s q → x ≢ q → v.dead q ≡ false
      → Stands x (v.dead x) (knows_dead (v.process q).known x) (v.link x q)
  pub sits : (p : ProcessId) (d : ℕ) → IsProcess s p → v.dead p ≡ false → d < s.k → Sits (v.process p) d p
  pub ranks : (p : ProcessId) (d : ℕ) → IsProcess s p → v.dead p ≡ false → d < s.k → Reigns s v d (at 0 (v.process p).ranks d)
  pub may : (x q : ProcessId) → IsProcess s x → IsProcess s q → x ≢ q → v.dead q ≡ false → Each (MayStand s v x q) (v.link x q)

-- it holds along every run
abbrev pub MembersAlways : Type 0
MembersAlways = (s : Dimensions) → HoldsAlways s (Members s)
