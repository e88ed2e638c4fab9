-- What of a message's fitting is told of numbers and ranks alone; what its updates' runs and bytes owe is left
-- to the crates above.
use Rattle.std.specs.Prelude.{ℕ, suc, ◌≡◌, ◌≢◌, ◌<◌, ◌≤◌, ◌+◌, true, List, ◌∷◌, length, Some}
use Rattle.group_types.specs.Dimensions.{Dimensions}
use Rattle.group_types.specs.Lists.{at}
use Rattle.group_types.specs.Names.{IsProcess}
use Rattle.group_types.specs.declared.process.ProcessId.{ProcessId}
use Rattle.group_types.specs.declared.process.ProcessId.TheVariants.{DataNode, ParityNode}
use Rattle.group_message.specs.declared.message.Message.{Message}
use Rattle.group_message.specs.declared.message.Message.TheVariants as tells
use Rattle.group_message.specs.declared.update.Update.{Update}
use Rattle.group_calls.specs.declared.event.Event.{Event}
use Rattle.group_run.specs.Applying.{head_at, replica_of}
use Rattle.group_run.specs.Deciding.{window}
use Rattle.group_run.specs.Fitting.{IsRanked, IsToldBy, NoticeFits, NumberedFrom}
use Rattle.group_run.specs.Headline.{IsRun}
use Rattle.group_run.specs.Meaning.{Lives, link, process_of}
use Rattle.group_run.specs.Process.{Head, Process}
use Rattle.group_run.specs.Replica.{Replica, applied_to, last_of}
use Rattle.group_run.specs.Rows.{accepts_mark, parity_number}
use Rattle.group_run.specs.World.{after}

-- an update is the next one, what is stable is there, and the log has room
pub record UpdateNumbers (r : Replica) (u : Update) (stable : ℕ) : Type 0 where
  pub next : u.number ≡ suc (last_of r)
  pub reached : stable ≤ last_of r
  pub few : length (applied_to stable r).log < window

-- a new head's list has the numbers behind its base, and reaches what is applied
pub record AdoptNumbers (r : Replica) (base : ℕ) (list : List Update) : Type 0 where
  pub reached : base ≤ last_of r
  pub numbers : NumberedFrom (suc base) list
  pub reaches : (applied_to base r).applied ≤ base + length list
  pub few : length list ≤ window

-- an acknowledgement is of a partition that is headed under its rank, of a number that was issued
pub record AckNumbers (s : Dimensions) (p : Process) (r d n : ℕ) : Type 0 where
  pub ranked : IsRanked s d r
  pub heads : (h : Head) × (head_at p d ≡ Some h) × (h.rank ≡ r)
  pub issued : n ≤ last_of (replica_of p d)

-- a mark's number is one that the row can apply up to, and not below what it has applied
pub record MarkNumbers (s : Dimensions) (p : Process) (d n : ℕ) : Type 0 where
  pub partition : d < s.k
  pub above : (replica_of p d).applied ≤ n
  pub issued : n ≤ last_of (replica_of p d)

-- a message fits so what the process holds that receives it
abbrev pub FitsNumbers : Dimensions → ProcessId → Message → Process → Type 0
FitsNumbers s from (tells.Update r d u stable) p = IsToldBy s from d.0 r.0 × (at 0 p.ranks d.0 ≤ r.0 → UpdateNumbers (replica_of p d.0) u stable)
FitsNumbers s from (tells.Stable r d n) p = IsToldBy s from d.0 r.0 × (at 0 p.ranks d.0 ≤ r.0 → n ≤ last_of (replica_of p d.0))
FitsNumbers s from (tells.Adopt r d base list) p = IsToldBy s from d.0 r.0 × (at 0 p.ranks d.0 ≤ r.0 → AdoptNumbers (replica_of p d.0) base list)
FitsNumbers s (ParityNode i) (tells.Ack r d n) p = AckNumbers s p r.0 d.0 n
FitsNumbers s (DataNode e) (tells.Ack r d n) p = Unit {0}
FitsNumbers s from (tells.Mark session r block d n) p = accepts_mark p (parity_number session.leader) session.number r.0 d.0 ≡ true → MarkNumbers s p d.0 n
FitsNumbers s from (tells.Notice dead) p = (from ≡ dead) × NoticeFits s p dead
FitsNumbers s from (tells.ReadBlock session block rows) p = Unit {0}
FitsNumbers s from (tells.Block session bytes n) p = Unit {0}
FitsNumbers s from (tells.Row session bytes stamp) p = Unit {0}
FitsNumbers s from (tells.Cease upto) p = Unit {0}

-- along every run the first message of each link into a living process fits
abbrev pub NumbersFitAlways : Type 0
NumbersFitAlways = (s : Dimensions) (es : List Event) → IsRun s es → (from to : ProcessId) (m : Message) (rest : List Message)
    → IsProcess s from → IsProcess s to → from ≢ to → Lives (after s es) to
    → link (after s es) from to ≡ m ∷ rest → FitsNumbers s from m (process_of (after s es) to)
