-- A leader can start a session, and is one of its rows.
use Rattle.std.proofs.Common.{ℕ, suc, ◌≡◌, ◌<◌, ◌≤◌, ◌==◌, Bool, true, false, not, List, [], ◌∷◌, length, filter}
use Rattle.std.proofs.Common.{Option, Some, None, Contains, sym, ap, ◌∙◌, arith}
use Rattle.std.proofs.lemmas.List.{length-take-le}
use Rattle.std.proofs.lemmas.List.Elements.{All-push, All-take, All-weaker}
use Rattle.std.specs.List.{list_any, range_with_len}
use Rattle.group_types.specs.Dimensions.{Dimensions}
use Rattle.group_types.specs.Lists.{at}
use Rattle.group_types.specs.declared.process.ProcessId.TheVariants.{DataNode, ParityNode}
use Rattle.membership.specs.Members.{knows_dead}
use Rattle.group_run.specs.Applying.{for_each, replica_of, when}
use Rattle.group_run.specs.Asking.{Oldest, retry_block}
use Rattle.group_run.specs.Leaders.{lost_of, new_session, own_mark, rows_of, session_opened, start_session}
use Rattle.group_run.specs.Process.{Process}
use Rattle.group_run.specs.Rows.{parity_number}
use Rattle.block_sessions.specs.Opened.{AreLost}
use Rattle.leader_role.specs.Sound.{CanLead, IsVacant}
use Rattle.leader_role.proofs.Counting.{below-filter, enough, first-left, front-taken, rising-filter, rising-take, some-found}
use Rattle.leader_role.proofs.Coming.{mark-stays}
use Rattle.leader_role.proofs.Steps.{Stays, sound-stays, stays-self, stays-then}

module _ (s : Dimensions) (p : Process) (sound : CanLead s p) where
  abbrev left : List ℕ
  left = filter (λ i. not (knows_dead p.known (ParityNode i))) (range_with_len 0 s.m)

  some-lost : (d : ℕ) → IsVacant p.known d (parity_number p.name) → d < s.k → 1 ≤ length (lost_of s p)
  some-lost d vacant inside = some-found (λ e. knows_dead p.known (DataNode e)) s.k 0 d (omega arith) (omega (arith, inside)) vacant.lost

  pub lost-and-rows : (d : ℕ) → IsVacant p.known d (parity_number p.name) → d < s.k → AreLost s (lost_of s p) (rows_of s p)
  lost-and-rows d vacant inside = record {
    some = some-lost d vacant inside;
    rising = rising-filter (λ e. knows_dead p.known (DataNode e)) s.k;
    below = below-filter (λ e. knows_dead p.known (DataNode e)) s.k;
    rows_rise = rising-take (length (lost_of s p)) left (rising-filter (λ i. not (knows_dead p.known (ParityNode i))) s.m);
    rows_below = All-take (λ i. i < s.m) (length (lost_of s p)) left (below-filter (λ i. not (knows_dead p.known (ParityNode i))) s.m);
    as_many = length-take-le (length (lost_of s p)) left (enough p.known.data_dead p.known.parity_dead s.k s.m sound.few);
  }

  pub itself-a-row : (d : ℕ) → IsVacant p.known d (parity_number p.name) → d < s.k → Contains (rows_of s p) (parity_number p.name)
  itself-a-row d vacant inside =
      let i : ℕ = parity_number p.name in
      let number : i ≡ sound.named.0 = ap parity_number sound.named.1 in
      let is_named : p.name ≡ ParityNode i = sound.named.1 ∙ ap ParityNode (sym number) in
      let lives : knows_dead p.known (ParityNode i) ≡ false = ap (knows_dead p.known) (sym is_named) ∙ sound.living in
      let front = first-left (λ j. knows_dead p.known (ParityNode j)) i 0 s.m i (omega arith) (omega (arith, number, sound.named.2)) vacant.lower lives in
      front-taken (length (lost_of s p)) i left front.0 (some-lost d vacant inside) front.1

  -- with a session more
  opened-sound : (number block : ℕ) → p.as_leader.last_session ≤ number → Contains (rows_of s p) (parity_number p.name)
      → CanLead s (session_opened s number block p)
  opened-sound number block later mine = record {
    limits = sound.limits;
    named = sound.named;
    shape = sound.shape;
    few = sound.few;
    living = sound.living;
    heads = sound.heads;
    rows = All-push (λ g. Contains g.rows (parity_number p.name)) p.as_leader.sessions (new_session s number block p) sound.rows mine;
    copies = All-weaker (λ c. c.leader ≡ parity_number p.name → c.number ≤ p.as_leader.last_session) (λ c. c.leader ≡ parity_number p.name → c.number ≤ number)
        (λ c low is. omega (arith, low is, later)) p.as_row.copies sound.copies;
  }

  -- a leader marks its own row
  own-marks-stay : (leader number block : ℕ) (ls : List ℕ) (q : Process) → number ≤ q.as_leader.last_session
      → Stays q (for_each ls (own_mark s leader number block) q).process
  own-marks-stay leader number block [] q started = stays-self q
  own-marks-stay leader number block (l ∷ ls) q started =
      let marked : Process = (own_mark s leader number block l q).process in
      let one : Stays q marked = mark-stays s leader number (at 0 q.ranks l) block l (replica_of q l).applied q (λ mine. started) in
      let last = one.last in
      stays-then q marked (for_each ls (own_mark s leader number block) marked).process one
      (own-marks-stay leader number block ls marked (omega (arith, started, last)))

  started-sound : (block : ℕ) → Contains (rows_of s p) (parity_number p.name) → CanLead s (start_session s block p).process
  started-sound block mine =
      let number : ℕ = suc p.as_leader.last_session in
      let leader : ℕ = parity_number p.name in
      let opened : Process = session_opened s number block p in
      sound-stays s opened (for_each (lost_of s p) (own_mark s leader number block) opened).process
      (own-marks-stay leader number block (lost_of s p) opened (omega arith))
      (opened-sound number block (omega arith) mine)

  -- a block that is missing is waited for, or a session is opened for it
  pub retried-sound : (block : ℕ) (o : Option Oldest) → Contains (rows_of s p) (parity_number p.name) → CanLead s (retry_block s block o p).step.process
  retried-sound block (Some o) mine = sound
  retried-sound block None mine = by (not (list_any (λ g. g.block == block) p.as_leader.sessions)) where
    by : (b : Bool) → CanLead s (when b p (start_session s block p)).process
    by true = started-sound block mine
    by false = sound
