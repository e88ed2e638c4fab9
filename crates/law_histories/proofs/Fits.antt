-- The first message of a link fits what its receiver holds, as to numbers and ranks.
use Rattle.std.proofs.Common.{ℕ, suc, ◌≡◌, ◌≢◌, ◌<◌, ◌≤◌, ◌+◌, true, false, List, ◌∷◌, length, take, refl, sym, ap, subst, ◌∙◌, arith}
use Rattle.std.proofs.lemmas.Grind.{common_steps}
use Rattle.std.proofs.lemmas.List.{length-append, length-take-le}
use Rattle.group_types.specs.Dimensions.{Dimensions}
use Rattle.group_types.specs.Lists.{at}
use Rattle.group_types.specs.Names.{IsProcess}
use Rattle.group_types.specs.declared.process.ProcessId.{ProcessId}
use Rattle.group_types.specs.declared.process.ProcessId.TheVariants.{DataNode, ParityNode}
use Rattle.group_types.specs.Each.{Each}
use Rattle.membership.specs.Members.{knows_dead}
use Rattle.group_message.specs.declared.message.Message.{Message}
use Rattle.group_message.specs.declared.message.Message.TheVariants as tells
use Rattle.group_message.specs.declared.update.Update.{Update}
use Rattle.group_run.specs.Applying.{head_at, replica_of}
use Rattle.group_run.specs.Fitting.{IsRanked, IsToldBy, NumberedFrom}
use Rattle.group_run.specs.History.{History, history_of, no_history, history}
use Rattle.group_run.specs.Meaning.{Lives, link, process_of}
use Rattle.group_run.specs.Process.{Process}
use Rattle.group_run.specs.Replica.{Replica, last_of}
use Rattle.group_run.specs.Rows.{accepts_mark, parity_number}
use Rattle.group_run.specs.World.{World}
use Rattle.law_moves.specs.State.{State, state_of}
use Rattle.law_moves.proofs.Runs.{shape-from, world-from}
use Rattle.law_moves.proofs.Members.{IsFrom, IsParity, MayStand, Members, Stands, seat_of}
use Rattle.law_moves.proofs.Standing.{stands-notice}
use Rattle.law_histories.proofs.FitWords.{AdoptNumbers, FitsNumbers, NumbersFitAlways, UpdateNumbers}
use Rattle.law_histories.proofs.LaneWords.{AckBelow, AdoptGoes, Goes, Seen, UpdateGoes, next}
use Rattle.law_histories.proofs.Reach.{Any, IsKeeper, Reach, ReplicaReaches, seen_at}
use Rattle.law_histories.proofs.Histories.{applied-is, last-number, length-history, log-left, numbered-behind}
use Rattle.law_histories.proofs.Keeping.{reach_always}
use Rattle.law_histories.proofs.Lanes.{live-is}
use Rattle.law_histories.proofs.Messages.{seat-some}
use Rattle.law_histories.proofs.Folds.{Along}

-- by what is owed in the fold
module _ (F : ℕ → ℕ → List Update → Type 0) (d : ℕ) (settled : List Update) (p : Process) (fits : ReplicaReaches F d settled p) where
  abbrev r : Replica
  r = replica_of p d

  abbrev seen : Seen
  seen = seen_at d settled p

  reach-last : length settled ≤ last_of r
  reach-last = let long = length-history settled r fits.applied in let reach = fits.prolongs.reaches in omega (arith, long, reach)

  update-numbers : (rank stable : ℕ) (u : Update) → UpdateGoes F d settled seen rank u stable → UpdateNumbers r u stable
  update-numbers rank stable u goes = record {
    next = let long = length-history settled r fits.applied in omega (arith, number, long);
    reached = within;
    few =
        let left = log-left settled r fits.applied stable within in
        let few = goes.few in
        let low = fits.short in
        let long = length-history settled r fits.applied in
        let stable_low = goes.stable_settled in
        let applied_low = fits.applied in
        omega (arith, left, few, low, long, number, stable_low, applied_low);
  } where
    number : u.number ≡ suc (length (history settled r))
    number = last-number (history settled r) u goes.fine.0

    within : stable ≤ last_of r
    within = let low = goes.stable_settled in let reach = reach-last in omega (arith, low, reach)

  adopt-numbers : (rank base : ℕ) (list : List Update) → AdoptGoes F d settled seen rank base list → AdoptNumbers r base list
  adopt-numbers rank base list goes = record {
    reached = let low = goes.base_settled in let reach = reach-last in omega (arith, low, reach);
    numbers = subst (λ (n : ℕ). NumberedFrom n list) from_base (numbered-behind 1 (take base (history settled r)) list goes.fine.0);
    reaches =
        let moves = applied-is settled r fits.applied base (let low = goes.base_settled in let reach = reach-last in omega (arith, low, reach)) in
        let low = fits.applied in
        let reach = goes.prolongs.reaches in
        let long = length-append (take base (history settled r)) list in
        omega (arith, moves, low, reach, long, base_long);
    few = goes.few;
  } where
    base_long : length (take base (history settled r)) ≡ base
    base_long = length-take-le base (history settled r) (let low = goes.base_settled in let reach = fits.prolongs.reaches in omega (arith, low, reach))

    from_base : 1 + length (take base (history settled r)) ≡ suc base
    from_base = omega (arith, base_long)

module _ (F : ℕ → ℕ → List Update → Type 0) (s : Dimensions) (v : State) (members : Members s v) (reach : Reach F s v) (x p : ProcessId) (xin : IsProcess s x)
    (pin : IsProcess s p) (apart : x ≢ p) (lives : v.dead p ≡ false) where
  abbrev First : Message → List Message → Type 0
  First m rest = v.link x p ≡ m ∷ rest

  may-first : (m : Message) (rest : List Message) → First m rest → MayStand s v x p m
  may-first m rest first = (subst (Each (MayStand s v x p)) first (members.may x p xin pin apart lives)).0

  goes-by : (y : ProcessId) → p ≡ y → (m : Message) (rest : List Message) → First m rest → (d : ℕ) → d < s.k → IsParity y
      → Goes F d (v.settled d) (seen_at d (v.settled d) (v.process p)) m × ReplicaReaches F d (v.settled d) (v.process p)
  goes-by (DataNode e) is m rest first d below parity = absurd parity
  goes-by (ParityNode i) is m rest first d below parity = (
    (subst (Along (next d) (Goes F d (v.settled d)) (seen_at d (v.settled d) (v.process p))) (ap (v.link x) (sym is) ∙ first)
        (subst (λ (y : ProcessId). Along (next d) (Goes F d (v.settled d)) (seen_at d (v.settled d) (v.process y)) (v.link x (ParityNode i))) (sym is)
        ((reach d below).lanes x i xin (subst (IsProcess s) is pin) (λ same. apart (same ∙ sym is)) (ap v.dead (sym is) ∙ lives)).goes)).0,
    (reach d below).replicas p pin lives (subst (IsKeeper d) (sym is) tt),
  )

  goes-first : (m : Message) (rest : List Message) → First m rest → (d : ℕ) → d < s.k → IsParity p
      → Goes F d (v.settled d) (seen_at d (v.settled d) (v.process p)) m × ReplicaReaches F d (v.settled d) (v.process p)
  goes-first m rest first d below parity = goes-by p refl m rest first d below parity

  ranked : (d r : ℕ) (y : ProcessId) → IsFrom s v y d r → IsRanked s d r
  ranked d r y from = record { partition = from.1.partition; rank = from.1.rank }

  told-by : (d r : ℕ) (y : ProcessId) → IsFrom s v y d r → IsToldBy s y d r
  told-by d r y from = record { ranked = ranked d r y from; sender = from.0 }

  pub fits-numbers : (m : Message) (rest : List Message) → First m rest → FitsNumbers s x m (v.process p)
  fits-numbers (tells.Update r e u stable) rest first =
      let may : IsFrom s v x e.0 r.0 × IsParity p = may-first (tells.Update r e u stable) rest first in (
        told-by e.0 r.0 x may.0,
        λ low.
            let both = goes-first (tells.Update r e u stable) rest first e.0 may.0.1.partition may.1 in
            update-numbers F e.0 (v.settled e.0) (v.process p) both.1 r.0 stable u
            (both.0 (live-is e.0 (seen_at e.0 (v.settled e.0) (v.process p)) e.0 r.0 refl low)),
      )
  fits-numbers (tells.Stable r e n) rest first =
      let may : IsFrom s v x e.0 r.0 × IsParity p = may-first (tells.Stable r e n) rest first in (
        told-by e.0 r.0 x may.0,
        λ low.
            let both = goes-first (tells.Stable r e n) rest first e.0 may.0.1.partition may.1 in
            let goes = both.0 (live-is e.0 (seen_at e.0 (v.settled e.0) (v.process p)) e.0 r.0 refl low) in
            let most = goes.number_settled in
            let reached = reach-last F e.0 (v.settled e.0) (v.process p) both.1 in
            omega (arith, most, reached),
      )
  fits-numbers (tells.Adopt r e base list) rest first =
      let may : IsFrom s v x e.0 r.0 × (0 < r.0) × IsParity p = may-first (tells.Adopt r e base list) rest first in (
        told-by e.0 r.0 x may.0,
        λ low.
            let both = goes-first (tells.Adopt r e base list) rest first e.0 may.0.1.partition may.2 in
            adopt-numbers F e.0 (v.settled e.0) (v.process p) both.1 r.0 base list
            (both.0 (live-is e.0 (seen_at e.0 (v.settled e.0) (v.process p)) e.0 r.0 refl low)),
      )
  fits-numbers (tells.Ack r e n) rest first = by x refl where
    by : (y : ProcessId) → x ≡ y → FitsNumbers s y (tells.Ack r e n) (v.process p)
    by (DataNode z) is = tt
    by (ParityNode i) is =
        let may : IsFrom s v p e.0 r.0 = may-first (tells.Ack r e n) rest first in
        let seat = seat-some (head_at (v.process p) e.0) r.0 (ap (λ (y : ProcessId). seat_of (v.process y) e.0) may.0
        ∙ may.1.leads (ap v.dead (sym may.0) ∙ lives)) in
        record {
          ranked = ranked e.0 r.0 p may;
          heads = (seat.0, seat.1, seat.2);
          issued = (subst (Each (AckBelow e.0 (last_of (replica_of (v.process p) e.0)))) (ap (λ (y : ProcessId). v.link y p) (sym is) ∙ first)
              ((reach e.0 may.1.partition).issued p i seat.0 pin lives (subst (IsProcess s) is xin) (λ same. apart (is ∙ sym same)) seat.1)).0 refl;
        }
  fits-numbers (tells.Mark session r block e n) rest first = λ accepts.
      let may : IsFrom s v x e.0 r.0 × (0 < r.0 → session.leader ≡ x) × IsParity p = may-first (tells.Mark session r block e n) rest first in
      let both = goes-first (tells.Mark session r block e n) rest first e.0 may.0.1.partition may.2 in
      let low : at 0 (v.process p).ranks e.0 ≤ r.0 = accepted-low accepts in
      let goes = both.0 (live-is e.0 (seen_at e.0 (v.settled e.0) (v.process p)) e.0 r.0 refl low) in
      let reached = reach-last F e.0 (v.settled e.0) (v.process p) both.1 in
      let most = goes.number_settled in
      record { partition = may.0.1.partition; above = goes.above; issued = omega (arith, most, reached) }
    where
      accepted-low : accepts_mark (v.process p) (parity_number session.leader) session.number r.0 e.0 ≡ true → at 0 (v.process p).ranks e.0 ≤ r.0
      accepted-low accepts = grind (arith, common_steps)
  fits-numbers (tells.Notice dead) rest first =
      let stood = stands-notice x (v.dead x) (knows_dead (v.process p).known x) dead rest
      (subst (Stands x (v.dead x) (knows_dead (v.process p).known x)) first (members.stands x p xin pin apart lives)) in (
        sym stood.2,
        record {
          process = subst (IsProcess s) (sym stood.2) xin;
          other = λ same. apart (sym stood.2 ∙ same ∙ members.named p pin);
          news = ap (knows_dead (v.process p).known) stood.2 ∙ stood.1;
        },
      )
  fits-numbers (tells.ReadBlock session block rows) rest first = tt
  fits-numbers (tells.Block session bytes n) rest first = tt
  fits-numbers (tells.Row session bytes stamp) rest first = tt
  fits-numbers (tells.Cease upto) rest first = tt

-- of a group, in its own words
numbers-fit : (h : History) (s : Dimensions) → h.world.shape ≡ s → Members s (state_of h) × Reach Any s (state_of h)
    → (from to : ProcessId) (m : Message) (rest : List Message) → IsProcess s from → IsProcess s to → from ≢ to → Lives h.world to
    → link h.world from to ≡ m ∷ rest → FitsNumbers s from m (process_of h.world to)
numbers-fit h s shape both from to m rest fin tin apart lives first = fits-numbers Any s (state_of h) both.0 both.1 from to fin tin apart lives.1 m rest first

pub numbers_fit_always : NumbersFitAlways
numbers_fit_always s es run =
    subst (λ (w : World). (from to : ProcessId) (m : Message) (rest : List Message) → IsProcess s from → IsProcess s to
    → from ≢ to → Lives w to → link w from to ≡ m ∷ rest → FitsNumbers s from m (process_of w to))
    (world-from (no_history s) es) (numbers-fit (history_of s es) s (shape-from (no_history s) es) (reach_always s es run))
