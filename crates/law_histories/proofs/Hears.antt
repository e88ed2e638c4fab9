-- What a parity process does that hears a head of another rank, told around it: an update or a new head's list
-- is taken, and where all of lower rank are dead the process takes the partition over.
use Rattle.std.proofs.Common.{ℕ, suc, ◌≡◌, ◌≢◌, ◌<◌, ◌≤◌, ◌+◌, Bool, true, false, List, [], ◌∷◌, ◌++◌, length, take}
use Rattle.std.proofs.Common.{Some, None, ◌⊎◌, inl, inr, refl, sym, ap, subst, ◌∙◌, arith}
use Rattle.std.proofs.lemmas.Bool.{cases_eq, cases_lt}
use Rattle.std.proofs.lemmas.List.{take-take}
use Rattle.group_types.specs.Dimensions.{Dimensions}
use Rattle.group_types.specs.Lists.{at}
use Rattle.group_types.specs.Names.{IsProcess, heading_rank, of_rank}
use Rattle.group_types.specs.declared.process.ProcessId.{ProcessId}
use Rattle.group_types.specs.declared.process.ProcessId.TheVariants.{ParityNode}
use Rattle.group_types.proofs.Lists.{at-replicate}
use Rattle.group_types.proofs.Names.{same-cases}
use Rattle.group_types.specs.Each.{Each}
use Rattle.group_types.proofs.Eaches.{each-append, each-weaker}
use Rattle.group_message.specs.declared.message.Message.{Message}
use Rattle.group_message.specs.declared.message.Message.TheVariants as tells
use Rattle.group_message.specs.declared.update.Update.{Update}
use Rattle.group_run.specs.Applying.{head_at, replica_of}
use Rattle.group_run.specs.Heading.{partition, rank}
use Rattle.group_run.specs.Process.{Head, Process, new_head}
use Rattle.group_run.specs.Replica.{Replica, last_of}
use Rattle.group_run.specs.History.{history}
use Rattle.law_moves.specs.State.{State}
use Rattle.law_moves.proofs.Members.{MayStand, Members, Reigns, seat_of}
use Rattle.law_moves.proofs.Reading.{some-same}
use Rattle.law_histories.proofs.LaneWords.{AckBelow, AckFits, Fine, Goes, Prolongs, Seen, next, replaced}
use Rattle.law_histories.proofs.Reach.{EndsAt, HeadReaches, IsKeeper, KeptGoes, LaneReaches, ReplicaFits, ReplicaReaches, seen_at}
use Rattle.law_histories.proofs.HistoryWords.{HistoryLaws}
use Rattle.law_histories.proofs.Around.{Around, HeadSits, grew-turned, since-trans}
use Rattle.law_histories.proofs.Folds.{along-append, run-append, run, Along}
use Rattle.law_histories.proofs.Heads.{head-inward}
use Rattle.law_histories.proofs.Histories.{length-history}
use Rattle.law_histories.proofs.Lanes.{Lower, Ranked, Resyncs, Stale, along-lower, live-is, lower-run, ranked-weaker}
use Rattle.law_histories.proofs.Lanes.{resync, same-rank-step, stale-along, stale-run, begins-refl}
use Rattle.law_histories.proofs.Ranks.{Used, head-from, may-used, rank-of_rank, used}

-- an acknowledgement is of the sender's rank, and its head has that
pub ack-turned : (d : ℕ) (x : ProcessId) (a b : Seen)
    → (x ≡ of_rank d a.rank → (b.rank ≡ a.rank) × (length a.history ≤ length b.history)) → (m : Message)
    → AckFits d x a m → AckFits d x b m
ack-turned d x a b turn (tells.Ack r e n) fits = λ here.
    let old = fits here in
    let now = turn (old.head_is ∙ ap (of_rank d) (sym old.rank)) in
    record { head_is = old.head_is; rank = now.0 ∙ old.rank; has = let most = old.has in let longer = now.1 in omega (arith, most, longer) }
ack-turned d x a b turn (tells.Update r e u stable) fits = tt
ack-turned d x a b turn (tells.Adopt r e base list) fits = tt
ack-turned d x a b turn (tells.Stable r e n) fits = tt
ack-turned d x a b turn (tells.ReadBlock session block rows) fits = tt
ack-turned d x a b turn (tells.Block session bytes n) fits = tt
ack-turned d x a b turn (tells.Mark session r block e n) fits = tt
ack-turned d x a b turn (tells.Row session bytes stamp) fits = tt
ack-turned d x a b turn (tells.Cease upto) fits = tt
ack-turned d x a b turn (tells.Notice dead) fits = tt

module _ (F : ℕ → ℕ → List Update → Type 0) (laws : HistoryLaws F) (s : Dimensions) (v : State) (members : Members s v) (d : ℕ) (below : d < s.k)
    (p : ProcessId) (pin : IsProcess s p) (lives : v.dead p ≡ false) where
  -- a message of rank r from x is heard: what is seen is what the message makes of it, in a rank that is in use
  module _ (old new : Process) (left : ProcessId → List Message) (settled : List Update) (x : ProcessId) (m : Message) (r : ℕ)
      (first : v.link x p ≡ m ∷ left x) (rest : (y : ProcessId) → IsProcess s y → y ≢ x → left y ≡ v.link y p) (xin : IsProcess s x) (xother : x ≢ p)
      (in_use : Used s v d x r) (heads : head_at old d ≡ None) (same_head : head_at new d ≡ None)
      (hears : Lower F d settled (seen_at d settled new) (next d (seen_at d settled old) m))
      (risen : (seen_at d settled old).rank ≤ r) (now : (seen_at d settled new).rank ≡ r)
      (fits : ReplicaReaches F d settled new)
      (more : (replica_of old d).applied ≤ (replica_of new d).applied) (keeps : IsKeeper d p)
      (around : Around F s v d p old (v.link p) (λ y. v.link y p) settled) where
    abbrev a : Seen
    a = seen_at d settled old

    abbrev b : Seen
    b = seen_at d settled new

    -- a living process of the old rank has the new one, and no more is taken away
    turned : (i : ℕ) → p ≡ ParityNode i → (y : ProcessId) → v.dead y ≡ false → y ≡ of_rank d a.rank → (b.rank ≡ a.rank) × (length a.history ≤ length b.history)
    turned i is y living name = by (cases_eq a.rank r) where
      lane : LaneReaches F d settled x i (v.dead x) (head_at (v.process x) d) (replica_of (v.process x) d) a (v.link x p) (v.link p x)
      lane = around.inward x i is xin xother

      goes : Goes F d settled a m
      goes = (subst (Along (next d) (Goes F d settled) a) first lane.goes).0

      by : (a.rank ≡ r) ⊎ (a.rank ≢ r) → (b.rank ≡ a.rank) × (length a.history ≤ length b.history)
      by (inl same) =
          let rank_same : b.rank ≡ a.rank = now ∙ sym same in
          let begins = same-rank-step F d settled a m goes (sym hears.rank ∙ rank_same) in (
            rank_same,
            let longer = begins.reaches in let here : length b.history ≡ length (next d a m).history = ap
                length hears.history in omega (arith, longer, here),
          )
      by (inr other) = absurd (cc (in_use.1.below a.rank (omega (arith, other, risen)), ap v.dead name, living))

    -- other links into the process
    module _ (i : ℕ) (is : p ≡ ParityNode i) (y : ProcessId) (yin : IsProcess s y) (yother : y ≢ p) (apart : y ≢ x) where
      old_lane : LaneReaches F d settled y i (v.dead y) (head_at (v.process y) d) (replica_of (v.process y) d) a (v.link y p) (v.link p y)
      old_lane = around.inward y i is yin yother

      -- messages there have another rank
      other_ranks : Each (λ n. Ranked d (λ k. (k ≡ heading_rank y) × (k ≢ r)) n) (v.link y p)
      other_ranks = each-weaker (MayStand s v y p) (λ n. Ranked d (λ k. (k ≡ heading_rank y) × (k ≢ r)) n)
          (λ n may. ranked-weaker d (Used s v d y) (λ k. (k ≡ heading_rank y) × (k ≢ r))
          (λ k from. (
            sym (rank-of_rank d k) ∙ ap heading_rank (sym from.0),
            λ same. apart (from.0 ∙ ap (of_rank d) same ∙ sym in_use.0),
          )) n (may-used s v d y p n may))
          (v.link y p) (around.may y yin yother)

      goes_by : (r < heading_rank y) ⊎ (heading_rank y ≤ r) → Along (next d) (Goes F d settled) b (v.link y p)
      goes_by (inr low) = stale-along F d settled b (v.link y p)
          (each-weaker (λ n. Ranked d (λ k. (k ≡ heading_rank y) × (k ≢ r)) n) (Stale d b.rank)
          (λ n ranked. ranked-weaker d (λ k. (k ≡ heading_rank y) × (k ≢ r)) (λ k. k < b.rank)
          (λ k both. let same = both.0 in let other = both.1 in omega (arith, same, other, low, now)) n ranked)
          (v.link y p) other_ranks)
      goes_by (inl high) = (resynced high).goes where
        resynced : r < heading_rank y → Resyncs F d settled a b (v.link y p)
        resynced high = resync F d settled a b (omega (arith, risen, now)) (around.own keeps).prolongs fits.prolongs (v.link y p)
            (each-weaker (λ n. Ranked d (λ k. (k ≡ heading_rank y) × (k ≢ r)) n) (λ n. Ranked d (λ k. b.rank < k) n)
            (λ n ranked. ranked-weaker d (λ k. (k ≡ heading_rank y) × (k ≢ r)) (λ k. b.rank < k)
            (λ k both. let same = both.0 in omega (arith, same, high, now)) n ranked)
            (v.link y p) other_ranks) old_lane.goes

      ends_by : v.dead y ≡ false → (h : Head) → head_at (v.process y) d ≡ Some h → (r < h.rank) ⊎ (h.rank ≤ r)
          → EndsAt settled (replica_of (v.process y) d) h (run (next d) b (v.link y p))
      ends_by living h is_head (inr low) = absurd (by (cases_eq h.rank r)) where
        from : Used s v d y h.rank
        from = head-from s v d members below y h yin living is_head

        by : (h.rank ≡ r) ⊎ (h.rank ≢ r) → ⊥
        by (inl same) = apart (from.0 ∙ ap (of_rank d) same ∙ sym in_use.0)
        by (inr other) = cc (in_use.1.below h.rank (omega (arith, other, low)), ap v.dead from.0, living)
      ends_by living h is_head (inl high) = by again.meets where
        from : Used s v d y h.rank
        from = head-from s v d members below y h yin living is_head

        own_rank : heading_rank y ≡ h.rank
        own_rank = ap heading_rank from.0 ∙ rank-of_rank d h.rank

        again : Resyncs F d settled a b (v.link y p)
        again = resync F d settled a b (omega (arith, risen, now)) (around.own keeps).prolongs fits.prolongs (v.link y p)
            (each-weaker (λ n. Ranked d (λ k. (k ≡ heading_rank y) × (k ≢ r)) n) (λ n. Ranked d (λ k. b.rank < k) n)
            (λ n ranked. ranked-weaker d (λ k. (k ≡ heading_rank y) × (k ≢ r)) (λ k. b.rank < k)
            (λ k both. let same = both.0 in omega (arith, same, high, now, own_rank)) n ranked)
            (v.link y p) other_ranks) old_lane.goes

        end : EndsAt settled (replica_of (v.process y) d) h (run (next d) a (v.link y p))
        end = old_lane.ends living h is_head

        by : (run (next d) a (v.link y p) ≡ run (next d) b (v.link y p)) ⊎ (run (next d) a (v.link y p) ≡ a)
            → EndsAt settled (replica_of (v.process y) d) h (run (next d) b (v.link y p))
        by (inl same) = subst (EndsAt settled (replica_of (v.process y) d) h) same end
        by (inr stays) = let same : a.rank ≡ h.rank = ap (λ (z : Seen). z.rank) (sym stays) ∙ end.rank in absurd (omega (arith, same, high, risen))

    kept_by : (i : ℕ) → p ≡ ParityNode i → (y : ProcessId) → IsProcess s y → y ≢ p → v.dead y ≡ false → (h : Head) → head_at (v.process y) d ≡ Some h → (n : ℕ)
        → at None h.acks i ≡ Some n → KeptGoes b h n
    kept_by i is y yin yother living h is_head n acked =
        let was = (around.inward y i is yin yother).kept living h is_head n acked in
        let now_is = turned i is y living ((head-from s v d members below y h yin living is_head).0 ∙ ap (of_rank d) (sym was.rank)) in
        record { rank = now_is.0 ∙ was.rank; has = let most = was.has in let longer = now_is.1 in omega (arith, most, longer) }

    acks_by : (i : ℕ) → p ≡ ParityNode i → (y : ProcessId) → IsProcess s y → y ≢ p → v.dead y ≡ false → Each (AckFits d y b) (v.link p y)
    acks_by i is y yin yother living =
        each-weaker (AckFits d y a) (AckFits d y b) (λ n fits. ack-turned d y a b (turned i is y living) n fits)
        (v.link p y) ((around.inward y i is yin yother).acks living)

    in_by : (y : ProcessId) (i : ℕ) → p ≡ ParityNode i → IsProcess s y → y ≢ p → (y ≡ x) ⊎ (y ≢ x)
        → LaneReaches F d settled y i (v.dead y) (head_at (v.process y) d) (replica_of (v.process y) d) b (left y) (v.link p y)
    in_by y i is yin yother (inr apart) =
        subst (λ (link : List Message). LaneReaches F d settled y i (v.dead y) (head_at (v.process y) d)
        (replica_of (v.process y) d) b link (v.link p y)) (sym (rest y yin apart)) (record {
          goes = goes_by i is y yin yother apart (cases_lt r (heading_rank y));
          ends = λ living h is_head. ends_by i is y yin yother apart living h is_head (cases_lt r h.rank);
          kept = kept_by i is y yin yother;
          acks = acks_by i is y yin yother;
        })
    in_by y i is yin yother (inl same) =
        subst (λ (z : ProcessId). LaneReaches F d settled z i (v.dead z) (head_at (v.process z) d)
        (replica_of (v.process z) d) b (left z) (v.link p z)) (sym same) (record {
          goes = along-lower F d settled b (next d a m) (left x) hears (subst (Along (next d) (Goes F d settled) a) first lane.goes).1;
          ends = λ living h is_head.
              let end : EndsAt settled (replica_of (v.process x) d) h (run (next d) (next d a m) (left x)) = subst
              (λ (link : List Message). EndsAt settled (replica_of (v.process x) d) h (run (next d) a link)) first (lane.ends living h is_head) in
              let lower = lower-run F d settled b (next d a m) (left x) hears in
              record {
                rank = lower.rank ∙ end.rank;
                history_is = lower.history ∙ end.history_is;
                number = let less = lower.number in let most = end.number in omega (arith, less, most);
              };
          kept = kept_by i is x xin xother;
          acks = acks_by i is x xin xother;
        }) where
          lane : LaneReaches F d settled x i (v.dead x) (head_at (v.process x) d) (replica_of (v.process x) d) a (v.link x p) (v.link p x)
          lane = around.inward x i is xin xother

    out_by : (i : ℕ) → i < s.m → ParityNode i ≢ p → v.dead (ParityNode i) ≡ false → (ParityNode i ≡ x) ⊎ (ParityNode i ≢ x)
        → LaneReaches F d settled p i false (head_at new d) (replica_of new d)
        (seen_at d settled (v.process (ParityNode i))) (v.link p (ParityNode i)) (left (ParityNode i))
    out_by i iin other living (inr apart) = let lane = around.outward i iin other living in record {
      goes = lane.goes;
      ends = λ alive h is_head. absurd (cc (same_head, is_head));
      kept = λ alive h is_head. absurd (cc (same_head, is_head));
      acks = λ alive. subst (Each (AckFits d p (seen_at d settled (v.process (ParityNode i))))) (sym (rest (ParityNode i) iin apart)) (lane.acks alive);
    }
    out_by i iin other living (inl same) = let lane = around.outward i iin other living in record {
      goes = lane.goes;
      ends = λ alive h is_head. absurd (cc (same_head, is_head));
      kept = λ alive h is_head. absurd (cc (same_head, is_head));
      acks = λ alive.
          subst (λ (z : ProcessId). Each (AckFits d p (seen_at d settled (v.process (ParityNode i)))) (left z)) (sym same)
          (subst (Each (AckFits d p (seen_at d settled (v.process (ParityNode i))))) first
          (subst (λ (z : ProcessId). Each (AckFits d p (seen_at d settled (v.process (ParityNode i)))) (v.link z p))
          same (lane.acks alive))).1;
    }

    may_by : (y : ProcessId) → IsProcess s y → y ≢ p → (y ≡ x) ⊎ (y ≢ x) → Each (MayStand s v y p) (left y)
    may_by y yin other (inr apart) = subst (Each (MayStand s v y p)) (sym (rest y yin apart)) (around.may y yin other)
    may_by y yin other (inl same) = subst (λ (z : ProcessId). Each (MayStand s v z p) (left z)) (sym same)
        (subst (Each (MayStand s v x p)) first (around.may x xin xother)).1

    pub act-hear : Around F s v d p new (v.link p) left settled
    act-hear = record {
      own = λ keeps. fits;
      sits = λ h is_head. absurd (cc (same_head, is_head));
      replicas = around.replicas;
      among = around.among;
      outward = λ i iin other living. out_by i iin other living (same-cases (ParityNode i) x);
      inward = λ y i is yin other. in_by y i is yin other (same-cases y x);
      silent = λ none. around.silent heads;
      may = λ y yin other. may_by y yin other (same-cases y x);
      since = since-trans around.since (record { applied = more; heads = λ h is_head. absurd (cc (heads, is_head)) });
      unkept = λ not. absurd (not keeps);
      quiet = λ none. around.quiet heads;
      follows = λ h is_head. absurd (cc (same_head, is_head));
      grew = grew-turned d (v.settled d) settled old new (λ has. absurd (cc (heads, has.heads))) around.grew;
      issued_here = λ i h iin other is_head. absurd (cc (same_head, is_head));
      issued_there = around.issued_there;
      issued_else = around.issued_else;
    }

  -- the process takes the partition over, and tells the others what it has
  module _ (old new : Process) (out inn sent : ProcessId → List Message) (settled : List Update) (i : ℕ)
      (name : p ≡ ParityNode i) (none : head_at old d ≡ None) (noseat : seat_of (v.process p) d ≡ None)
      (untouched : replica_of old d ≡ replica_of (v.process p) d)
      (lower : (j : ℕ) → j < suc i → v.dead (of_rank d j) ≡ true) (low : at 0 old.ranks d ≤ i)
      (heads : head_at new d ≡ Some (new_head s (suc i) (last_of (replica_of old d))))
      (own_rank : at 0 new.ranks d ≡ suc i) (same : replica_of new d ≡ replica_of old d)
      (sends : (j : ℕ) → j < s.m → ParityNode j ≢ p → v.dead (ParityNode j) ≡ false → sent (ParityNode j)
      ≡ tells.Adopt (rank (suc i)) (partition d) (replica_of old d).applied (replica_of old d).log ∷ [])
      (quiet : (q : ProcessId) (seen : Seen) → Each (AckFits d q seen) (sent q)) (none_acked : (q : ProcessId) (n : ℕ)
      → Each (AckBelow d n) (sent q)) (around : Around F s v d p old out inn settled) where
    abbrev r : Replica
    r = replica_of old d

    keeps : IsKeeper d p
    keeps = subst (IsKeeper d) (sym name) tt

    was : ReplicaFits F d settled r (head_at old d)
    was = around.own keeps

    is_head : (g : Head) → head_at new d ≡ Some g → new_head s (suc i) (last_of r) ≡ g
    is_head g e = some-same (new_head s (suc i) (last_of r)) g (sym heads ∙ e)

    new_fits : ReplicaFits F d settled r (head_at new d)
    new_fits = record {
      applied = was.applied;
      prolongs = was.prolongs;
      short = was.short;
      fine = was.fine;
      holds = was.holds;
      heads = λ g e. subst (HeadReaches settled r) (is_head g e)
          (record {
            inherited = omega arith;
            first = λ none. absurd (cc none);
            all_or = by (cases_eq r.applied (length settled));
          });
    } where
      reach : length settled ≤ last_of r
      reach = let long = length-history settled r was.applied in let most = was.prolongs.reaches in omega (arith, long, most)

      by : (r.applied ≡ length settled) ⊎ (r.applied ≢ length settled) → (r.applied ≡ length settled) ⊎ ((r.applied < last_of r) × (length settled ≤ last_of r))
      by (inl all) = inl all
      by (inr other) = let most = was.applied in inr (omega (arith, other, most, reach), reach)

    -- the others stand under lower ranks
    lower_there : (j : ℕ) → j < s.m → v.dead (ParityNode j) ≡ false → at 0 (v.process (ParityNode j)).ranks d < suc i
    lower_there j jin living = by (cases_lt (suc i) k) (cases_eq k (suc i)) where
      k : ℕ
      k = at 0 (v.process (ParityNode j)).ranks d

      reigns : Reigns s v d k
      reigns = members.ranks (ParityNode j) d jin living below

      by : (suc i < k) ⊎ (k ≤ suc i) → (k ≡ suc i) ⊎ (k ≢ suc i) → k < suc i
      by (inl above) which = absurd (cc (reigns.below (suc i) above, ap v.dead name, lives))
      by (inr most) (inr other) = omega (arith, most, other)
      by (inr most) (inl is) =
          let there : of_rank d k ≡ p = ap (of_rank d) is ∙ sym name in
          let seat : seat_of (v.process (of_rank d k)) d ≡ Some k = reigns.leads (ap v.dead there ∙ lives) in
          absurd (cc (seat, ap (λ (y : ProcessId). seat_of (v.process y) d) there ∙ noseat))

    tells_by : (j : ℕ) → j < s.m → ParityNode j ≢ p → v.dead (ParityNode j) ≡ false
        → LaneReaches F d settled p j false (head_at new d) (replica_of new d)
        (seen_at d settled (v.process (ParityNode j))) (out (ParityNode j) ++ sent (ParityNode j))
        (inn (ParityNode j))
    tells_by j jin other living = record {
      goes = along-append (next d) (Goes F d settled) seen (out (ParityNode j)) (sent (ParityNode j)) lane.goes
          (subst (λ (y : Seen). Along (next d) (Goes F d settled) y (sent (ParityNode j))) (sym quiet_run)
          (subst (Along (next d) (Goes F d settled) seen) (sym (sends j jin other living)) (
            (λ live. record {
              rank = lower_there j jin living;
              base_settled = was.applied;
              prolongs = subst (λ (us : List Update). Prolongs settled us) (sym whole) was.prolongs;
              few = was.short;
              fine = subst (Fine F d r.applied) (sym whole) was.fine;
            }),
            tt,
          )));
      ends = λ alive g e. subst (EndsAt settled (replica_of new d) g) (sym taken) (record {
        rank = ap (λ (x : Head). x.rank) (is_head g e);
        history_is = whole ∙ ap (history settled) (sym same);
        number = let inherits : last_of r ≡ g.inherited = ap (λ (x : Head). x.inherited) (is_head g e) in omega (arith, inherits);
      });
      kept = λ alive g e n is. absurd (cc (sym (at-replicate None s.m j) ∙ ap (λ (x : Head). at None x.acks j) (is_head g e) ∙ is));
      acks = lane.acks;
    } where
      seen : Seen
      seen = seen_at d settled (v.process (ParityNode j))

      lane : LaneReaches F d settled p j false (head_at old d) r seen (out (ParityNode j)) (inn (ParityNode j))
      lane = around.outward j jin other living

      quiet_run : run (next d) seen (out (ParityNode j)) ≡ seen
      quiet_run =
          stale-run d seen (out (ParityNode j))
          (each-weaker (Stale d 0) (Stale d seen.rank) (λ m stale. ranked-weaker d (λ k. k < 0) (λ k. k < seen.rank)
          (λ k none. absurd (omega (arith, none))) m stale) (out (ParityNode j))
          (around.silent none j jin other living))

      taken : run (next d) seen (out (ParityNode j) ++ sent (ParityNode j))
          ≡ record { rank = suc i; history = take r.applied seen.history ++ r.log; number = r.applied + length r.log }
      taken =
          run-append (next d) seen (out (ParityNode j)) (sent (ParityNode j))
          ∙ (λ t. run (next d) (quiet_run t) (sends j jin other living t))
          ∙ ap (λ (b : Bool). replaced b (suc i) r.applied r.log seen)
          (live-is d seen d (suc i) refl (let less = lower_there j jin living in omega (arith, less)))

      whole : take r.applied seen.history ++ r.log ≡ history settled r
      whole =
          ap (λ (us : List Update). us ++ r.log)
          (sym (take-take r.applied (length settled) seen.history was.applied)
          ∙ ap (take r.applied) (around.replicas (ParityNode j) jin other living tt).prolongs.front)

    hears_by : (x : ProcessId) (j : ℕ) → p ≡ ParityNode j → IsProcess s x → x ≢ p
        → LaneReaches F d settled x j (v.dead x) (head_at (v.process x) d) (replica_of (v.process x) d) (seen_at d settled new) (inn x) (out x ++ sent x)
    hears_by x j is xin other =
        head-inward F laws s v members d below p pin lives (suc i) name lower settled (replica_of (v.process x) d)
        (seen_at d settled new) own_rank x j xin other (inn x) (out x ++ sent x) (around.may x xin other)
        (λ living. each-append (AckFits d x (seen_at d settled new)) (out x) (sent x)
        (each-weaker (AckFits d x (seen_at d settled old)) (AckFits d x (seen_at d settled new))
        (λ m fits. ack-turned d x (seen_at d settled old) (seen_at d settled new)
        (λ from. absurd (cc (lower (at 0 old.ranks d) (omega (arith, low)), ap v.dead from, living))) m fits) (out x)
        ((around.inward x j is xin other).acks living))
        (quiet x (seen_at d settled new)))

    -- nobody has acknowledged anything to a process that wasn't the head
    none-comes : (last j : ℕ) (m : Message) → MayStand s v (ParityNode j) p m → AckBelow d last m
    none-comes last j (tells.Ack k e n) may = λ here.
        let from : Used s v d p k.0 = used s v d p e.0 k.0 here may in
        let seat : seat_of (v.process p) d ≡ Some k.0 = ap (λ (y : ProcessId). seat_of (v.process y) d) from.0
        ∙ from.1.leads (ap v.dead (sym from.0) ∙ lives) in
        absurd (cc (seat, noseat))
    none-comes last j (tells.Update k e u stable) may = tt
    none-comes last j (tells.Adopt k e base list) may = tt
    none-comes last j (tells.Stable k e n) may = tt
    none-comes last j (tells.ReadBlock session block rows) may = tt
    none-comes last j (tells.Block session bytes n) may = tt
    none-comes last j (tells.Mark session k block e n) may = tt
    none-comes last j (tells.Row session bytes stamp) may = tt
    none-comes last j (tells.Cease upto) may = tt
    none-comes last j (tells.Notice dead) may = tt

    pub act-take : Around F s v d p new (λ q. out q ++ sent q) inn settled
    act-take = record {
      own = λ k. subst (λ (x : Replica). ReplicaFits F d settled x (head_at new d)) (sym same) new_fits;
      sits = λ g e. subst (HeadSits v d p new) (is_head g e) (record { name = name; rank = own_rank; lower = lower });
      replicas = around.replicas;
      among = around.among;
      outward = tells_by;
      inward = hears_by;
      silent = λ nothing. absurd (cc (nothing, heads));
      may = around.may;
      since = since-trans around.since
          (record {
            applied = subst (λ (x : Replica). r.applied ≤ x.applied) (sym same) (omega arith);
            heads = λ h is. absurd (cc (none, is));
          });
      unkept = λ not. absurd (not keeps);
      quiet = λ nothing. absurd (cc (nothing, heads));
      follows =
          λ h is. subst (Prolongs (history (v.settled d) (replica_of (v.process p) d)))
          (ap (history (v.settled d)) (sym untouched) ∙ ap (λ (us : List Update). history us r) (sym (around.quiet none)) ∙ ap (history settled) (sym same))
          (begins-refl (history (v.settled d) (replica_of (v.process p) d)));
      grew = grew-turned d (v.settled d) settled old new (λ has. absurd (cc (none, has.heads))) around.grew;
      issued_here =
          λ j g jin other e. each-weaker (MayStand s v (ParityNode j) p) (AckBelow d (last_of (replica_of new d))) (none-comes (last_of (replica_of new d)) j)
          (inn (ParityNode j)) (around.may (ParityNode j) jin other);
      issued_there =
          λ x j h is xin other living e. each-append (AckBelow d (last_of (replica_of (v.process x) d))) (out x) (sent x)
          (around.issued_there x j h is xin other living e) (none_acked x (last_of (replica_of (v.process x) d)));
      issued_else = around.issued_else;
    }
