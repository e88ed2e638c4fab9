-- Where every other parity process has acknowledged a head, all histories of its partition are fronts of the
-- head's: what its history and the fronts of that are, all are.
use Rattle.std.proofs.Common.{ℕ, zero, suc, ◌≡◌, ◌≢◌, ◌<◌, ◌≤◌, ◌+◌, ◌==◌, Bool, true, false, not, ◌&&◌, ◌||◌, List, []}
use Rattle.std.proofs.Common.{◌∷◌, Option, Some, None, ◌⊎◌, inl, inr, refl, sym, ap, subst, ◌∙◌, arith}
use Rattle.std.proofs.lemmas.Bool.{and_parts, cases_eq, cases_lt}
use Rattle.std.proofs.lemmas.Grind.{common_steps}
use Rattle.std.specs.Prelude.{cond, filter, is_some}
use Rattle.std.specs.List.{list_all, range_with_len}
use Rattle.group_types.specs.Dimensions.{Dimensions}
use Rattle.group_types.specs.Lists.{at}
use Rattle.group_types.specs.Names.{IsProcess, of_rank, same_process}
use Rattle.group_types.specs.declared.process.ProcessId.{ProcessId}
use Rattle.group_types.specs.declared.process.ProcessId.TheVariants.{DataNode, ParityNode}
use Rattle.group_types.proofs.Names.{same-cases, same-ne}
use Rattle.group_types.specs.Each.{Each}
use Rattle.membership.specs.Members.{knows_dead}
use Rattle.group_message.specs.declared.message.Message.{Message}
use Rattle.group_message.specs.declared.message.Message.TheVariants as tells
use Rattle.group_message.specs.declared.update.Update.{Update}
use Rattle.group_run.specs.Applying.{head_at, replica_of}
use Rattle.group_run.specs.Asking.{is_adopted}
use Rattle.group_run.specs.Heading.{other_parities}
use Rattle.group_run.specs.Process.{Head}
use Rattle.group_run.specs.History.{history}
use Rattle.law_moves.specs.State.{State}
use Rattle.law_moves.proofs.Members.{Members, Reigns}
use Rattle.law_histories.proofs.LaneWords.{Goes, Seen, appended, next, replaced, Prolongs}
use Rattle.law_histories.proofs.Lanes.{Stale, rank-rises, run-rises, same-rank-begins, stale-along}
use Rattle.law_histories.proofs.Reach.{IsKeeper, Reach, seen_at}
use Rattle.law_histories.proofs.Around.{enters}
use Rattle.law_histories.proofs.Keeping.{unknown}
use Rattle.law_histories.proofs.Ranks.{Used, head-from, may-stale}
use Rattle.law_histories.proofs.Folds.{run, Along}

-- what all that pass one test do, each does
all-others : (t f : ℕ → Bool) (i n a : ℕ) → a ≤ i → i < a + n → f i ≡ true → list_all t (filter f (range_with_len a n)) ≡ true → t i ≡ true
all-others t f i zero a low high passes all = absurd (omega (arith, low, high))
all-others t f i (suc n) a low high passes all = by (cases_eq i a) (f a) refl all (λ above. all-others t f i n (a + 1) above (omega (arith, high)) passes) where
  by : (i ≡ a) ⊎ (i ≢ a) → (b : Bool) → f a ≡ b → list_all t (cond b (a ∷ filter f (range_with_len (a + 1) n)) (filter f (range_with_len (a + 1) n))) ≡ true
      → (a + 1 ≤ i → list_all t (filter f (range_with_len (a + 1) n)) ≡ true → t i ≡ true) → t i ≡ true
  by (inl same) false is all rest = absurd (cc (is, ap f (sym same) ∙ passes))
  by (inl same) true is all rest = ap t same ∙ (and_parts (t a) (list_all t (filter f (range_with_len (a + 1) n))) all).0
  by (inr other) true is all rest = rest (omega (arith, low, other)) (and_parts (t a) (list_all t (filter f (range_with_len (a + 1) n))) all).1
  by (inr other) false is all rest = rest (omega (arith, low, other)) all

some-of : {X : Type 0} (o : Option X) → is_some o ≡ true → (x : X) × (o ≡ Some x)
some-of None is = absurd (cc is)
some-of (Some x) is = (x, refl)

either : (a b : Bool) → (a || b) ≡ true → (a ≡ true) ⊎ (b ≡ true)
either true b is = inl refl
either false b is = inr is

module _ (F : ℕ → ℕ → List Update → Type 0) (d : ℕ) (C : List Update → Type 0) (fronts : (us vs : List Update) → Prolongs us vs → C vs → C us) where
  -- the sentence on histories, with one more on those of partition d
  abbrev pub With : ℕ → ℕ → List Update → Type 0
  With e a us = F e a us × (e ≡ d → C us)

  goes-with : (e : ℕ) (settled : List Update) (seen : Seen) (m : Message) → Goes F e settled seen m
      → (e ≡ d → C (next e seen m).history) → Goes With e settled seen m
  goes-with e settled seen (tells.Update r f u stable) goes more = λ live.
      let old = goes live in record {
        rank = old.rank;
        stable_settled = old.stable_settled;
        few = old.few;
        fine = (old.fine.0, (old.fine.1, λ here. subst C (ap (λ (b : Bool). (appended b u stable seen).history) live) (more here)));
      }
  goes-with e settled seen (tells.Adopt r f base list) goes more = λ live.
      let old = goes live in record {
        rank = old.rank;
        base_settled = old.base_settled;
        prolongs = old.prolongs;
        few = old.few;
        fine = (old.fine.0, (old.fine.1, λ here. subst C (ap (λ (b : Bool). (replaced b r.0 base list seen).history) live) (more here)));
      }
  goes-with e settled seen (tells.Stable r f n) goes more = goes
  goes-with e settled seen (tells.Mark session r block f n) goes more = goes
  goes-with e settled seen (tells.Ack r f n) goes more = tt
  goes-with e settled seen (tells.ReadBlock session block rows) goes more = tt
  goes-with e settled seen (tells.Block session bytes n) goes more = tt
  goes-with e settled seen (tells.Row session bytes stamp) goes more = tt
  goes-with e settled seen (tells.Cease upto) goes more = tt
  goes-with e settled seen (tells.Notice dead) goes more = tt

  -- where a link leaves the rank, all that it passes through are fronts of its end
  along-with : (e : ℕ) (settled : List Update) (seen : Seen) (ms : List Message) → Along (next e) (Goes F e settled) seen ms
      → (e ≡ d → ((run (next e) seen ms).rank ≡ seen.rank) × C (run (next e) seen ms).history) → Along (next e) (Goes With e settled) seen ms
  along-with e settled seen [] goes ends = tt
  along-with e settled seen (m ∷ ms) goes ends = (
    goes-with e settled seen m goes.0
        (λ here. fronts (next e seen m).history (run (next e) (next e seen m) ms).history
        (same-rank-begins F e settled (next e seen m) ms goes.1 (here_rank here).1) (ends here).1),
    along-with e settled (next e seen m) ms goes.1 (λ here. ((here_rank here).1, (ends here).1)),
  ) where
    here_rank : e ≡ d → ((next e seen m).rank ≡ seen.rank) × ((run (next e) (next e seen m) ms).rank ≡ (next e seen m).rank)
    here_rank here =
        let first = rank-rises e seen m in
        let rest = run-rises e (next e seen m) ms in
        let same = (ends here).0 in
        (omega (arith, first, rest, same), omega (arith, first, rest, same))

  module _ (s : Dimensions) (v : State) (members : Members s v) (reach : Reach F s v) (below : d < s.k) (p : ProcessId)
      (pin : IsProcess s p) (lives : v.dead p ≡ false)
      (h : Head) (heads : head_at (v.process p) d ≡ Some h) (adopted : is_adopted s (v.process p) h ≡ true)
      (holds : C (history (v.settled d) (replica_of (v.process p) d))) where
    from : Used s v d p h.rank
    from = head-from s v d members below p h pin lives heads

    own_rank : at 0 (v.process p).ranks d ≡ h.rank
    own_rank = ((enters F s v members d below p pin lives (reach d below)).sits h heads).rank

    -- every living parity process stands under the head's rank
    rank-same : (i : ℕ) → i < s.m → ParityNode i ≢ p → v.dead (ParityNode i) ≡ false → at 0 (v.process (ParityNode i)).ranks d ≡ h.rank
    rank-same i iin other living =
        by (either (h.rank == 0)
        (list_all (λ i. is_some (at None h.acks i)) (other_parities s.m (v.process p).name (v.process p).known))
        adopted) where
          reigns : Reigns s v d (at 0 (v.process (ParityNode i)).ranks d)
          reigns = members.ranks (ParityNode i) d iin living below

          by : ((h.rank == 0) ≡ true)
              ⊎ (list_all (λ i. is_some (at None h.acks i)) (other_parities s.m (v.process p).name (v.process p).known)
              ≡ true) → at 0 (v.process (ParityNode i)).ranks d ≡ h.rank
          by (inl first) =
              let none : h.rank ≡ 0 = grind (arith, common_steps) in
              let alive : v.dead (of_rank d 0) ≡ false = ap (λ (r : ℕ). v.dead (of_rank d r)) (sym none) ∙ ap v.dead (sym from.0) ∙ lives in
              ranked alive none (cases_lt 0 (at 0 (v.process (ParityNode i)).ranks d)) where
                ranked : v.dead (of_rank d 0) ≡ false → h.rank ≡ 0 → (0 < at 0 (v.process (ParityNode i)).ranks d)
                    ⊎ (at 0 (v.process (ParityNode i)).ranks d ≤ 0)
                    → at 0 (v.process (ParityNode i)).ranks d ≡ h.rank
                ranked alive none (inl above) = absurd (cc (reigns.below 0 above, alive))
                ranked alive none (inr low) = omega (arith, low, none)
          by (inr all) =
              let asked : (not (same_process (v.process p).name (ParityNode i)) && not (knows_dead (v.process p).known (ParityNode i))) ≡ true =
              ap (λ (b : Bool). not b && not (knows_dead (v.process p).known (ParityNode i)))
              (same-ne (v.process p).name (ParityNode i) (λ same. other (sym same ∙ members.named p pin)))
              ∙ ap not (unknown s v members p pin lives (ParityNode i) iin other living) in
              let acked = some-of (at None h.acks i)
              (all-others (λ i. is_some (at None h.acks i)) (λ i. not (same_process (v.process p).name (ParityNode i)) &&
              not (knows_dead (v.process p).known (ParityNode i))) i s.m 0 (omega arith) (omega (arith, iin)) asked
              all) in
              (((reach d below).lanes p i pin iin (λ same. other (sym same)) living).kept lives h heads acked.0 acked.1).rank

    -- and its history is a front of the head's
    clean-parity : (i : ℕ) → i < s.m → ParityNode i ≢ p → v.dead (ParityNode i) ≡ false → C (history (v.settled d) (replica_of (v.process (ParityNode i)) d))
    clean-parity i iin other living =
        let lane = (reach d below).lanes p i pin iin (λ same. other (sym same)) living in
        let ends = lane.ends lives h heads in
        let seen : Seen = seen_at d (v.settled d) (v.process (ParityNode i)) in
        let there : List Message = v.link p (ParityNode i) in
        fronts seen.history (run (next d) seen there).history
        (same-rank-begins F d (v.settled d) seen there lane.goes (ends.rank ∙ sym (rank-same i iin other living))) (subst C (sym ends.history_is) holds)

    clean-at : (q : ProcessId) → IsProcess s q → v.dead q ≡ false → IsKeeper d q → C (history (v.settled d) (replica_of (v.process q) d))
    clean-at q qin living keeps = by (same-cases q p) where
      other_keeper : (q : ProcessId) → IsProcess s q → v.dead q ≡ false → IsKeeper d q → q ≢ p → C (history (v.settled d) (replica_of (v.process q) d))
      other_keeper (ParityNode i) qin living keeps other = clean-parity i qin other living
      other_keeper (DataNode e) qin living keeps other = absurd (first h.rank from.0 from.1.below) where
        first : (r : ℕ) → p ≡ of_rank d r → ((j : ℕ) → j < r → v.dead (of_rank d j) ≡ true) → ⊥
        first zero is lower = other (ap DataNode keeps ∙ sym is)
        first (suc r) is lower = cc (lower 0 (omega arith), ap (λ (k : ℕ). v.dead (DataNode k)) keeps, living)

      by : (q ≡ p) ⊎ (q ≢ p) → C (history (v.settled d) (replica_of (v.process q) d))
      by (inl same) = subst (λ (y : ProcessId). C (history (v.settled d) (replica_of (v.process y) d))) (sym same) holds
      by (inr other) = other_keeper q qin living keeps other

    -- links of others are stale
    lane-stale : (x : ProcessId) (i : ℕ) → IsProcess s x → i < s.m → x ≢ ParityNode i → v.dead (ParityNode i) ≡ false → x ≢ p
        → Along (next d) (Goes With d (v.settled d)) (seen_at d (v.settled d) (v.process (ParityNode i))) (v.link x (ParityNode i))
    lane-stale x i xin iin apart living other =
        stale-along With d (v.settled d) (seen_at d (v.settled d) (v.process (ParityNode i))) (v.link x (ParityNode i))
        (subst (λ (r : ℕ). Each (Stale d r) (v.link x (ParityNode i))) (sym (at_rank (same-cases (ParityNode i) p)))
        (may-stale s v d p x (ParityNode i) h.rank from.0 lives other (v.link x (ParityNode i)) (members.may x (ParityNode i) xin iin apart living))) where
          at_rank : (ParityNode i ≡ p) ⊎ (ParityNode i ≢ p) → at 0 (v.process (ParityNode i)).ranks d ≡ h.rank
          at_rank (inl same) = ap (λ (y : ProcessId). at 0 (v.process y).ranks d) same ∙ own_rank
          at_rank (inr other_i) = rank-same i iin other_i living

    lane-own : (i : ℕ) → i < s.m → p ≢ ParityNode i → v.dead (ParityNode i) ≡ false
        → Along (next d) (Goes With d (v.settled d)) (seen_at d (v.settled d) (v.process (ParityNode i))) (v.link p (ParityNode i))
    lane-own i iin apart living =
        let lane = (reach d below).lanes p i pin iin apart living in
        let ends = lane.ends lives h heads in
        along-with d (v.settled d) (seen_at d (v.settled d) (v.process (ParityNode i))) (v.link p (ParityNode i)) lane.goes
        (λ here. (ends.rank ∙ sym (rank-same i iin (λ same. apart (sym same)) living), subst C (sym ends.history_is) holds))

    lane-at : (x : ProcessId) (i : ℕ) → IsProcess s x → i < s.m → x ≢ ParityNode i → v.dead (ParityNode i) ≡ false
        → Along (next d) (Goes With d (v.settled d)) (seen_at d (v.settled d) (v.process (ParityNode i))) (v.link x (ParityNode i))
    lane-at x i xin iin apart living = by (same-cases x p) where
      by : (x ≡ p) ⊎ (x ≢ p) → Along (next d) (Goes With d (v.settled d)) (seen_at d (v.settled d) (v.process (ParityNode i))) (v.link x (ParityNode i))
      by (inr other) = lane-stale x i xin iin apart living other
      by (inl same) =
          subst (λ (y : ProcessId). Along (next d) (Goes With d (v.settled d))
          (seen_at d (v.settled d) (v.process (ParityNode i))) (v.link y (ParityNode i))) (sym same)
          (lane-own i iin (λ e. apart (same ∙ e)) living)

    -- the sentence on the head's history is reached everywhere
    pub told-all : Reach With s v
    told-all e low = record {
      replicas = λ q qin living keeps.
          let old = (reach e low).replicas q qin living keeps in record {
            applied = old.applied;
            prolongs = old.prolongs;
            short = old.short;
            fine = (
              old.fine.0,
              (
                old.fine.1,
                λ here. subst (λ (k : ℕ). C (history (v.settled k) (replica_of (v.process q) k)))
                    (sym here) (clean-at q qin living (subst (λ (k : ℕ). IsKeeper k q) here keeps)),
              ),
            );
            holds = old.holds;
            heads = old.heads;
          };
      issued = (reach e low).issued;
      lanes = λ x i xin iin apart living.
          let lane = (reach e low).lanes x i xin iin apart living in record {
            goes = by x i xin iin apart living (cases_eq e d);
            ends = lane.ends;
            kept = lane.kept;
            acks = lane.acks;
          };
    } where
      by : (x : ProcessId) (i : ℕ) → IsProcess s x → i < s.m → x ≢ ParityNode i → v.dead (ParityNode i) ≡ false → (e ≡ d) ⊎ (e ≢ d)
          → Along (next e) (Goes With e (v.settled e)) (seen_at e (v.settled e) (v.process (ParityNode i))) (v.link x (ParityNode i))
      by x i xin iin apart living (inl same) =
          subst (λ (k : ℕ). Along (next k) (Goes With k (v.settled k))
          (seen_at k (v.settled k) (v.process (ParityNode i))) (v.link x (ParityNode i))) (sym same)
          (lane-at x i xin iin apart living)
      by x i xin iin apart living (inr other) =
          along-with e (v.settled e) (seen_at e (v.settled e) (v.process (ParityNode i))) (v.link x (ParityNode i))
          ((reach e low).lanes x i xin iin apart living).goes (λ here. absurd (other here))
