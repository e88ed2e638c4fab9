-- What a head does, told around it: it issues an update, keeps an acknowledgement, and settles.
use Rattle.std.proofs.Common.{ℕ, zero, suc, ◌≡◌, ◌≢◌, ◌<◌, ◌≤◌, ◌+◌, max, Bool, true, false, not, ◌&&◌, List, [], ◌∷◌}
use Rattle.std.proofs.Common.{◌++◌, length, take, Option, Some, None, ◌⊎◌, inl, inr, refl, sym, ap, subst, ◌∙◌, arith}
use Rattle.std.proofs.lemmas.Bool.{cases_eq, cases_lt}
use Rattle.std.proofs.lemmas.List.{length-append, length-take-le, take-append-le, take-take}
use Rattle.std.specs.Prelude.{cond, filter, unwrap_or}
use Rattle.std.specs.List.{range_with_len}
use Rattle.group_types.specs.Dimensions.{Dimensions}
use Rattle.group_types.specs.Lists.{at, put}
use Rattle.group_types.specs.Names.{IsProcess, of_rank, same_process}
use Rattle.group_types.specs.declared.process.ProcessId.{ProcessId}
use Rattle.group_types.specs.declared.process.ProcessId.TheVariants.{DataNode, ParityNode}
use Rattle.group_types.proofs.Lists.{at-put, at-put-other}
use Rattle.group_types.proofs.Names.{same-ne}
use Rattle.group_types.specs.Each.{Each}
use Rattle.group_types.proofs.Eaches.{each-append, each-weaker}
use Rattle.membership.specs.Members.{Membership, knows_dead}
use Rattle.group_message.specs.declared.message.Message.{Message}
use Rattle.group_message.specs.declared.message.Message.TheVariants as tells
use Rattle.group_message.specs.declared.update.Update.{Update}
use Rattle.group_run.specs.Applying.{apply_to, head_at, replica_of}
use Rattle.group_run.specs.Deciding.{window}
use Rattle.group_run.specs.Heading.{acked_by, acknowledged, least_acked, other_parities, partition, rank, settlements}
use Rattle.group_run.specs.History.{settled_with, history}
use Rattle.group_run.specs.Process.{Head, Process}
use Rattle.group_run.specs.Replica.{Replica, applied_to, empty_replica, last_of, up_to, with_update}
use Rattle.law_moves.specs.State.{State}
use Rattle.law_moves.proofs.Members.{MayStand, Members}
use Rattle.law_moves.proofs.Reading.{some-same}
use Rattle.law_histories.proofs.LaneWords.{AckBelow, AckFits, Fine, Goes, Prolongs, Seen, appended, next}
use Rattle.law_histories.proofs.Reach.{EndsAt, HeadReaches, IsKeeper, KeptGoes, LaneReaches, ReplicaFits, ReplicaReaches, seen_at}
use Rattle.law_histories.proofs.HistoryWords.{HistoryLaws}
use Rattle.law_histories.proofs.Applies.{items-applied, items-grown}
use Rattle.law_histories.proofs.Around.{Around, HeadSits, below-more, grew-turned, keeper-rank, since-head, since-trans}
use Rattle.law_histories.proofs.Folds.{along-append, run-append, run, Along}
use Rattle.law_histories.proofs.Histories.{applied-is, last-number, history-applied, history-grown, history-with_update}
use Rattle.law_histories.proofs.Histories.{last-applied, length-history, log-left, settled-more, settled-no-more}
use Rattle.law_histories.proofs.Lanes.{Stale, along-grows, live-is, same-rank-begins, stale-along, begins-trans, begins-append}
use Rattle.law_histories.proofs.Ranks.{may-stale, no-other}

-- acknowledgements stay right where the rank stays and the history is longer
pub ack-longer : (d : ℕ) (x : ProcessId) (a b : Seen) → b.rank ≡ a.rank → length a.history ≤ length b.history
    → (m : Message) → AckFits d x a m → AckFits d x b m
ack-longer d x a b same longer (tells.Ack r e n) fits = λ here. let old = fits here in
    record { head_is = old.head_is; rank = same ∙ old.rank; has = let most = old.has in omega (arith, most, longer) }
ack-longer d x a b same longer (tells.Update r e u stable) fits = tt
ack-longer d x a b same longer (tells.Adopt r e base list) fits = tt
ack-longer d x a b same longer (tells.Stable r e n) fits = tt
ack-longer d x a b same longer (tells.ReadBlock session block rows) fits = tt
ack-longer d x a b same longer (tells.Block session bytes n) fits = tt
ack-longer d x a b same longer (tells.Mark session r block e n) fits = tt
ack-longer d x a b same longer (tells.Row session bytes stamp) fits = tt
ack-longer d x a b same longer (tells.Cease upto) fits = tt
ack-longer d x a b same longer (tells.Notice dead) fits = tt

-- the least acknowledged number
pub least-last : (h : Head) (last : ℕ) (is : List ℕ) → least_acked h last is ≤ last
least-last h last [] = omega arith
least-last h last (i ∷ is) = let rest = least-last h last is in omega (arith, rest)

least-filter : (h : Head) (last : ℕ) (test : ℕ → Bool) (j a n : ℕ) → a ≤ j → j < a + n → test j ≡ true
    → least_acked h last (filter test (range_with_len a n)) ≤ acked_by h j
least-filter h last test j a zero low high passes = absurd (omega (arith, low, high))
least-filter h last test j a (suc n) low high passes =
    by (cases_eq j a) (test a) refl (λ above. least-filter h last test j (a + 1) n above (omega (arith, high))
    passes) where
      by : (j ≡ a) ⊎ (j ≢ a) → (b : Bool) → test a ≡ b → (a + 1 ≤ j → least_acked h last (filter test (range_with_len (a + 1) n)) ≤ acked_by h j)
          → least_acked h last (cond b (a ∷ filter test (range_with_len (a + 1) n)) (filter test (range_with_len (a + 1) n))) ≤ acked_by h j
      by (inl same) true is rest = let here : acked_by h a ≡ acked_by h j = ap (acked_by h) (sym same) in omega (arith, here)
      by (inl same) false is rest = cc (is, ap test (sym same) ∙ passes)
      by (inr other) true is rest = let low_rest = rest (omega (arith, low, other)) in omega (arith, low_rest)
      by (inr other) false is rest = rest (omega (arith, low, other))

pub least-acked-by : (h : Head) (last m i : ℕ) (name : ProcessId) (known : Membership) → i < m → ParityNode i ≢ name → knows_dead known (ParityNode i) ≡ false
    → least_acked h last (other_parities m name known) ≤ acked_by h i
least-acked-by h last m i name known within other unknown =
    least-filter h last (λ j. not (same_process name (ParityNode j)) && not (knows_dead known (ParityNode j))) i 0 m (omega arith) (omega (arith, within))
    (ap (λ (b : Bool). not b && not (knows_dead known (ParityNode i))) (same-ne name (ParityNode i) (λ same. other (sym same))) ∙ ap not unknown)

-- a number above 0 was acknowledged
pub acked-some : (o : Option ℕ) (n : ℕ) → 0 < n → n ≤ unwrap_or o 0 → (a : ℕ) × (o ≡ Some a) × (n ≤ a)
acked-some None n some most = absurd (omega (arith, some, most))
acked-some (Some a) n some most = (a, refl, most)

-- a replica that applies more of what is settled
module _ (F : ℕ → ℕ → List Update → Type 0) (laws : HistoryLaws F) (d : ℕ) where
  pub fits-applied : (settled : List Update) (r : Replica) (head : Option Head) (n : ℕ) → n ≤ length settled
      → ReplicaFits F d settled r head → ReplicaFits F d settled (applied_to n r) head
  fits-applied settled r head n low fits = record {
    applied = let most = fits.applied in omega (arith, is, most, low);
    prolongs = subst (Prolongs settled) (sym same) fits.prolongs;
    short = let left = log-left settled r fits.applied n within in let few = fits.short in omega (arith, left, few);
    fine =
        subst (λ (a : ℕ). Fine F d a (history settled (applied_to n r))) (sym is)
        (subst (Fine F d (max r.applied n)) (sym same) (
          fits.fine.0,
          laws.rises d r.applied (max r.applied n) (history settled r) fits.fine.1 (omega arith)
              (let long = reach in let most = fits.applied in omega (arith, long, most, low)),
        ));
    holds = items-applied settled r n fits.applied fits.prolongs low fits.holds;
    heads = λ h is_head. heads_by h (fits.heads h is_head);
  } where
    same : history settled (applied_to n r) ≡ history settled r
    same = history-applied settled r fits.applied fits.prolongs n low

    reach : length settled ≤ length (history settled r)
    reach = fits.prolongs.reaches

    within : n ≤ last_of r
    within = let long = length-history settled r fits.applied in omega (arith, long, reach, low)

    is : (applied_to n r).applied ≡ max r.applied n
    is = applied-is settled r fits.applied n within

    heads_by : (h : Head) → HeadReaches settled r h → HeadReaches settled (applied_to n r) h
    heads_by h old = record {
      inherited = let last = last-applied settled r fits.applied n within in let most = old.inherited in omega (arith, last, most);
      first = old.first;
      all_or = by old.all_or (cases_eq (max r.applied n) (length settled));
    } where
      by : (r.applied ≡ length settled) ⊎ ((r.applied < h.inherited) × (length settled ≤ h.inherited))
          → (max r.applied n ≡ length settled) ⊎ (max r.applied n ≢ length settled)
          → ((applied_to n r).applied ≡ length settled) ⊎ (((applied_to n r).applied < h.inherited) × (length settled ≤ h.inherited))
      by (inl all) which = inl (omega (arith, is, all, low))
      by (inr waits) (inl now) = inl (is ∙ now)
      by (inr waits) (inr not_yet) = let most = fits.applied in let high = waits.1 in inr (omega (arith, is, not_yet, most, low, high), waits.1)

-- the process after it applied more
pub replica-apply_to : (s : Dimensions) (d n : ℕ) (p : Process) → replica_of (apply_to s d n p) d ≡ applied_to n (replica_of p d)
replica-apply_to s d n p = at-put empty_replica empty_replica p.replicas d (applied_to n (replica_of p d))

module _ (F : ℕ → ℕ → List Update → Type 0) (laws : HistoryLaws F) (s : Dimensions) (v : State) (members : Members s v) (d : ℕ) (below : d < s.k)
    (p : ProcessId) (pin : IsProcess s p) (lives : v.dead p ≡ false) where
  -- what comes to a living head from others is stale, and there is no other head
  pub head-inward : (r : ℕ) → p ≡ of_rank d r → ((j : ℕ) → j < r → v.dead (of_rank d j) ≡ true) → (settled : List Update) (own : Replica) (seen : Seen)
      → seen.rank ≡ r → (x : ProcessId) (i : ℕ) → IsProcess s x → x ≢ p → (there back : List Message)
      → Each (MayStand s v x p) there → (v.dead x ≡ false → Each (AckFits d x seen) back)
      → LaneReaches F d settled x i (v.dead x) (head_at (v.process x) d) own seen there back
  head-inward r name lower settled own seen is x i xin other there back may acks = record {
    goes = stale-along F d settled seen there (subst (λ (k : ℕ). Each (Stale d k) there) (sym is) (may-stale s v d p x p r name lives other there may));
    ends = λ alive h heads. absurd (no-other s v d members below p x r h name lives lower xin other alive heads);
    kept = λ alive h heads. absurd (no-other s v d members below p x r h name lives lower xin other alive heads);
    acks = acks;
  }

  -- a head applies what is settled
  pub act-apply : (proc : Process) (out inn : ProcessId → List Message) (settled : List Update) (n : ℕ) (h : Head) → head_at proc d ≡ Some h
      → n ≤ length settled → Around F s v d p proc out inn settled → Around F s v d p (apply_to s d n proc) out inn settled
  act-apply proc out inn settled n h heads low around = record {
    own = λ k. subst (λ (x : Replica). ReplicaFits F d settled x (head_at proc d)) (sym is)
        (fits-applied F laws d settled (replica_of proc d) (head_at proc d) n low own);
    sits = λ g is_head. let was = around.sits g is_head in record { name = was.name; rank = was.rank; lower = was.lower };
    replicas = around.replicas;
    among = around.among;
    outward = λ i iin other living. let lane = around.outward i iin other living in record {
      goes = lane.goes;
      ends = λ alive g is_head. let end = lane.ends alive g is_head in record {
        rank = end.rank;
        history_is = end.history_is ∙ sym same;
        number =
            let most = end.number in
            let now : (replica_of (apply_to s d n proc) d).applied ≡ (applied_to n (replica_of proc d)).applied = ap (λ (x : Replica). x.applied) is in
            omega (arith, most, now);
      };
      kept = lane.kept;
      acks = lane.acks;
    };
    inward =
        λ x i pis xin other. head-inward h.rank sits.name sits.lower settled (replica_of (v.process x) d)
        (seen_at d settled (apply_to s d n proc)) sits.rank x i xin other (inn x) (out x) (around.may x xin other)
        (λ alive. each-weaker (AckFits d x (seen_at d settled proc))
        (AckFits d x (seen_at d settled (apply_to s d n proc)))
        (ack-longer d x (seen_at d settled proc) (seen_at d settled (apply_to s d n proc)) refl
        (let long : length (history settled (replica_of (apply_to s d n proc) d))
        ≡ length (history settled (replica_of proc d)) = ap length same in omega (arith, long))) (out x)
        ((around.inward x i pis xin other).acks alive));
    silent = λ none. absurd (cc (none, heads));
    may = around.may;
    since = since-trans around.since (since-head d proc (apply_to s d n proc) (applied_to n (replica_of proc d)) refl is
        (omega arith) (omega (arith, last_same)));
    unkept = λ not. absurd (not (keeper-rank d h.rank p sits.name));
    quiet = λ none. absurd (cc (none, heads));
    follows = λ g is_head. subst (Prolongs (history (v.settled d) (replica_of (v.process p) d))) (sym same) (around.follows g is_head);
    grew = grew-turned d (v.settled d) settled proc (apply_to s d n proc) (λ has. record {
      head = has.head;
      heads = has.heads;
      all =
          let now : (replica_of (apply_to s d n proc) d).applied ≡ (applied_to n (replica_of proc d)).applied = ap (λ (x : Replica). x.applied) is in
          let moves = applied-is settled (replica_of proc d) own.applied n
          (let long = length-history settled (replica_of proc d) own.applied in let reach = own.prolongs.reaches in omega (arith, long, reach, low)) in
          let all = has.all in omega (arith, now, moves, all, low);
    }) around.grew;
    issued_here =
        λ i g iin other is_head. subst (λ (x : Replica). Each (AckBelow d (last_of x)) (inn (ParityNode i))) (sym is)
        (subst (λ (k : ℕ). Each (AckBelow d k) (inn (ParityNode i))) (sym last_same) (around.issued_here i g iin other is_head));
    issued_there = around.issued_there;
    issued_else = around.issued_else;
  } where
    sits : HeadSits v d p proc h
    sits = around.sits h heads

    own : ReplicaFits F d settled (replica_of proc d) (head_at proc d)
    own = around.own (keeper-rank d h.rank p sits.name)

    is : replica_of (apply_to s d n proc) d ≡ applied_to n (replica_of proc d)
    is = replica-apply_to s d n proc

    last_same : last_of (applied_to n (replica_of proc d)) ≡ last_of (replica_of proc d)
    last_same =
        last-applied settled (replica_of proc d) own.applied n
        (let long = length-history settled (replica_of proc d) own.applied in let reach = own.prolongs.reaches in omega (arith, long, reach, low))

    same : history settled (replica_of (apply_to s d n proc) d) ≡ history settled (replica_of proc d)
    same = ap (history settled) is ∙ history-applied settled (replica_of proc d) own.applied own.prolongs n low

  -- a head issues an update: it stands behind its history, and behind each link
  pub act-issue : (old new : Process) (out inn sent : ProcessId → List Message) (settled : List Update) (h : Head) (u : Update) → head_at old d ≡ Some h
      → head_at new d ≡ head_at old d → at 0 new.ranks d ≡ at 0 old.ranks d
      → replica_of new d ≡ with_update u (replica_of old d)
      → ((i : ℕ) → i < s.m → ParityNode i ≢ p → v.dead (ParityNode i) ≡ false → sent (ParityNode i)
      ≡ tells.Update (rank h.rank) (partition d) u (replica_of old d).applied ∷ [])
      → ((q : ProcessId) (seen : Seen) → Each (AckFits d q seen) (sent q)) → ((q : ProcessId) (n : ℕ) → Each (AckBelow d n) (sent q))
      → length (replica_of old d).log < window → Fine F d (replica_of old d).applied (history settled (replica_of old d) ++ u ∷ [])
      → Around F s v d p old out inn settled → Around F s v d p new (λ q. out q ++ sent q) inn settled
  act-issue old new out inn sent settled h u heads same_head same_rank is sends quiet none_acked few fine around = record {
    own = λ keeps. subst (λ (x : Replica). ReplicaFits F d settled x (head_at new d)) (sym is)
        (subst (ReplicaFits F d settled (with_update u r)) (sym same_head) fits);
    sits = λ g is_head. let was = around.sits g (sym same_head ∙ is_head) in record { name = was.name; rank = same_rank ∙ was.rank; lower = was.lower };
    replicas = around.replicas;
    among = around.among;
    outward = out_by;
    inward =
        λ x i pis xin other. head-inward h.rank sits.name sits.lower settled (replica_of (v.process x) d) (seen_at d settled new)
        (same_rank ∙ sits.rank) x i xin other (inn x) (out x ++ sent x) (around.may x xin other)
        (λ alive. each-append (AckFits d x (seen_at d settled new)) (out x) (sent x)
        (each-weaker (AckFits d x (seen_at d settled old)) (AckFits d x (seen_at d settled new))
        (ack-longer d x (seen_at d settled old) (seen_at d settled new) same_rank longer) (out x)
        ((around.inward x i pis xin other).acks alive))
        (quiet x (seen_at d settled new)));
    silent = λ none. cc (heads, sym same_head ∙ none);
    may = around.may;
    since = since-trans around.since (since-head d old new (with_update u r) same_head is (omega arith) last_more);
    unkept = λ not. absurd (not (keeper-rank d h.rank p sits.name));
    quiet = λ none. absurd (cc (heads, sym same_head ∙ none));
    follows =
        λ g is_head. begins-trans (history (v.settled d) (replica_of (v.process p) d)) hist (history settled (replica_of new d)) (around.follows h heads)
        (subst (Prolongs hist) (sym grown) (begins-append hist (u ∷ [])));
    grew = grew-turned d (v.settled d) settled old new
        (λ has. record {
          head = has.head;
          heads = same_head ∙ has.heads;
          all = ap (λ (x : Replica). x.applied) is
              ∙ has.all;
        }) around.grew;
    issued_here = λ i g iin other is_head. subst (λ (x : Replica). Each (AckBelow d (last_of x)) (inn (ParityNode i))) (sym is)
        (each-weaker (AckBelow d (last_of r)) (AckBelow d (last_of (with_update u r)))
        (below-more d (last_of r) (last_of (with_update u r)) last_more) (inn (ParityNode i))
        (around.issued_here i g iin other (sym same_head ∙ is_head)));
    issued_there =
        λ x i g pis xin other living is_head. each-append (AckBelow d (last_of (replica_of (v.process x) d))) (out x) (sent x)
        (around.issued_there x i g pis xin other living is_head) (none_acked x (last_of (replica_of (v.process x) d)));
    issued_else = around.issued_else;
  } where
    r : Replica
    r = replica_of old d

    hist : List Update
    hist = history settled r

    sits : HeadSits v d p old h
    sits = around.sits h heads

    own : ReplicaFits F d settled r (head_at old d)
    own = around.own (keeper-rank d h.rank p sits.name)

    last_more : last_of r ≤ last_of (with_update u r)
    last_more = let long = length-append r.log (u ∷ []) in omega (arith, long)

    grown : history settled (replica_of new d) ≡ hist ++ u ∷ []
    grown = ap (history settled) is ∙ history-with_update settled r own.applied u

    longer : length hist ≤ length (history settled (replica_of new d))
    longer = let long = length-append hist (u ∷ []) in let now : length (history settled (replica_of new d))
        ≡ length (hist ++ u ∷ []) = ap length grown in omega (arith, long, now)

    fits : ReplicaFits F d settled (with_update u r) (head_at old d)
    fits = record {
      applied = own.applied;
      prolongs = subst (Prolongs settled) (sym (history-with_update settled r own.applied u)) (record {
        reaches = let long = length-append hist (u ∷ []) in let reach = own.prolongs.reaches in omega (arith, long, reach);
        front = take-append-le (length settled) hist (u ∷ []) own.prolongs.reaches ∙ own.prolongs.front;
      });
      short = let long = length-append r.log (u ∷ []) in omega (arith, long, few);
      fine = subst (Fine F d r.applied) (sym (history-with_update settled r own.applied u)) fine;
      holds = record { items = own.holds.items; kept = own.holds.kept };
      heads = λ g is_head. let was = own.heads g is_head in
          record {
            inherited = let low = was.inherited in let long = length-append r.log (u ∷ []) in
                omega (arith, low, long);
            first = was.first;
            all_or = was.all_or;
          };
    }

    out_by : (i : ℕ) → i < s.m → ParityNode i ≢ p → v.dead (ParityNode i) ≡ false
        → LaneReaches F d settled p i false (head_at new d) (replica_of new d)
        (seen_at d settled (v.process (ParityNode i))) (out (ParityNode i) ++ sent (ParityNode i))
        (inn (ParityNode i))
    out_by i iin other living = record {
      goes = along-append (next d) (Goes F d settled) seen (out (ParityNode i)) (sent (ParityNode i)) lane.goes
          (subst (Along (next d) (Goes F d settled) (run (next d) seen (out (ParityNode i)))) (sym (sends i iin other living)) (
            (λ live. record {
              rank = sym end.rank;
              stable_settled = own.applied;
              few = let number = numbers in let long = length-history settled r own.applied in omega (arith, number, long, few);
              fine = subst (λ (us : List Update). Fine F d r.applied (us ++ u ∷ [])) (sym end.history_is) fine;
            }),
            tt,
          ));
      ends = λ alive g is_head. subst (EndsAt settled (replica_of new d) g) (sym whole) (record {
        rank = end.rank ∙ ap (λ (x : Head). x.rank) (one g is_head);
        history_is = ap (λ (us : List Update). us ++ u ∷ []) end.history_is ∙ sym grown;
        number =
            let most = end.number in
            let now : (replica_of new d).applied ≡ r.applied = ap (λ (x : Replica). x.applied) is in
            let inherits : h.inherited ≡ g.inherited = ap (λ (x : Head). x.inherited) (one g is_head) in
            omega (arith, most, now, inherits);
      });
      kept = λ alive g is_head. lane.kept alive g (sym same_head ∙ is_head);
      acks = lane.acks;
    } where
      seen : Seen
      seen = seen_at d settled (v.process (ParityNode i))

      lane : LaneReaches F d settled p i false (head_at old d) (replica_of old d) seen (out (ParityNode i)) (inn (ParityNode i))
      lane = around.outward i iin other living

      end : EndsAt settled r h (run (next d) seen (out (ParityNode i)))
      end = lane.ends refl h heads

      st : Seen
      st = run (next d) seen (out (ParityNode i))

      whole : run (next d) seen (out (ParityNode i) ++ sent (ParityNode i))
          ≡ record { rank = st.rank; history = st.history ++ u ∷ []; number = max st.number r.applied }
      whole =
          run-append (next d) seen (out (ParityNode i)) (sent (ParityNode i))
          ∙ ap (run (next d) (run (next d) seen (out (ParityNode i)))) (sends i iin other living)
          ∙ ap (λ (b : Bool). appended b u r.applied (run (next d) seen (out (ParityNode i))))
          (live-is d (run (next d) seen (out (ParityNode i))) d h.rank refl (let same = end.rank in omega (arith, same)))

      one : (g : Head) → head_at new d ≡ Some g → h ≡ g
      one g is_head = some-same h g (sym heads ∙ sym same_head ∙ is_head)

      numbers : u.number ≡ suc (length hist)
      numbers = last-number hist u fine.0

  -- a head keeps an acknowledgement
  pub act-acked : (old new : Process) (out inn : ProcessId → List Message) (settled : List Update) (h : Head) (i n : ℕ) → head_at old d ≡ Some h
      → head_at new d ≡ Some (acknowledged i n h) → seen_at d settled new ≡ seen_at d settled old → replica_of new d ≡ replica_of old d
      → (i < s.m → ParityNode i ≢ p → v.dead (ParityNode i) ≡ false → KeptGoes (seen_at d settled (v.process (ParityNode i))) h n)
      → Around F s v d p old out inn settled → Around F s v d p new out inn settled
  act-acked old new out inn settled h i n heads now same_seen same_replica goes around = record {
    own = λ keeps. subst (λ (x : Replica). ReplicaFits F d settled x (head_at new d)) (sym same_replica) (fits (around.own keeps));
    sits = λ g is_head. let was = around.sits h heads in
        record {
          name = was.name ∙ ap (of_rank d) (rank_of_head g is_head);
          rank = ap (λ (y : Seen). y.rank) same_seen
              ∙ was.rank ∙ rank_of_head g is_head;
          lower =
              λ j low. was.lower j (subst (λ (k : ℕ). j < k) (sym (rank_of_head g is_head)) low);
        };
    replicas = around.replicas;
    among = around.among;
    outward = out_by;
    inward =
        λ x j pis xin other. subst
        (λ (y : Seen). LaneReaches F d settled x j (v.dead x) (head_at (v.process x) d) (replica_of (v.process x) d) y (inn x) (out x)) (sym same_seen)
        (around.inward x j pis xin other);
    silent = λ none. cc (none, now);
    may = around.may;
    grew = grew-turned d (v.settled d) settled old new
        (λ has. record {
          head = acknowledged i n h;
          heads = now;
          all = ap (λ (x : Replica). x.applied) same_replica
              ∙ has.all;
        }) around.grew;
    since = since-trans around.since (record {
      applied = subst (λ (x : Replica). (replica_of old d).applied ≤ x.applied) (sym same_replica) (omega arith);
      heads = λ g is_head. record {
        head = acknowledged i n h;
        heads = now;
        rank = ap (λ (x : Head). x.rank) (is_old g is_head);
        inherited = ap (λ (x : Head). x.inherited) (is_old g is_head);
        longer = subst (λ (x : Replica). last_of (replica_of old d) ≤ last_of x) (sym same_replica) (omega arith);
      };
    });
    unkept = λ not. same_replica ∙ around.unkept not;
    quiet = λ none. absurd (cc (none, now));
    follows = λ g is_head. subst (Prolongs (history (v.settled d) (replica_of (v.process p) d)))
        (ap (λ (y : Seen). y.history) (sym same_seen)) (around.follows h heads);
    issued_here = λ j g jin other is_head. subst (λ (x : Replica). Each (AckBelow d (last_of x)) (inn (ParityNode j)))
        (sym same_replica) (around.issued_here j h jin other heads);
    issued_there = around.issued_there;
    issued_else = around.issued_else;
  } where
    is_acked : (g : Head) → head_at new d ≡ Some g → acknowledged i n h ≡ g
    is_acked g is_head = some-same (acknowledged i n h) g (sym now ∙ is_head)

    is_old : (g : Head) → head_at old d ≡ Some g → h ≡ g
    is_old g is_head = some-same h g (sym heads ∙ is_head)

    rank_of_head : (g : Head) → head_at new d ≡ Some g → h.rank ≡ g.rank
    rank_of_head g is_head = ap (λ (x : Head). x.rank) (is_acked g is_head)

    fits : ReplicaFits F d settled (replica_of old d) (head_at old d) → ReplicaFits F d settled (replica_of old d) (head_at new d)
    fits own = record {
      applied = own.applied;
      prolongs = own.prolongs;
      short = own.short;
      fine = own.fine;
      holds = own.holds;
      heads =
          λ g is_head. subst (HeadReaches settled (replica_of old d)) (is_acked g is_head)
          (let was = own.heads h heads in record { inherited = was.inherited; first = was.first; all_or = was.all_or });
    }

    out_by : (j : ℕ) → j < s.m → ParityNode j ≢ p → v.dead (ParityNode j) ≡ false
        → LaneReaches F d settled p j false (head_at new d) (replica_of new d)
        (seen_at d settled (v.process (ParityNode j))) (out (ParityNode j)) (inn (ParityNode j))
    out_by j jin other living = record {
      goes = lane.goes;
      ends =
          λ alive g is_head. subst (λ (x : Replica). EndsAt settled x g (run (next d) seen (out (ParityNode j)))) (sym same_replica)
          (subst (λ (x : Head). EndsAt settled (replica_of old d) x (run (next d) seen (out (ParityNode j)))) (is_acked g is_head)
          (let end = lane.ends alive h heads in record { rank = end.rank; history_is = end.history_is; number = end.number }));
      kept = λ alive g is_head a is. subst (λ (x : Head). KeptGoes seen x a) (is_acked g is_head)
          (kept_by a (cases_eq j i) (ap (λ (x : Head). at None x.acks j) (is_acked g is_head) ∙ is));
      acks = lane.acks;
    } where
      seen : Seen
      seen = seen_at d settled (v.process (ParityNode j))

      lane : LaneReaches F d settled p j false (head_at old d) (replica_of old d) seen (out (ParityNode j)) (inn (ParityNode j))
      lane = around.outward j jin other living

      kept_by : (a : ℕ) → (j ≡ i) ⊎ (j ≢ i) → at None (put None h.acks i (Some n)) j ≡ Some a → KeptGoes seen (acknowledged i n h) a
      kept_by a (inr apart) is = let was = lane.kept refl h heads a (sym (at-put-other None h.acks i j (Some n) apart)
          ∙ is) in record { rank = was.rank; has = was.has }
      kept_by a (inl same) is =
          let here : Some n ≡ Some a = sym (ap (at None (put None h.acks i (Some n))) same ∙ at-put None None h.acks i (Some n)) ∙ is in
          let number : n ≡ a = cc here in
          let was = subst (λ (k : ℕ). k < s.m → ParityNode k ≢ p → v.dead (ParityNode k) ≡ false
          → KeptGoes (seen_at d settled (v.process (ParityNode k))) h n) (sym same) goes jin other living in
          record { rank = was.rank; has = let most = was.has in omega (arith, most, number) }

  -- a head settles what all others acknowledged that it doesn't know to be dead
  module _ (proc : Process) (out inn : ProcessId → List Message) (settled : List Update) (h : Head) (heads : head_at proc d ≡ Some h) (name : proc.name ≡ p)
      (unknown : (i : ℕ) → i < s.m → ParityNode i ≢ p → v.dead (ParityNode i) ≡ false
      → knows_dead proc.known (ParityNode i) ≡ false) (around : Around F s v d p proc out inn settled) where
    abbrev r : Replica
    r = replica_of proc d

    abbrev n : ℕ
    n = least_acked h (last_of r) (other_parities s.m proc.name proc.known)

    abbrev hist : List Update
    hist = history settled r

    abbrev more : List Update
    more = take n hist

    sits : HeadSits v d p proc h
    sits = around.sits h heads

    keeps : IsKeeper d p
    keeps = keeper-rank d h.rank p sits.name

    own : ReplicaFits F d settled r (head_at proc d)
    own = around.own keeps

    within : n ≤ last_of r
    within = least-last h (last_of r) (other_parities s.m proc.name proc.known)

    more-long : length more ≡ n
    more-long = let long = length-history settled r own.applied in length-take-le n hist (omega (arith, long, within))

    -- where that is more than was settled
    module _ (above : length settled < n) where
      more-begins : Prolongs settled more
      more-begins = record { reaches = omega (arith, more-long, above); front = take-take (length settled) n hist (omega (arith, above)) ∙ own.prolongs.front }

      lane_of : (i : ℕ) → i < s.m → ParityNode i ≢ p → v.dead (ParityNode i) ≡ false
          → LaneReaches F d settled p i false (head_at proc d) (replica_of proc d)
          (seen_at d settled (v.process (ParityNode i))) (out (ParityNode i)) (inn (ParityNode i))
      lane_of i iin other living = around.outward i iin other living

      -- each other living parity process has that much under the head's rank
      pub has-all : (i : ℕ) → i < s.m → ParityNode i ≢ p → v.dead (ParityNode i) ≡ false → KeptGoes (seen_at d settled (v.process (ParityNode i))) h n
      has-all i iin other living =
          let least = least-acked-by h (last_of r) s.m i proc.name proc.known iin (λ same. other (same ∙ name)) (unknown i iin other living) in
          let acked = acked-some (at None h.acks i) n (omega (arith, above)) least in
          let kept = (lane_of i iin other living).kept refl h heads acked.0 acked.1 in
          record { rank = kept.rank; has = let most = kept.has in let low = acked.2 in omega (arith, most, low) }

      replica_at : (i : ℕ) → i < s.m → ParityNode i ≢ p → v.dead (ParityNode i) ≡ false → ReplicaReaches F d settled (v.process (ParityNode i))
      replica_at i iin other living = around.replicas (ParityNode i) iin other living tt

      same_seen : (i : ℕ) → i < s.m → ParityNode i ≢ p → v.dead (ParityNode i) ≡ false
          → seen_at d more (v.process (ParityNode i)) ≡ seen_at d settled (v.process (ParityNode i))
      same_seen i iin other living = λ j. record {
        rank = at 0 (v.process (ParityNode i)).ranks d;
        history = history-grown settled (replica_of (v.process (ParityNode i)) d)
            (replica_at i iin other living).applied more more-begins j;
        number =
            (replica_of (v.process (ParityNode i)) d).applied;
      }

      prolongs_at : (i : ℕ) → i < s.m → ParityNode i ≢ p → v.dead (ParityNode i) ≡ false → Prolongs more (seen_at d settled (v.process (ParityNode i))).history
      prolongs_at i iin other living = record {
        reaches = let most = kept.has in omega (arith, most, more-long);
        front = ap (λ (k : ℕ). take k seen.history) more-long ∙ ap (take n) (sym begins.front) ∙ take-take n (length seen.history) hist kept.has;
      } where
        seen : Seen
        seen = seen_at d settled (v.process (ParityNode i))

        kept : KeptGoes seen h n
        kept = has-all i iin other living

        begins : Prolongs seen.history hist
        begins =
            let lane = lane_of i iin other living in
            let end = lane.ends refl h heads in
            subst (Prolongs seen.history) end.history_is (same-rank-begins F d settled seen (out (ParityNode i)) lane.goes (end.rank ∙ sym kept.rank))

      -- a replica elsewhere
      fits_at : (i : ℕ) → i < s.m → ParityNode i ≢ p → v.dead (ParityNode i) ≡ false → ReplicaReaches F d more (v.process (ParityNode i))
      fits_at i iin other living = record {
        applied = let low = was.applied in omega (arith, low, more-long, above);
        prolongs = subst (Prolongs more) (sym same) (prolongs_at i iin other living);
        short = was.short;
        fine = subst (Fine F d (replica_of (v.process (ParityNode i)) d).applied) (sym same) was.fine;
        holds = items-grown settled more (replica_of (v.process (ParityNode i)) d) was.applied more-begins was.holds;
        heads = λ g is_head. absurd (no-other s v d members below p (ParityNode i) h.rank g sits.name lives sits.lower iin other living is_head);
      } where
        was : ReplicaReaches F d settled (v.process (ParityNode i))
        was = replica_at i iin other living

        same : history more (replica_of (v.process (ParityNode i)) d) ≡ history settled (replica_of (v.process (ParityNode i)) d)
        same = history-grown settled (replica_of (v.process (ParityNode i)) d) was.applied more more-begins

      replicas_by : (q : ProcessId) → IsProcess s q → q ≢ p → v.dead q ≡ false → IsKeeper d q → ReplicaReaches F d more (v.process q)
      replicas_by (ParityNode i) qin other living keeps = fits_at i qin other living
      replicas_by (DataNode e) qin other living keeps = absurd (by h.rank sits.name sits.lower) where
        by : (k : ℕ) → p ≡ of_rank d k → ((j : ℕ) → j < k → v.dead (of_rank d j) ≡ true) → ⊥
        by zero is lower = other (ap DataNode keeps ∙ sym is)
        by (suc k) is lower = cc (lower 0 (omega arith), ap (λ (x : ℕ). v.dead (DataNode x)) (sym keeps), living)

      abbrev new : Process
      new = apply_to s d n proc

      own_same : history more (applied_to n r) ≡ hist
      own_same =
          let grown = history-grown settled r own.applied more more-begins in
          history-applied more r (let low = own.applied in omega (arith, low, more-long, above))
          (subst (Prolongs more) (sym grown) own_prolongs) n (omega (arith, more-long)) ∙ grown
        where
          own_prolongs : Prolongs more hist
          own_prolongs = record {
            reaches = let long = length-history settled r own.applied in
                omega (arith, long, more-long, within);
            front = ap (λ (k : ℕ). take k hist) more-long;
          }

      own_fits : ReplicaFits F d more (applied_to n r) (head_at proc d)
      own_fits = record {
        applied = omega (arith, is, low, more-long, above);
        prolongs =
            subst (Prolongs more) (sym own_same)
            (record {
              reaches = let long = length-history settled r own.applied in
                  omega (arith, long, more-long, within);
              front = ap (λ (k : ℕ). take k hist) more-long;
            });
        short = let left = log-left settled r own.applied n within in let few = own.short in omega (arith, left, few);
        fine = subst (λ (a : ℕ). Fine F d a (history more (applied_to n r))) (sym is) (subst (Fine F d (max r.applied n)) (sym own_same) (
          own.fine.0,
          laws.rises d r.applied (max r.applied n) hist own.fine.1 (omega arith)
              (let long = length-history settled r own.applied in omega (arith, long, within, low, above)),
        ));
        holds =
            items-applied more r n (omega (arith, low, more-long, above))
            (subst (Prolongs more) (sym (history-grown settled r own.applied more more-begins))
            (record {
              reaches = let long = length-history settled r own.applied in
                  omega (arith, long, more-long, within);
              front = ap (λ (k : ℕ). take k hist) more-long;
            }))
            (omega (arith, more-long))
            (items-grown settled more r own.applied more-begins own.holds);
        heads = λ g is_head. record {
          inherited = let last = last-applied settled r own.applied n within in let most = (own.heads g is_head).inherited in omega (arith, last, most);
          first = (own.heads g is_head).first;
          all_or = inl (omega (arith, is, low, more-long, above));
        };
      } where
        is : (applied_to n r).applied ≡ max r.applied n
        is = applied-is settled r own.applied n within

        low : r.applied ≤ length settled
        low = own.applied

      last_same : last_of (applied_to n r) ≡ last_of r
      last_same = last-applied settled r own.applied n within

      is_new : replica_of new d ≡ applied_to n r
      is_new = replica-apply_to s d n proc

      among_by : (x : ProcessId) (i : ℕ) → IsProcess s x → i < s.m → x ≢ p → ParityNode i ≢ p → x ≢ ParityNode i → v.dead (ParityNode i) ≡ false
          → LaneReaches F d more x i (v.dead x) (head_at (v.process x) d) (replica_of (v.process x) d)
          (seen_at d more (v.process (ParityNode i))) (v.link x (ParityNode i)) (v.link (ParityNode i) x)
      among_by x i xin iin xother iother apart living = record {
        goes = stale-along F d more (seen_at d more (v.process (ParityNode i))) (v.link x (ParityNode i))
            (subst (λ (k : ℕ). Each (Stale d k) (v.link x (ParityNode i))) (sym (has-all i iin iother living).rank)
            (may-stale s v d p x (ParityNode i) h.rank sits.name lives xother (v.link x (ParityNode i))
            (members.may x (ParityNode i) xin iin apart living)));
        ends = λ alive g is_head. absurd (no-other s v d members below p x h.rank g sits.name lives sits.lower xin xother alive is_head);
        kept = λ alive g is_head. absurd (no-other s v d members below p x h.rank g sits.name lives sits.lower xin xother alive is_head);
        acks = λ alive. subst (λ (y : Seen). Each (AckFits d x y) (v.link (ParityNode i) x))
            (sym (same_seen i iin iother living)) ((around.among x i xin iin xother iother apart living).acks alive);
      }

      out_by : (i : ℕ) → i < s.m → ParityNode i ≢ p → v.dead (ParityNode i) ≡ false
          → LaneReaches F d more p i false (head_at new d) (replica_of new d)
          (seen_at d more (v.process (ParityNode i))) (out (ParityNode i)) (inn (ParityNode i))
      out_by i iin other living =
          subst (λ (y : Seen). LaneReaches F d more p i false (head_at new d) (replica_of new d) y (out (ParityNode i))
          (inn (ParityNode i))) (sym (same_seen i iin other living)) (record {
            goes = along-grows F d settled more (let longer = more-begins.reaches in longer) seen (out (ParityNode i))
                ((lane.ends refl h heads).rank ∙ sym (has-all i iin other living).rank) lane.goes;
            ends = λ alive g is_head. let end = lane.ends alive g is_head in record {
              rank = end.rank;
              history_is = end.history_is ∙ sym own_same ∙ ap (history more) (sym is_new);
              number = let most = end.number in let now : (replica_of new d).applied ≡ (applied_to n r).applied =
                  ap (λ (x : Replica). x.applied) is_new in omega (arith, most, now);
            };
            kept = lane.kept;
            acks = lane.acks;
          }) where
            seen : Seen
            seen = seen_at d settled (v.process (ParityNode i))

            lane : LaneReaches F d settled p i false (head_at proc d) (replica_of proc d) seen (out (ParityNode i)) (inn (ParityNode i))
            lane = lane_of i iin other living

      act-grow : Around F s v d p new out inn more
      act-grow = record {
        own = λ keeps. subst (λ (x : Replica). ReplicaFits F d more x (head_at proc d)) (sym is_new) own_fits;
        sits = λ g is_head. let was = around.sits g is_head in record { name = was.name; rank = was.rank; lower = was.lower };
        replicas = replicas_by;
        among = among_by;
        outward = out_by;
        inward = λ x i pis xin other. head-inward h.rank sits.name sits.lower more (replica_of (v.process x) d)
            (seen_at d more new) sits.rank x i xin other (inn x) (out x) (around.may x xin other)
            (λ alive. subst
            (λ (us : List Update).
            Each (AckFits d x
            (record { rank = at 0 proc.ranks d; history = us; number = (replica_of new d).applied })) (out x))
            (sym (ap (history more) is_new ∙ own_same))
            (each-weaker (AckFits d x (seen_at d settled proc))
            (AckFits d x (record { rank = at 0 proc.ranks d; history = hist; number = (replica_of new d).applied }))
            (ack-longer d x (seen_at d settled proc)
            (record { rank = at 0 proc.ranks d; history = hist; number = (replica_of new d).applied }) refl
            (omega arith)) (out x) ((around.inward x i pis xin other).acks alive)));
        silent = λ none. absurd (cc (none, heads));
        may = around.may;
        since = since-trans around.since (since-head d proc new (applied_to n r) refl is_new (omega arith) (omega (arith, last_same)));
        unkept = λ not. absurd (not (keeper-rank d h.rank p sits.name));
        quiet = λ none. absurd (cc (none, heads));
        follows = λ g is_head. subst (Prolongs (history (v.settled d) (replica_of (v.process p) d)))
            (sym (ap (history more) is_new ∙ own_same)) (around.follows h heads);
        grew = inr (record {
          head = h;
          heads = heads;
          all =
              let now : (replica_of new d).applied ≡ (applied_to n r).applied = ap (λ (x : Replica). x.applied) is_new in
              let moves = applied-is settled r own.applied n within in
              let low = own.applied in omega (arith, now, moves, low, more-long, above);
        });
        issued_here =
            λ i g iin other is_head. subst (λ (x : Replica). Each (AckBelow d (last_of x)) (inn (ParityNode i))) (sym is_new)
            (subst (λ (k : ℕ). Each (AckBelow d k) (inn (ParityNode i))) (sym last_same) (around.issued_here i g iin other is_head));
        issued_there = around.issued_there;
        issued_else = around.issued_else;
      }

    -- in any case
    pub act-settle : Around F s v d p (apply_to s d n proc) out inn (settled_with (settlements d (up_to n r)) d settled)
    act-settle = by (cases_lt (length settled) n) where
      by : (length settled < n) ⊎ (n ≤ length settled) → Around F s v d p (apply_to s d n proc) out inn (settled_with (settlements d (up_to n r)) d settled)
      by (inl above) = subst (Around F s v d p (apply_to s d n proc) out inn)
          (sym (settled-more d n settled r own.applied own.prolongs own.fine.0 (omega (arith, above)) within))
          (act-grow above)
      by (inr low) =
          subst (Around F s v d p (apply_to s d n proc) out inn) (sym (settled-no-more d n settled r own.applied own.prolongs own.fine.0 low))
          (act-apply proc out inn settled n h heads low around)
