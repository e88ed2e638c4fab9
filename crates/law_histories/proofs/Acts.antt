-- What a process does, told around it: its part stays, a message is taken off a link, messages are sent, an
-- update is issued, an acknowledgement is kept.
use Rattle.std.proofs.Common.{ℕ, ◌≡◌, ◌≢◌, ◌<◌, ◌≤◌, max, Bool, true, false, List, [], ◌∷◌, ◌++◌, length, Option, Some}
use Rattle.std.proofs.Common.{None, ◌⊎◌, inl, inr, refl, sym, ap, subst, ◌∙◌, arith}
use Rattle.group_types.specs.Dimensions.{Dimensions}
use Rattle.group_types.specs.Lists.{at}
use Rattle.group_types.specs.Names.{IsProcess, of_rank}
use Rattle.group_types.specs.declared.process.ProcessId.{ProcessId}
use Rattle.group_types.specs.declared.process.ProcessId.TheVariants.{ParityNode}
use Rattle.group_types.proofs.Names.{same-cases}
use Rattle.group_types.specs.Each.{Each}
use Rattle.group_types.proofs.Eaches.{each-append, each-weaker}
use Rattle.group_message.specs.declared.message.Message.{Message}
use Rattle.group_message.specs.declared.message.Message.TheVariants as tells
use Rattle.group_message.specs.declared.update.Update.{Update}
use Rattle.group_run.specs.Applying.{head_at, replica_of}
use Rattle.group_run.specs.Process.{Head, Process}
use Rattle.group_run.specs.Replica.{Replica, last_of}
use Rattle.group_run.specs.History.{history}
use Rattle.law_moves.specs.State.{State}
use Rattle.law_moves.proofs.Members.{MayStand, Members}
use Rattle.law_moves.proofs.Reading.{some-same}
use Rattle.law_histories.proofs.LaneWords.{AckBelow, AckFits, Goes, MarkGoes, NumberGoes, Seen, is_live, next, raised, Prolongs}
use Rattle.law_histories.proofs.Reach.{EndsAt, IsKeeper, LaneReaches, ReplicaFits, ReplicaReaches, seen_at}
use Rattle.law_histories.proofs.Around.{Around, HeadSits, grew-turned, keeper-rank, since-head, since-trans}
use Rattle.law_histories.proofs.Folds.{along-append, run-append, run, Along}
use Rattle.law_histories.proofs.Histories.{length-history}
use Rattle.law_histories.proofs.Lanes.{Stale, live-parts, ranked-weaker, same-rank-begins, stale-along, stale-goes, stale-next}
use Rattle.law_histories.proofs.Ranks.{Used, head-from, rank-one}

-- the process's part stays
pub record SamePart (d : ℕ) (old new : Process) : Type 0 where
  pub head : head_at new d ≡ head_at old d
  pub rank : at 0 new.ranks d ≡ at 0 old.ranks d
  pub replica : replica_of new d ≡ replica_of old d

-- what a process may send besides updates and new heads' lists: numbers that it has applied, of partitions
-- that it heads, and acknowledgements of what it has
abbrev pub Tells : ℕ → Process → ProcessId → Message → Type 0
Tells d p to (tells.Update r e u stable) = e.0 ≢ d
Tells d p to (tells.Adopt r e base list) = e.0 ≢ d
Tells d p to (tells.Ack r e n) = e.0 ≡ d → (to ≡ of_rank d r.0) × (at 0 p.ranks d ≡ r.0) × (n ≤ last_of (replica_of p d))
Tells d p to (tells.Stable r e n) = e.0 ≡ d → (h : Head) × (head_at p d ≡ Some h) × (r.0 ≡ h.rank) × (n ≤ (replica_of p d).applied)
Tells d p to (tells.ReadBlock session block rows) = Unit {0}
Tells d p to (tells.Block session bytes n) = Unit {0}
Tells d p to (tells.Mark session r block e n) = e.0 ≡ d → (h : Head) × (head_at p d ≡ Some h) × (r.0 ≡ h.rank)
    × (n ≤ (replica_of p d).applied) × (max (replica_of p d).applied h.inherited ≤ n)
Tells d p to (tells.Row session bytes stamp) = Unit {0}
Tells d p to (tells.Cease upto) = Unit {0}
Tells d p to (tells.Notice dead) = Unit {0}

-- who heads nothing tells nothing of it
pub tells-stale : (d : ℕ) (p : Process) (to : ProcessId) (m : Message) → head_at p d ≡ None → Tells d p to m → Stale d 0 m
tells-stale d p to (tells.Update r e u stable) none may = λ here. absurd (may here)
tells-stale d p to (tells.Adopt r e base list) none may = λ here. absurd (may here)
tells-stale d p to (tells.Ack r e n) none may = tt
tells-stale d p to (tells.Stable r e n) none may = λ here. absurd (cc (none, (may here).1))
tells-stale d p to (tells.ReadBlock session block rows) none may = tt
tells-stale d p to (tells.Block session bytes n) none may = tt
tells-stale d p to (tells.Mark session r block e n) none may = λ here. absurd (cc (none, (may here).1))
tells-stale d p to (tells.Row session bytes stamp) none may = tt
tells-stale d p to (tells.Cease upto) none may = tt
tells-stale d p to (tells.Notice dead) none may = tt

module _ (F : ℕ → ℕ → List Update → Type 0) (s : Dimensions) (v : State) (members : Members s v) (d : ℕ)
    (below : d < s.k) (p : ProcessId) (pin : IsProcess s p) (lives : v.dead p ≡ false) where
  -- its part stays
  pub act-same : (old new : Process) (out inn : ProcessId → List Message) (settled : List Update) → SamePart d old new
      → Around F s v d p old out inn settled → Around F s v d p new out inn settled
  act-same old new out inn settled same around = record {
    own = λ keeps. subst (λ (x : Replica × Option Head). ReplicaFits F d settled x.0 x.1) (λ i. (sym same.replica i, sym same.head i)) (around.own keeps);
    sits = λ h heads. let was = around.sits h (sym same.head ∙ heads) in record { name = was.name; rank = same.rank ∙ was.rank; lower = was.lower };
    replicas = around.replicas;
    among = around.among;
    outward = λ i iin other living.
        subst (λ (r : Replica). LaneReaches F d settled p i false (head_at new d) r
        (seen_at d settled (v.process (ParityNode i))) (out (ParityNode i)) (inn (ParityNode i))) (sym same.replica)
        (subst (λ (h : Option Head). LaneReaches F d settled p i false h (replica_of old d)
        (seen_at d settled (v.process (ParityNode i))) (out (ParityNode i)) (inn (ParityNode i))) (sym same.head)
        (around.outward i iin other living));
    inward =
        λ x i is xin other. subst
        (λ (y : Seen). LaneReaches F d settled x i (v.dead x) (head_at (v.process x) d) (replica_of (v.process x) d) y (inn x) (out x)) (sym same_seen)
        (around.inward x i is xin other);
    silent = λ none. around.silent (sym same.head ∙ none);
    may = around.may;
    since = since-trans around.since (since-head d old new (replica_of old d) same.head same.replica (omega arith) (omega arith));
    unkept = λ not. same.replica ∙ around.unkept not;
    quiet = λ none. around.quiet (sym same.head ∙ none);
    follows = λ h heads. subst (λ (r : Replica). Prolongs (history (v.settled d) (replica_of (v.process p) d))
        (history settled r)) (sym same.replica) (around.follows h (sym same.head ∙ heads));
    grew = grew-turned d (v.settled d) settled old new
        (λ has. record {
          head = has.head;
          heads = same.head ∙ has.heads;
          all = ap (λ (x : Replica). x.applied) same.replica ∙ has.all;
        }) around.grew;
    issued_here = λ i h iin other heads. subst (λ (x : Replica). Each (AckBelow d (last_of x)) (inn (ParityNode i)))
        (sym same.replica) (around.issued_here i h iin other (sym same.head ∙ heads));
    issued_there = around.issued_there;
    issued_else = around.issued_else;
  } where
    same_seen : seen_at d settled new ≡ seen_at d settled old
    same_seen = λ i. record { rank = same.rank i; history = history settled (same.replica i); number = (same.replica i).applied }

  -- a message that changes nothing is taken off the link from x
  pub act-pop : (proc : Process) (out inn left : ProcessId → List Message) (settled : List Update) (x : ProcessId) (m : Message) → inn x ≡ m ∷ left x
      → ((y : ProcessId) → IsProcess s y → y ≢ x → left y ≡ inn y)
      → (IsProcess s x) → x ≢ p → ((i : ℕ) → p ≡ ParityNode i → next d (seen_at d settled proc) m ≡ seen_at d settled proc)
      → Around F s v d p proc out inn settled → Around F s v d p proc out left settled
  act-pop proc out inn left settled x m first rest xin xother stays around = record {
    own = around.own;
    sits = around.sits;
    replicas = around.replicas;
    among = around.among;
    outward = λ i iin other living. out_by i iin other living (same-cases (ParityNode i) x);
    inward = λ y i is yin other. in_by y i is yin other (same-cases y x);
    silent = around.silent;
    may = λ y yin other. may_by y yin other (same-cases y x);
    since = around.since;
    unkept = around.unkept;
    quiet = around.quiet;
    follows = around.follows;
    grew = around.grew;
    issued_here = λ i h iin other heads. issued_by i h iin other heads (same-cases (ParityNode i) x);
    issued_there = around.issued_there;
    issued_else = around.issued_else;
  } where
    issued_by : (i : ℕ) (h : Head) → i < s.m → ParityNode i ≢ p → head_at proc d ≡ Some h → (ParityNode i ≡ x) ⊎ (ParityNode i ≢ x)
        → Each (AckBelow d (last_of (replica_of proc d))) (left (ParityNode i))
    issued_by i h iin other heads (inr apart) = subst (Each (AckBelow d (last_of (replica_of proc d))))
        (sym (rest (ParityNode i) iin apart)) (around.issued_here i h iin other heads)
    issued_by i h iin other heads (inl same) = subst (λ (z : ProcessId). Each (AckBelow d (last_of (replica_of proc d))) (left z)) (sym same)
        (subst (Each (AckBelow d (last_of (replica_of proc d)))) first
        (subst (λ (z : ProcessId). Each (AckBelow d (last_of (replica_of proc d))) (inn z)) same
        (around.issued_here i h iin other heads))).1

    may_by : (y : ProcessId) → IsProcess s y → y ≢ p → (y ≡ x) ⊎ (y ≢ x) → Each (MayStand s v y p) (left y)
    may_by y yin other (inr apart) = subst (Each (MayStand s v y p)) (sym (rest y yin apart)) (around.may y yin other)
    may_by y yin other (inl same) = subst (λ (z : ProcessId). Each (MayStand s v z p) (left z)) (sym same)
        (subst (Each (MayStand s v x p)) first (around.may x xin xother)).1

    out_by : (i : ℕ) → i < s.m → ParityNode i ≢ p → v.dead (ParityNode i) ≡ false → (ParityNode i ≡ x) ⊎ (ParityNode i ≢ x)
        → LaneReaches F d settled p i false (head_at proc d) (replica_of proc d)
        (seen_at d settled (v.process (ParityNode i))) (out (ParityNode i)) (left (ParityNode i))
    out_by i iin other living (inr apart) = let lane = around.outward i iin other living in record {
      goes = lane.goes;
      ends = lane.ends;
      kept = lane.kept;
      acks = λ alive. subst (Each (AckFits d p (seen_at d settled (v.process (ParityNode i))))) (sym (rest (ParityNode i) iin apart)) (lane.acks alive);
    }
    out_by i iin other living (inl same) = let lane = around.outward i iin other living in record {
      goes = lane.goes;
      ends = lane.ends;
      kept = lane.kept;
      acks = λ alive.
          subst (λ (z : ProcessId). Each (AckFits d p (seen_at d settled (v.process (ParityNode i)))) (left z)) (sym same)
          (subst (Each (AckFits d p (seen_at d settled (v.process (ParityNode i))))) first
          (subst (λ (z : ProcessId). Each (AckFits d p (seen_at d settled (v.process (ParityNode i)))) (inn z)) same
          (lane.acks alive))).1;
    }

    in_by : (y : ProcessId) (i : ℕ) → p ≡ ParityNode i → IsProcess s y → y ≢ p → (y ≡ x) ⊎ (y ≢ x)
        → LaneReaches F d settled y i (v.dead y) (head_at (v.process y) d) (replica_of (v.process y) d) (seen_at d settled proc) (left y) (out y)
    in_by y i is yin other (inr apart) =
        subst
        (λ (link : List Message). LaneReaches F d settled y i (v.dead y) (head_at (v.process y) d)
        (replica_of (v.process y) d) (seen_at d settled proc) link (out y))
        (sym (rest y yin apart)) (around.inward y i is yin other)
    in_by y i is yin other (inl same) =
        subst (λ (z : ProcessId). LaneReaches F d settled z i (v.dead z) (head_at (v.process z) d)
        (replica_of (v.process z) d) (seen_at d settled proc) (left z) (out z)) (sym same) tail where
          lane : LaneReaches F d settled x i (v.dead x) (head_at (v.process x) d) (replica_of (v.process x) d) (seen_at d settled proc) (m ∷ left x) (out x)
          lane =
              subst
              (λ (link : List Message). LaneReaches F d settled x i (v.dead x) (head_at (v.process x) d)
              (replica_of (v.process x) d) (seen_at d settled proc) link (out x)) first
              (around.inward x i is xin xother)

          tail : LaneReaches F d settled x i (v.dead x) (head_at (v.process x) d) (replica_of (v.process x) d) (seen_at d settled proc) (left x) (out x)
          tail = record {
            goes = subst (λ (z : Seen). Along (next d) (Goes F d settled) z (left x)) (stays i is) lane.goes.1;
            ends = λ alive h heads.
                subst (λ (z : Seen). EndsAt settled (replica_of (v.process x) d) h (run (next d) z (left x)))
                (stays i is) (lane.ends alive h heads);
            kept = lane.kept;
            acks = lane.acks;
          }

  -- what is told goes, and changes nothing that is seen
  module _ (proc : Process) (settled : List Update) (reaches : IsKeeper d p → ReplicaReaches F d settled proc)
      (sits : (h : Head) → head_at proc d ≡ Some h → HeadSits v d p proc h) where
    -- of a head
    module _ (h : Head) (heads : head_at proc d ≡ Some h) where
      abbrev Ends : Seen → Type 0
      Ends seen = EndsAt settled (replica_of proc d) h seen

      is_head : (g : Head) → head_at proc d ≡ Some g → g ≡ h
      is_head g e = some-same g h (sym e ∙ heads)

      raised-ends : (b : Bool) (n : ℕ) (seen : Seen) → Ends seen → (b ≡ true → n ≤ (replica_of proc d).applied) → Ends (raised b n seen)
      raised-ends true n seen end low =
          record {
            rank = end.rank;
            history_is = end.history_is;
            number = let was = end.number in let most = low refl in
                omega (arith, was, most);
          }
      raised-ends false n seen end low = end

      number-told : (seen : Seen) (r n : ℕ) → Ends seen → (g : Head) × (head_at proc d ≡ Some g) × (r ≡ g.rank)
          × (n ≤ (replica_of proc d).applied) → NumberGoes settled seen r n
      number-told seen r n end may = record {
        rank = may.2 ∙ ap (λ (x : Head). x.rank) (is_head may.0 may.1) ∙ sym end.rank;
        number_settled = let most = (reaches (keeper-rank d h.rank p (sits h heads).name)).applied in let low = may.3 in omega (arith, most, low);
      }

      mark-told : (seen : Seen) (r n : ℕ) → Ends seen
          → (g : Head) × (head_at proc d ≡ Some g) × (r ≡ g.rank) × (n ≤ (replica_of proc d).applied) × (max (replica_of proc d).applied g.inherited ≤ n)
          → MarkGoes settled seen r n
      mark-told seen r n end may = record {
        rank = may.2 ∙ ap (λ (x : Head). x.rank) (is_head may.0 may.1) ∙ sym end.rank;
        number_settled = let most = (reaches (keeper-rank d h.rank p (sits h heads).name)).applied in let low = may.3 in omega (arith, most, low);
        above = let was = end.number in let most = may.4 in let same : may.0.inherited ≡ h.inherited =
            ap (λ (x : Head). x.inherited) (is_head may.0 may.1) in omega (arith, was, most, same);
      }

      off-ends : (seen : Seen) (m : Message) → Ends seen → Stale d seen.rank m → Goes F d settled seen m × Ends (next d seen m)
      off-ends seen m end stale = (stale-goes F d settled seen m stale, subst Ends (sym (stale-next d seen m stale)) end)

      tells-goes : (to : ProcessId) (seen : Seen) (m : Message) → Ends seen → Tells d proc to m → Goes F d settled seen m × Ends (next d seen m)
      tells-goes to seen (tells.Update r e u stable) end may = off-ends seen (tells.Update r e u stable) end (λ here. absurd (may here))
      tells-goes to seen (tells.Adopt r e base list) end may = off-ends seen (tells.Adopt r e base list) end (λ here. absurd (may here))
      tells-goes to seen (tells.Ack r e n) end may = (tt, end)
      tells-goes to seen (tells.Stable r e n) end may = (
        (λ live. number-told seen r.0 n end (may (live-parts d seen e.0 r.0 live).0)),
        raised-ends (is_live d seen e.0 r.0) n seen end (λ live. (may (live-parts d seen e.0 r.0 live).0).3),
      )
      tells-goes to seen (tells.ReadBlock session block rows) end may = (tt, end)
      tells-goes to seen (tells.Block session bytes n) end may = (tt, end)
      tells-goes to seen (tells.Mark session r block e n) end may = (
        (λ live. mark-told seen r.0 n end (may (live-parts d seen e.0 r.0 live).0)),
        raised-ends (is_live d seen e.0 r.0) n seen end (λ live. (may (live-parts d seen e.0 r.0 live).0).3),
      )
      tells-goes to seen (tells.Row session bytes stamp) end may = (tt, end)
      tells-goes to seen (tells.Cease upto) end may = (tt, end)
      tells-goes to seen (tells.Notice dead) end may = (tt, end)

      tells-along : (to : ProcessId) (seen : Seen) (ms : List Message) → Ends seen → Each (Tells d proc to) ms
          → Along (next d) (Goes F d settled) seen ms × Ends (run (next d) seen ms)
      tells-along to seen [] end may = (tt, end)
      tells-along to seen (m ∷ ms) end may =
          let here = tells-goes to seen m end may.0 in
          let rest = tells-along to (next d seen m) ms here.1 may.1 in
          ((here.0, rest.0), rest.1)

    -- in any case
    tells-any : (to : ProcessId) (seen : Seen) (ms : List Message)
        → ((h : Head) → head_at proc d ≡ Some h → EndsAt settled (replica_of proc d) h seen) → Each (Tells d proc to) ms
        → Along (next d) (Goes F d settled) seen ms × ((h : Head) → head_at proc d ≡ Some h → EndsAt settled (replica_of proc d) h (run (next d) seen ms))
    tells-any to seen ms end may = by (head_at proc d) refl where
      by : (o : Option Head) → head_at proc d ≡ o → Along (next d) (Goes F d settled) seen ms
          × ((h : Head) → head_at proc d ≡ Some h → EndsAt settled (replica_of proc d) h (run (next d) seen ms))
      by (Some h) is =
          let told = tells-along h is to seen ms (end h is) may in
          (told.0, λ g e. subst (λ (x : Head). EndsAt settled (replica_of proc d) x (run (next d) seen ms)) (sym (is_head h is g e)) told.1)
      by None is = (
        stale-along F d settled seen ms
            (each-weaker (Tells d proc to) (Stale d seen.rank)
            (λ m told. ranked-weaker d (λ r. r < 0) (λ r. r < seen.rank) (λ r none. absurd (omega (arith, none))) m
            (tells-stale d proc to m is told)) ms may),
        λ g e. absurd (cc (is, e)),
      )

    tells-ack : IsKeeper d p → (to : ProcessId) (m : Message) → Tells d proc to m → AckFits d to (seen_at d settled proc) m
    tells-ack keeps to (tells.Ack r e n) may = λ here. let parts = may here in record {
      head_is = parts.0;
      rank = parts.1;
      has = let long = length-history settled (replica_of proc d) (reaches keeps).applied in let most = parts.2 in omega (arith, long, most);
    }
    tells-ack keeps to (tells.Update r e u stable) may = tt
    tells-ack keeps to (tells.Adopt r e base list) may = tt
    tells-ack keeps to (tells.Stable r e n) may = tt
    tells-ack keeps to (tells.ReadBlock session block rows) may = tt
    tells-ack keeps to (tells.Block session bytes n) may = tt
    tells-ack keeps to (tells.Mark session r block e n) may = tt
    tells-ack keeps to (tells.Row session bytes stamp) may = tt
    tells-ack keeps to (tells.Cease upto) may = tt
    tells-ack keeps to (tells.Notice dead) may = tt

  -- messages that tell nothing new are sent
  pub act-send : (proc : Process) (out inn sent : ProcessId → List Message) (settled : List Update) → ((q : ProcessId) → Each (Tells d proc q) (sent q))
      → Around F s v d p proc out inn settled → Around F s v d p proc (λ q. out q ++ sent q) inn settled
  act-send proc out inn sent settled may around = record {
    own = around.own;
    sits = around.sits;
    replicas = around.replicas;
    among = around.among;
    outward = out_by;
    inward = in_by;
    silent = λ none i iin other living. each-append (Stale d 0) (out (ParityNode i)) (sent (ParityNode i)) (around.silent none i iin other living)
        (each-weaker (Tells d proc (ParityNode i)) (Stale d 0) (λ m told. tells-stale d proc (ParityNode i) m none told)
        (sent (ParityNode i)) (may (ParityNode i)));
    may = around.may;
    since = around.since;
    unkept = around.unkept;
    quiet = around.quiet;
    follows = around.follows;
    grew = around.grew;
    issued_here = around.issued_here;
    issued_there = λ x i h is xin other living heads. each-append (AckBelow d (last_of (replica_of (v.process x) d)))
        (out x) (sent x) (around.issued_there x i h is xin other living heads)
        (each-weaker (Tells d proc x) (AckBelow d (last_of (replica_of (v.process x) d)))
        (λ m told. told-issued x i h is xin other living heads m told) (sent x) (may x));
    issued_else = around.issued_else;
  } where
    -- what is acknowledged to a living head it has issued
    told-issued : (x : ProcessId) (i : ℕ) (h : Head) → p ≡ ParityNode i → IsProcess s x → x ≢ p → v.dead x ≡ false → head_at (v.process x) d ≡ Some h
        → (m : Message) → Tells d proc x m → AckBelow d (last_of (replica_of (v.process x) d)) m
    told-issued x i h is xin other living heads (tells.Ack r e n) told = λ here.
        let parts = told here in
        let lane = around.inward x i is xin other in
        let end = lane.ends living h heads in
        let from : Used s v d x h.rank = head-from s v d members below x h xin living heads in
        let rank_same : r.0 ≡ h.rank = rank-one d r.0 h.rank (sym parts.0 ∙ from.0) in
        let begins = same-rank-begins F d settled (seen_at d settled proc) (inn x) lane.goes (end.rank ∙ sym rank_same ∙ sym parts.1) in
        let longer = begins.reaches in
        let whole : length (run (next d) (seen_at d settled proc) (inn x)).history
        ≡ length (history settled (replica_of (v.process x) d)) = ap length end.history_is in
        let own = length-history settled (replica_of proc d) (around.own (subst (IsKeeper d) (sym is) tt)).applied in
        let theirs = length-history settled (replica_of (v.process x) d) (around.replicas x xin other living (keeper-rank d h.rank x from.0)).applied in
        let most = parts.2 in
        omega (arith, longer, whole, own, theirs, most)
    told-issued x i h is xin other living heads (tells.Update r e u stable) told = tt
    told-issued x i h is xin other living heads (tells.Adopt r e base list) told = tt
    told-issued x i h is xin other living heads (tells.Stable r e n) told = tt
    told-issued x i h is xin other living heads (tells.ReadBlock session block rows) told = tt
    told-issued x i h is xin other living heads (tells.Block session bytes n) told = tt
    told-issued x i h is xin other living heads (tells.Mark session r block e n) told = tt
    told-issued x i h is xin other living heads (tells.Row session bytes stamp) told = tt
    told-issued x i h is xin other living heads (tells.Cease upto) told = tt
    told-issued x i h is xin other living heads (tells.Notice dead) told = tt

    out_by : (i : ℕ) → i < s.m → ParityNode i ≢ p → v.dead (ParityNode i) ≡ false
        → LaneReaches F d settled p i false (head_at proc d) (replica_of proc d)
        (seen_at d settled (v.process (ParityNode i))) (out (ParityNode i) ++ sent (ParityNode i))
        (inn (ParityNode i))
    out_by i iin other living = record {
      goes = along-append (next d) (Goes F d settled) seen (out (ParityNode i)) (sent (ParityNode i)) lane.goes told.0;
      ends = λ alive h heads. subst (EndsAt settled (replica_of proc d) h)
          (sym (run-append (next d) seen (out (ParityNode i)) (sent (ParityNode i)))) (told.1 h heads);
      kept = lane.kept;
      acks = lane.acks;
    } where
      seen : Seen
      seen = seen_at d settled (v.process (ParityNode i))

      lane : LaneReaches F d settled p i false (head_at proc d) (replica_of proc d) seen (out (ParityNode i)) (inn (ParityNode i))
      lane = around.outward i iin other living

      told : Along (next d) (Goes F d settled) (run (next d) seen (out (ParityNode i))) (sent (ParityNode i))
          × ((h : Head) → head_at proc d ≡ Some h → EndsAt settled (replica_of proc d) h
          (run (next d) (run (next d) seen (out (ParityNode i))) (sent (ParityNode i))))
      told = tells-any proc settled around.own around.sits (ParityNode i) (run (next d) seen (out (ParityNode i)))
          (sent (ParityNode i)) (λ h heads. lane.ends refl h heads) (may (ParityNode i))

    in_by : (x : ProcessId) (i : ℕ) → p ≡ ParityNode i → IsProcess s x → x ≢ p
        → LaneReaches F d settled x i (v.dead x) (head_at (v.process x) d) (replica_of (v.process x) d) (seen_at d settled proc) (inn x) (out x ++ sent x)
    in_by x i is xin other = let lane = around.inward x i is xin other in record {
      goes = lane.goes;
      ends = lane.ends;
      kept = lane.kept;
      acks = λ alive. each-append (AckFits d x (seen_at d settled proc)) (out x) (sent x) (lane.acks alive)
          (each-weaker (Tells d proc x) (AckFits d x (seen_at d settled proc))
          (λ m told. tells-ack proc settled around.own around.sits (subst (IsKeeper d) (sym is) tt) x m told) (sent x)
          (may x));
    }
