-- What a partition reaches, told around one living process that acts: its own part, the links from it and into
-- it may change step by step, while all else stands as it was.
use Rattle.std.proofs.Common.{ℕ, zero, suc, ◌≡◌, ◌≢◌, ◌<◌, ◌≤◌, Bool, true, false, List, length, Option, Some, None}
use Rattle.std.proofs.Common.{◌⊎◌, inl, inr, refl, sym, ap, subst, ◌∙◌, arith}
use Rattle.std.specs.Prelude.{option_map}
use Rattle.group_types.specs.Dimensions.{Dimensions}
use Rattle.group_types.specs.Lists.{at}
use Rattle.group_types.specs.Names.{IsProcess, of_rank}
use Rattle.group_types.specs.declared.process.ProcessId.{ProcessId}
use Rattle.group_types.specs.declared.process.ProcessId.TheVariants.{DataNode, ParityNode}
use Rattle.group_types.proofs.Names.{same-cases}
use Rattle.group_types.specs.Each.{Each}
use Rattle.group_types.proofs.Eaches.{each-weaker}
use Rattle.group_message.specs.declared.message.Message.{Message}
use Rattle.group_message.specs.declared.message.Message.TheVariants as tells
use Rattle.group_message.specs.declared.update.Update.{Update}
use Rattle.group_run.specs.Applying.{head_at, replica_of}
use Rattle.group_run.specs.Process.{Head, Process}
use Rattle.group_run.specs.Replica.{Replica, last_of}
use Rattle.group_run.specs.History.{history}
use Rattle.law_moves.specs.State.{State}
use Rattle.law_moves.proofs.Members.{MayStand, Members, Sits, seat_of}
use Rattle.law_moves.proofs.Calls.{seat-known, seat-lower}
use Rattle.law_histories.proofs.LaneWords.{AckBelow, AckFits, Seen, Prolongs}
use Rattle.law_histories.proofs.Reach.{IsKeeper, LaneReaches, PartitionReaches, ReplicaReaches, seen_at}
use Rattle.law_histories.proofs.Lanes.{Stale, ranked-weaker, begins-refl}
use Rattle.law_histories.proofs.Ranks.{Used, head-from, may-used}

-- the head has its rank, under which its replica stands, and all of lower rank are dead
pub record HeadSits (v : State) (d : ℕ) (p : ProcessId) (proc : Process) (h : Head) : Type 0 where
  pub name : p ≡ of_rank d h.rank
  pub rank : at 0 proc.ranks d ≡ h.rank
  pub lower : (j : ℕ) → j < h.rank → v.dead (of_rank d j) ≡ true

-- a head stays one, under its rank, and its log only grows; no number of applied updates falls
pub record Grown (d : ℕ) (old new : Process) (h : Head) : Type 0 where
  pub head : Head
  pub heads : head_at new d ≡ Some head
  pub rank : head.rank ≡ h.rank
  pub inherited : head.inherited ≡ h.inherited
  pub longer : last_of (replica_of old d) ≤ last_of (replica_of new d)

pub record Since (d : ℕ) (old new : Process) : Type 0 where
  pub applied : (replica_of old d).applied ≤ (replica_of new d).applied
  pub heads : (h : Head) → head_at old d ≡ Some h → Grown d old new h

pub since-refl : (d : ℕ) (p : Process) → Since d p p
since-refl d p = record { applied = omega arith; heads = λ h is. record { head = h; heads = is; rank = refl; inherited = refl; longer = omega arith } }

pub since-trans : {d : ℕ} {p q r : Process} → Since d p q → Since d q r → Since d p r
since-trans a b = record {
  applied = let one = a.applied in let two = b.applied in omega (arith, one, two);
  heads = λ h is. let first = a.heads h is in let later = b.heads first.head first.heads in record {
    head = later.head;
    heads = later.heads;
    rank = later.rank ∙ first.rank;
    inherited = later.inherited ∙ first.inherited;
    longer = let one = first.longer in let two = later.longer in omega (arith, one, two);
  };
}

-- the head is the same, and the replica has applied no less and has as much
pub since-head : (d : ℕ) (p q : Process) (r : Replica) → head_at q d ≡ head_at p d → replica_of q d ≡ r
    → (replica_of p d).applied ≤ r.applied → last_of (replica_of p d) ≤ last_of r → Since d p q
since-head d p q r same is more longer = record {
  applied = subst (λ (x : Replica). (replica_of p d).applied ≤ x.applied) (sym is) more;
  heads = λ h heads. record {
    head = h;
    heads = same ∙ heads;
    rank = refl;
    inherited = refl;
    longer = subst (λ (x : Replica). last_of (replica_of p d) ≤ last_of x) (sym is) longer;
  };
}

-- what is settled stays, or the process heads the partition and has applied all of it
pub record HasSettled (d : ℕ) (settled : List Update) (p : Process) : Type 0 where
  pub head : Head
  pub heads : head_at p d ≡ Some head
  pub all : (replica_of p d).applied ≡ length settled

abbrev pub GrewBy : ℕ → List Update → List Update → Process → Type 0
GrewBy d old settled p = (settled ≡ old) ⊎ HasSettled d settled p

pub grew-turned : (d : ℕ) (old settled : List Update) (p q : Process)
    → (HasSettled d settled p → HasSettled d settled q) → GrewBy d old settled p → GrewBy d old settled q
grew-turned d old settled p q turn (inl same) = inl same
grew-turned d old settled p q turn (inr has) = inr (turn has)

-- where the process heads the partition, its history begins with one from before
abbrev pub FollowsBy : ℕ → List Update → Replica → List Update → Process → Type 0
FollowsBy d old r settled p = (h : Head) → head_at p d ≡ Some h → Prolongs (history old r) (history settled (replica_of p d))

-- no more is acknowledged than was issued, still where more was
pub below-more : (d a b : ℕ) → a ≤ b → (m : Message) → AckBelow d a m → AckBelow d b m
below-more d a b more (tells.Ack r e n) low = λ here. let most = low here in omega (arith, most, more)
below-more d a b more (tells.Update r e u stable) low = tt
below-more d a b more (tells.Adopt r e base list) low = tt
below-more d a b more (tells.Stable r e n) low = tt
below-more d a b more (tells.ReadBlock session block rows) low = tt
below-more d a b more (tells.Block session bytes n) low = tt
below-more d a b more (tells.Mark session r block e n) low = tt
below-more d a b more (tells.Row session bytes stamp) low = tt
below-more d a b more (tells.Cease upto) low = tt
below-more d a b more (tells.Notice dead) low = tt

pub record Around (F : ℕ → ℕ → List Update → Type 0) (s : Dimensions) (v : State) (d : ℕ) (p : ProcessId)
    (proc : Process) (out inn : ProcessId → List Message) (settled : List Update) : Type 0 where
  pub own : IsKeeper d p → ReplicaReaches F d settled proc
  pub sits : (h : Head) → head_at proc d ≡ Some h → HeadSits v d p proc h
  pub replicas : (q : ProcessId) → IsProcess s q → q ≢ p → v.dead q ≡ false → IsKeeper d q → ReplicaReaches F d settled (v.process q)
  pub among : (x : ProcessId) (i : ℕ) → IsProcess s x → i < s.m → x ≢ p → ParityNode i ≢ p → x ≢ ParityNode i → v.dead (ParityNode i) ≡ false
      → LaneReaches F d settled x i (v.dead x) (head_at (v.process x) d) (replica_of (v.process x) d)
      (seen_at d settled (v.process (ParityNode i))) (v.link x (ParityNode i)) (v.link (ParityNode i) x)
  pub outward : (i : ℕ) → i < s.m → ParityNode i ≢ p → v.dead (ParityNode i) ≡ false
      → LaneReaches F d settled p i false (head_at proc d) (replica_of proc d)
      (seen_at d settled (v.process (ParityNode i))) (out (ParityNode i)) (inn (ParityNode i))
  pub inward : (x : ProcessId) (i : ℕ) → p ≡ ParityNode i → IsProcess s x → x ≢ p
      → LaneReaches F d settled x i (v.dead x) (head_at (v.process x) d) (replica_of (v.process x) d) (seen_at d settled proc) (inn x) (out x)
  pub silent : head_at proc d ≡ None → (i : ℕ) → i < s.m → ParityNode i ≢ p → v.dead (ParityNode i) ≡ false → Each (Stale d 0) (out (ParityNode i))
  pub may : (x : ProcessId) → IsProcess s x → x ≢ p → Each (MayStand s v x p) (inn x)
  pub since : Since d (v.process p) proc
  pub unkept : ¬ (IsKeeper d p) → replica_of proc d ≡ replica_of (v.process p) d
  pub quiet : head_at proc d ≡ None → settled ≡ v.settled d
  pub follows : FollowsBy d (v.settled d) (replica_of (v.process p) d) settled proc
  pub grew : GrewBy d (v.settled d) settled proc
  pub issued_here : (i : ℕ) (h : Head) → i < s.m → ParityNode i ≢ p → head_at proc d ≡ Some h
      → Each (AckBelow d (last_of (replica_of proc d))) (inn (ParityNode i))
  pub issued_there : (x : ProcessId) (i : ℕ) (h : Head) → p ≡ ParityNode i → IsProcess s x → x ≢ p → v.dead x ≡ false → head_at (v.process x) d ≡ Some h
      → Each (AckBelow d (last_of (replica_of (v.process x) d))) (out x)
  pub issued_else : (x : ProcessId) (i : ℕ) (h : Head) → IsProcess s x → x ≢ p → v.dead x ≡ false → i < s.m → ParityNode i ≢ p → x ≢ ParityNode i
      → head_at (v.process x) d ≡ Some h → Each (AckBelow d (last_of (replica_of (v.process x) d))) (v.link (ParityNode i) x)

-- a keeper by its rank
pub keeper-rank : (d r : ℕ) (p : ProcessId) → p ≡ of_rank d r → IsKeeper d p
keeper-rank d zero p is = subst (IsKeeper d) (sym is) refl
keeper-rank d (suc i) p is = subst (IsKeeper d) (sym is) tt

module _ (F : ℕ → ℕ → List Update → Type 0) (s : Dimensions) (v : State) (members : Members s v) (d : ℕ)
    (below : d < s.k) (p : ProcessId) (pin : IsProcess s p) (lives : v.dead p ≡ false) where
  -- it is so before the process acts
  pub enters : PartitionReaches F s v d → Around F s v d p (v.process p) (v.link p) (λ x. v.link x p) (v.settled d)
  enters reach = record {
    own = λ keeps. reach.replicas p pin lives keeps;
    sits = sits_at;
    replicas = λ q qin other living keeps. reach.replicas q qin living keeps;
    among = λ x i xin iin xother iother apart living. reach.lanes x i xin iin apart living;
    outward =
        λ i iin other living. subst
        (λ (b : Bool). LaneReaches F d (v.settled d) p i b (head_at (v.process p) d) (replica_of (v.process p) d)
        (seen_at d (v.settled d) (v.process (ParityNode i))) (v.link p (ParityNode i)) (v.link (ParityNode i) p))
        lives
        (reach.lanes p i pin iin (λ same. other (sym same)) living);
    inward =
        λ x i is xin other. subst
        (λ (y : ProcessId). LaneReaches F d (v.settled d) x i (v.dead x) (head_at (v.process x) d)
        (replica_of (v.process x) d) (seen_at d (v.settled d) (v.process y)) (v.link x y) (v.link y x))
        (sym is)
        (reach.lanes x i xin (subst (IsProcess s) is pin) (λ same. other (same ∙ sym is)) (ap v.dead (sym is) ∙ lives));
    silent = λ none i iin other living. each-weaker (MayStand s v p (ParityNode i)) (Stale d 0)
        (λ m may. ranked-weaker d (Used s v d p) (λ r. r < 0) (λ r from. absurd (leads r none from)) m (may-used s v d p (ParityNode i) m may))
        (v.link p (ParityNode i)) (members.may p (ParityNode i) pin iin (λ same. other (sym same)) living);
    may = λ x xin other. members.may x p xin pin other lives;
    since = since-refl d (v.process p);
    unkept = λ none. refl;
    quiet = λ none. refl;
    follows = λ h heads. begins-refl (history (v.settled d) (replica_of (v.process p) d));
    grew = inl refl;
    issued_here = λ i h iin other heads. reach.issued p i h pin lives iin (λ same. other (sym same)) heads;
    issued_there =
        λ x i h is xin other living heads. subst (λ (y : ProcessId). Each (AckBelow d (last_of (replica_of (v.process x) d))) (v.link y x)) (sym is)
        (reach.issued x i h xin living (subst (IsProcess s) is pin) (λ same. other (same ∙ sym is)) heads);
    issued_else = λ x i h xin other living iin iother apart heads. reach.issued x i h xin living iin apart heads;
  } where
    seat : (h : Head) → head_at (v.process p) d ≡ Some h → seat_of (v.process p) d ≡ Some h.rank
    seat h heads = ap (option_map (λ (x : Head). x.rank)) heads

    rank_at : (y : ProcessId) (h : Head) → p ≡ y → head_at (v.process p) d ≡ Some h → at 0 (v.process p).ranks d ≡ h.rank
    rank_at y h same heads = by y same (subst (Sits (v.process p) d) same (members.sits p d pin lives below)) where
      by : (y : ProcessId) → p ≡ y → Sits (v.process p) d y → at 0 (v.process p).ranks d ≡ h.rank
      by (DataNode e) is sits = sits.1 ∙ at_zero h.rank (sym is ∙ (head-from s v d members below p h pin lives heads).0) where
        at_zero : (r : ℕ) → DataNode e ≡ of_rank d r → 0 ≡ r
        at_zero zero same = refl
        at_zero (suc r) same = absurd (cc same)
      by (ParityNode i) is sits =
          let known = seat-known (v.process p) d i sits (seat-lower (v.process p) d i h.rank sits (seat h heads)) in
          let own : h.rank ≡ suc i = cc (seat h heads, known.0) in
          known.1 ∙ sym own

    sits_at : (h : Head) → head_at (v.process p) d ≡ Some h → HeadSits v d p (v.process p) h
    sits_at h heads = let from : Used s v d p h.rank = head-from s v d members below p h pin lives heads in
        record { name = from.0; rank = rank_at p h refl heads; lower = from.1.below }

    leads : (r : ℕ) → head_at (v.process p) d ≡ None → Used s v d p r → ⊥
    leads r none from =
        let seat : seat_of (v.process p) d ≡ Some r = ap (λ (y : ProcessId). seat_of (v.process y) d) from.0 ∙ from.1.leads (ap v.dead (sym from.0) ∙ lives) in
        cc (seat, ap (option_map (λ (x : Head). x.rank)) none)

-- a lane of equal parts
pub lane-is : (F : ℕ → ℕ → List Update → Type 0) (d : ℕ) (settled : List Update) (x : ProcessId) (i : ℕ)
    (dead dead' : Bool) (head head' : Option Head) (own own' : Replica) (seen seen' : Seen)
    (there there' back back' : List Message)
    → dead' ≡ dead → head' ≡ head → own' ≡ own → seen' ≡ seen → there' ≡ there → (dead ≡ false → back' ≡ back)
    → LaneReaches F d settled x i dead head own seen there back → LaneReaches F d settled x i dead' head' own' seen' there' back'
lane-is F d settled x i dead dead' head head' own own' seen seen' there there' back back' isdead ishead isown isseen isthere isback lane =
    subst (λ (T : Type 0). T) (λ j. LaneReaches F d settled x i (sym isdead j) (sym ishead j) (sym isown j) (sym isseen j) (sym isthere j) back') (record {
      goes = lane.goes;
      ends = lane.ends;
      kept = lane.kept;
      acks = λ living. subst (Each (AckFits d x seen)) (sym (isback living)) (lane.acks living);
    })

-- the state that the process leaves
pub record Leaves (s : Dimensions) (v w : State) (d : ℕ) (p : ProcessId) (proc : Process)
    (out inn : ProcessId → List Message) (settled : List Update) : Type 0 where
  pub process : w.process p ≡ proc
  pub others : (q : ProcessId) → IsProcess s q → q ≢ p → w.process q ≡ v.process q
  pub dead : (q : ProcessId) → IsProcess s q → w.dead q ≡ v.dead q
  pub out_is : (q : ProcessId) → IsProcess s q → q ≢ p → v.dead q ≡ false → w.link p q ≡ out q
  pub inn_is : (x : ProcessId) → IsProcess s x → x ≢ p → w.link x p ≡ inn x
  pub between : (x q : ProcessId) → IsProcess s x → IsProcess s q → x ≢ p → q ≢ p → w.link x q ≡ v.link x q
  pub settled_is : w.settled d ≡ settled

-- it is so after the process acted
module _ (F : ℕ → ℕ → List Update → Type 0) (s : Dimensions) (v w : State) (d : ℕ) (p : ProcessId) (proc : Process)
    (out inn : ProcessId → List Message) (settled : List Update)
    (pin : IsProcess s p) (lives : v.dead p ≡ false) (leaves : Leaves s v w d p proc out inn settled) (around : Around F s v d p proc out inn settled) where
  replica_by : (q : ProcessId) → IsProcess s q → w.dead q ≡ false → IsKeeper d q → (q ≡ p) ⊎ (q ≢ p) → ReplicaReaches F d settled (w.process q)
  replica_by q qin living keeps (inl same) =
      subst (λ (y : ProcessId). ReplicaReaches F d settled (w.process y)) (sym same)
      (subst (ReplicaReaches F d settled) (sym leaves.process) (around.own (subst (IsKeeper d) same keeps)))
  replica_by q qin living keeps (inr other) = subst (ReplicaReaches F d settled) (sym (leaves.others q qin other))
      (around.replicas q qin other (sym (leaves.dead q qin) ∙ living) keeps)

  abbrev Lane : ProcessId → ℕ → Type 0
  Lane x i =
      LaneReaches F d settled x i (w.dead x) (head_at (w.process x) d) (replica_of (w.process x) d) (seen_at d settled (w.process (ParityNode i)))
      (w.link x (ParityNode i)) (w.link (ParityNode i) x)

  lane_by : (x : ProcessId) (i : ℕ) → IsProcess s x → i < s.m → x ≢ ParityNode i → w.dead (ParityNode i) ≡ false
      → (x ≡ p) ⊎ (x ≢ p) → (ParityNode i ≡ p) ⊎ (ParityNode i ≢ p) → Lane x i
  lane_by x i xin iin apart living (inl xp) (inl ip) = absurd (apart (xp ∙ sym ip))
  lane_by x i xin iin apart living (inr xother) (inr iother) =
      lane-is F d settled x i (v.dead x) (w.dead x) (head_at (v.process x) d) (head_at (w.process x) d) (replica_of (v.process x) d)
      (replica_of (w.process x) d) (seen_at d settled (v.process (ParityNode i))) (seen_at d settled (w.process (ParityNode i))) (v.link x (ParityNode i))
      (w.link x (ParityNode i)) (v.link (ParityNode i) x) (w.link (ParityNode i) x)
      (leaves.dead x xin) (ap (λ (y : Process). head_at y d) (leaves.others x xin xother)) (ap (λ (y : Process). replica_of y d) (leaves.others x xin xother))
      (ap (seen_at d settled) (leaves.others (ParityNode i) iin iother))
      (leaves.between x (ParityNode i) xin iin xother iother)
      (λ dies. leaves.between (ParityNode i) x iin xin iother xother)
      (around.among x i xin iin xother iother apart (sym (leaves.dead (ParityNode i) iin) ∙ living))
  lane_by x i xin iin apart living (inl xp) (inr iother) =
      subst (λ (y : ProcessId). Lane y i) (sym xp)
      (lane-is F d settled p i false (w.dead p) (head_at proc d) (head_at (w.process p) d) (replica_of proc d)
      (replica_of (w.process p) d) (seen_at d settled (v.process (ParityNode i)))
      (seen_at d settled (w.process (ParityNode i))) (out (ParityNode i)) (w.link p (ParityNode i))
      (inn (ParityNode i)) (w.link (ParityNode i) p)
      (leaves.dead p pin ∙ lives) (ap (λ (y : Process). head_at y d) leaves.process) (ap (λ (y : Process). replica_of y d) leaves.process)
      (ap (seen_at d settled) (leaves.others (ParityNode i) iin iother))
      (leaves.out_is (ParityNode i) iin iother (sym (leaves.dead (ParityNode i) iin) ∙ living)) (λ dies. leaves.inn_is (ParityNode i) iin iother)
      (around.outward i iin iother (sym (leaves.dead (ParityNode i) iin) ∙ living)))
  lane_by x i xin iin apart living (inr xother) (inl ip) =
      lane-is F d settled x i (v.dead x) (w.dead x) (head_at (v.process x) d) (head_at (w.process x) d) (replica_of (v.process x) d)
      (replica_of (w.process x) d) (seen_at d settled proc) (seen_at d settled (w.process (ParityNode i))) (inn x) (w.link x (ParityNode i)) (out x)
      (w.link (ParityNode i) x)
      (leaves.dead x xin) (ap (λ (y : Process). head_at y d) (leaves.others x xin xother)) (ap (λ (y : Process). replica_of y d) (leaves.others x xin xother))
      (ap (λ (y : ProcessId). seen_at d settled (w.process y)) ip ∙ ap (seen_at d settled) leaves.process) (ap (w.link x) ip ∙ leaves.inn_is x xin xother)
      (λ dies. ap (λ (y : ProcessId). w.link y x) ip ∙ leaves.out_is x xin xother dies)
      (around.inward x i (sym ip) xin xother)

  issued_by : (x : ProcessId) (i : ℕ) (h : Head) → IsProcess s x → w.dead x ≡ false → i < s.m → x ≢ ParityNode i → head_at (w.process x) d ≡ Some h
      → (x ≡ p) ⊎ (x ≢ p) → (ParityNode i ≡ p) ⊎ (ParityNode i ≢ p) → Each (AckBelow d (last_of (replica_of (w.process x) d))) (w.link (ParityNode i) x)
  issued_by x i h xin living iin apart heads (inl xp) (inl ip) = absurd (apart (xp ∙ sym ip))
  issued_by x i h xin living iin apart heads (inl xp) (inr iother) =
      subst (λ (y : ProcessId). Each (AckBelow d (last_of (replica_of (w.process y) d))) (w.link (ParityNode i) y)) (sym xp)
      (subst (λ (y : Process). Each (AckBelow d (last_of (replica_of y d))) (w.link (ParityNode i) p)) (sym leaves.process)
      (subst (Each (AckBelow d (last_of (replica_of proc d)))) (sym (leaves.inn_is (ParityNode i) iin iother))
      (around.issued_here i h iin iother (ap (λ (y : Process). head_at y d) (sym leaves.process)
      ∙ ap (λ (y : ProcessId). head_at (w.process y) d) (sym xp) ∙ heads))))
  issued_by x i h xin living iin apart heads (inr xother) (inl ip) =
      subst (λ (y : Process). Each (AckBelow d (last_of (replica_of y d))) (w.link (ParityNode i) x)) (sym (leaves.others x xin xother))
      (subst (Each (AckBelow d (last_of (replica_of (v.process x) d))))
      (sym (ap (λ (y : ProcessId). w.link y x) ip ∙ leaves.out_is x xin xother (sym (leaves.dead x xin) ∙ living)))
      (around.issued_there x i h (sym ip) xin xother (sym (leaves.dead x xin) ∙ living)
      (ap (λ (y : Process). head_at y d) (sym (leaves.others x xin xother)) ∙ heads)))
  issued_by x i h xin living iin apart heads (inr xother) (inr iother) =
      subst (λ (y : Process). Each (AckBelow d (last_of (replica_of y d))) (w.link (ParityNode i) x)) (sym (leaves.others x xin xother))
      (subst (Each (AckBelow d (last_of (replica_of (v.process x) d)))) (sym (leaves.between (ParityNode i) x iin xin iother xother))
      (around.issued_else x i h xin xother (sym (leaves.dead x xin) ∙ living) iin iother apart
      (ap (λ (y : Process). head_at y d) (sym (leaves.others x xin xother)) ∙ heads)))

  pub left : PartitionReaches F s w d
  left = record {
    issued = λ x i h xin living iin apart heads. issued_by x i h xin living iin apart heads (same-cases x p) (same-cases (ParityNode i) p);
    replicas = λ q qin living keeps. subst (λ (us : List Update). ReplicaReaches F d us (w.process q))
        (sym leaves.settled_is) (replica_by q qin living keeps (same-cases q p));
    lanes =
        λ x i xin iin apart living. subst
        (λ (us : List Update). LaneReaches F d us x i (w.dead x) (head_at (w.process x) d) (replica_of (w.process x) d)
        (seen_at d us (w.process (ParityNode i))) (w.link x (ParityNode i)) (w.link (ParityNode i) x))
        (sym leaves.settled_is)
        (lane_by x i xin iin apart living (same-cases x p) (same-cases (ParityNode i) p));
  }
