-- The members of a group, kept by every move.
use Rattle.std.proofs.Common.{ℕ, zero, suc, ◌≡◌, ◌≢◌, ◌<◌, ◌≤◌, ◌+◌, ◌==◌, Bool, true, false, ◌&&◌, List, [], ◌∷◌, ◌++◌}
use Rattle.std.proofs.Common.{take, replicate, Option, Some, None, ◌⊎◌, inl, inr, refl, sym, ap, subst, ◌∙◌}
use Rattle.std.proofs.Common.{if◌then◌else◌, arith}
use Rattle.std.proofs.lemmas.Bool.{cases_eq, cases_lt}
use Rattle.std.proofs.lemmas.Grind.{common_steps}
use Rattle.std.specs.Prelude.{option_map}
use Rattle.std.specs.List.{list_all, range_with_len}
use Rattle.group_types.specs.Dimensions.{Dimensions}
use Rattle.group_types.specs.Lists.{at}
use Rattle.group_types.specs.Names.{IsProcess, of_rank}
use Rattle.group_types.specs.Shape.{IsShape}
use Rattle.group_types.specs.declared.process.ProcessId.{ProcessId}
use Rattle.group_types.specs.declared.process.ProcessId.TheVariants.{DataNode, ParityNode}
use Rattle.group_types.proofs.Lists.{at-put, at-put-other, at-replicate}
use Rattle.group_types.proofs.Names.{same-cases}
use Rattle.group_types.specs.Each.{Each}
use Rattle.group_types.proofs.Eaches.{each-append, each-take, each-weaker}
use Rattle.membership.specs.Members.{Membership, all_living, knows_dead, with_dead}
use Rattle.group_message.specs.declared.message.Message.{Message}
use Rattle.group_message.specs.declared.message.Message.TheVariants as tells
use Rattle.group_run.specs.Applying.{ProcessStep}
use Rattle.group_run.specs.Process.{Head, Process, opening_process, new_head}
use Rattle.group_run.specs.Receiving.{receive}
use Rattle.group_run.specs.World.{sent_to}
use Rattle.law_moves.proofs.Moves.{Acted, Died, Keeps, Popped, Treats}
use Rattle.law_moves.specs.State.{IsGroupUp, State}
use Rattle.law_moves.proofs.State.{Opens}
use Rattle.law_moves.proofs.Known.{knows-with_dead}
use Rattle.law_moves.proofs.Runs.{holds_always}
use Rattle.law_moves.proofs.Members.{IsData, IsFrom, IsParity, IsPlain, MayStand, Members, MembersAlways, Reigns, Sits, SitsWhen, Stands, knows_lower, seat_of}
use Rattle.law_moves.specs.Known.{is_notice}
use Rattle.law_moves.proofs.Calls.{Owes, Seated, seat-known, seat-lower, seated-core, step-treats}
use Rattle.law_moves.proofs.Cores.{KeepsSeats, MaySend, SentWell, Step}
use Rattle.law_moves.proofs.Standing.{each-sent_to, stands-notice, stands-popped}
use Rattle.law_moves.proofs.Messages.{Brings, DueTo, MarksRow, Received, received}
use Rattle.law_moves.proofs.Notices.{Noticed, knows-other, noticed}

-- what may stand in a link is answered where a row may be
pub may-mark : (s : Dimensions) (v : State) (x p : ProcessId) (n : Message) → MayStand s v x p n → MarksRow s x n p
may-mark s v x p (tells.Mark session r block d n) may = may.2
may-mark s v x p (tells.Update r d u stable) may = tt
may-mark s v x p (tells.Ack r d n) may = tt
may-mark s v x p (tells.Stable r d n) may = tt
may-mark s v x p (tells.Adopt r d base list) may = tt
may-mark s v x p (tells.ReadBlock session block rows) may = subst IsParity (sym may.0) may.1
may-mark s v x p (tells.Block session bytes n) may = tt
may-mark s v x p (tells.Row session bytes stamp) may = tt
may-mark s v x p (tells.Cease upto) may = tt
may-mark s v x p (tells.Notice dead) may = tt

-- the processes of a rank are of the group
of_rank-in : (s : Dimensions) (d r : ℕ) → d < s.k → r ≤ s.m → IsProcess s (of_rank d r)
of_rank-in s d zero below within = below
of_rank-in s d (suc r) below within = omega (arith, within)

rank-of : (d : ℕ) (e : ℕ) → (seat : Option ℕ) (r : ℕ) → seat ≡ (if d == e then Some 0 else None) → seat ≡ Some r → (r ≡ 0) × (d ≡ e)
rank-of d e seat r is sits = by (cases_eq d e) where
  by : (d ≡ e) ⊎ (d ≢ e) → (r ≡ 0) × (d ≡ e)
  by (inl same) = let own : (d == e) ≡ true = grind (arith, common_steps) in let first : seat ≡ Some 0 =
      is ∙ ap (λ (b : Bool). if b then Some 0 else None) own in (cc (sits, first), same)
  by (inr other) = let not_own : (d == e) ≡ false = grind (arith, common_steps) in let none : seat ≡ None =
      is ∙ ap (λ (b : Bool). if b then Some 0 else None) not_own in absurd (cc (sits, none))

-- what is known of all of lower rank
pub lower-each : (known : Membership) (j a n : ℕ) → list_all (λ j. knows_dead known (ParityNode j)) (range_with_len a n)
    ≡ true → a ≤ j → j < a + n → knows_dead known (ParityNode j) ≡ true
lower-each known j a zero all low high = absurd (omega (arith, low, high))
lower-each known j a (suc n) all low high =
    by (knows_dead known (ParityNode a)) refl all (cases_eq j a) (λ rest above. lower-each known j (a + 1) n rest above (omega (arith, high)))
  where
    by : (b : Bool) → knows_dead known (ParityNode a) ≡ b
        → (b && list_all (λ j. knows_dead known (ParityNode j)) (range_with_len (a + 1) n)) ≡ true → (j ≡ a) ⊎ (j ≢ a)
        → (list_all (λ j. knows_dead known (ParityNode j)) (range_with_len (a + 1) n) ≡ true → a + 1 ≤ j
        → knows_dead known (ParityNode j) ≡ true) → knows_dead known (ParityNode j) ≡ true
    by true is rest (inl same) later = ap (λ (x : ℕ). knows_dead known (ParityNode x)) same ∙ is
    by true is rest (inr other) later = later rest (omega (arith, low, other))
    by false is rest which later = cc rest

-- the sentences on members without those on messages and ranks
pub record Ground (s : Dimensions) (v : State) : Type 0 where
  pub named : (p : ProcessId) → IsProcess s p → (v.process p).name ≡ p
  pub not_self : (p : ProcessId) → IsProcess s p → v.dead p ≡ false → knows_dead (v.process p).known p ≡ false
  pub stands : (x q : ProcessId) → IsProcess s x → IsProcess s q → x ≢ q → v.dead q ≡ false
      → Stands x (v.dead x) (knows_dead (v.process q).known x) (v.link x q)
  pub sits : (p : ProcessId) (d : ℕ) → IsProcess s p → v.dead p ≡ false → d < s.k → Sits (v.process p) d p

pub ground_of : (s : Dimensions) (v : State) → Members s v → Ground s v
ground_of s v members = record { named = members.named; not_self = members.not_self; stands = members.stands; sits = members.sits }

-- by the two words: whoever is known dead is dead, and of a living process the link has no notice
pub known-is-dead : (x : ProcessId) (dead known : Bool) (link : List Message) → Stands x dead known link → known ≡ true → dead ≡ true
known-is-dead x true known link stands knows = refl
known-is-dead x false true link stands knows = absurd stands
known-is-dead x false false link stands knows = cc knows

pub living-unknown : (x : ProcessId) (dead known : Bool) (link : List Message) → Stands x dead known link → dead ≡ false → known ≡ false
living-unknown x dead false link stands lives = refl
living-unknown x true true link stands lives = cc lives
living-unknown x false true link stands lives = absurd stands

living-plain : (x : ProcessId) (dead known : Bool) (link : List Message) → Stands x dead known link → dead ≡ false → IsPlain link
living-plain x false false link stands lives = stands
living-plain x false true link stands lives = absurd stands
living-plain x true known link stands lives = cc lives

plain-stands : (x : ProcessId) (dead known : Bool) (link : List Message) → dead ≡ false → known ≡ false → IsPlain link → Stands x dead known link
plain-stands x false false link lives unknown plain = plain
plain-stands x true known link lives unknown plain = cc lives
plain-stands x false true link lives unknown plain = cc unknown

-- what may be sent is no notice
sent-plain : (due : ProcessId → ℕ → ℕ → Type 0) (k : ℕ) (p : Process) (to : ProcessId) (m : Message) → MaySend due k p to m → is_notice m ≡ false
sent-plain due k p to (tells.Update r d u stable) may = refl
sent-plain due k p to (tells.Ack r d n) may = refl
sent-plain due k p to (tells.Stable r d n) may = refl
sent-plain due k p to (tells.Adopt r d base list) may = refl
sent-plain due k p to (tells.ReadBlock session block rows) may = refl
sent-plain due k p to (tells.Block session bytes n) may = refl
sent-plain due k p to (tells.Mark session r block d n) may = refl
sent-plain due k p to (tells.Row session bytes stamp) may = refl
sent-plain due k p to (tells.Cease upto) may = refl
sent-plain due k p to (tells.Notice dead) may = absurd may

module _ (s : Dimensions) where
  -- whoever sits in a partition reigns there
  pub seat-from : (v : State) → Ground s v → (x : ProcessId) (d r : ℕ) → IsProcess s x → v.dead x ≡ false → d < s.k
      → seat_of (v.process x) d ≡ Some r → IsFrom s v x d r
  seat-from v ground (DataNode e) d r xin lives below seat =
      let at_start = rank-of d e (seat_of (v.process (DataNode e)) d) r (ground.sits (DataNode e) d xin lives below).0 seat in
      let is : DataNode e ≡ of_rank d r = ap DataNode (sym at_start.1) ∙ ap (of_rank d) (sym at_start.0) in (
        is,
        record {
          partition = below;
          rank = let none = at_start.0 in omega (arith, none);
          below = λ j low. absurd (let none = at_start.0 in omega (arith, none, low));
          leads = λ living. ap (λ (y : ProcessId). seat_of (v.process y) d) (sym is) ∙ seat;
        },
      )
  seat-from v ground (ParityNode i) d r xin lives below seat =
      let sits : Sits (v.process (ParityNode i)) d (ParityNode i) = ground.sits (ParityNode i) d xin lives below in
      let lower : knows_lower (v.process (ParityNode i)).known d i ≡ true = seat-lower (v.process (ParityNode i)) d i r sits seat in
      let own : r ≡ suc i = cc (seat, (seat-known (v.process (ParityNode i)) d i sits lower).0) in
      let is : ParityNode i ≡ of_rank d r = ap (of_rank d) (sym own) in (
        is,
        record {
          partition = below;
          rank = omega (arith, own, xin);
          below = λ j low. dead j (omega (arith, own, low)) lower;
          leads = λ living. ap (λ (y : ProcessId). seat_of (v.process y) d) (sym is) ∙ seat;
        },
      )
    where
      parts : (a b : Bool) → (a && b) ≡ true → (a ≡ true) × (b ≡ true)
      parts true true e = (refl, refl)
      parts true false e = cc e
      parts false b e = cc e

      known-dead : (y : ProcessId) → IsProcess s y → y ≢ ParityNode i → knows_dead (v.process (ParityNode i)).known y ≡ true → v.dead y ≡ true
      known-dead y yin other knows = known-is-dead y (v.dead y) (knows_dead (v.process (ParityNode i)).known y)
          (v.link y (ParityNode i)) (ground.stands y (ParityNode i) yin xin other lives) knows

      dead : (j : ℕ) → j < suc i → knows_lower (v.process (ParityNode i)).known d i ≡ true → v.dead (of_rank d j) ≡ true
      dead zero low lower =
          known-dead (DataNode d) below (λ same. cc same)
          (parts (knows_dead (v.process (ParityNode i)).known (DataNode d))
          (list_all (λ j. knows_dead (v.process (ParityNode i)).known (ParityNode j)) (range_with_len 0 i)) lower).0
      dead (suc j) low lower =
          let knows = lower-each (v.process (ParityNode i)).known j 0 i
          (parts (knows_dead (v.process (ParityNode i)).known (DataNode d))
          (list_all (λ j. knows_dead (v.process (ParityNode i)).known (ParityNode j)) (range_with_len 0 i)) lower).1
          (omega arith) (omega (arith, low)) in
          known-dead (ParityNode j) (omega (arith, low, xin)) (λ same. let equal : j ≡ i = cc same in absurd (omega (arith, low, equal))) knows

  -- deaths stay, and so do seats of the living
  pub record Goes (v w : State) : Type 0 where
    pub dead : (q : ProcessId) → IsProcess s q → v.dead q ≡ true → w.dead q ≡ true
    pub lives : (q : ProcessId) → IsProcess s q → w.dead q ≡ false → v.dead q ≡ false
    pub seats : (q : ProcessId) (d r : ℕ) → IsProcess s q → w.dead q ≡ false → seat_of (v.process q) d ≡ Some r → seat_of (w.process q) d ≡ Some r

  reigns-on : (v w : State) → Goes v w → (d r : ℕ) → Reigns s v d r → Reigns s w d r
  reigns-on v w goes d r reigns = record {
    partition = reigns.partition;
    rank = reigns.rank;
    below = λ j low. goes.dead (of_rank d j) (of_rank-in s d j reigns.partition (let high = reigns.rank in omega (arith, low, high))) (reigns.below j low);
    leads =
        λ living. goes.seats (of_rank d r) d r (of_rank-in s d r reigns.partition reigns.rank) living
        (reigns.leads (goes.lives (of_rank d r) (of_rank-in s d r reigns.partition reigns.rank) living));
  }

  may-on : (v w : State) → Goes v w → (x q : ProcessId) (m : Message) → MayStand s v x q m → MayStand s w x q m
  may-on v w goes x q (tells.Update r d u stable) may = ((may.0.0, reigns-on v w goes d.0 r.0 may.0.1), may.1)
  may-on v w goes x q (tells.Stable r d n) may = ((may.0.0, reigns-on v w goes d.0 r.0 may.0.1), may.1)
  may-on v w goes x q (tells.Adopt r d base list) may = ((may.0.0, reigns-on v w goes d.0 r.0 may.0.1), may.1, may.2)
  may-on v w goes x q (tells.Ack r d n) may = (may.0, reigns-on v w goes d.0 r.0 may.1)
  may-on v w goes x q (tells.Mark session r block d n) may = ((may.0.0, reigns-on v w goes d.0 r.0 may.0.1), may.1, may.2)
  may-on v w goes x q (tells.ReadBlock session block rows) may = may
  may-on v w goes x q (tells.Block session bytes n) may = may
  may-on v w goes x q (tells.Row session bytes stamp) may = may
  may-on v w goes x q (tells.Cease upto) may = may
  may-on v w goes x q (tells.Notice dead) may = tt

  -- what a process may send may stand in its link
  sent-stands : (due : ProcessId → ℕ → ℕ → Type 0) (w : State) → Ground s w → (p : ProcessId) → IsProcess s p
      → w.dead p ≡ false → ((to : ProcessId) (r d : ℕ) → due to r d → IsFrom s w to d r)
      → (q : ProcessId) (m : Message) → MaySend due s.k (w.process p) q m → MayStand s w p q m
  sent-stands due w ground p pin lives owed q (tells.Update r d u stable) may = (seat-from w ground p d.0 r.0 pin lives may.0 may.1, may.2)
  sent-stands due w ground p pin lives owed q (tells.Stable r d n) may = (seat-from w ground p d.0 r.0 pin lives may.0 may.1, may.2)
  sent-stands due w ground p pin lives owed q (tells.Adopt r d base list) may = (seat-from w ground p d.0 r.0 pin lives may.0 may.1, may.2, may.3)
  sent-stands due w ground p pin lives owed q (tells.Ack r d n) may = owed q r.0 d.0 may
  sent-stands due w ground p pin lives owed q (tells.Mark session r block d n) may =
      (seat-from w ground p d.0 r.0 pin lives may.0 may.1, (λ above. may.2 above ∙ ground.named p pin), may.3)
  sent-stands due w ground p pin lives owed q (tells.ReadBlock session block rows) may =
      (may.0 ∙ ground.named p pin, subst IsParity (ground.named p pin) may.1, may.2)
  sent-stands due w ground p pin lives owed q (tells.Block session bytes n) may = (may.0, subst IsData (ground.named p pin) may.1, may.2)
  sent-stands due w ground p pin lives owed q (tells.Row session bytes stamp) may = (may.0, subst IsParity (ground.named p pin) may.1, may.2)
  sent-stands due w ground p pin lives owed q (tells.Cease upto) may = may
  sent-stands due w ground p pin lives owed q (tells.Notice dead) may = absurd may

  -- one living process changes by a step
  pub record Change (due : ProcessId → ℕ → ℕ → Type 0) (v w : State) (p : ProcessId) (t : ProcessStep) : Type 0 where
    pub process : w.process p ≡ t.process
    pub others : (q : ProcessId) → IsProcess s q → q ≢ p → w.process q ≡ v.process q
    pub dead : (q : ProcessId) → IsProcess s q → w.dead q ≡ v.dead q
    pub name : t.process.name ≡ p
    pub keeps : KeepsSeats (v.process p) t.process
    pub not_self : knows_dead t.process.known p ≡ false
    pub knows : (q : ProcessId) → IsProcess s q → q ≢ p → knows_dead t.process.known q ≡ true → v.dead q ≡ true
    pub sits : (d : ℕ) → d < s.k → Sits t.process d p
    pub comes : (x : ProcessId) → IsProcess s x → x ≢ p → Stands x (v.dead x) (knows_dead t.process.known x) (w.link x p)
    pub goes : (q : ProcessId) → IsProcess s q → q ≢ p → knows_dead t.process.known q ≡ false → w.link p q ≡ v.link p q ++ sent_to q t.sent
    pub between : (x q : ProcessId) → IsProcess s x → IsProcess s q → x ≢ p → q ≢ p → w.link x q ≡ v.link x q
    pub ranks : (d : ℕ) → d < s.k → Reigns s v d (at 0 t.process.ranks d) ⊎ (seat_of t.process d ≡ Some (at 0 t.process.ranks d))
    pub sent : SentWell due s.k t.process t.sent
    pub owed : (to : ProcessId) (r d : ℕ) → due to r d → IsFrom s v to d r
    pub may : (x : ProcessId) → IsProcess s x → x ≢ p → Each (MayStand s v x p) (w.link x p)

  module _ (due : ProcessId → ℕ → ℕ → Type 0) (v w : State) (p : ProcessId) (t : ProcessStep) (pin : IsProcess s p) (lives : v.dead p ≡ false)
      (members : Members s v) (change : Change due v w p t) where
    seat-kept : (q : ProcessId) (d r : ℕ) → IsProcess s q → (q ≡ p) ⊎ (q ≢ p) → seat_of (v.process q) d ≡ Some r → seat_of (w.process q) d ≡ Some r
    seat-kept q d r qin (inl same) seat =
        ap (λ (y : ProcessId). seat_of (w.process y) d) same ∙ ap (λ (y : Process). seat_of y d) change.process
        ∙ change.keeps.seats d r (ap (λ (y : ProcessId). seat_of (v.process y) d) (sym same) ∙ seat)
    seat-kept q d r qin (inr other) seat = ap (λ (y : Process). seat_of y d) (change.others q qin other) ∙ seat

    goes : Goes v w
    goes = record {
      dead = λ q qin dies. change.dead q qin ∙ dies;
      lives = λ q qin living. sym (change.dead q qin)
          ∙ living;
      seats = λ q d r qin living seat. seat-kept q d r qin (same-cases q p) seat;
    }

    living : w.dead p ≡ false
    living = change.dead p pin ∙ lives

    -- of the process that changed, and of the others
    at_p : (P : Process → ProcessId → Type 0) (q : ProcessId) → IsProcess s q → (q ≡ p) ⊎ (q ≢ p) → P t.process p
        → (q ≢ p → P (v.process q) q) → P (w.process q) q
    at_p P q qin (inl same) here there = subst (λ (y : ProcessId). P (w.process y) y) (sym same) (subst (λ (y : Process). P y p) (sym change.process) here)
    at_p P q qin (inr other) here there = subst (λ (y : Process). P y q) (sym (change.others q qin other)) (there other)

    stands_by : (x q : ProcessId) → IsProcess s x → IsProcess s q → x ≢ q → w.dead q ≡ false → (x ≡ p) ⊎ (x ≢ p) → (q ≡ p) ⊎ (q ≢ p)
        → Stands x (w.dead x) (knows_dead (w.process q).known x) (w.link x q)
    stands_by x q xin qin apart here (inl xp) (inl qp) = absurd (apart (xp ∙ sym qp))
    stands_by x q xin qin apart here (inr other) (inl qp) =
        subst (λ (b : Bool). Stands x b (knows_dead (w.process q).known x) (w.link x q)) (sym (change.dead x xin))
        (subst (λ (y : ProcessId). Stands x (v.dead x) (knows_dead (w.process y).known x) (w.link x y)) (sym qp)
        (subst (λ (y : Process). Stands x (v.dead x) (knows_dead y.known x) (w.link x p)) (sym change.process) (change.comes x xin other)))
    stands_by x q xin qin apart here (inr other) (inr qother) =
        subst (λ (b : Bool). Stands x b (knows_dead (w.process q).known x) (w.link x q)) (sym (change.dead x xin))
        (subst (λ (y : Process). Stands x (v.dead x) (knows_dead y.known x) (w.link x q)) (sym (change.others q qin qother))
        (subst (λ (link : List Message). Stands x (v.dead x) (knows_dead (v.process q).known x) link) (sym (change.between x q xin qin other qother))
        (members.stands x q xin qin apart (sym (change.dead q qin) ∙ here))))
    stands_by x q xin qin apart here (inl xp) (inr qother) =
        subst (λ (y : ProcessId). Stands y (w.dead y) (knows_dead (w.process q).known y) (w.link y q)) (sym xp)
        (plain-stands p (w.dead p) (knows_dead (w.process q).known p) (w.link p q) living
        (ap (λ (y : Process). knows_dead y.known p) (change.others q qin qother)
        ∙ living-unknown p (v.dead p) (knows_dead (v.process q).known p) (v.link p q) old lives)
        (subst IsPlain (sym (change.goes q qin qother unknown))
        (each-append (λ m. is_notice m ≡ false) (v.link p q) (sent_to q t.sent)
        (living-plain p (v.dead p) (knows_dead (v.process q).known p) (v.link p q) old lives)
        (each-sent_to (λ to m. is_notice m ≡ false) q t.sent
        (each-weaker (λ z. MaySend due s.k t.process z.to z.message) (λ z. is_notice z.message ≡ false)
        (λ z may. sent-plain due s.k t.process z.to z.message may) t.sent change.sent)))))
      where
        lives_q : v.dead q ≡ false
        lives_q = sym (change.dead q qin) ∙ here

        old : Stands p (v.dead p) (knows_dead (v.process q).known p) (v.link p q)
        old = members.stands p q pin qin (λ same. qother (sym same)) lives_q

        unknown : knows_dead t.process.known q ≡ false
        unknown = by (knows_dead t.process.known q) refl where
          by : (b : Bool) → knows_dead t.process.known q ≡ b → knows_dead t.process.known q ≡ false
          by false is = is
          by true is = cc (change.knows q qin qother is, lives_q)

    ground : Ground s w
    ground = record {
      named = λ q qin. at_p (λ y z. y.name ≡ z) q qin (same-cases q p) change.name (λ other. members.named q qin);
      not_self = λ q qin here. at_p (λ y z. knows_dead y.known z ≡ false) q qin (same-cases q p) change.not_self
          (λ other. members.not_self q qin (sym (change.dead q qin) ∙ here));
      stands = λ x q xin qin apart here. stands_by x q xin qin apart here (same-cases x p) (same-cases q p);
      sits = λ q d qin here below. at_p (λ y z. Sits y d z) q qin (same-cases q p) (change.sits d below)
          (λ other. members.sits q d qin (sym (change.dead q qin) ∙ here) below);
    }

    rank_here : (d : ℕ) → d < s.k → Reigns s v d (at 0 t.process.ranks d)
        ⊎ (seat_of t.process d ≡ Some (at 0 t.process.ranks d)) → Reigns s w d (at 0 t.process.ranks d)
    rank_here d below (inl reigns) = reigns-on v w goes d (at 0 t.process.ranks d) reigns
    rank_here d below (inr seat) =
        (seat-from w ground p d (at 0 t.process.ranks d) pin living below
        (ap (λ (y : Process). seat_of y d) change.process ∙ seat)).1

    may_by : (x q : ProcessId) → IsProcess s x → IsProcess s q → x ≢ q → w.dead q ≡ false → (x ≡ p) ⊎ (x ≢ p)
        → (q ≡ p) ⊎ (q ≢ p) → Each (MayStand s w x q) (w.link x q)
    may_by x q xin qin apart here (inl xp) (inl qp) = absurd (apart (xp ∙ sym qp))
    may_by x q xin qin apart here (inr other) (inl qp) =
        subst (λ (y : ProcessId). Each (MayStand s w x y) (w.link x y)) (sym qp)
        (each-weaker (MayStand s v x p) (MayStand s w x p) (λ m may. may-on v w goes x p m may) (w.link x p) (change.may x xin other))
    may_by x q xin qin apart here (inr other) (inr qother) =
        subst (λ (link : List Message). Each (MayStand s w x q) link) (sym (change.between x q xin qin other qother))
        (each-weaker (MayStand s v x q) (MayStand s w x q) (λ m may. may-on v w goes x q m may) (v.link x q)
        (members.may x q xin qin apart (sym (change.dead q qin) ∙ here)))
    may_by x q xin qin apart here (inl xp) (inr qother) =
        subst (λ (y : ProcessId). Each (MayStand s w y q) (w.link y q)) (sym xp)
        (subst (λ (link : List Message). Each (MayStand s w p q) link) (sym (change.goes q qin qother unknown))
        (each-append (MayStand s w p q) (v.link p q) (sent_to q t.sent)
        (each-weaker (MayStand s v p q) (MayStand s w p q) (λ m may. may-on v w goes p q m may) (v.link p q)
        (members.may p q pin qin (λ same. qother (sym same)) lives_q))
        (each-sent_to (λ to m. MayStand s w p to m) q t.sent
        (each-weaker (λ z. MaySend due s.k t.process z.to z.message) (λ z. MayStand s w p z.to z.message)
        (λ z may. sent-stands due w ground p pin living (λ to r d owes. let from = change.owed to r d owes in
        (from.0, reigns-on v w goes d r from.1)) z.to z.message
        (subst (λ (y : Process). MaySend due s.k y z.to z.message) (sym change.process) may)) t.sent change.sent))))
      where
        lives_q : v.dead q ≡ false
        lives_q = sym (change.dead q qin) ∙ here

        unknown : knows_dead t.process.known q ≡ false
        unknown = by (knows_dead t.process.known q) refl where
          by : (b : Bool) → knows_dead t.process.known q ≡ b → knows_dead t.process.known q ≡ false
          by false is = is
          by true is = cc (change.knows q qin qother is, lives_q)

    -- the members after one process changed
    pub changed : Members s w
    changed = record {
      named = ground.named;
      not_self = ground.not_self;
      stands = ground.stands;
      sits = ground.sits;
      ranks =
          λ q d qin here below. at_p (λ y z. Reigns s w d (at 0 y.ranks d)) q qin (same-cases q p) (rank_here d below (change.ranks d below))
          (λ other. reigns-on v w goes d (at 0 (v.process q).ranks d) (members.ranks q d qin (sym (change.dead q qin) ∙ here) below));
      may = λ x q xin qin apart here. may_by x q xin qin apart here (same-cases x p) (same-cases q p);
    }

-- the start
head-start : (s : Dimensions) (e d : ℕ) → seat_of (opening_process s (DataNode e)) d ≡ (if d == e then Some 0 else None)
head-start s e d = by (cases_eq d e) where
  by : (d ≡ e) ⊎ (d ≢ e) → seat_of (opening_process s (DataNode e)) d ≡ (if d == e then Some 0 else None)
  by (inl same) =
      let own : (d == e) ≡ true = grind (arith, common_steps) in
      ap (seat_of (opening_process s (DataNode e))) same
      ∙ ap (option_map (λ (h : Head). h.rank)) (at-put None None (replicate s.k None) e (Some (new_head s 0 0)))
      ∙ ap (λ (b : Bool). if b then Some 0 else None) (sym own)
  by (inr other) =
      let not_own : (d == e) ≡ false = grind (arith, common_steps) in
      ap (option_map (λ (h : Head). h.rank)) (at-put-other None (replicate s.k None) e d (Some (new_head s 0 0)) other ∙ at-replicate None s.k d)
      ∙ ap (λ (b : Bool). if b then Some 0 else None) (sym not_own)

none-known : (s : Dimensions) (q : ProcessId) → knows_dead (all_living s) q ≡ false
none-known s (DataNode d) = at-replicate false 16 d
none-known s (ParityNode i) = at-replicate false 4 i

sits-start : (s : Dimensions) (p : ProcessId) (d : ℕ) → Sits (opening_process s p) d p
sits-start s (DataNode e) d = (head-start s e d, at-replicate 0 s.k d)
sits-start s (ParityNode i) d =
    subst (λ (b : Bool). SitsWhen b i (seat_of (opening_process s (ParityNode i)) d) (at 0 (opening_process s (ParityNode i)).ranks d)) (sym unknown)
    (ap (option_map (λ (h : Head). h.rank)) (at-replicate None s.k d), low)
  where
    unknown : knows_lower (all_living s) d i ≡ false
    unknown = ap (λ (b : Bool). b && list_all (λ j. knows_dead (all_living s) (ParityNode j)) (range_with_len 0 i)) (none-known s (DataNode d))

    zeros : ◌≡◌ {A = ℕ} (at 0 (replicate s.k 0) d) 0
    zeros = at-replicate 0 s.k d

    low : at 0 (replicate s.k 0) d ≤ i
    low = omega (arith, zeros)

module _ (s : Dimensions) (shaped : IsShape s) where
  some : 0 < s.k
  some = let first = shaped.k in omega (arith, first)

  opens : (v : State) → Opens s v → Members s v
  opens v starts = record {
    named = λ p pin. ap (λ (y : Process). y.name) (starts.process p pin);
    not_self = λ p pin lives. ap (λ (y : Process). knows_dead y.known p) (starts.process p pin) ∙ none-known s p;
    stands = λ x q xin qin apart lives. plain-stands x (v.dead x) (knows_dead (v.process q).known x) (v.link x q) (starts.living x xin)
        (ap (λ (y : Process). knows_dead y.known x) (starts.process q qin) ∙ none-known s x) (subst IsPlain (sym (starts.links x q xin qin)) tt);
    sits = λ p d pin lives below. sits p d pin;
    ranks = λ p d pin lives below. subst (λ (r : ℕ). Reigns s v d r)
        (sym (ap (λ (y : Process). at 0 y.ranks d) (starts.process p pin) ∙ at-replicate 0 s.k d)) (first d below);
    may = λ x q xin qin apart lives. subst (Each (MayStand s v x q)) (sym (starts.links x q xin qin)) tt;
  } where
    sits : (p : ProcessId) (d : ℕ) → IsProcess s p → Sits (v.process p) d p
    sits p d pin = subst (λ (y : Process). Sits y d p) (sym (starts.process p pin)) (sits-start s p d)

    first : (d : ℕ) → d < s.k → Reigns s v d 0
    first d below = record {
      partition = below;
      rank = omega arith;
      below = λ j low. absurd (omega (arith, low));
      leads = λ lives. (sits (DataNode d) d below).0 ∙ (let own : (d == d) ≡ true = grind (arith, common_steps) in
          ap (λ (b : Bool). if b then Some 0 else None) own);
    }

  seated : (v : State) → Members s v → (p : ProcessId) → IsProcess s p → v.dead p ≡ false → Seated s (v.process p) p
  seated v members p pin lives = record { name = members.named p pin; some = some; sits = λ d below. members.sits p d pin lives below }

  -- whoever a living process knows to be dead is
  known-dead : (v : State) → Members s v → (p q : ProcessId) → IsProcess s p → IsProcess s q → q ≢ p → v.dead p ≡ false
      → knows_dead (v.process p).known q ≡ true → v.dead q ≡ true
  known-dead v members p q pin qin other lives knows = known-is-dead q (v.dead q) (knows_dead (v.process p).known q)
      (v.link q p) (members.stands q p qin pin other lives) knows

  treats : (v w : State) (p : ProcessId) (t : ProcessStep) → IsProcess s p → IsGroupUp s v → v.dead p ≡ false
      → Treats s (v.process p) t → Members s v → Acted s v w p t → Members s w
  treats v w p t pin up lives treated members acts = changed s Owes v w p t pin lives members (record {
    process = acts.process;
    others = acts.others;
    dead = acts.dead;
    name = step.same.name ∙ members.named p pin;
    keeps = record { name = step.same.name; seats = λ d r seat. step.same.seats d ∙ seat };
    not_self = ap (λ (known : Membership). knows_dead known p) step.same.known ∙ members.not_self p pin lives;
    knows = λ q qin other knows. known-dead v members p q pin qin other lives (ap (λ (known : Membership). knows_dead known q) (sym step.same.known) ∙ knows);
    sits = λ d below. (seated-core s (v.process p) t.process p step.same (seated v members p pin lives)).sits d below;
    comes = λ x xin other. subst (λ (link : List Message). Stands x (v.dead x) (knows_dead t.process.known x) link) (sym (acts.links x p xin pin other))
        (subst (λ (known : Membership). Stands x (v.dead x) (knows_dead known x) (v.link x p)) (sym step.same.known) (members.stands x p xin pin other lives));
    goes = λ q qin other unknown. acts.sends q qin unknown;
    between = λ x q xin qin other qother. acts.links x q xin qin other;
    ranks = λ d below. inl (subst (λ (ranks : List ℕ). Reigns s v d (at 0 ranks d)) (sym step.same.ranks) (members.ranks p d pin lives below));
    sent = step.sent;
    owed = λ to r d owes. absurd owes;
    may = λ x xin other. subst (Each (MayStand s v x p)) (sym (acts.links x p xin pin other)) (members.may x p xin pin other lives);
  }) where
    step : Step Owes s.k (v.process p) t
    step = step-treats s (v.process p) p t (seated v members p pin lives) treated

  -- links after one message was taken out and a step was made
  module _ (v u w : State) (x p : ProcessId) (m : Message) (t : ProcessStep) (xin : IsProcess s x) (pin : IsProcess s p)
      (apart : x ≢ p) (pops : Popped s v u x p m) (acts : Acted s u w p t) where
    link_else : (y q : ProcessId) → IsProcess s y → IsProcess s q → y ≢ p → (y ≢ x) ⊎ (q ≢ p) → w.link y q ≡ v.link y q
    link_else y q yin qin other apart_from = acts.links y q yin qin other ∙ pops.links y q yin qin apart_from

    link_here : w.link x p ≡ u.link x p
    link_here = acts.links x p xin pin apart

    link_out : (q : ProcessId) → IsProcess s q → q ≢ p → knows_dead t.process.known q ≡ false → w.link p q ≡ v.link p q ++ sent_to q t.sent
    link_out q qin other unknown = acts.sends q qin unknown ∙ ap (λ (link : List Message). link ++ sent_to q t.sent) (pops.links p q pin qin (inr other))

    dead_same : (q : ProcessId) → IsProcess s q → w.dead q ≡ v.dead q
    dead_same q qin = acts.dead q qin ∙ pops.dead q qin

    process_other : (q : ProcessId) → IsProcess s q → q ≢ p → w.process q ≡ v.process q
    process_other q qin other = acts.others q qin other ∙ pops.processes q qin

  -- a message that isn't a notice
  receives_plain : (v u w : State) (x p : ProcessId) (m : Message) → IsProcess s x → IsProcess s p → x ≢ p → v.dead p ≡ false → Members s v → Popped s v u x p m
      → Acted s u w p (receive s x m (v.process p)) → is_notice m ≡ false → Members s w
  receives_plain v u w x p m xin pin apart lives members pops acts plain = changed s (DueTo x m) v w p t pin lives members (record {
    process = acts.process;
    others = process_other v u w x p m t xin pin apart pops acts;
    dead = dead_same v u w x p m t xin pin apart pops acts;
    name = got.name ∙ members.named p pin;
    keeps = record { name = got.name; seats = λ d r seat. got.seats d ∙ seat };
    not_self = ap (λ (known : Membership). knows_dead known p) got.known ∙ members.not_self p pin lives;
    knows = λ q qin other knows. known-dead v members p q pin qin other lives (ap (λ (known : Membership). knows_dead known q) (sym got.known) ∙ knows);
    sits = sits_at;
    comes = λ y yin other. comes_by y yin other (same-cases y x);
    goes = link_out v u w x p m t xin pin apart pops acts;
    between = λ y q yin qin other qother. link_else v u w x p m t xin pin apart pops acts y q yin qin other (inr qother);
    ranks = λ d below. ranks_by d below (got.ranks d);
    sent = got.sent;
    owed = owed_by m (may_first.0);
    may = λ y yin other. may_in y yin other (same-cases y x);
  }) where
    t : ProcessStep
    t = receive s x m (v.process p)

    may_first : MayStand s v x p m × Each (MayStand s v x p) (u.link x p)
    may_first = subst (Each (MayStand s v x p)) pops.first (members.may x p xin pin apart lives)

    got : Received s.k x m (v.process p) t
    got = received s x p m (v.process p) plain pin (seated v members p pin lives) (may-mark s v x p m may_first.0)

    comes_by : (y : ProcessId) → IsProcess s y → y ≢ p → (y ≡ x) ⊎ (y ≢ x) → Stands y (v.dead y) (knows_dead t.process.known y) (w.link y p)
    comes_by y yin other (inr yother) =
        subst (λ (link : List Message). Stands y (v.dead y) (knows_dead t.process.known y) link)
        (sym (link_else v u w x p m t xin pin apart pops acts y p yin pin other (inl yother)))
        (subst (λ (known : Membership). Stands y (v.dead y) (knows_dead known y) (v.link y p)) (sym got.known) (members.stands y p yin pin other lives))
    comes_by y yin other (inl same) =
        subst (λ (z : ProcessId). Stands z (v.dead z) (knows_dead t.process.known z) (w.link z p)) (sym same)
        (subst (λ (link : List Message). Stands x (v.dead x) (knows_dead t.process.known x) link) (sym (link_here v u w x p m t xin pin apart pops acts))
        (subst (λ (known : Membership). Stands x (v.dead x) (knows_dead known x) (u.link x p)) (sym got.known)
        (stands-popped x (v.dead x) (knows_dead (v.process p).known x) m (u.link x p) plain
        (subst (Stands x (v.dead x) (knows_dead (v.process p).known x)) pops.first (members.stands x p xin pin apart lives)))))

    may_in : (y : ProcessId) → IsProcess s y → y ≢ p → (y ≡ x) ⊎ (y ≢ x) → Each (MayStand s v y p) (w.link y p)
    may_in y yin other (inr yother) =
        subst (Each (MayStand s v y p))
        (sym (link_else v u w x p m t xin pin apart pops acts y p yin pin other (inl yother)))
        (members.may y p yin pin other lives)
    may_in y yin other (inl same) =
        subst (λ (z : ProcessId). Each (MayStand s v z p) (w.link z p)) (sym same)
        (subst (Each (MayStand s v x p)) (sym (link_here v u w x p m t xin pin apart pops acts)) may_first.1)

    owed_by : (n : Message) → MayStand s v x p n → (to : ProcessId) (r d : ℕ) → DueTo x n to r d → IsFrom s v to d r
    owed_by (tells.Update r d u stable) may to rank part due =
        subst (λ (y : ProcessId). IsFrom s v y part rank) (sym due.0)
        (subst (λ (e : ℕ). IsFrom s v x e rank) (sym due.2)
        (subst (λ (e : ℕ). IsFrom s v x d.0 e) (sym due.1) may.0))
    owed_by (tells.Adopt r d base list) may to rank part due =
        subst (λ (y : ProcessId). IsFrom s v y part rank) (sym due.0)
        (subst (λ (e : ℕ). IsFrom s v x e rank) (sym due.2)
        (subst (λ (e : ℕ). IsFrom s v x d.0 e) (sym due.1) may.0))
    owed_by (tells.Ack r d n) may to rank part due = absurd due
    owed_by (tells.Stable r d n) may to rank part due = absurd due
    owed_by (tells.ReadBlock session block rows) may to rank part due = absurd due
    owed_by (tells.Block session bytes n) may to rank part due = absurd due
    owed_by (tells.Mark session r block d n) may to rank part due = absurd due
    owed_by (tells.Row session bytes stamp) may to rank part due = absurd due
    owed_by (tells.Cease upto) may to rank part due = absurd due
    owed_by (tells.Notice dead) may to rank part due = absurd due

    -- a rank that an adoption brings is one in use
    brings_by : (n : Message) → MayStand s v x p n → (d old new : ℕ) → Brings n d old new → Reigns s v d new × (x ≡ of_rank d new) × IsParity p × (old ≤ new)
    brings_by (tells.Adopt r e base list) may d old new brings = (
      subst (λ (z : ℕ). Reigns s v z new) (sym brings.0) (subst (λ (z : ℕ). Reigns s v e.0 z) (sym brings.1) may.0.1),
      may.0.0 ∙ ap (λ (z : ℕ). of_rank z r.0) (sym brings.0) ∙ ap (of_rank d) (sym brings.1),
      may.2,
      brings.2,
    )
    brings_by (tells.Update r e u stable) may d old new brings = absurd brings
    brings_by (tells.Ack r e n) may d old new brings = absurd brings
    brings_by (tells.Stable r e n) may d old new brings = absurd brings
    brings_by (tells.ReadBlock session block rows) may d old new brings = absurd brings
    brings_by (tells.Block session bytes n) may d old new brings = absurd brings
    brings_by (tells.Mark session r block e n) may d old new brings = absurd brings
    brings_by (tells.Row session bytes stamp) may d old new brings = absurd brings
    brings_by (tells.Cease upto) may d old new brings = absurd brings
    brings_by (tells.Notice dead) may d old new brings = absurd brings

    ranks_by : (d : ℕ) → d < s.k → (at 0 t.process.ranks d ≡ at 0 (v.process p).ranks d) ⊎ Brings m d (at 0 (v.process p).ranks d) (at 0 t.process.ranks d)
        → Reigns s v d (at 0 t.process.ranks d) ⊎ (seat_of t.process d ≡ Some (at 0 t.process.ranks d))
    ranks_by d below (inl same) = inl (subst (λ (r : ℕ). Reigns s v d r) (sym same) (members.ranks p d pin lives below))
    ranks_by d below (inr brings) = inl (brings_by m may_first.0 d (at 0 (v.process p).ranks d) (at 0 t.process.ranks d) brings).0

    -- a rank in use isn't above a living process's own, and its own is brought by nobody else
    own-rank : (i d new : ℕ) → p ≡ ParityNode i → Reigns s v d new → x ≡ of_rank d new → new ≤ i
    own-rank i d new is reigns from = by (cases_lt (suc i) new) (cases_eq new (suc i)) where
      lives_i : v.dead (of_rank d (suc i)) ≡ false
      lives_i = ap v.dead (sym is) ∙ lives

      by : (suc i < new) ⊎ (new ≤ suc i) → (new ≡ suc i) ⊎ (new ≢ suc i) → new ≤ i
      by (inl above) which = absurd (cc (reigns.below (suc i) above, lives_i))
      by (inr low) (inl same) = absurd (apart (from ∙ ap (of_rank d) same ∙ sym is))
      by (inr low) (inr other) = omega (arith, low, other)

    sits_by : (y : ProcessId) → p ≡ y → (d : ℕ)
        → (at 0 t.process.ranks d ≡ at 0 (v.process p).ranks d) ⊎ Brings m d (at 0 (v.process p).ranks d) (at 0 t.process.ranks d) → Sits (v.process p) d y
        → Sits t.process d y
    sits_by (DataNode e) is d (inl same) sits = (got.seats d ∙ sits.0, same ∙ sits.1)
    sits_by (DataNode e) is d (inr brings) sits =
        absurd (subst IsParity is (brings_by m may_first.0 d (at 0 (v.process p).ranks d) (at 0 t.process.ranks d)
        brings).2)
    sits_by (ParityNode i) is d (inl same) sits =
        subst (λ (rank : ℕ). SitsWhen (knows_lower t.process.known d i) i (seat_of t.process d) rank) (sym same)
        (subst (λ (seat : Option ℕ). SitsWhen (knows_lower t.process.known d i) i seat (at 0 (v.process p).ranks d)) (sym (got.seats d))
        (subst (λ (known : Membership). SitsWhen (knows_lower known d i) i (seat_of (v.process p) d) (at 0 (v.process p).ranks d)) (sym got.known) sits))
    sits_by (ParityNode i) is d (inr brings) sits =
        subst (λ (seat : Option ℕ). SitsWhen (knows_lower t.process.known d i) i seat (at 0 t.process.ranks d)) (sym (got.seats d))
        (subst (λ (known : Membership). SitsWhen (knows_lower known d i) i (seat_of (v.process p) d)
        (at 0 t.process.ranks d)) (sym got.known) (brought (knows_lower (v.process p).known d i) sits))
      where
        facts : Reigns s v d (at 0 t.process.ranks d) × (x ≡ of_rank d (at 0 t.process.ranks d)) × IsParity p
            × (at 0 (v.process p).ranks d ≤ at 0 t.process.ranks d)
        facts = brings_by m may_first.0 d (at 0 (v.process p).ranks d) (at 0 t.process.ranks d) brings

        low : at 0 t.process.ranks d ≤ i
        low = own-rank i d (at 0 t.process.ranks d) is facts.0 facts.1

        brought : (b : Bool) → SitsWhen b i (seat_of (v.process p) d) (at 0 (v.process p).ranks d)
            → SitsWhen b i (seat_of (v.process p) d) (at 0 t.process.ranks d)
        brought true sits = absurd (let own = sits.1 in let rises = facts.3 in omega (arith, own, rises, low))
        brought false sits = (sits.0, low)

    sits_at : (d : ℕ) → d < s.k → Sits t.process d p
    sits_at d below = sits_by p refl d (got.ranks d) (members.sits p d pin lives below)

  -- a notice
  receives_notice : (v u w : State) (x p dead : ProcessId) → IsProcess s x → IsProcess s p → x ≢ p → v.dead p ≡ false → Members s v
      → Popped s v u x p (tells.Notice dead) → Acted s u w p (receive s x (tells.Notice dead) (v.process p)) → Members s w
  receives_notice v u w x p dead xin pin apart lives members pops acts = changed s Owes v w p t pin lives members (record {
    process = acts.process;
    others = process_other v u w x p (tells.Notice dead) t xin pin apart pops acts;
    dead = dead_same v u w x p (tells.Notice dead) t xin pin apart pops acts;
    name = got.name ∙ members.named p pin;
    keeps = got.keeps;
    not_self = ap (λ (known : Membership). knows_dead known p) got.known ∙ knows-other (v.process p).known dead p
        (λ same. apart (sym (same ∙ facts.2))) ∙ members.not_self p pin lives;
    knows = λ q qin other knows. knows_by q qin other (same-cases q x) (ap (λ (known : Membership). knows_dead known q) (sym got.known) ∙ knows);
    sits = got.sits;
    comes = λ y yin other. comes_by y yin other (same-cases y x);
    goes = link_out v u w x p (tells.Notice dead) t xin pin apart pops acts;
    between = λ y q yin qin other qother. link_else v u w x p (tells.Notice dead) t xin pin apart pops acts y q yin qin other (inr qother);
    ranks = λ d below. ranks_by d below (got.ranks d below);
    sent = got.sent;
    owed = λ to r d owes. absurd owes;
    may = λ y yin other. may_in y yin other (same-cases y x);
  }) where
    t : ProcessStep
    t = receive s x (tells.Notice dead) (v.process p)

    facts : (v.dead x ≡ true) × (knows_dead (v.process p).known x ≡ false) × (dead ≡ x) × (u.link x p ≡ [])
    facts =
        stands-notice x (v.dead x) (knows_dead (v.process p).known x) dead (u.link x p)
        (subst (Stands x (v.dead x) (knows_dead (v.process p).known x)) pops.first (members.stands x p xin pin apart lives))

    got : Noticed s dead (v.process p) t p
    got = noticed s dead (v.process p) p (seated v members p pin lives)

    knows_by : (q : ProcessId) → IsProcess s q → q ≢ p → (q ≡ x) ⊎ (q ≢ x) → knows_dead (with_dead (v.process p).known dead) q ≡ true → v.dead q ≡ true
    knows_by q qin other (inl same) knows = ap v.dead same ∙ facts.0
    knows_by q qin other (inr qother) knows = known-dead v members p q pin qin other lives
        (sym (knows-other (v.process p).known dead q (λ same. qother (same ∙ facts.2))) ∙ knows)

    comes_by : (y : ProcessId) → IsProcess s y → y ≢ p → (y ≡ x) ⊎ (y ≢ x) → Stands y (v.dead y) (knows_dead t.process.known y) (w.link y p)
    comes_by y yin other (inr yother) =
        subst (λ (link : List Message). Stands y (v.dead y) (knows_dead t.process.known y) link)
        (sym (link_else v u w x p (tells.Notice dead) t xin pin apart pops acts y p yin pin other (inl yother)))
        (subst (λ (b : Bool). Stands y (v.dead y) b (v.link y p))
        (sym (ap (λ (known : Membership). knows_dead known y) got.known ∙ knows-other (v.process p).known dead y
        (λ same. yother (same ∙ facts.2)))) (members.stands y p yin pin other lives))
    comes_by y yin other (inl same) =
        subst (λ (z : ProcessId). Stands z (v.dead z) (knows_dead t.process.known z) (w.link z p)) (sym same)
        (subst (λ (b : Bool). Stands x b (knows_dead t.process.known x) (w.link x p)) (sym facts.0)
        (subst (λ (b : Bool). Stands x true b (w.link x p))
        (sym (ap (λ (known : Membership). knows_dead known x) got.known
        ∙ ap (knows_dead (with_dead (v.process p).known dead)) (sym facts.2) ∙ knows-with_dead (v.process p).known
        dead))
        (link_here v u w x p (tells.Notice dead) t xin pin apart pops acts ∙ facts.3)))

    ranks_by : (d : ℕ) → d < s.k → (at 0 t.process.ranks d ≡ at 0 (v.process p).ranks d) ⊎ (seat_of t.process d ≡ Some (at 0 t.process.ranks d))
        → Reigns s v d (at 0 t.process.ranks d) ⊎ (seat_of t.process d ≡ Some (at 0 t.process.ranks d))
    ranks_by d below (inl same) = inl (subst (λ (r : ℕ). Reigns s v d r) (sym same) (members.ranks p d pin lives below))
    ranks_by d below (inr seat) = inr seat

    may_in : (y : ProcessId) → IsProcess s y → y ≢ p → (y ≡ x) ⊎ (y ≢ x) → Each (MayStand s v y p) (w.link y p)
    may_in y yin other (inr yother) =
        subst (Each (MayStand s v y p))
        (sym (link_else v u w x p (tells.Notice dead) t xin pin apart pops acts y p yin pin other (inl yother)))
        (members.may y p yin pin other lives)
    may_in y yin other (inl same) =
        subst (λ (z : ProcessId). Each (MayStand s v z p) (w.link z p)) (sym same)
        (subst (Each (MayStand s v x p)) (sym (link_here v u w x p (tells.Notice dead) t xin pin apart pops acts ∙ facts.3)) tt)

  receives : (v u w : State) (x p : ProcessId) (m : Message) → IsProcess s x → IsProcess s p → x ≢ p → IsGroupUp s v → v.dead p ≡ false → Members s v
      → Popped s v u x p m → Acted s u w p (receive s x m (v.process p)) → Members s w
  receives v u w x p (tells.Notice dead) xin pin apart up lives members pops acts = receives_notice v u w x p dead xin pin apart lives members pops acts
  receives v u w x p (tells.Update r d un stable) xin pin apart up lives members pops acts =
      receives_plain v u w x p (tells.Update r d un stable) xin pin apart lives members pops acts refl
  receives v u w x p (tells.Ack r d n) xin pin apart up lives members pops acts =
      receives_plain v u w x p (tells.Ack r d n) xin pin apart lives members pops acts refl
  receives v u w x p (tells.Stable r d n) xin pin apart up lives members pops acts =
      receives_plain v u w x p (tells.Stable r d n) xin pin apart lives members pops acts refl
  receives v u w x p (tells.Adopt r d base list) xin pin apart up lives members pops acts =
      receives_plain v u w x p (tells.Adopt r d base list) xin pin apart lives members pops acts refl
  receives v u w x p (tells.ReadBlock session block rows) xin pin apart up lives members pops acts =
      receives_plain v u w x p (tells.ReadBlock session block rows) xin pin apart lives members pops acts refl
  receives v u w x p (tells.Block session bytes n) xin pin apart up lives members pops acts =
      receives_plain v u w x p (tells.Block session bytes n) xin pin apart lives members pops acts refl
  receives v u w x p (tells.Mark session r block d n) xin pin apart up lives members pops acts =
      receives_plain v u w x p (tells.Mark session r block d n) xin pin apart lives members pops acts refl
  receives v u w x p (tells.Row session bytes stamp) xin pin apart up lives members pops acts =
      receives_plain v u w x p (tells.Row session bytes stamp) xin pin apart lives members pops acts refl
  receives v u w x p (tells.Cease upto) xin pin apart up lives members pops acts =
      receives_plain v u w x p (tells.Cease upto) xin pin apart lives members pops acts refl

  -- a death
  dies : (v w : State) (p : ProcessId) (keep : ℕ) → IsProcess s p → Members s v → Died s v w p keep → Members s w
  dies v w p keep pin members died = record {
    named = λ q qin. ap (λ (y : Process). y.name) (died.processes q qin) ∙ members.named q qin;
    not_self = λ q qin here. ap (λ (y : Process). knows_dead y.known q) (died.processes q qin) ∙ members.not_self q qin (lived q qin here);
    stands = λ x q xin qin apart here. stands_by x q xin qin apart here (same-cases x p);
    sits = λ q d qin here below. subst (λ (y : Process). Sits y d q) (sym (died.processes q qin)) (members.sits q d qin (lived q qin here) below);
    ranks =
        λ q d qin here below. subst (λ (y : Process). Reigns s w d (at 0 y.ranks d)) (sym (died.processes q qin))
        (reigns-on s v w goes d (at 0 (v.process q).ranks d) (members.ranks q d qin (lived q qin here) below));
    may = λ x q xin qin apart here. may_by x q xin qin apart here (same-cases x p);
  } where
    other_than : (q : ProcessId) → w.dead q ≡ false → q ≢ p
    other_than q here same = cc (here, ap w.dead same, died.dead)

    lived : (q : ProcessId) → IsProcess s q → w.dead q ≡ false → v.dead q ≡ false
    lived q qin here = sym (died.others q qin (other_than q here)) ∙ here

    dead_on : (q : ProcessId) → IsProcess s q → (q ≡ p) ⊎ (q ≢ p) → v.dead q ≡ true → w.dead q ≡ true
    dead_on q qin (inl same) was = ap w.dead same ∙ died.dead
    dead_on q qin (inr other) was = died.others q qin other ∙ was

    goes : Goes s v w
    goes = record {
      dead = λ q qin was. dead_on q qin (same-cases q p) was;
      lives = lived;
      seats = λ q d r qin here seat. ap (λ (y : Process). seat_of y d) (died.processes q qin) ∙ seat;
    }

    stands_by : (x q : ProcessId) → IsProcess s x → IsProcess s q → x ≢ q → w.dead q ≡ false → (x ≡ p) ⊎ (x ≢ p)
        → Stands x (w.dead x) (knows_dead (w.process q).known x) (w.link x q)
    stands_by x q xin qin apart here (inr other) =
        subst (λ (b : Bool). Stands x b (knows_dead (w.process q).known x) (w.link x q)) (sym (died.others x xin other))
        (subst (λ (y : Process). Stands x (v.dead x) (knows_dead y.known x) (w.link x q)) (sym (died.processes q qin))
        (subst (λ (link : List Message). Stands x (v.dead x) (knows_dead (v.process q).known x) link)
        (sym (died.links x q xin qin other)) (members.stands x q xin qin apart (lived q qin here))))
    stands_by x q xin qin apart here (inl same) =
        subst (λ (z : ProcessId). Stands z (w.dead z) (knows_dead (w.process q).known z) (w.link z q)) (sym same)
        (subst (λ (b : Bool). Stands p b (knows_dead (w.process q).known p) (w.link p q)) (sym died.dead)
        (subst (λ (b : Bool). Stands p true b (w.link p q)) (sym unknown)
        (record {
          front = take keep (v.link p q);
          is = died.cut q qin;
          plain = each-take (λ m. is_notice m ≡ false) keep
              (v.link p q) (living-plain p (v.dead p) (knows_dead (v.process q).known p) (v.link p q) old died.lived);
        })))
      where
        old : Stands p (v.dead p) (knows_dead (v.process q).known p) (v.link p q)
        old = members.stands p q pin qin (λ e. other_than q here (sym e)) (lived q qin here)

        unknown : knows_dead (w.process q).known p ≡ false
        unknown = ap (λ (y : Process). knows_dead y.known p) (died.processes q qin)
            ∙ living-unknown p (v.dead p) (knows_dead (v.process q).known p) (v.link p q) old died.lived

    may_by : (x q : ProcessId) → IsProcess s x → IsProcess s q → x ≢ q → w.dead q ≡ false → (x ≡ p) ⊎ (x ≢ p) → Each (MayStand s w x q) (w.link x q)
    may_by x q xin qin apart here (inr other) =
        subst (Each (MayStand s w x q)) (sym (died.links x q xin qin other))
        (each-weaker (MayStand s v x q) (MayStand s w x q) (λ m may. may-on s v w goes x q m may) (v.link x q)
        (members.may x q xin qin apart (lived q qin here)))
    may_by x q xin qin apart here (inl same) =
        subst (λ (z : ProcessId). Each (MayStand s w z q) (w.link z q)) (sym same)
        (subst (Each (MayStand s w p q)) (sym (died.cut q qin))
        (each-append (MayStand s w p q) (take keep (v.link p q)) (tells.Notice p ∷ [])
        (each-take (MayStand s w p q) keep (v.link p q)
        (each-weaker (MayStand s v p q) (MayStand s w p q) (λ m may. may-on s v w goes p q m may) (v.link p q)
        (members.may p q pin qin (λ e. other_than q here (sym e)) (lived q qin here))))
        (tt, tt)))

  pub keeps : Keeps s (Members s)
  keeps = record { opens = opens; treats = treats; receives = receives; dies = dies }

-- the members of every run
pub members_always : MembersAlways
members_always s es run = holds_always s (Members s) (keeps s run.0) es run
