-- What a process makes of each message but a notice: its name, its known dead and its seats stay, and only an
-- adoption changes a rank.
use Rattle.std.proofs.Common.{ℕ, ◌≡◌, ◌≢◌, ◌≤◌, ◌+◌, ◌==◌, nat_le, Bool, true, false, List, length, Option, Some, None}
use Rattle.std.proofs.Common.{◌⊎◌, inl, inr, refl, sym, ap, subst, ◌∙◌, if◌then◌else◌, arith}
use Rattle.std.proofs.lemmas.Bool.{cases_eq}
use Rattle.std.proofs.lemmas.Grind.{common_steps}
use Rattle.std.specs.Prelude.{option_map}
use Rattle.group_types.specs.Dimensions.{Dimensions}
use Rattle.group_types.specs.Lists.{at, put}
use Rattle.group_types.specs.Names.{IsProcess}
use Rattle.group_types.specs.declared.process.ProcessId.{ProcessId}
use Rattle.group_types.specs.declared.process.ProcessId.TheVariants.{DataNode, ParityNode}
use Rattle.group_types.proofs.Lists.{at-put, at-put-other}
use Rattle.group_types.proofs.Eaches.{each-all, each-map}
use Rattle.group_message.specs.declared.message.Message.{Message}
use Rattle.group_message.specs.declared.message.Message.TheVariants as tells
use Rattle.group_message.specs.declared.message.Session.{Session}
use Rattle.group_message.specs.declared.update.Update.{Update}
use Rattle.group_run.specs.Applying.{ProcessStep, head_at, quiet, replica_of, when, with_head}
use Rattle.group_run.specs.Heading.{acknowledge, acknowledged, judge, partition, rank}
use Rattle.group_run.specs.Process.{Head, Process}
use Rattle.group_run.specs.Receiving.{ack_to, log_adopted, read_comes, receive, update_taken}
use Rattle.group_run.specs.Rows.{parity_number}
use Rattle.law_moves.proofs.Members.{IsData, IsParity, seat_of}
use Rattle.law_moves.specs.Known.{is_notice}
use Rattle.law_moves.proofs.Calls.{Seated, seat-head}
use Rattle.law_moves.proofs.Cores.{MaySend, SameCore, SentWell, Step, core-refl, step-from, step-judge, step-mark, step-quiet, step-when}

-- the acknowledgement that a message asks for
abbrev pub DueTo : ProcessId → Message → ProcessId → ℕ → ℕ → Type 0
DueTo x (tells.Update r d u stable) to rank part = (to ≡ x) × (rank ≡ r.0) × (part ≡ d.0)
DueTo x (tells.Adopt r d base list) to rank part = (to ≡ x) × (rank ≡ r.0) × (part ≡ d.0)
DueTo x _ to rank part = ⊥

-- a rank of partition d that an adoption brings
abbrev pub Brings : Message → ℕ → ℕ → ℕ → Type 0
Brings (tells.Adopt r e base list) d old new = (d ≡ e.0) × (new ≡ r.0) × (old ≤ new)
Brings _ d old new = ⊥

-- what a message other than a notice leaves
pub record Received (k : ℕ) (x : ProcessId) (m : Message) (p : Process) (t : ProcessStep) : Type 0 where
  pub name : t.process.name ≡ p.name
  pub known : t.process.known ≡ p.known
  pub seats : (d : ℕ) → seat_of t.process d ≡ seat_of p d
  pub ranks : (d : ℕ) → (at 0 t.process.ranks d ≡ at 0 p.ranks d) ⊎ Brings m d (at 0 p.ranks d) (at 0 t.process.ranks d)
  pub sent : SentWell (DueTo x m) k t.process t.sent

module _ (s : Dimensions) (x : ProcessId) where
  by-step : (m : Message) (p : Process) (t : ProcessStep) → Step (DueTo x m) s.k p t → Received s.k x m p t
  by-step m p t step = record {
    name = step.same.name;
    known = step.same.known;
    seats = step.same.seats;
    ranks = λ d. inl (ap (λ (ranks : List ℕ). at 0 ranks d) step.same.ranks);
    sent = step.sent;
  }

  still : (m : Message) (p q : Process) → SameCore p q → Received s.k x m p (quiet q)
  still m p q same = by-step m p (quiet q) (step-quiet (DueTo x m) s.k p q same)

  -- an acknowledgement is put, and judged
  core-acknowledged : (p : Process) (i d n : ℕ) (h : Head) → head_at p d ≡ Some h → SameCore p (with_head d (Some (acknowledged i n h)) p)
  core-acknowledged p i d n h heads = record { name = refl; known = refl; ranks = refl; seats = λ e. seat e (cases_eq e d) } where
    seat : (e : ℕ) → (e ≡ d) ⊎ (e ≢ d) → seat_of (with_head d (Some (acknowledged i n h)) p) e ≡ seat_of p e
    seat e (inr other) = ap (option_map (λ (y : Head). y.rank)) (at-put-other None p.heads d e (Some (acknowledged i n h)) other)
    seat e (inl same) =
        ap (λ (y : ℕ). seat_of (with_head d (Some (acknowledged i n h)) p) y) same
        ∙ ap (option_map (λ (y : Head). y.rank)) (at-put None None p.heads d (Some (acknowledged i n h)))
        ∙ sym (seat-head p d h heads) ∙ ap (seat_of p) (sym same)

  acked : (m : Message) (p : Process) (i r d n : ℕ) (h : Option Head) → head_at p d ≡ h → Received s.k x m p (acknowledge s i r d n h p)
  acked m p i r d n None heads = still m p p (core-refl p)
  acked m p i r d n (Some h) heads =
      let q : Process = with_head d (Some (acknowledged i n h)) p in
      by-step m p (when (r == h.rank) p (judge s d q))
      (step-when (DueTo x m) s.k (r == h.rank) p (judge s d q)
      (step-from (DueTo x m) s.k p q (judge s d q) (core-acknowledged p i d n h heads)
      (step-judge (DueTo x m) s.k s d q)))

  -- a new head's log: the rank is its rank, unless that is lower
  adopted : (b : Bool) (p : Process) (r d base : ℕ) (list : List Update) → nat_le (at 0 p.ranks d) r ≡ b
      → Received s.k x (tells.Adopt (rank r) (partition d) base list) p (when b p (ack_to x r d (base + length list) (log_adopted s r d base list p)))
  adopted false p r d base list stale = still (tells.Adopt (rank r) (partition d) base list) p p (core-refl p)
  adopted true p r d base list current = record {
    name = refl;
    known = refl;
    seats = λ e. refl;
    ranks = λ e. new_rank e (cases_eq e d);
    sent = ((refl, refl, refl), tt);
  } where
    risen : at 0 p.ranks d ≤ r
    risen = grind (arith, common_steps)

    here : at 0 (put 0 p.ranks d r) d ≡ r
    here = at-put 0 0 p.ranks d r

    new_rank : (e : ℕ) → (e ≡ d) ⊎ (e ≢ d) → (at 0 (put 0 p.ranks d r) e ≡ at 0 p.ranks e)
        ⊎ ((e ≡ d) × (at 0 (put 0 p.ranks d r) e ≡ r) × (at 0 p.ranks e ≤ at 0 (put 0 p.ranks d r) e))
    new_rank e (inr other) = inl (at-put-other 0 p.ranks d e r other)
    new_rank e (inl same) =
        let now : at 0 (put 0 p.ranks d r) e ≡ r = ap (at 0 (put 0 p.ranks d r)) same ∙ here in
        let before : at 0 p.ranks e ≡ at 0 p.ranks d = ap (at 0 p.ranks) same in
        inr (same, now, omega (arith, now, before, risen))

  -- a leader asks for a block, and gets it and the marks
  read : (m : Message) (p : Process) (y : ProcessId) (session : Session) (block : ℕ) (rows : List ℕ) → p.name ≡ y → IsProcess s y → Seated s p y
      → IsParity session.leader → Received s.k x m p (read_comes s session block rows p y)
  read m p (ParityNode i) session block rows name inside seated leader = still m p p (core-refl p)
  read m p (DataNode d) session block rows name inside seated leader = by-step m p (read_comes s session block rows p (DataNode d)) (record {
    same = core-refl p;
    sent = (
      (refl, subst IsData (sym name) tt, leader),
      each-map (λ z. MaySend (DueTo x m) s.k p z.to z.message)
          (λ i. record {
            to = ParityNode i;
            message = tells.Mark session (rank 0) block (partition d)
                (replica_of p d).applied;
          }) rows
          (each-all (λ i. MaySend (DueTo x m) s.k p (ParityNode i)
          (tells.Mark session (rank 0) block (partition d) (replica_of p d).applied))
          (λ i. (inside, seat, (λ above. absurd (omega (arith, above))), tt)) rows),
    );
  }) where
    own : (d == d) ≡ true
    own = grind (arith, common_steps)

    seat : seat_of p d ≡ Some 0
    seat = (seated.sits d inside).0 ∙ ap (λ (b : Bool). if b then Some 0 else None) own

  -- a mark comes to a row, and a question is of a parity process
  abbrev pub MarksRow : Message → ProcessId → Type 0
  MarksRow (tells.Mark session r block d n) y = IsParity y
  MarksRow (tells.ReadBlock session block rows) y = IsParity session.leader
  MarksRow _ y = Unit {0}

  -- every message but a notice
  pub received : (y : ProcessId) (m : Message) (p : Process) → is_notice m ≡ false → IsProcess s y → Seated s p y
      → MarksRow m y → Received s.k x m p (receive s x m p)
  received y (tells.Update r d u stable) p plain inside seated marks =
      by-step (tells.Update r d u stable) p (receive s x (tells.Update r d u stable) p)
      (step-when (DueTo x (tells.Update r d u stable)) s.k (nat_le (at 0 p.ranks d.0) r.0) p (ack_to x r.0 d.0 u.number (update_taken s d.0 u stable p))
      (record { same = record { name = refl; known = refl; ranks = refl; seats = λ e. refl }; sent = ((refl, refl, refl), tt) }))
  received y (tells.Stable r d n) p plain inside seated marks =
      by-step (tells.Stable r d n) p (receive s x (tells.Stable r d n) p)
      (step-when (DueTo x (tells.Stable r d n)) s.k (nat_le (at 0 p.ranks d.0) r.0) p _
      (step-quiet (DueTo x (tells.Stable r d n)) s.k p _
      (record { name = refl; known = refl; ranks = refl; seats = λ e. refl })))
  received y (tells.Adopt r d base list) p plain inside seated marks = adopted (nat_le (at 0 p.ranks d.0) r.0) p r.0 d.0 base list refl
  received y (tells.Ack r d n) p plain inside seated marks = from_ack x refl where
    from_ack : (z : ProcessId) → x ≡ z → Received s.k x (tells.Ack r d n) p (receive s z (tells.Ack r d n) p)
    from_ack (DataNode e) is = still (tells.Ack r d n) p p (core-refl p)
    from_ack (ParityNode i) is = acked (tells.Ack r d n) p i r.0 d.0 n (head_at p d.0) refl
  received y (tells.ReadBlock session block rows) p plain inside seated marks =
      subst (λ (z : ProcessId). Received s.k x (tells.ReadBlock session block rows) p (read_comes s session block rows p z)) (sym seated.name)
      (read (tells.ReadBlock session block rows) p y session block rows seated.name inside seated marks)
  received y (tells.Block session bytes n) p plain inside seated marks = from_block x where
    from_block : (z : ProcessId) → Received s.k x (tells.Block session bytes n) p (receive s z (tells.Block session bytes n) p)
    from_block (DataNode e) = still (tells.Block session bytes n) p _ (record { name = refl; known = refl; ranks = refl; seats = λ e. refl })
    from_block (ParityNode i) = still (tells.Block session bytes n) p p (core-refl p)
  received y (tells.Mark session r block d n) p plain inside seated marks =
      by-step (tells.Mark session r block d n) p (receive s x (tells.Mark session r block d n) p)
      (step-mark (DueTo x (tells.Mark session r block d n)) s.k s (parity_number session.leader) session.number r.0
      block d.0 n p (subst IsParity (sym seated.name) marks))
  received y (tells.Row session bytes stamp) p plain inside seated marks = from_row x where
    from_row : (z : ProcessId) → Received s.k x (tells.Row session bytes stamp) p (receive s z (tells.Row session bytes stamp) p)
    from_row (DataNode e) = still (tells.Row session bytes stamp) p p (core-refl p)
    from_row (ParityNode i) = still (tells.Row session bytes stamp) p _ (record { name = refl; known = refl; ranks = refl; seats = λ e. refl })
  received y (tells.Cease upto) p plain inside seated marks = from_cease x where
    from_cease : (z : ProcessId) → Received s.k x (tells.Cease upto) p (receive s z (tells.Cease upto) p)
    from_cease (DataNode e) = still (tells.Cease upto) p p (core-refl p)
    from_cease (ParityNode i) = still (tells.Cease upto) p _ (record { name = refl; known = refl; ranks = refl; seats = λ e. refl })
  received y (tells.Notice dead) p plain inside seated marks = absurd (cc plain)
