-- Steps that leave a process's name, its known dead, its ranks and its seats, and what they send.
use Rattle.std.proofs.Common.{ℕ, ◌≡◌, ◌<◌, Bool, true, false, List, [], ◌∷◌, Option, Some, None, refl, sym, subst, ◌∙◌}
use Rattle.std.specs.Prelude.{is_some}
use Rattle.group_types.specs.Dimensions.{Dimensions}
use Rattle.group_types.specs.Names.{same_process}
use Rattle.group_types.specs.declared.process.ProcessId.{ProcessId}
use Rattle.group_types.specs.declared.process.ProcessId.TheVariants.{ParityNode}
use Rattle.group_types.specs.Each.{Each}
use Rattle.group_types.proofs.Eaches.{each-append, each-weaker, each-all, each-map}
use Rattle.group_message.specs.declared.message.Message.{Message}
use Rattle.group_message.specs.declared.message.Message.TheVariants as tells
use Rattle.group_run.specs.Applying.{ProcessStep, Sent, and_then, for_each, head_at, quiet, when, apply_to}
use Rattle.group_run.specs.Heading.{judge, judge_head, other_parities, to_others}
use Rattle.group_run.specs.Leaders.{copy_kept, copy_marked, mark_comes, mark_taken, row_finished}
use Rattle.group_run.specs.Process.{Copy, Head, Process}
use Rattle.group_run.specs.Rows.{accepts_mark, begin_copy, copy_begun, copy_in, is_marked, marked, with_copies, without_copy}
use Rattle.law_moves.proofs.Members.{IsData, IsParity, seat_of}

-- the parts of a process that say what it is among the members
pub record SameCore (p q : Process) : Type 0 where
  pub name : q.name ≡ p.name
  pub known : q.known ≡ p.known
  pub ranks : q.ranks ≡ p.ranks
  pub seats : (d : ℕ) → seat_of q d ≡ seat_of p d

pub core-refl : (p : Process) → SameCore p p
core-refl p = record { name = refl; known = refl; ranks = refl; seats = λ d. refl }

pub core-trans : {p q r : Process} → SameCore p q → SameCore q r → SameCore p r
core-trans a b = record { name = b.name ∙ a.name; known = b.known ∙ a.known; ranks = b.ranks ∙ a.ranks; seats = λ d. b.seats d ∙ a.seats d }

-- a message that a process may send
abbrev pub MaySend : (ProcessId → ℕ → ℕ → Type 0) → ℕ → Process → ProcessId → Message → Type 0
MaySend due k p to (tells.Update r d u stable) = (d.0 < k) × (seat_of p d.0 ≡ Some r.0) × IsParity to
MaySend due k p to (tells.Stable r d n) = (d.0 < k) × (seat_of p d.0 ≡ Some r.0) × IsParity to
MaySend due k p to (tells.Adopt r d base list) = (d.0 < k) × (seat_of p d.0 ≡ Some r.0) × (0 < r.0) × IsParity to
MaySend due k p to (tells.Ack r d n) = due to r.0 d.0
MaySend due k p to (tells.Mark session r block d n) = (d.0 < k) × (seat_of p d.0 ≡ Some r.0) × (0 < r.0 → session.leader ≡ p.name) × IsParity to
MaySend due k p to (tells.ReadBlock session block rows) = (session.leader ≡ p.name) × IsParity p.name × IsData to
MaySend due k p to (tells.Block session bytes n) = (session.leader ≡ to) × IsData p.name × IsParity to
MaySend due k p to (tells.Row session bytes stamp) = (session.leader ≡ to) × IsParity p.name × IsParity to
MaySend due k p to (tells.Cease upto) = IsParity to
MaySend due k p to (tells.Notice dead) = ⊥

-- each message of a step may be sent by the process that it leaves
abbrev pub SentWell : (ProcessId → ℕ → ℕ → Type 0) → ℕ → Process → List Sent → Type 0
SentWell due k p sent = Each (λ z. MaySend due k p z.to z.message) sent

-- seats that are taken stay, and so do names: then what might be sent still may
pub record KeepsSeats (p q : Process) : Type 0 where
  pub name : q.name ≡ p.name
  pub seats : (d r : ℕ) → seat_of p d ≡ Some r → seat_of q d ≡ Some r

pub keeps-core : {p q : Process} → SameCore p q → KeepsSeats p q
keeps-core same = record { name = same.name; seats = λ d r sits. same.seats d ∙ sits }

pub may-kept : (due : ProcessId → ℕ → ℕ → Type 0) (k : ℕ) (p q : Process) → KeepsSeats p q
    → (to : ProcessId) (m : Message) → MaySend due k p to m → MaySend due k q to m
may-kept due k p q keeps to (tells.Update r d u stable) may = (may.0, keeps.seats d.0 r.0 may.1, may.2)
may-kept due k p q keeps to (tells.Stable r d n) may = (may.0, keeps.seats d.0 r.0 may.1, may.2)
may-kept due k p q keeps to (tells.Adopt r d base list) may = (may.0, keeps.seats d.0 r.0 may.1, may.2, may.3)
may-kept due k p q keeps to (tells.Ack r d n) may = may
may-kept due k p q keeps to (tells.Mark session r block d n) may = (may.0, keeps.seats d.0 r.0 may.1, (λ above. may.2 above ∙ sym keeps.name), may.3)
may-kept due k p q keeps to (tells.ReadBlock session block rows) may = (may.0 ∙ sym keeps.name, subst IsParity (sym keeps.name) may.1, may.2)
may-kept due k p q keeps to (tells.Block session bytes n) may = (may.0, subst IsData (sym keeps.name) may.1, may.2)
may-kept due k p q keeps to (tells.Row session bytes stamp) may = (may.0, subst IsParity (sym keeps.name) may.1, may.2)
may-kept due k p q keeps to (tells.Cease upto) may = may
may-kept due k p q keeps to (tells.Notice dead) may = may

module _ (due : ProcessId → ℕ → ℕ → Type 0) (k : ℕ) where
  pub sent-kept : (p q : Process) → KeepsSeats p q → (sent : List Sent) → SentWell due k p sent → SentWell due k q sent
  sent-kept p q keeps sent well = each-weaker (λ z. MaySend due k p z.to z.message)
      (λ z. MaySend due k q z.to z.message) (λ z may. may-kept due k p q keeps z.to z.message may) sent well

  -- a step that leaves the core, and sends what it may
  pub record Step (p : Process) (t : ProcessStep) : Type 0 where
    pub same : SameCore p t.process
    pub sent : SentWell due k t.process t.sent

  pub step-quiet : (p q : Process) → SameCore p q → Step p (quiet q)
  step-quiet p q same = record { same = same; sent = tt }

  pub step-then : (p : Process) (a : ProcessStep) (f : Process → ProcessStep) → Step p a → Step a.process (f a.process) → Step p (and_then a f)
  step-then p a f first next = record {
    same = core-trans first.same next.same;
    sent = each-append (λ z. MaySend due k (f a.process).process z.to z.message) a.sent (f a.process).sent
        (sent-kept a.process (f a.process).process (keeps-core next.same) a.sent first.sent) next.sent;
  }

  pub step-each : (xs : List ℕ) (f : ℕ → Process → ProcessStep) (p : Process)
      → Each (λ x. (q : Process) → SameCore p q → Step q (f x q)) xs → Step p (for_each xs f p)
  step-each [] f p each = step-quiet p p (core-refl p)
  step-each (x ∷ xs) f p each =
      let here : Step p (f x p) = each.0 p (core-refl p) in
      step-then p (f x p) (for_each xs f) here
      (step-each xs f (f x p).process (each-weaker (λ y. (q : Process) → SameCore p q → Step q (f y q))
      (λ y. (q : Process) → SameCore (f x p).process q → Step q (f y q))
      (λ y steps q same. steps q (core-trans here.same same)) xs each.1))

  pub step-when : (b : Bool) (p : Process) (t : ProcessStep) → Step p t → Step p (when b p t)
  step-when true p t step = step
  step-when false p t step = step-quiet p p (core-refl p)

  -- a step from a process with the same core
  pub step-from : (p q : Process) (t : ProcessStep) → SameCore p q → Step q t → Step p t
  step-from p q t same step = record { same = core-trans same step.same; sent = step.sent }

  step-judge_head : (s : Dimensions) (d : ℕ) (p : Process) (h : Option Head) → Step p (judge_head s d p h)
  step-judge_head s d p None = step-quiet p p (core-refl p)
  step-judge_head s d p (Some h) = record { same = record { name = refl; known = refl; ranks = refl; seats = λ e. refl }; sent = tt }

  pub step-judge : (s : Dimensions) (d : ℕ) (p : Process) → Step p (judge s d p)
  step-judge s d p = step-judge_head s d p (head_at p d)

  -- a message to the other parity processes
  pub sent-others : (s : Dimensions) (p q : Process) (m : Message) → ((i : ℕ) → MaySend due k q (ParityNode i) m) → SentWell due k q (to_others s p m)
  sent-others s p q m may = each-map (λ z. MaySend due k q z.to z.message) (λ i. record { to = ParityNode i; message = m }) (other_parities s.m p.name p.known)
      (each-all (λ i. MaySend due k q (ParityNode i) m) may (other_parities s.m p.name p.known))

  -- a row takes a mark
  step-row_finished : (b : Bool) (s : Dimensions) (copy : Copy) (p : Process) → IsParity p.name → Step p (row_finished b s copy p)
  step-row_finished true s copy p parity = step-quiet p _ (record { name = refl; known = refl; ranks = refl; seats = λ e. refl })
  step-row_finished false s copy p parity = record { same = core-refl p; sent = ((refl, parity, tt), tt) }

  step-copy_kept : (b : Bool) (s : Dimensions) (copy : Copy) (p : Process) → IsParity p.name → Step p (copy_kept b s copy p)
  step-copy_kept true s copy p parity =
      let q : Process = with_copies (without_copy copy.leader copy.number p.as_row.copies) p in
      step-from p q (row_finished (same_process p.name (ParityNode copy.leader)) s copy q)
      (record { name = refl; known = refl; ranks = refl; seats = λ e. refl })
      (step-row_finished (same_process p.name (ParityNode copy.leader)) s copy q parity)
  step-copy_kept false s copy p parity = step-quiet p _ (record { name = refl; known = refl; ranks = refl; seats = λ e. refl })

  step-copy_marked : (s : Dimensions) (d n : ℕ) (copy : Option Copy) (p : Process) → IsParity p.name → Step p (copy_marked s d n copy p)
  step-copy_marked s d n None p parity = step-quiet p p (core-refl p)
  step-copy_marked s d n (Some copy) p parity = step-copy_kept (is_marked s (marked d n copy)) s (marked d n copy) p parity

  core-begin : (b : Bool) (s : Dimensions) (leader number block : ℕ) (p : Process) → SameCore p (copy_begun b s leader number block p)
  core-begin true s leader number block p = core-refl p
  core-begin false s leader number block p = record { name = refl; known = refl; ranks = refl; seats = λ e. refl }

  pub step-mark : (s : Dimensions) (leader number r block d n : ℕ) (p : Process) → IsParity p.name → Step p (mark_comes s leader number r block d n p)
  step-mark s leader number r block d n p parity =
      let begun : Process = begin_copy s leader number block p in
      let began : SameCore p begun = core-begin (is_some (copy_in p.as_row.copies leader number)) s leader number block p in
      let q : Process = apply_to s d n begun in
      let applied : SameCore p q = core-trans began (record { name = refl; known = refl; ranks = refl; seats = λ e. refl }) in
      step-when (accepts_mark p leader number r d) p (mark_taken s leader number block d n p)
      (step-from p q (copy_marked s d n (copy_in q.as_row.copies leader number) q) applied
      (step-copy_marked s d n (copy_in q.as_row.copies leader number) q (subst IsParity (sym applied.name) parity)))
