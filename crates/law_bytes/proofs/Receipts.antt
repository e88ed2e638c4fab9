-- Messages that a process receives leave its bytes right.
use Rattle.std.proofs.Common.{◌≡◌, ◌≢◌, ℕ, ◌+◌, ◌<◌, ◌≤◌, ◌==◌, ◌&&◌, nat_le, Bool, true, false, not, List, length}
use Rattle.std.proofs.Common.{Option, Some, None, ◌⊎◌, inl, inr, sym, ap, subst, ◌∙◌, refl}
use Rattle.std.proofs.lemmas.Bool.{cases_eq}
use Rattle.group_types.specs.Dimensions.{Dimensions}
use Rattle.group_types.specs.Lists.{at, put}
use Rattle.group_types.specs.declared.process.ProcessId.{ProcessId}
use Rattle.group_types.specs.declared.process.ProcessId.TheVariants.{DataNode, ParityNode}
use Rattle.group_types.proofs.Lists.{at-put, at-put-other}
use Rattle.group_types.proofs.Eaches.{each-filter}
use Rattle.group_message.specs.declared.message.Message.{Message}
use Rattle.group_message.specs.declared.message.Message.TheVariants as tells
use Rattle.group_message.specs.declared.message.Session.{Session}
use Rattle.group_message.specs.declared.update.Update.{Update}
use Rattle.group_run.specs.Applying.{apply_to, head_at, quiet, replica_of, when, with_head, with_replica}
use Rattle.group_run.specs.Heading.{acknowledge, acknowledged, judge}
use Rattle.group_run.specs.Leaders.{open_session}
use Rattle.group_run.specs.Process.{Head, Process}
use Rattle.group_run.specs.Receiving.{ack_to, adopting, log_adopted, read_comes, receive, update_taken, with_rank}
use Rattle.group_run.specs.Replica.{Replica, empty_replica, with_update}
use Rattle.group_run.specs.Rows.{copies_ceased, parity_number}
use Rattle.law_bytes.specs.Held.{CopyHolds}
use Rattle.law_bytes.proofs.Premises.{AppliesSettled, GoesOn, MarksNew}
use Rattle.law_bytes.proofs.Applying.{Holding}
use Rattle.law_bytes.proofs.Copies.{holding-leader, holding-same, stays-block, stays-row}
use Rattle.law_bytes.proofs.Marking.{mark-received}
use Rattle.law_bytes.proofs.Stepping.{Ready, apply-keeps, good-judge, good-notice}
use Rattle.law_bytes.proofs.Values.{Concerns}
use Rattle.law_bytes.specs.Areas.{SettledWrite}

-- the partition of a message concerns its receiver
abbrev pub Addresses : Dimensions → Message → ProcessId → Type 0
Addresses s (tells.Update r d u stable) name = Concerns s name d.0 × (d.0 < s.k)
Addresses s (tells.Stable r d n) name = Concerns s name d.0 × (d.0 < s.k)
Addresses s (tells.Adopt r d base list) name = Concerns s name d.0 × (d.0 < s.k)
Addresses s (tells.Ack r d n) name = d.0 < s.k
Addresses s (tells.Mark session r block d n) name = Concerns s name d.0 × (d.0 < s.k)
Addresses s _ name = Unit {0}

module _ (s : Dimensions) (settled : ℕ → List Update) (write : SettledWrite s settled) (old : ℕ → ℕ → Bool) where
  -- another log of a partition
  log-holds : (d : ℕ) (r : Replica) (p : Process) → r.applied ≡ (replica_of p d).applied → Holding s settled old p → Holding s settled old (with_replica d r p)
  log-holds d r p same holding =
      holding-same s settled old p (with_replica d r p)
      (record { stand = record { name = refl; applied = λ e. applied e (cases_eq e d) }; space = refl; rebuilt = λ e b. refl }) holding.copies holding where
        applied : (e : ℕ) → (e ≡ d) ⊎ (e ≢ d) → (at empty_replica (put empty_replica p.replicas d r) e).applied ≡ (replica_of p e).applied
        applied e (inr other) = ap (λ (x : Replica). x.applied) (at-put-other empty_replica p.replicas d e r other)
        applied e (inl here) =
            ap (λ (j : ℕ). (at empty_replica (put empty_replica p.replicas d r) j).applied) here
            ∙ ap (λ (x : Replica). x.applied) (at-put empty_replica empty_replica p.replicas d r) ∙ same ∙ ap (λ (j : ℕ). (replica_of p j).applied) (sym here)

  log-applied : (d : ℕ) (r : Replica) (p : Process) → (replica_of (with_replica d r p) d).applied ≡ r.applied
  log-applied d r p = ap (λ (x : Replica). x.applied) (at-put empty_replica empty_replica p.replicas d r)

  -- a partition is applied up to a number, and then its log is another
  applied-holds : (d n : ℕ) (p : Process) (r : Replica) → Concerns s p.name d → d < s.k
      → GoesOn (settled d) (replica_of p d) → r.applied ≡ (replica_of (apply_to s d n p) d).applied
      → (replica_of (with_replica d r (apply_to s d n p)) d).applied ≤ length (settled d) → Holding s settled old p
      → Holding s settled old (with_replica d r (apply_to s d n p))
  applied-holds d n p r concerns below goes same within holding =
      log-holds d r (apply_to s d n p) same
      (apply-keeps s settled write old p d n concerns below
      (subst (λ (k : ℕ). k ≤ length (settled d)) (log-applied d r (apply_to s d n p) ∙ same) within) goes holding)

  -- an acknowledgement is put, and judged
  acknowledged-holds : (p : Process) (i r d n : ℕ) (o : Option Head) → head_at p d ≡ o → d < s.k → Ready s settled p
      → ((e : ℕ) → e < s.k → (replica_of (acknowledge s i r d n o p).process e).applied ≤ length (settled e))
      → Holding s settled old p → Holding s settled old (acknowledge s i r d n o p).process
  acknowledged-holds p i r d n None heads below ready final holding = holding
  acknowledged-holds p i r d n (Some h) heads below ready final holding = by (r == h.rank) final where
    q : Process
    q = with_head d (Some (acknowledged i n h)) p

    q_ready : Ready s settled q
    q_ready = record { goes = ready.goes; own = λ e g low is. own e g low is (cases_eq e d) } where
      own : (e : ℕ) (g : Head) → e < s.k → at None (put None p.heads d (Some (acknowledged i n h))) e ≡ Some g → (e ≡ d) ⊎ (e ≢ d) → Concerns s p.name e
      own e g low is (inl here) = subst (Concerns s p.name) (sym here) (ready.own d h below heads)
      own e g low is (inr other) = ready.own e g low (sym (at-put-other None p.heads d e (Some (acknowledged i n h)) other) ∙ is)

    q_holds : Holding s settled old q
    q_holds = holding-same s settled old p q
        (record { stand = record { name = refl; applied = λ e. refl }; space = refl; rebuilt = λ e b. refl })
        holding.copies holding

    by : (b : Bool) → ((e : ℕ) → e < s.k → (replica_of (when b p (judge s d q)).process e).applied ≤ length (settled e))
        → Holding s settled old (when b p (judge s d q)).process
    by true last = (good-judge s settled write old d below q).holds last q_ready q_holds
    by false last = holding

  read-same : (session : Session) (block : ℕ) (rows : List ℕ) (p : Process) (name : ProcessId) → (read_comes s session block rows p name).process ≡ p
  read-same session block rows p (DataNode d) = refl
  read-same session block rows p (ParityNode i) = refl

  pub received-holds : (x : ProcessId) (m : Message) (p : Process) → Addresses s m p.name → Ready s settled p
      → MarksNew m p → AppliesSettled s settled p (receive s x m p)
      → Holding s settled old p → Holding s settled old (receive s x m p).process
  received-holds x (tells.Update r d u stable) p to ready marks applies holding = by (nat_le (at 0 p.ranks d.0) r.0) (applies.within d.0 to.1) where
    q : Process
    q = apply_to s d.0 stable p

    by : (b : Bool) → (replica_of (when b p (ack_to x r.0 d.0 u.number (update_taken s d.0 u stable p))).process d.0).applied ≤ length (settled d.0)
        → Holding s settled old (when b p (ack_to x r.0 d.0 u.number (update_taken s d.0 u stable p))).process
    by false last = holding
    by true last = applied-holds d.0 stable p (with_update u (replica_of q d.0)) to.0 to.1 (ready.goes d.0 to.1) refl last holding
  received-holds x (tells.Stable r d n) p to ready marks applies holding = by (nat_le (at 0 p.ranks d.0) r.0) (applies.within d.0 to.1) where
    by : (b : Bool) → (replica_of (when b p (quiet (apply_to s d.0 n p))).process d.0).applied ≤ length (settled d.0)
        → Holding s settled old (when b p (quiet (apply_to s d.0 n p))).process
    by false last = holding
    by true last = apply-keeps s settled write old p d.0 n to.0 to.1 last (ready.goes d.0 to.1) holding
  received-holds x (tells.Adopt r d base list) p to ready marks applies holding = by (nat_le (at 0 p.ranks d.0) r.0) (applies.within d.0 to.1) where
    ranked : Process
    ranked = with_rank d.0 r.0 p

    q : Process
    q = apply_to s d.0 base ranked

    ranked_holds : Holding s settled old ranked
    ranked_holds =
        holding-same s settled old p ranked
        (record { stand = record { name = refl; applied = λ e. refl }; space = refl; rebuilt = λ e b. refl })
        holding.copies holding

    by : (b : Bool)
        → (replica_of (when b p (ack_to x r.0 d.0 (base + length list) (log_adopted s r.0 d.0 base list p))).process
        d.0).applied ≤ length (settled d.0)
        → Holding s settled old (when b p (ack_to x r.0 d.0 (base + length list) (log_adopted s r.0 d.0 base list p))).process
    by false last = holding
    by true last = applied-holds d.0 base ranked (adopting base list (replica_of q d.0)) to.0 to.1 (ready.goes d.0 to.1) refl last ranked_holds
  received-holds (DataNode e) (tells.Ack r d n) p to ready marks applies holding = holding
  received-holds (ParityNode i) (tells.Ack r d n) p to ready marks applies holding =
      acknowledged-holds p i r.0 d.0 n (head_at p d.0) refl to ready applies.within holding
  received-holds x (tells.ReadBlock session block rows) p to ready marks applies holding =
      subst (Holding s settled old) (sym (read-same session block rows p p.name)) holding
  received-holds (DataNode e) (tells.Block session bytes n) p to ready marks applies holding =
      holding-leader s settled old p _ (stays-block s e bytes (open_session p.as_leader session.number) p.as_leader) holding
  received-holds (ParityNode i) (tells.Block session bytes n) p to ready marks applies holding = holding
  received-holds x (tells.Mark session r block d n) p to ready marks applies holding =
      mark-received s settled old write p (parity_number session.leader) session.number r.0 block d.0 n to.0 to.1
      (ready.goes d.0 to.1) marks (applies.within d.0 to.1) holding
  received-holds (DataNode e) (tells.Row session bytes stamp) p to ready marks applies holding = holding
  received-holds (ParityNode i) (tells.Row session bytes stamp) p to ready marks applies holding =
      holding-leader s settled old p _ (stays-row s i bytes (open_session p.as_leader session.number) p.as_leader) holding
  received-holds (DataNode e) (tells.Cease upto) p to ready marks applies holding = holding
  received-holds (ParityNode i) (tells.Cease upto) p to ready marks applies holding =
      holding-same s settled old p (copies_ceased i upto p)
      (record { stand = record { name = refl; applied = λ e. refl }; space = refl; rebuilt = λ e b. refl })
      (each-filter (CopyHolds s settled p) (λ c. not (c.leader == i && nat_le c.number upto)) p.as_row.copies holding.copies) holding
  received-holds x (tells.Notice dead) p to ready marks applies holding = (good-notice s settled write old dead p).holds applies.within ready holding
