-- What a process makes of each message that comes to it, and of each call.
use Rattle.std.proofs.Common.{◌≡◌, ℕ, suc, ◌+◌, ◌<◌, nat_le, true, false, [], ◌∷◌, length, None, inl, inr, refl, sym, subst, ◌∙◌, arith}
use Rattle.std.specs.List.{list_all, range_with_len}
use Rattle.group_types.specs.Dimensions.{Dimensions}
use Rattle.group_types.specs.Lists.{at}
use Rattle.group_types.specs.Names.{IsProcess}
use Rattle.group_types.specs.declared.process.ProcessId.{ProcessId}
use Rattle.group_types.specs.declared.process.ProcessId.TheVariants.{DataNode, ParityNode}
use Rattle.membership.specs.Members.{knows_dead}
use Rattle.group_message.specs.declared.message.Message.{Message}
use Rattle.group_message.specs.declared.message.Message.TheVariants as tells
use Rattle.group_run.specs.Applying.{ProcessStep, apply_to, head_at, quiet, replica_of, with_replica}
use Rattle.group_run.specs.Leaders.{mark_comes}
use Rattle.group_run.specs.Process.{Process}
use Rattle.group_run.specs.Receiving.{ack_to, adopting, log_adopted, read_comes, receive, update_taken, with_rank}
use Rattle.group_run.specs.Replica.{with_update}
use Rattle.group_run.specs.Rows.{parity_number}
use Rattle.law_moves.proofs.Moves.{Treats}
use Rattle.law_moves.proofs.Members.{IsData, IsParity, Sits}
use Rattle.law_moves.proofs.Calls.{Seated, seat-head, seat-lower}
use Rattle.law_moves.proofs.Keeping.{lower-each}
use Rattle.law_bytes.proofs.Finding.{and-split}
use Rattle.law_bytes.proofs.Local.{Fact}
use Rattle.law_bytes.proofs.Tallying.{ComesTo}
use Rattle.law_progress.proofs.Waiting.{marks_in}
use Rattle.law_progress.proofs.Ceasing.{cease-fair}
use Rattle.law_progress.proofs.Noticing.{notice-fair}
use Rattle.law_progress.proofs.Mild.{Mild, Treated, alike-apply, alike-same, alike-then, fair-mild, fair-treated, mild-acked, mild-self, mild-when, treated}
use Rattle.law_progress.proofs.Opening.{open-fair}
use Rattle.law_progress.proofs.Sides.{Fair, LeaderFine}
use Rattle.law_progress.proofs.Taking.{block-fair, mark-fair, nothing, read-fair, row-fair}

-- a message that has no part in a session
abbrev Idle : Message → Type 0
Idle (tells.Update r d u stable) = Unit {0}
Idle (tells.Ack r d n) = Unit {0}
Idle (tells.Stable r d n) = Unit {0}
Idle (tells.Adopt r d base list) = Unit {0}
Idle _ = ⊥

-- who sends rows and blocks, and who gets marks
abbrev pub Goes : ProcessId → Message → ProcessId → Type 0
Goes x (tells.Row session bytes stamp) y = IsParity x
Goes x (tells.Block session bytes n) y = IsData x
Goes x (tells.Mark session r block d n) y = IsParity y
Goes x _ y = Unit {0}

module _ (s : Dimensions) (x : ProcessId) (p : Process) where
  idle-fair : (m : Message) (t : ProcessStep) → Idle m → Mild p t → Fair s x (m ∷ []) p t
  idle-fair (tells.Update r d u stable) t idle mild =
      fair-mild s x _ p t mild (λ l n i e name has accepted. nothing has) (λ l n from has. nothing has) (λ l n i name from has. nothing has)
      (λ l n e name from has. nothing has) (λ l n i e name has. nothing has) (λ l n e name has. nothing has)
  idle-fair (tells.Ack r d k) t idle mild =
      fair-mild s x _ p t mild (λ l n i e name has accepted. nothing has) (λ l n from has. nothing has) (λ l n i name from has. nothing has)
      (λ l n e name from has. nothing has) (λ l n i e name has. nothing has) (λ l n e name has. nothing has)
  idle-fair (tells.Stable r d k) t idle mild =
      fair-mild s x _ p t mild (λ l n i e name has accepted. nothing has) (λ l n from has. nothing has) (λ l n i name from has. nothing has)
      (λ l n e name from has. nothing has) (λ l n i e name has. nothing has) (λ l n e name has. nothing has)
  idle-fair (tells.Adopt r d base list) t idle mild =
      fair-mild s x _ p t mild (λ l n i e name has accepted. nothing has) (λ l n from has. nothing has) (λ l n i name from has. nothing has)
      (λ l n e name from has. nothing has) (λ l n i e name has. nothing has) (λ l n e name has. nothing has)
  idle-fair (tells.ReadBlock _ _ _) t idle mild = absurd idle
  idle-fair (tells.Block _ _ _) t idle mild = absurd idle
  idle-fair (tells.Mark _ _ _ _ _) t idle mild = absurd idle
  idle-fair (tells.Row _ _ _) t idle mild = absurd idle
  idle-fair (tells.Cease _) t idle mild = absurd idle
  idle-fair (tells.Notice _) t idle mild = absurd idle

  pub receive-fair : (m : Message) → Fact m → ComesTo x m p.name → Goes x m p.name → Fair s x (m ∷ []) p (receive s x m p)
  receive-fair (tells.Update r d u stable) fact comes goes =
      idle-fair (tells.Update r d u stable) _ tt (mild-when (nat_le (at 0 p.ranks d.0) r.0) p (ack_to x r.0 d.0 u.number (update_taken s d.0 u stable p))
      (let q : Process = apply_to s d.0 stable p in
      record {
        alike = alike-then p q (with_replica d.0 (with_update u (replica_of q d.0)) q)
            (alike-apply s d.0 stable p) (alike-same q (with_replica d.0 (with_update u (replica_of q d.0)) q) refl refl
            refl);
        calm = (tt, tt);
      }))
  receive-fair (tells.Stable r d n) fact comes goes =
      idle-fair (tells.Stable r d n) _ tt (mild-when (nat_le (at 0 p.ranks d.0) r.0) p (quiet (apply_to s d.0 n p))
      (record { alike = alike-apply s d.0 n p; calm = tt }))
  receive-fair (tells.Adopt r d base list) fact comes goes =
      idle-fair (tells.Adopt r d base list) _ tt
      (mild-when (nat_le (at 0 p.ranks d.0) r.0) p
      (ack_to x r.0 d.0 (base + length list) (log_adopted s r.0 d.0 base list p))
      (let ranked : Process = with_rank d.0 r.0 p in
      let q : Process = apply_to s d.0 base ranked in
      record {
        alike =
            alike-then p ranked _ (alike-same p ranked refl refl refl)
            (alike-then ranked q _ (alike-apply s d.0 base ranked) (alike-same q (with_replica d.0 (adopting base list (replica_of q d.0)) q) refl refl refl));
        calm = (tt, tt);
      }))
  receive-fair (tells.Ack r d n) fact comes goes = by x where
    by : (y : ProcessId) → Fair s x (tells.Ack r d n ∷ []) p (receive s y (tells.Ack r d n) p)
    by (DataNode e) = idle-fair (tells.Ack r d n) _ tt (mild-self p)
    by (ParityNode i) = idle-fair (tells.Ack r d n) _ tt (mild-acked s p i r.0 d.0 n (head_at p d.0))
  receive-fair (tells.ReadBlock session block rows) fact comes goes = by p.name refl comes.1 where
    by : (y : ProcessId) → p.name ≡ y → IsData y → Fair s x (tells.ReadBlock session block rows ∷ []) p (read_comes s session block rows p y)
    by (DataNode e) is data_here = read-fair s x p e session block rows is
    by (ParityNode i) is data_here = elim data_here [ ]
  receive-fair (tells.Block session bytes n) fact comes goes = by x refl goes where
    by : (y : ProcessId) → x ≡ y → IsData y → Fair s x (tells.Block session bytes n ∷ []) p (receive s y (tells.Block session bytes n) p)
    by (DataNode e) is data_here = block-fair s x p e session bytes n is
    by (ParityNode i) is data_here = elim data_here [ ]
  receive-fair (tells.Row session bytes stamp) fact comes goes = by x refl goes where
    by : (y : ProcessId) → x ≡ y → IsParity y → Fair s x (tells.Row session bytes stamp ∷ []) p (receive s y (tells.Row session bytes stamp) p)
    by (ParityNode i) is parity = row-fair s x p i session bytes stamp is comes
    by (DataNode e) is parity = elim parity [ ]
  receive-fair (tells.Mark session r block d n) fact comes goes = by p.name refl goes session.leader refl fact where
    by : (y : ProcessId) → p.name ≡ y → IsParity y → (z : ProcessId) → session.leader ≡ z → IsParity z
        → Fair s x (tells.Mark session r block d n ∷ []) p (mark_comes s (parity_number session.leader) session.number r.0 block d.0 n p)
    by (ParityNode i) is parity (ParityNode l) leads leader = mark-fair s x p i is l session leads r.0 block d.0 n
    by (ParityNode i) is parity (DataNode e) leads leader = elim leader [ ]
    by (DataNode e) is parity z leads leader = elim parity [ ]
  receive-fair (tells.Cease upto) fact comes goes = by x refl where
    by : (y : ProcessId) → x ≡ y → Fair s x (tells.Cease upto ∷ []) p (receive s y (tells.Cease upto) p)
    by (ParityNode i) is =
        subst (λ (y : ProcessId). Fair s y (tells.Cease upto ∷ []) p (receive s (ParityNode i) (tells.Cease upto) p))
        (sym is) (cease-fair s i p upto)
    by (DataNode e) is =
        fair-mild s x _ p (quiet p) (mild-self p) (λ l n i d name has accepted. nothing has) (λ l n from has. cc (sym is ∙ from))
        (λ l n i name from has. nothing has) (λ l n d name from has. nothing has) (λ l n i d name has. nothing has) (λ l n d name has. nothing has)
  receive-fair (tells.Notice dead) fact comes goes = notice-fair s x dead p

  -- a call, at a process that heads what it should
  pub treat-fair : (t : ProcessStep) → Treats s p t → IsProcess s x → Seated s p x → knows_dead p.known x ≡ false → LeaderFine s p
      → ((l : ℕ) → x ≡ ParityNode l → (at 0 p.as_row.ceased l < suc p.as_leader.last_session)
      × (marks_in p l (suc p.as_leader.last_session) ≡ None)) → Fair s x [] p t
  treat-fair t treats inside seated living numbered fresh = by (treated s p x seated.name inside living t treats seated) where
    by : Treated s p t → Fair s x [] p t
    by (inl mild) = fair-treated s x p t mild
    by (inr (block, l, name, (d, low, (h, heads)), is)) = subst (Fair s x [] p) (sym is)
        (open-fair s x p block l (subst (IsProcess s) here inside) name
        (subst (λ (y : ProcessId). knows_dead p.known y ≡ false) here living) (fresh l here).0 (fresh l here).1
        numbered d low lower.0
        (λ j under. lower-each p.known j 0 l lower.1 (omega arith) (omega (arith, under))))
      where
        here : x ≡ ParityNode l
        here = sym seated.name ∙ name

        lower : (knows_dead p.known (DataNode d) ≡ true) × (list_all (λ j. knows_dead p.known (ParityNode j)) (range_with_len 0 l) ≡ true)
        lower = and-split (knows_dead p.known (DataNode d)) (list_all (λ j. knows_dead p.known (ParityNode j)) (range_with_len 0 l))
            (seat-lower p d l h.rank (subst (Sits p d) here (seated.sits d low)) (seat-head p d h heads))
