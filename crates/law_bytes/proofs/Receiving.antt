-- A process receives a message that follows the plan of its session: what it has, and what it sends, follow it.
use Rattle.std.proofs.Common.{◌≡◌, ℕ, ◌+◌, ◌<◌, ◌≤◌, nat_le, Bool, true, false, List, length, take, Some, None, sym, ap, subst, ◌∙◌, refl}
use Rattle.std.specs.Prelude.{Contains}
use Rattle.group_types.specs.Dimensions.{Dimensions, space_of}
use Rattle.group_types.specs.Lists.{at}
use Rattle.group_types.specs.Names.{IsProcess}
use Rattle.group_types.specs.declared.process.ProcessId.{ProcessId}
use Rattle.group_types.specs.declared.process.ProcessId.TheVariants.{DataNode, ParityNode}
use Rattle.group_types.specs.Each.{Each}
use Rattle.group_types.proofs.Eaches.{each-map}
use Rattle.group_message.specs.declared.message.Message.{Message}
use Rattle.group_message.specs.declared.message.Message.TheVariants as tells
use Rattle.group_message.specs.declared.message.Session.{Session}
use Rattle.group_message.specs.declared.update.Update.{Update}
use Rattle.group_run.specs.Applying.{apply_to, head_at, quiet, replica_of, when, with_replica}
use Rattle.group_run.specs.Heading.{partition, rank}
use Rattle.group_run.specs.Leaders.{mark_comes, mark_taken}
use Rattle.group_run.specs.Process.{Copy, Process}
use Rattle.group_run.specs.Receiving.{ack_to, adopting, data_marks, log_adopted, read_comes, receive, update_taken, with_rank}
use Rattle.group_run.specs.Replica.{Replica, empty_replica, with_update}
use Rattle.group_run.specs.Rows.{accepts_mark, begin_copy, block_in, copy_in, is_copy, marked, parity_number}
use Rattle.law_moves.specs.State.{State}
use Rattle.law_moves.proofs.Members.{IsParity, MayStand}
use Rattle.law_bytes.specs.Areas.{IsArea, IsBlock, held, value, SettledWrite}
use Rattle.law_bytes.specs.Held.{CopyHolds, stand}
use Rattle.law_bytes.proofs.Premises.{AppliesSettled, GoesOn, MarkIsNew, MarksNew}
use Rattle.law_bytes.proofs.Applying.{Holding}
use Rattle.law_bytes.proofs.Copies.{block-of-space, marked-holds}
use Rattle.law_bytes.proofs.Finds.{found-each, if-some}
use Rattle.law_bytes.proofs.BytesKeeping.{addressed}
use Rattle.law_bytes.proofs.Marking.{AtMark, at-mark, marked-same}
use Rattle.law_bytes.proofs.Rising.{among-contains, among-each}
use Rattle.law_bytes.proofs.Values.{Concerns, Inside, inside-concerned}
use Rattle.law_bytes.proofs.Kept.{IsLed}
use Rattle.law_bytes.proofs.Stamps.{AmongRows, Follows, OfSession, Plan, planned}
use Rattle.law_bytes.proofs.Following.{Passes, Sends, passes-acked, passes-notice, passes-self, passes-when}
use Rattle.law_bytes.proofs.Following.{still-apply, still-ceased, still-passes, still-same, still-then}
use Rattle.law_bytes.proofs.Gathering.{still-block, still-row}
use Rattle.law_bytes.proofs.PlanMarking.{taken-follows}

-- what a copy of a process holds once it is marked at the number that is applied there
pub mark-holds : (s : Dimensions) (settled : ℕ → List Update) (write : SettledWrite s settled) (old : ℕ → ℕ → Bool)
    (p : Process) (leader number block d k : ℕ) → Concerns s p.name d → d < s.k
    → GoesOn (settled d) (replica_of p d) → MarkIsNew p leader number d k
    → (replica_of (apply_to s d k (begin_copy s leader number block p)) d).applied ≤ length (settled d)
    → Holding s settled old p
    → (c : Copy) → copy_in (apply_to s d k (begin_copy s leader number block p)).as_row.copies leader number ≡ Some c
    → CopyHolds s settled (apply_to s d k (begin_copy s leader number block p)) (marked d k c)
mark-holds s settled write old p leader number block d k concerns below goes new last holding c is =
    let q : Process = apply_to s d k (begin_copy s leader number block p) in
    let there : AtMark s settled old p leader number block d k = at-mark s settled old write p leader number block d k concerns below goes new last holding in
    let first = found-each (is_copy leader number) (CopyHolds s settled q) q.as_row.copies c is there.holds.copies in
    marked-holds s settled q c d k (subst (Inside s) (sym there.name) (inside-concerned s p.name d concerns)) below there.applied (there.holds.within d below)
    (if-some (λ (x : Copy). at None x.marks d ≡ None) (copy_in q.as_row.copies leader number) c is there.free) first.1

module _ (s : Dimensions) (settled : ℕ → List Update) (l n : ℕ) (plan : Plan) where
  -- a data process that is asked gives its block at the plan's number
  abbrev pub ReadsAt : Message → Process → Type 0
  ReadsAt (tells.ReadBlock session block rows) p = OfSession l n session → (e : ℕ) → p.name ≡ DataNode e → plan.numbers e ≡ (replica_of p e).applied
  ReadsAt _ p = Unit {0}

  read-passes : (session : Session) (block : ℕ) (rows : List ℕ) (p : Process) (e : ℕ) → p.name ≡ DataNode e
      → (OfSession l n session → plan.numbers e ≡ (replica_of p e).applied)
      → (OfSession l n session → (block ≡ plan.block) × (rows ≡ plan.rows)) → IsArea 0 (space_of s) (held s p.name (stand settled p)) p.space
      → Passes s settled l n plan p (read_comes s session block rows p (DataNode e))
  read-passes session block rows p e name reads follows space =
      record {
        name = refl;
        follows = λ is. (
          is,
          subst (λ (x : ProcessId). Sends s settled l n plan x
              (read_comes s session block rows p (DataNode e)).sent) (sym name) (gives, marks),
        );
      } where
        number : ℕ
        number = (replica_of p e).applied

        gives : OfSession l n session → ((replica_of p e).applied ≡ plan.numbers e)
            × IsBlock s plan.block (value (planned settled plan e)) (block_in s block p.space)
        gives of_it = (
          sym (reads of_it),
          subst (λ (b : ℕ). IsBlock s b (value (planned settled plan e)) (block_in s block p.space)) (follows of_it).0
              (subst (λ (k : ℕ). IsBlock s block (value (take k (settled e))) (block_in s block p.space)) (sym (reads of_it))
              (block-of-space s settled block (value (stand settled p e)) p.space
              (subst (λ (x : ProcessId). IsArea 0 (space_of s) (held s x (stand settled p)) p.space) name space))),
        )

        marks : Each (λ z. Follows s settled l n plan (DataNode e) z.to z.message) (data_marks session block e (replica_of p e).applied rows)
        marks =
            each-map (λ z. Follows s settled l n plan (DataNode e) z.to z.message)
            (λ i. record { to = ParityNode i; message = tells.Mark session (rank 0) block (partition e) (replica_of p e).applied }) rows
            (among-each (λ i. OfSession l n session → (block ≡ plan.block) × ((replica_of p e).applied ≡ plan.numbers e) × Contains plan.rows i) rows
            (λ i among of_it. ((follows of_it).0, sym (reads of_it), subst (λ (is : List ℕ). Contains is i) (follows of_it).1 (among-contains rows i among))))

  pub mark-passes : (write : SettledWrite s settled) (old : ℕ → ℕ → Bool) (p : Process) (leader number r block d k : ℕ) → Concerns s p.name d → d < s.k
      → (leader ≡ l → number ≡ n → (block ≡ plan.block) × (k ≡ plan.numbers d) × AmongRows plan.rows p.name)
      → GoesOn (settled d) (replica_of p d) → (accepts_mark p leader number r d ≡ true → MarkIsNew p leader number d k)
      → (replica_of (mark_comes s leader number r block d k p).process d).applied ≤ length (settled d)
      → Holding s settled old p → Passes s settled l n plan p (mark_comes s leader number r block d k p)
  mark-passes write old p leader number r block d k concerns below fits goes new within holding = by (accepts_mark p leader number r d) new within where
    q : Process
    q = apply_to s d k (begin_copy s leader number block p)

    by : (b : Bool) → (b ≡ true → MarkIsNew p leader number d k)
        → (replica_of (when b p (mark_taken s leader number block d k p)).process d).applied ≤ length (settled d)
        → Passes s settled l n plan p (when b p (mark_taken s leader number block d k p))
    by false _ _ = passes-self s settled l n plan p
    by true is_new final =
        let there : AtMark s settled old p leader number block d k = at-mark s settled old write p leader number block d
        k concerns below goes (is_new refl) last holding in
        record {
          name = (marked-same s d k (copy_in (apply_to s d k (begin_copy s leader number block p)).as_row.copies leader
              number) (apply_to s d k (begin_copy s leader number block p))).1 ∙ there.name;
          follows =
              λ is. taken-follows s settled l n plan p leader number block d k below fits is
              (λ leaders numbers c first. mark-holds s settled write old p leader number block d k concerns below goes (is_new refl) last holding c first);
        }
      where
        last : (replica_of (apply_to s d k (begin_copy s leader number block p)) d).applied ≤ length (settled d)
        last = subst (λ (rs : List Replica). (at empty_replica rs d).applied ≤ length (settled d))
            (marked-same s d k (copy_in (apply_to s d k (begin_copy s leader number block p)).as_row.copies leader
            number) (apply_to s d k (begin_copy s leader number block p))).0 final

  pub receive-passes : (write : SettledWrite s settled) (old : ℕ → ℕ → Bool) (v : State) (y x : ProcessId) (m : Message) (p : Process) → p.name ≡ x
      → IsProcess s y → MayStand s v y x m → IsLed m → ReadsAt m p
      → Follows s settled l n plan y x m → Holding s settled old p → MarksNew m p
      → AppliesSettled s settled p (receive s y m p) → Passes s settled l n plan p (receive s y m p)
  receive-passes write old v y x (tells.Update r d u stable) p name inside may led reads follows holding new applies =
      passes-when s settled l n plan (nat_le (at 0 p.ranks d.0) r.0) p (ack_to y r.0 d.0 u.number (update_taken s d.0 u stable p)) (λ is.
      let q : Process = apply_to s d.0 stable p in
      still-passes s settled l n plan p (ack_to y r.0 d.0 u.number (update_taken s d.0 u stable p))
      (still-then s settled l n plan p q _ (still-apply s settled l n plan d.0 stable p)
      (still-same s settled l n plan q (with_replica d.0 (with_update u (replica_of q d.0)) q) refl refl refl))
      (tt, tt))
  receive-passes write old v (DataNode e) x (tells.Ack r d k) p name inside may led reads follows holding new applies = passes-self s settled l n plan p
  receive-passes write old v (ParityNode i) x (tells.Ack r d k) p name inside may led reads follows holding new
      applies = passes-acked s settled l n plan p i r.0 d.0 k (head_at p d.0)
  receive-passes write old v y x (tells.Stable r d k) p name inside may led reads follows holding new applies =
      passes-when s settled l n plan (nat_le (at 0 p.ranks d.0) r.0) p (quiet (apply_to s d.0 k p))
      (λ is. still-passes s settled l n plan p (quiet (apply_to s d.0 k p)) (still-apply s settled l n plan d.0 k p) tt)
  receive-passes write old v y x (tells.Adopt r d base list) p name inside may led reads follows holding new applies =
      passes-when s settled l n plan (nat_le (at 0 p.ranks d.0) r.0) p (ack_to y r.0 d.0 (base + length list) (log_adopted s r.0 d.0 base list p)) (λ is.
      let ranked : Process = with_rank d.0 r.0 p in
      let q : Process = apply_to s d.0 base ranked in
      still-passes s settled l n plan p (ack_to y r.0 d.0 (base + length list) (log_adopted s r.0 d.0 base list p))
      (still-then s settled l n plan p ranked _ (still-same s settled l n plan p ranked refl refl refl)
      (still-then s settled l n plan ranked q _ (still-apply s settled l n plan d.0 base ranked)
      (still-same s settled l n plan q (with_replica d.0 (adopting base list (replica_of q d.0)) q) refl refl refl))) (tt, tt))
  receive-passes write old v y (DataNode e) (tells.ReadBlock session block rows) p name inside may led reads follows holding new applies =
      subst (λ (z : ProcessId). Passes s settled l n plan p (read_comes s session block rows p z)) (sym name)
      (read-passes session block rows p e name (λ of_it. reads of_it e name) follows holding.space)
  receive-passes write old v y (ParityNode i) (tells.ReadBlock session block rows) p name inside may led reads follows holding new applies = elim may.2 [ ]
  receive-passes write old v (DataNode e) x (tells.Block session bytes k) p name inside may led reads follows holding new applies =
      still-passes s settled l n plan p (receive s (DataNode e) (tells.Block session bytes k) p)
      (still-block s settled l n plan session.number e bytes p inside (λ leads number. (follows (may.0 ∙ sym name ∙ leads, sym number)).1)) tt
  receive-passes write old v (ParityNode i) x (tells.Block session bytes k) p name inside may led reads follows holding
      new applies = passes-self s settled l n plan p
  receive-passes write old v y x (tells.Mark session r block d k) p name inside may led reads follows holding new applies =
      let to = addressed s v y x (tells.Mark session r block d k) may in
      mark-passes write old p (parity_number session.leader) session.number r.0 block d.0 k (subst (λ (z : ProcessId). Concerns s z d.0) (sym name) to.0) to.1
      (λ leaders numbers. let all = follows (led_by session.leader led leaders, numbers) in (all.0, all.1, subst (AmongRows plan.rows) (sym name) all.2))
      (applies.log d.0 to.1) new (applies.within d.0 to.1) holding
    where
      led_by : (z : ProcessId) → IsParity z → parity_number z ≡ l → z ≡ ParityNode l
      led_by (ParityNode i) parity is = ap ParityNode is
      led_by (DataNode e) parity is = absurd parity
  receive-passes write old v (DataNode e) x (tells.Row session bytes stamp) p name inside may led reads follows holding
      new applies = passes-self s settled l n plan p
  receive-passes write old v (ParityNode i) x (tells.Row session bytes stamp) p name inside may led reads follows holding new applies =
      still-passes s settled l n plan p (receive s (ParityNode i) (tells.Row session bytes stamp) p)
      (still-row s settled l n plan session.number i bytes p (λ leads number. let row = follows (may.0 ∙ sym name ∙ leads, sym number) in (row.0, row.1))) tt
  receive-passes write old v (DataNode e) x (tells.Cease upto) p name inside may led reads follows holding new applies = passes-self s settled l n plan p
  receive-passes write old v (ParityNode i) x (tells.Cease upto) p name inside may led reads follows holding new applies =
      still-passes s settled l n plan p (quiet _) (still-ceased s settled l n plan i upto p) tt
  receive-passes write old v y x (tells.Notice dead) p name inside may led reads follows holding new applies = passes-notice s settled l n plan dead p
