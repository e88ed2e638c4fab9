-- What of a process the laws of acknowledgements look at, and the steps that leave it.
use Rattle.std.proofs.Common.{ℕ, zero, suc, ◌≡◌, ◌≢◌, ◌<◌, ◌≤◌, ◌+◌, ◌-◌, Bool, true, false, not, ◌&&◌, List, [], ◌∷◌}
use Rattle.std.proofs.Common.{◌++◌, length, take, drop, Option, Some, None, ◌⊎◌, inl, inr, refl, sym, ap, subst, ◌∙◌}
use Rattle.std.proofs.Common.{arith}
use Rattle.std.proofs.lemmas.Bool.{cases_eq}
use Rattle.std.proofs.lemmas.List.{length-append, length-drop, take-append-drop}
use Rattle.std.specs.Prelude.{is_some}
use Rattle.std.specs.List.{list_all, range_with_len}
use Rattle.group_types.specs.Dimensions.{Dimensions}
use Rattle.group_types.specs.Lists.{at}
use Rattle.group_types.specs.declared.process.ProcessId.{ProcessId}
use Rattle.group_types.specs.declared.process.ProcessId.TheVariants.{DataNode, ParityNode}
use Rattle.membership.specs.Members.{knows_dead}
use Rattle.group_run.specs.Applying.{ProcessStep, apply_to, for_each, head_at, replica_of, when}
use Rattle.group_run.specs.Heading.{judge, judge_head, least_acked, other_parities}
use Rattle.group_run.specs.Leaders.{copy_marked, lost_of, mark_comes, mark_taken, own_mark, session_opened, start_session}
use Rattle.group_run.specs.Process.{Head, Process}
use Rattle.group_run.specs.Receiving.{death_known, notice_comes, take_over_if, taken_over, takes_over, enthroned}
use Rattle.group_run.specs.Replica.{Replica, applied_to, last_of}
use Rattle.group_run.specs.Rows.{accepts_mark, begin_copy, copy_begun, copy_in, parity_number}
use Rattle.law_histories.proofs.Heads.{least-last, replica-apply_to}
use Rattle.law_histories.proofs.Notices.{still-take}
use Rattle.law_histories.proofs.Rows.{still-close, still-copy_marked}
use Rattle.law_histories.proofs.Told.{Settles}
use Rattle.law_histories.proofs.Steps.{SameIn, same-apply}

-- a process that has the same head, rank and number of updates in partition d, and has applied no less
pub record Plain (d : ℕ) (p q : Process) : Type 0 where
  pub name : q.name ≡ p.name
  pub known : q.known ≡ p.known
  pub head : head_at q d ≡ head_at p d
  pub rank : at 0 q.ranks d ≡ at 0 p.ranks d
  pub last : last_of (replica_of q d) ≡ last_of (replica_of p d)
  pub applied : (replica_of p d).applied ≤ (replica_of q d).applied

pub plain-refl : (d : ℕ) (p : Process) → Plain d p p
plain-refl d p = record { name = refl; known = refl; head = refl; rank = refl; last = refl; applied = omega arith }

pub plain-trans : {d : ℕ} {p q r : Process} → Plain d p q → Plain d q r → Plain d p r
plain-trans a b = record {
  name = b.name ∙ a.name;
  known = b.known ∙ a.known;
  head = b.head ∙ a.head;
  rank = b.rank
      ∙ a.rank;
  last = b.last ∙ a.last;
  applied = let one = a.applied in let two = b.applied in omega (arith, one, two);
}

pub plain-same : (d : ℕ) (p q : Process) → SameIn d p q → Plain d p q
plain-same d p q same = record {
  name = same.name;
  known = same.known;
  head = same.head;
  rank = same.rank;
  last = ap last_of same.replica;
  applied = let here : (replica_of q d).applied ≡ (replica_of p d).applied = ap (λ (r : Replica). r.applied) same.replica in omega (arith, here);
}

-- to settle is kept so
pub settles-plain : (s : Dimensions) (d : ℕ) (p q : Process) → Plain d p q → Settles s d p → Settles s d q
settles-plain s d p q plain settles h heads =
    let old = settles h (sym plain.head ∙ heads) in
    let same : least_acked h (last_of (replica_of q d)) (other_parities s.m q.name q.known)
    ≡ least_acked h (last_of (replica_of p d)) (other_parities s.m p.name p.known)
    = λ j. least_acked h (plain.last j) (other_parities s.m (plain.name j) (plain.known j)) in
    let more = plain.applied in omega (arith, old, same, more)

-- applying leaves the number of updates
pub last-kept : (n : ℕ) (r : Replica) → last_of (applied_to n r) ≡ last_of r
last-kept n r =
    let whole : length (take (n - r.applied) r.log ++ drop (n - r.applied) r.log) ≡ length r.log = ap length (take-append-drop (n - r.applied) r.log) in
    let parts = length-append (take (n - r.applied) r.log) (drop (n - r.applied) r.log) in omega (arith, whole, parts)

-- applying another partition, or this
pub plain-apply : (s : Dimensions) (d e n : ℕ) (p : Process) → Plain d p (apply_to s e n p)
plain-apply s d e n p = by (cases_eq e d) where
  here : Plain d p (apply_to s d n p)
  here = record {
    name = refl;
    known = refl;
    head = refl;
    rank = refl;
    last = ap last_of (replica-apply_to s d n p) ∙ last-kept n (replica_of p d);
    applied = let now : (replica_of (apply_to s d n p) d).applied ≡ (applied_to n (replica_of p d)).applied =
        ap (λ (r : Replica). r.applied) (replica-apply_to s d n p) in omega (arith, now);
  }

  by : (e ≡ d) ⊎ (e ≢ d) → Plain d p (apply_to s e n p)
  by (inl same) = subst (λ (x : ℕ). Plain d p (apply_to s x n p)) (sym same) here
  by (inr other) = plain-same d p (apply_to s e n p) (same-apply s d e n p other)

pub plain-when : (d : ℕ) (b : Bool) (p : Process) (t : ProcessStep) → Plain d p t.process → Plain d p (when b p t).process
plain-when d true p t plain = plain
plain-when d false p t plain = plain-refl d p

pub plain-each : (d : ℕ) (xs : List ℕ) (f : ℕ → Process → ProcessStep)
    → ((x : ℕ) (q : Process) → Plain d q (f x q).process) → (p : Process) → Plain d p (for_each xs f p).process
plain-each d [] f each p = plain-refl d p
plain-each d (x ∷ xs) f each p = plain-trans (each x p) (plain-each d xs f each (f x p).process)

plain-judge_head : (s : Dimensions) (d e : ℕ) (p : Process) (h : Option Head) → Plain d p (judge_head s e p h).process
plain-judge_head s d e p None = plain-refl d p
plain-judge_head s d e p (Some h) = plain-apply s d e (least_acked h (last_of (replica_of p e)) (other_parities s.m p.name p.known)) p

pub plain-judge : (s : Dimensions) (d e : ℕ) (p : Process) → Plain d p (judge s e p).process
plain-judge s d e p = plain-judge_head s d e p (head_at p e)

-- whoever judges settles
settles-judge_head : (s : Dimensions) (d : ℕ) (p : Process) (o : Option Head) → head_at p d ≡ o → Settles s d (judge_head s d p o).process
settles-judge_head s d p None is h heads = absurd (cc (is, heads))
settles-judge_head s d p (Some g) is h heads =
    let n : ℕ = least_acked g (last_of (replica_of p d)) (other_parities s.m p.name p.known) in
    let q : Process = apply_to s d n p in
    let same : h ≡ g = cc (is, heads) in
    let plain : Plain d p q = plain-apply s d d n p in
    let last : last_of (replica_of q d) ≡ last_of (replica_of p d) = plain.last in
    let least : least_acked h (last_of (replica_of q d)) (other_parities s.m p.name p.known) ≡ n =
    λ j. least_acked (same j) (last j) (other_parities s.m p.name p.known) in
    let low : n ≤ last_of (replica_of p d) = least-last g (last_of (replica_of p d)) (other_parities s.m p.name p.known) in
    let now : (replica_of q d).applied ≡ (applied_to n (replica_of p d)).applied = ap (λ (r : Replica). r.applied) (replica-apply_to s d n p) in
    let whole = last-kept n (replica_of p d) in
    let left = length-drop (n - (replica_of p d).applied) (replica_of p d).log in
    omega (arith, least, low, now, whole, left)

pub settles-judge : (s : Dimensions) (d : ℕ) (p : Process) → Settles s d (judge s d p).process
settles-judge s d p = settles-judge_head s d p (head_at p d) refl

-- marks
plain-begin : (d : ℕ) (b : Bool) (s : Dimensions) (leader number block : ℕ) (p : Process) → Plain d p (copy_begun b s leader number block p)
plain-begin d true s leader number block p = plain-refl d p
plain-begin d false s leader number block p = record { name = refl; known = refl; head = refl; rank = refl; last = refl; applied = omega arith }

pub plain-mark : (s : Dimensions) (d leader number r block e n : ℕ) (p : Process) → Plain d p (mark_comes s leader number r block e n p).process
plain-mark s d leader number r block e n p =
    let begun : Process = begin_copy s leader number block p in
    let q : Process = apply_to s e n begun in
    plain-when d (accepts_mark p leader number r e) p (mark_taken s leader number block e n p)
    (plain-trans (plain-trans (plain-begin d (is_some (copy_in p.as_row.copies leader number)) s leader number block p) (plain-apply s d e n begun))
    (plain-same d q (copy_marked s e n (copy_in q.as_row.copies leader number) q).process
    (still-copy_marked s d e n (copy_in q.as_row.copies leader number) q).same))

-- a session that starts
pub plain-session : (s : Dimensions) (d block : ℕ) (p : Process) → Plain d p (start_session s block p).process
plain-session s d block p =
    let leader : ℕ = parity_number p.name in
    let number : ℕ = suc p.as_leader.last_session in
    let opened : Process = session_opened s number block p in
    let first : Plain d p opened = record { name = refl; known = refl; head = refl; rank = refl; last = refl; applied = omega arith } in
    plain-trans first
    (plain-each d (lost_of s p) (own_mark s leader number block)
    (λ l q. plain-mark s d leader number (at 0 q.ranks l) block l (replica_of q l).applied q) opened)

-- a process whose heads stay, with as many updates
pub record Onward (d : ℕ) (p q : Process) : Type 0 where
  pub heads : (h : Head) → head_at p d ≡ Some h → head_at q d ≡ Some h
  pub last : last_of (replica_of q d) ≡ last_of (replica_of p d)

onward-trans : {d : ℕ} {p q r : Process} → Onward d p q → Onward d q r → Onward d p r
onward-trans a b = record { heads = λ h is. b.heads h (a.heads h is); last = b.last ∙ a.last }

onward-plain : (d : ℕ) (p q : Process) → Plain d p q → Onward d p q
onward-plain d p q plain = record { heads = λ h is. plain.head ∙ is; last = plain.last }

onward-each : (d : ℕ) (xs : List ℕ) (f : ℕ → Process → ProcessStep)
    → ((x : ℕ) (q : Process) → Onward d q (f x q).process) → (p : Process) → Onward d p (for_each xs f p).process
onward-each d [] f each p = record { heads = λ h is. is; last = refl }
onward-each d (x ∷ xs) f each p = onward-trans (each x p) (onward-each d xs f each (f x p).process)

-- a partition is taken over, or not
module _ (s : Dimensions) (d : ℕ) where
  no_test : (q : Process) (h : Head) → head_at q d ≡ Some h → (y : ProcessId) → takes_over q d y ≡ false
  no_test q h some (DataNode z) = refl
  no_test q h some (ParityNode i) =
      ap (λ (o : Option Head). not (is_some o) && knows_dead q.known (DataNode d) && list_all
      (λ j. knows_dead q.known (ParityNode j)) (range_with_len 0 i)) some

  taken-last : (q : Process) → last_of (replica_of (taken_over s d q).process d) ≡ last_of (replica_of q d)
  taken-last q = (plain-judge s d d (enthroned s (suc (parity_number q.name)) d q)).last

  onward-here : (q : Process) → Onward d q (take_over_if s d q).process
  onward-here q = record { heads = λ h is. kept h is; last = last (takes_over q d q.name) } where
    kept : (h : Head) → head_at q d ≡ Some h → head_at (when (takes_over q d q.name) q (taken_over s d q)).process d ≡ Some h
    kept h is = subst (λ (b : Bool). head_at (when b q (taken_over s d q)).process d ≡ Some h) (sym (no_test q h is q.name)) is

    last : (b : Bool) → last_of (replica_of (when b q (taken_over s d q)).process d) ≡ last_of (replica_of q d)
    last true = taken-last q
    last false = refl

  onward-take : (e : ℕ) (q : Process) → Onward d q (take_over_if s e q).process
  onward-take e q = by (cases_eq e d) where
    by : (e ≡ d) ⊎ (e ≢ d) → Onward d q (take_over_if s e q).process
    by (inl same) = subst (λ (x : ℕ). Onward d q (take_over_if s x q).process) (sym same) (onward-here q)
    by (inr other) = onward-plain d q (take_over_if s e q).process (plain-same d q (take_over_if s e q).process (still-take s d e q other).same)

  settles-take : (e : ℕ) (q : Process) → Settles s d q → Settles s d (take_over_if s e q).process
  settles-take e q settles = by (cases_eq e d) where
    here : (b : Bool) → Settles s d (when b q (taken_over s d q)).process
    here true = settles-judge s d (enthroned s (suc (parity_number q.name)) d q)
    here false = settles

    by : (e ≡ d) ⊎ (e ≢ d) → Settles s d (take_over_if s e q).process
    by (inl same) = subst (λ (x : ℕ). Settles s d (take_over_if s x q).process) (sym same) (here (takes_over q d q.name))
    by (inr other) = settles-plain s d q (take_over_if s e q).process (plain-same d q (take_over_if s e q).process (still-take s d e q other).same) settles

  settles-takes : (es : List ℕ) (q : Process) → Settles s d q → Settles s d (for_each es (take_over_if s) q).process
  settles-takes [] q settles = settles
  settles-takes (e ∷ es) q settles = settles-takes es (take_over_if s e q).process (settles-take e q settles)

  -- all partitions are judged
  settles-judges : (n a : ℕ) (q : Process) → (a ≤ d) → (d < a + n) → Settles s d (for_each (range_with_len a n) (judge s) q).process
  settles-judges zero a q low high = absurd (omega (arith, low, high))
  settles-judges (suc n) a q low high = by (cases_eq a d) (λ above. settles-judges n (a + 1) (judge s a q).process above (omega (arith, high))) where
    by : (a ≡ d) ⊎ (a ≢ d) → (a + 1 ≤ d → Settles s d (for_each (range_with_len (a + 1) n) (judge s) (judge s a q).process).process)
        → Settles s d (for_each (range_with_len (a + 1) n) (judge s) (judge s a q).process).process
    by (inl same) later = settles-plain s d (judge s a q).process (for_each (range_with_len (a + 1) n) (judge s) (judge s a q).process).process
        (plain-each d (range_with_len (a + 1) n) (judge s) (λ e r. plain-judge s d e r) (judge s a q).process)
        (subst (λ (x : ℕ). Settles s d (judge s x q).process) (sym same) (settles-judge s d q))
    by (inr other) later = later (omega (arith, low, other))

  onward-known : (x : ProcessId) (p : Process) → Onward d p (death_known x p)
  onward-known (DataNode e) p = record { heads = λ h is. is; last = refl }
  onward-known (ParityNode e) p = record { heads = λ h is. is; last = refl }

  -- a notice
  pub onward-notice : (x : ProcessId) (p : Process) → Onward d p (notice_comes s x p).process
  onward-notice x p =
      let q : Process = death_known x p in
      onward-trans (onward-trans (onward-trans (onward-known x p) (onward-plain d q _ (plain-same d q _ (still-close s d q.as_leader.sessions q).same)))
      (onward-each d (range_with_len 0 s.k) (judge s) (λ e r. onward-plain d r (judge s e r).process (plain-judge s d e r)) _))
      (onward-each d (range_with_len 0 s.k) (take_over_if s) onward-take _)

  pub settles-notice : (x : ProcessId) (p : Process) → d < s.k → Settles s d (notice_comes s x p).process
  settles-notice x p below = settles-takes (range_with_len 0 s.k) _ (settles-judges s.k 0 _ (omega arith) (omega (arith, below)))
