-- The steps of a process that let it lead: each leaves its name, whom it knows to be dead, and what it heads, or
-- takes over what is vacant; its sessions keep their rows, and copies for its own sessions are for those that it started.
use Rattle.std.proofs.Common.{ℕ, suc, ◌≡◌, ◌≢◌, ◌≤◌, ◌==◌, ◌⊎◌, Bool, true, false, List, [], ◌∷◌, map, if◌then◌else◌}
use Rattle.std.proofs.Common.{Option, Some, None, is_some, All, Contains, inl, inr, refl, sym, ap, subst, ◌∙◌}
use Rattle.std.proofs.lemmas.Bool.{cases_eq}
use Rattle.std.proofs.lemmas.List.Elements.{All-map, All-weaker}
use Rattle.group_types.specs.Dimensions.{Dimensions}
use Rattle.group_types.specs.Lists.{at, put}
use Rattle.group_types.specs.declared.process.ProcessId.{ProcessId}
use Rattle.group_types.proofs.Lists.{at-put, at-put-other}
use Rattle.membership.specs.Members.{Membership, count_known_dead, knows_dead}
use Rattle.group_message.specs.declared.update.Update.{Update}
use Rattle.group_run.specs.Applying.{ProcessStep, apply_to, block_after, copy_after, for_each, head_at, replica_of, when, with_head}
use Rattle.group_run.specs.Heading.{acknowledge, acknowledged, judge, judge_head, least_acked, other_parities}
use Rattle.group_run.specs.Process.{Copy, Gathering, Head, LeaderState, Process}
use Rattle.group_run.specs.Receiving.{enthroned, take_over_if, taken_over, takes_over}
use Rattle.group_run.specs.Replica.{last_of, up_to}
use Rattle.group_run.specs.Rows.{parity_number}
use Rattle.leader_role.specs.Sound.{AreStarted, CanLead, IsVacant}
use Rattle.leader_role.proofs.Dead.{taken-vacant}

-- each session has a parity process as a row
abbrev pub AreRowed : ℕ → List Gathering → Type 0
AreRowed i gs = All (λ g. Contains g.rows i) gs

-- each copy for a session of the process's own is for one that it started
abbrev pub OwnStarted : Process → Type 0
OwnStarted p = AreStarted (parity_number p.name) p.as_leader.last_session p.as_row.copies

-- a process with the same name, the same known dead, the same seats and the same last session, whose sessions have the
-- same as a row, and whose copies are of its started sessions if they were
pub record Stays (p q : Process) : Type 0 where
  pub name : q.name ≡ p.name
  pub known : q.known ≡ p.known
  pub seats : (d : ℕ) → is_some (head_at q d) ≡ is_some (head_at p d)
  pub rows : (i : ℕ) → AreRowed i p.as_leader.sessions → AreRowed i q.as_leader.sessions
  pub last : q.as_leader.last_session ≡ p.as_leader.last_session
  pub copies : OwnStarted p → OwnStarted q

-- where the name, the known dead, the heads and the leader's part stay
pub stays-alike : (p q : Process) → q.name ≡ p.name → q.known ≡ p.known → q.heads ≡ p.heads → q.as_leader ≡ p.as_leader
    → (OwnStarted p → OwnStarted q) → Stays p q
stays-alike p q name known heads leader copies = record {
  name = name;
  known = known;
  seats = λ d. ap (λ (hs : List (Option Head)). is_some (at None hs d)) heads;
  rows = λ i all. subst (λ (l : LeaderState). AreRowed i l.sessions) (sym leader) all;
  last = ap (λ (l : LeaderState). l.last_session) leader;
  copies = copies;
}

pub stays-self : (p : Process) → Stays p p
stays-self p = stays-alike p p refl refl refl refl (λ own. own)

pub stays-then : (p q r : Process) → Stays p q → Stays q r → Stays p r
stays-then p q r a b = record {
  name = b.name ∙ a.name;
  known = b.known ∙ a.known;
  seats = λ d. b.seats d ∙ a.seats d;
  rows = λ i all. b.rows i (a.rows i all);
  last = b.last ∙ a.last;
  copies = λ own. b.copies (a.copies own);
}

pub stays-each : (f : ℕ → Process → ProcessStep) → ((x : ℕ) (q : Process) → Stays q (f x q).process)
    → (xs : List ℕ) (p : Process) → Stays p (for_each xs f p).process
stays-each f each [] p = stays-self p
stays-each f each (x ∷ xs) p = stays-then p (f x p).process (for_each xs f (f x p).process).process (each x p) (stays-each f each xs (f x p).process)

pub stays-when : (b : Bool) (p : Process) (step : ProcessStep) → Stays p step.process → Stays p (when b p step).process
stays-when true p step stays = stays
stays-when false p step stays = stays-self p

module _ (s : Dimensions) where
  -- what stays lets it lead
  pub sound-stays : (p q : Process) → Stays p q → CanLead s p → CanLead s q
  sound-stays p q stays sound = record {
    limits = sound.limits;
    named = (sound.named.0, stays.name ∙ sound.named.1, sound.named.2);
    shape = ap (λ (known : Membership). known.shape) stays.known ∙ sound.shape;
    few = few_of q.known stays.known;
    living = ap (knows_dead q.known) stays.name ∙ ap (λ (known : Membership). knows_dead known p.name) stays.known ∙ sound.living;
    heads = λ d heads. vacant_of d q.known q.name stays.known stays.name (sound.heads d (sym (stays.seats d) ∙ heads));
    rows = subst (λ (name : ProcessId). AreRowed (parity_number name) q.as_leader.sessions) (sym stays.name) (stays.rows (parity_number p.name) sound.rows);
    copies = stays.copies sound.copies;
  } where
    few_of : (known : Membership) → known ≡ p.known → count_known_dead known ≤ s.m
    few_of known is = subst (λ (x : Membership). count_known_dead x ≤ s.m) (sym is) sound.few

    vacant_of : (d : ℕ) (known : Membership) (name : ProcessId) → known ≡ p.known → name ≡ p.name → IsVacant p.known d (parity_number p.name)
        → IsVacant known d (parity_number name)
    vacant_of d known name is named vacant =
        subst (λ (x : Membership). IsVacant x d (parity_number name)) (sym is)
        (subst (λ (x : ProcessId). IsVacant p.known d (parity_number x)) (sym named) vacant)

  -- copies stay for their sessions while updates are applied
  copies-applied : (name : ProcessId) (d i n : ℕ) (us : List Update) (copies : List Copy) → AreStarted i n copies
      → AreStarted i n (map (copy_after s name d us) copies)
  copies-applied name d i n us copies all =
      All-map (λ c. c.leader ≡ i → c.number ≤ n) (copy_after s name d us) copies
      (All-weaker (λ c. c.leader ≡ i → c.number ≤ n) (λ c. (copy_after s name d us c).leader ≡ i → (copy_after s name d us c).number ≤ n)
      (λ c is. by (is_some (at None c.marks d)) c is) copies all)
    where
      added : Copy → Copy
      added c = record c { bytes = block_after s name d c.block us c.bytes }

      by : (b : Bool) (c : Copy) → (c.leader ≡ i → c.number ≤ n) → (if b then c else added c).leader ≡ i → (if b then c else added c).number ≤ n
      by true c is = is
      by false c is = is

  pub applied-stays : (d n : ℕ) (p : Process) → Stays p (apply_to s d n p)
  applied-stays d n p = record {
    name = refl;
    known = refl;
    seats = λ e. refl;
    rows = λ i all. all;
    last = refl;
    copies = λ own. copies-applied p.name d (parity_number p.name) p.as_leader.last_session (up_to n (replica_of p d)) p.as_row.copies own;
  }

  -- a head judges, and counts acknowledgements
  judged-stays : (d : ℕ) (p : Process) (h : Option Head) → Stays p (judge_head s d p h).process
  judged-stays d p None = stays-self p
  judged-stays d p (Some h) = applied-stays d (least_acked h (last_of (replica_of p d)) (other_parities s.m p.name p.known)) p

  pub judge-stays : (d : ℕ) (p : Process) → Stays p (judge s d p).process
  judge-stays d p = judged-stays d p (head_at p d)

  -- a head in the place of one
  head-stays : (d : ℕ) (h new : Head) (p : Process) → head_at p d ≡ Some h → Stays p (with_head d (Some new) p)
  head-stays d h new p there = record {
    name = refl;
    known = refl;
    seats = λ e. by e (cases_eq e d);
    rows = λ i all. all;
    last = refl;
    copies = λ own. own;
  } where
    by : (e : ℕ) → (e ≡ d) ⊎ (e ≢ d) → is_some (at None (put None p.heads d (Some new)) e) ≡ is_some (head_at p e)
    by e (inl same) =
        ap (λ (x : ℕ). is_some (at None (put None p.heads d (Some new)) x)) same
        ∙ ap is_some (at-put None None p.heads d (Some new))
        ∙ ap is_some (sym there)
        ∙ ap (λ (x : ℕ). is_some (head_at p x)) (sym same)
    by e (inr other) = ap is_some (at-put-other None p.heads d e (Some new) other)

  pub acknowledge-stays : (i r d n : ℕ) (p : Process) (o : Option Head) → head_at p d ≡ o → Stays p (acknowledge s i r d n o p).process
  acknowledge-stays i r d n p None there = stays-self p
  acknowledge-stays i r d n p (Some h) there =
      let q : Process = with_head d (Some (acknowledged i n h)) p in
      stays-when (r == h.rank) p (judge s d q) (stays-then p q (judge s d q).process (head-stays d h (acknowledged i n h) p there) (judge-stays d q))

  -- a partition is taken over where it is vacant
  enthroned-sound : (r d : ℕ) (p : Process) → IsVacant p.known d (parity_number p.name) → CanLead s p → CanLead s (enthroned s r d p)
  enthroned-sound r d p vacant sound = record {
    limits = sound.limits;
    named = sound.named;
    shape = sound.shape;
    few = sound.few;
    living = sound.living;
    heads = λ e. by e (cases_eq e d);
    rows = sound.rows;
    copies = sound.copies;
  } where
    by : (e : ℕ) → (e ≡ d) ⊎ (e ≢ d) → is_some (head_at (enthroned s r d p) e) ≡ true → IsVacant p.known e (parity_number p.name)
    by e (inl same) heads = subst (λ (x : ℕ). IsVacant p.known x (parity_number p.name)) (sym same) vacant
    by e (inr other) heads = sound.heads e (ap is_some (sym (at-put-other None p.heads d e _ other)) ∙ heads)

  pub takes-sound : (d : ℕ) (p : Process) → CanLead s p → CanLead s (take_over_if s d p).process
  takes-sound d p sound = by (takes_over p d p.name) refl where
    q : Process
    q = enthroned s (suc (parity_number p.name)) d p

    by : (b : Bool) → takes_over p d p.name ≡ b → CanLead s (when b p (taken_over s d p)).process
    by true takes = sound-stays q (judge s d q).process (judge-stays d q)
        (enthroned-sound (suc (parity_number p.name)) d p (taken-vacant p d p.name takes) sound)
    by false takes = sound

  pub each-sound : (f : ℕ → Process → ProcessStep) → ((x : ℕ) (q : Process) → CanLead s q → CanLead s (f x q).process)
      → (xs : List ℕ) (p : Process) → CanLead s p
      → CanLead s (for_each xs f p).process
  each-sound f each [] p sound = sound
  each-sound f each (x ∷ xs) p sound = each-sound f each xs (f x p).process (each x p sound)
