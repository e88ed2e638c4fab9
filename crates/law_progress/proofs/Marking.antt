-- What a row makes of a mark that it accepts: the partition is marked in its copy, which goes to the leader as a row
-- once it is full, or is taken over at once where the row is the leader's own.
use Rattle.std.proofs.Common.{◌≡◌, ◌≢◌, ℕ, ◌<◌, ◌==◌, Bool, true, false, not, List, find, is_some, Option, Some, None}
use Rattle.std.proofs.Common.{option_map, ◌⊎◌, inl, inr, refl, sym, ap, subst, ◌∙◌, arith}
use Rattle.std.proofs.lemmas.Bool.{cases_eq, eq-eqb}
use Rattle.std.specs.List.{range_with_len}
use Rattle.group_types.specs.Dimensions.{Dimensions}
use Rattle.group_types.specs.Lists.{at}
use Rattle.group_types.specs.Names.{same_process}
use Rattle.group_types.specs.declared.process.ProcessId.{ProcessId}
use Rattle.group_types.specs.declared.process.ProcessId.TheVariants.{ParityNode}
use Rattle.group_types.proofs.Lists.{at-put, at-put-other, at-replicate}
use Rattle.group_types.proofs.Names.{same-eq, same-refl}
use Rattle.group_message.specs.declared.update.Update.{Update}
use Rattle.group_run.specs.Applying.{ProcessStep, apply_to, copy_after, replica_of}
use Rattle.group_run.specs.Leaders.{copy_kept, copy_marked, mark_taken, row_finished}
use Rattle.group_run.specs.Process.{Copy, Gathering, Process}
use Rattle.group_run.specs.Replica.{up_to}
use Rattle.group_run.specs.Rows.{begin_copy, copy_begun, copy_in, is_copy, is_marked, marked, new_copy, with_copies, with_copy, without_copy}
use Rattle.law_bytes.proofs.Finding.{and-join, found-apart, found-exchanged, found-filter, found-map, found-passes, true-false}
use Rattle.law_bytes.proofs.Marking.{copy-mark, copy-test}
use Rattle.law_bytes.proofs.Rising.{all-among, among-range}
use Rattle.law_bytes.proofs.Local.{copy-parts}
use Rattle.law_progress.proofs.Waiting.{IsRow, Marked, WantsBlock, WantsRow, marks_in}
use Rattle.law_progress.proofs.Gathering.{Gathers, gathers-same, row-gathers}
use Rattle.law_progress.proofs.Sides.{CalmSent, is_full, marks-apply, opened}
use Rattle.law_progress.proofs.Views.{Sends, find-new, find-old}

-- a copy of one session isn't of another
copy-is : (c : Copy) → is_copy c.leader c.number c ≡ true
copy-is c = and-join (c.leader == c.leader) (c.number == c.number) (eq-eqb c.leader c.leader refl) (eq-eqb c.number c.number refl)

copy-other : (l n k j : ℕ) (c : Copy) → is_copy k j c ≡ true → ((l ≡ k) × (n ≡ j) → ⊥) → is_copy l n c ≡ false
copy-other l n k j c is other = true-false (is_copy l n c) (λ too. let a = copy-parts k j c is in
    let b = copy-parts l n c too in other (sym b.0 ∙ a.0, sym b.1 ∙ a.1))

module _ (s : Dimensions) where
  -- what becomes of the copy in which partition d is marked
  pub data Outcome (p : Process) (t : ProcessStep) (l n d : ℕ) : Type 0 where
    Waits : (marks : List (Option ℕ)) → marks_in t.process l n ≡ Some marks → is_full s marks ≡ false → is_some (at None marks d) ≡ true
        → ((e : ℕ) → Marked e (marks_in p l n) → is_some (at None marks e) ≡ true)
        → ((e : ℕ) → is_some (at None marks e) ≡ true → (e ≡ d) ⊎ Marked e (marks_in p l n))
        → Gathers s p t.process n (λ r. ⊥) (λ e. ⊥) → Outcome p t l n d
    Goes : marks_in t.process l n ≡ None → ((e : ℕ) → e < s.k → e ≢ d → Marked e (marks_in p l n))
        → p.name ≢ ParityNode l → Gathers s p t.process n (λ r. ⊥) (λ e. ⊥)
        → Sends (IsRow l n) (ParityNode l) t.sent → Outcome p t l n d
    Own : marks_in t.process l n ≡ None → ((e : ℕ) → e < s.k → e ≢ d → Marked e (marks_in p l n))
        → p.name ≡ ParityNode l → Gathers s p t.process n (λ r. r ≡ l) (λ e. ⊥) → Outcome p t l n d

  pub record Takes (p : Process) (t : ProcessStep) (l n d : ℕ) : Type 0 where
    pub name : t.process.name ≡ p.name
    pub known : t.process.known ≡ p.known
    pub ceased : t.process.as_row.ceased ≡ p.as_row.ceased
    pub others : (k j : ℕ) → ((k ≡ l) × (j ≡ n) → ⊥) → marks_in t.process k j ≡ marks_in p k j
    pub outcome : Outcome p t l n d
    pub calm : CalmSent t.sent

  -- the copy in which the mark is made, with the marks that it has so far
  record Begun (p q : Process) (l n : ℕ) : Type 0 where
    pub copy : Copy
    pub found : copy_in q.as_row.copies l n ≡ Some copy
    pub marks : (e : ℕ) → is_some (at None copy.marks e) ≡ true → Marked e (marks_in p l n)
    pub before : (e : ℕ) → Marked e (marks_in p l n) → is_some (at None copy.marks e) ≡ true
    pub others : (k j : ℕ) → ((k ≡ l) × (j ≡ n) → ⊥) → marks_in q k j ≡ marks_in p k j
    pub name : q.name ≡ p.name
    pub known : q.known ≡ p.known
    pub ceased : q.as_row.ceased ≡ p.as_row.ceased
    pub sessions : q.as_leader.sessions ≡ p.as_leader.sessions
    pub last : q.as_leader.last_session ≡ p.as_leader.last_session

  begun : (l n block : ℕ) (p : Process) → Begun p (begin_copy s l n block p) l n
  begun l n block p = by (copy_in p.as_row.copies l n) refl where
    by : (o : Option Copy) → copy_in p.as_row.copies l n ≡ o → Begun p (copy_begun (is_some o) s l n block p) l n
    by (Some c) is =
        let there : marks_in p l n ≡ Some c.marks = ap (option_map (λ x. x.marks)) is in
        record {
          copy = c;
          found = is;
          marks = λ e some. subst (Marked e) (sym there) some;
          before = λ e marks. subst (Marked e) there marks;
          others = λ k j other. refl;
          name = refl;
          known = refl;
          ceased = refl;
          sessions = refl;
          last = refl;
        }
    by None is =
        let c : Copy = new_copy s l n block p.space in
        record {
          copy = c;
          found = find-new (is_copy l n) p.as_row.copies c is (copy-is c);
          marks = λ e some. absurd (cc (sym some ∙ ap is_some (at-replicate None s.k e)));
          before = λ e marks. absurd (subst (Marked e) (ap (option_map (λ x. x.marks)) is) marks);
          others = λ k j other. ap (option_map (λ x. x.marks)) (find-old (is_copy k j) p.as_row.copies c (copy-other k j l n c (copy-is c) other));
          name = refl;
          known = refl;
          ceased = refl;
          sessions = refl;
          last = refl;
        }

  applied : (l n d k : ℕ) (p q : Process) → Begun p q l n → Begun p (apply_to s d k q) l n
  applied l n d k p q begun = record {
    copy = c;
    found = found-map (is_copy l n) (copy_after s q.name d us) q.as_row.copies (λ x. copy-test s q.name d us l n x)
        ∙ ap (option_map (copy_after s q.name d us)) begun.found;
    marks = λ e some. begun.marks e (subst (λ (marks : List (Option ℕ)). is_some (at None marks e) ≡ true) same some);
    before = λ e marks. subst (λ (marks : List (Option ℕ)). is_some (at None marks e) ≡ true) (sym same) (begun.before e marks);
    others = λ i j other. marks-apply s d k q i j ∙ begun.others i j other;
    name = begun.name;
    known = begun.known;
    ceased = begun.ceased;
    sessions = begun.sessions;
    last = begun.last;
  } where
    us : List Update
    us = up_to k (replica_of q d)

    c : Copy
    c = copy_after s q.name d us begun.copy

    same : c.marks ≡ begun.copy.marks
    same = copy-mark s q.name d us begun.copy (λ (marks : List (Option ℕ)). marks ≡ begun.copy.marks) refl

  -- sessions that were the same before
  gathers-from : (p q r : Process) (number : ℕ) (row block : ℕ → Type 0) → q.as_leader.sessions ≡ p.as_leader.sessions
      → q.as_leader.last_session ≡ p.as_leader.last_session → Gathers s q r number row block → Gathers s p r number row block
  gathers-from p q r number row block sessions last onward = record {
    rows = λ n i wants. let old = onward.rows n i wants in (subst (WantsRow i) (same n) old.0, old.1);
    blocks = λ n i wants. let old = onward.blocks n i wants in (subst (WantsBlock i) (same n) old.0, old.1);
    left = λ n i wants. onward.left n i (subst (WantsRow i) (sym (same n)) wants);
    opens = λ n is. ap is_some (sym (same n)) ∙ onward.opens n is;
    last = onward.last ∙ last;
    fine = λ fine. onward.fine ((gathers-same s p q number sessions last).fine fine);
  } where
    same : (n : ℕ) → opened q n ≡ opened p n
    same n = ap (λ (gs : List Gathering). find (λ g. g.number == n) gs) sessions

  -- the mark is made
  module _ (p q : Process) (d k : ℕ) (c : Copy) (found : copy_in q.as_row.copies c.leader c.number ≡ Some c)
      (marks : (e : ℕ) → is_some (at None c.marks e) ≡ true → Marked e (marks_in p c.leader c.number))
      (before : (e : ℕ) → Marked e (marks_in p c.leader c.number) → is_some (at None c.marks e) ≡ true)
      (others : (i j : ℕ) → ((i ≡ c.leader) × (j ≡ c.number) → ⊥) → marks_in q i j ≡ marks_in p i j)
      (name : q.name ≡ p.name) (known : q.known ≡ p.known) (ceased : q.as_row.ceased ≡ p.as_row.ceased)
      (sessions : q.as_leader.sessions ≡ p.as_leader.sessions)
      (last : q.as_leader.last_session ≡ p.as_leader.last_session) where
    abbrev more : Copy
    more = marked d k c

    -- it is there, and what was there
    made : is_some (at None more.marks d) ≡ true
    made = ap is_some (at-put None None c.marks d (Some k))

    still : (e : ℕ) → is_some (at None c.marks e) ≡ true → is_some (at None more.marks e) ≡ true
    still e is = by (cases_eq e d) where
      by : (e ≡ d) ⊎ (e ≢ d) → is_some (at None more.marks e) ≡ true
      by (inl same) = ap (λ (i : ℕ). is_some (at None more.marks i)) same ∙ made
      by (inr other) = ap is_some (at-put-other None c.marks d e (Some k) other) ∙ is

    was : (e : ℕ) → is_some (at None more.marks e) ≡ true → (e ≡ d) ⊎ Marked e (marks_in p c.leader c.number)
    was e is = by (cases_eq e d) where
      by : (e ≡ d) ⊎ (e ≢ d) → (e ≡ d) ⊎ Marked e (marks_in p c.leader c.number)
      by (inl same) = inl same
      by (inr other) = inr (marks e (ap is_some (sym (at-put-other None c.marks d e (Some k) other)) ∙ is))

    rest : is_full s more.marks ≡ true → (e : ℕ) → e < s.k → e ≢ d → Marked e (marks_in p c.leader c.number)
    rest full e low other =
        by (was e (all-among (λ i. is_some (at None more.marks i)) (range_with_len 0 s.k) e full
        (among-range e 0 s.k (omega arith) (omega (arith, low))))) where
          by : (e ≡ d) ⊎ Marked e (marks_in p c.leader c.number) → Marked e (marks_in p c.leader c.number)
          by (inl same) = absurd (other same)
          by (inr is) = is

    -- with the copy, and without
    abbrev waiting : Process
    waiting = with_copies (with_copy more q.as_row.copies) q

    abbrev rid : Process
    rid = with_copies (without_copy c.leader c.number q.as_row.copies) q

    waiting-here : marks_in waiting c.leader c.number ≡ Some more.marks
    waiting-here = ap (option_map (λ x. x.marks)) (found-exchanged (is_copy c.leader c.number) more c q.as_row.copies (copy-is more) found)

    waiting-other : (i j : ℕ) → ((i ≡ c.leader) × (j ≡ c.number) → ⊥) → marks_in waiting i j ≡ marks_in p i j
    waiting-other i j other =
        ap (option_map (λ x. x.marks))
        (found-apart (is_copy i j) (is_copy c.leader c.number) more q.as_row.copies
        (copy-other i j c.leader c.number more (copy-is more) other)
        (λ x swap. copy-other i j c.leader c.number x swap other))
        ∙ others i j other

    rid-here : marks_in rid c.leader c.number ≡ None
    rid-here = ap (option_map (λ x. x.marks))
        (found-filter (is_copy c.leader c.number) (λ x. not (is_copy c.leader c.number x)) false q.as_row.copies
        (λ x passes. ap not passes))

    rid-other : (i j : ℕ) → ((i ≡ c.leader) × (j ≡ c.number) → ⊥) → marks_in rid i j ≡ marks_in p i j
    rid-other i j other =
        ap (option_map (λ x. x.marks)) (found-filter (is_copy i j) (λ x. not (is_copy c.leader c.number x)) true q.as_row.copies
        (λ x passes. ap not (copy-other c.leader c.number i j x passes (λ same. other (sym same.0, sym same.1)))))
        ∙ others i j other

    finished : (own : Bool) → same_process q.name (ParityNode c.leader) ≡ own → is_full s more.marks ≡ true
        → Takes p (row_finished own s more rid) c.leader c.number d
    finished true own full = record {
      name = name;
      known = known;
      ceased = ceased;
      others = rid-other;
      calm = tt;
      outcome =
          Own rid-here (rest full) (sym name ∙ same-eq q.name (ParityNode c.leader) own)
          (gathers-from p rid _ c.number (λ r. r ≡ c.leader) (λ e. ⊥) sessions last (row-gathers s c.number c.leader more.bytes rid));
    }
    finished false own full = record {
      name = name;
      known = known;
      ceased = ceased;
      others = rid-other;
      calm = (tt, tt);
      outcome =
          Goes rid-here (rest full)
          (λ (same : p.name ≡ ParityNode c.leader).
          cc (sym own ∙ ap (λ (y : ProcessId). same_process y (ParityNode c.leader)) (name ∙ same)
          ∙ same-refl (ParityNode c.leader)))
          (gathers-same s p rid c.number sessions last) (inl (refl, (refl, refl)));
    }

    kept : (whole : Bool) → is_full s more.marks ≡ whole → Takes p (copy_kept whole s more q) c.leader c.number d
    kept true full = finished (same_process q.name (ParityNode c.leader)) refl full
    kept false lacks = record {
      name = name;
      known = known;
      ceased = ceased;
      others = waiting-other;
      calm = tt;
      outcome = Waits more.marks waiting-here lacks made (λ e is. still e (before e is)) was (gathers-same s p waiting c.number sessions last);
    }

  pub mark-takes : (l n block d k : ℕ) (p : Process) → Takes p (mark_taken s l n block d k p) l n d
  mark-takes l n block d k p = subst (λ (o : Option Copy). Takes p (copy_marked s d k o q) l n d) (sym b.found) whole where
    q : Process
    q = apply_to s d k (begin_copy s l n block p)

    b : Begun p q l n
    b = applied l n d k p (begin_copy s l n block p) (begun l n block p)

    parts : (b.copy.leader ≡ l) × (b.copy.number ≡ n)
    parts = copy-parts l n b.copy (found-passes (is_copy l n) q.as_row.copies b.copy b.found)

    at_copy : (P : ℕ → ℕ → Type 0) → P l n → P b.copy.leader b.copy.number
    at_copy P is = subst (λ (i : ℕ). P i b.copy.number) (sym parts.0) (subst (P l) (sym parts.1) is)

    from_copy : (P : ℕ → ℕ → Type 0) → P b.copy.leader b.copy.number → P l n
    from_copy P is = subst (λ (i : ℕ). P i n) parts.0 (subst (P b.copy.leader) parts.1 is)

    whole : Takes p (copy_kept (is_marked s (marked d k b.copy)) s (marked d k b.copy) q) l n d
    whole = from_copy (λ i j. Takes p (copy_kept (is_marked s (marked d k b.copy)) s (marked d k b.copy) q) i j d)
        (kept p q d k b.copy (at_copy (λ i j. copy_in q.as_row.copies i j ≡ Some b.copy) b.found)
        (at_copy (λ i j. (e : ℕ) → is_some (at None b.copy.marks e) ≡ true → Marked e (marks_in p i j)) b.marks)
        (at_copy (λ i j. (e : ℕ) → Marked e (marks_in p i j) → is_some (at None b.copy.marks e) ≡ true) b.before)
        (at_copy (λ i j. (x y : ℕ) → ((x ≡ i) × (y ≡ j) → ⊥) → marks_in q x y ≡ marks_in p x y) b.others)
        b.name b.known b.ceased b.sessions b.last (is_marked s (marked d k b.copy)) refl)
