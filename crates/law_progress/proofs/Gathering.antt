-- What becomes of a leader's sessions where a row or a block comes in.
use Rattle.std.proofs.Common.{◌≡◌, ◌≢◌, ℕ, ◌≤◌, ◌==◌, Bool, true, false, List, [], ◌∷◌, find, is_some, Option, Some}
use Rattle.std.proofs.Common.{None, ◌⊎◌, inl, inr, refl, sym, ap, subst, ◌∙◌, if◌then◌else◌, arith}
use Rattle.std.proofs.lemmas.Bool.{cases_eq}
use Rattle.std.specs.List.{list_all}
use Rattle.group_types.specs.Dimensions.{Dimensions}
use Rattle.group_types.specs.Lists.{at, put}
use Rattle.group_types.proofs.Lists.{at-put, at-put-other}
use Rattle.group_run.specs.Leaders.{block_comes, block_gathered, gathered, is_complete, open_session, row_comes, row_gathered, with_leader}
use Rattle.group_run.specs.Process.{Gathering, LeaderState, Process}
use Rattle.law_bytes.proofs.Finding.{and-split, found-passes}
use Rattle.law_bytes.proofs.Local.{number-is}
use Rattle.law_bytes.proofs.Marks.{block-last, row-last}
use Rattle.law_progress.proofs.Waiting.{Has, WantsBlock, WantsRow}
use Rattle.law_progress.proofs.Sides.{LeaderFine, opened}
use Rattle.law_progress.proofs.Views.{gathered-here, gathered-other}

-- a session that rows or blocks came in for
record Grows (g h : Gathering) (row block : ℕ → Type 0) : Type 0 where
  pub number : h.number ≡ g.number
  pub rows : h.rows ≡ g.rows
  pub rows_before : (r : ℕ) → at None h.rows_in r ≡ None → (at None g.rows_in r ≡ None) × (row r → ⊥)
  pub rows_after : (r : ℕ) → at None g.rows_in r ≡ None → (at None h.rows_in r ≡ None) ⊎ row r
  pub blocks : (d : ℕ) → at None h.blocks_in d ≡ None → (at None g.blocks_in d ≡ None) × (block d → ⊥)

-- all that pass, and one of them
pub one-of-all : (test : ℕ → Bool) (xs : List ℕ) (r : ℕ) → list_all test xs ≡ true → Has (λ i. i ≡ r) xs → test r ≡ true
one-of-all test [] r all has = absurd has
one-of-all test (x ∷ xs) r all (inl here) = ap test (sym here) ∙ (and-split (test x) (list_all test xs) all).0
one-of-all test (x ∷ xs) r all (inr there) = one-of-all test xs r (and-split (test x) (list_all test xs) all).1 there

module _ (s : Dimensions) where
  -- what a process has of sessions after rows or blocks came in for session `number`
  pub record Gathers (p q : Process) (number : ℕ) (row block : ℕ → Type 0) : Type 0 where
    pub rows : (n r : ℕ) → WantsRow r (opened q n) → WantsRow r (opened p n) × (n ≡ number → row r → ⊥)
    pub blocks : (n d : ℕ) → WantsBlock d (opened q n) → WantsBlock d (opened p n) × (n ≡ number → block d → ⊥)
    pub left : (n r : ℕ) → WantsRow r (opened p n) → WantsRow r (opened q n) ⊎ ((n ≡ number) × row r)
    pub opens : (n : ℕ) → is_some (opened q n) ≡ true → is_some (opened p n) ≡ true
    pub last : q.as_leader.last_session ≡ p.as_leader.last_session
    pub fine : LeaderFine s p → LeaderFine s q

  -- nothing came in
  pub gathers-same : (p q : Process) (number : ℕ) → q.as_leader.sessions ≡ p.as_leader.sessions
      → q.as_leader.last_session ≡ p.as_leader.last_session → Gathers p q number (λ r. ⊥) (λ d. ⊥)
  gathers-same p q number sessions last = record {
    rows = λ n r wants. (subst (WantsRow r) (same n) wants, λ here is. is);
    blocks = λ n d wants. (subst (WantsBlock d) (same n) wants, λ here is. is);
    left = λ n r wants. inl (subst (WantsRow r) (sym (same n)) wants);
    opens = λ n is. ap is_some (sym (same n)) ∙ is;
    last = last;
    fine = λ fine n g is. let old = fine n g (sym (same n) ∙ is) in (old.0, let low = old.1 in omega (arith, last, low));
  } where
    same : (n : ℕ) → opened q n ≡ opened p n
    same n = ap (λ (gs : List Gathering). find (λ g. g.number == n) gs) sessions

  -- the session isn't open
  none-gathers : (p q : Process) (number : ℕ) (row block : ℕ → Type 0) → q.as_leader ≡ p.as_leader → opened p number ≡ None → Gathers p q number row block
  none-gathers p q number row block same none = record {
    rows = λ n r wants. let before = subst (WantsRow r) (is n) wants in (before, λ here it. absurd (subst (WantsRow r) (ap (opened p) here ∙ none) before));
    blocks = λ n d wants. let before = subst (WantsBlock d) (is n) wants in
        (before, λ here it. absurd (subst (WantsBlock d) (ap (opened p) here ∙ none) before));
    left = λ n r wants. inl (subst (WantsRow r) (sym (is n)) wants);
    opens = λ n some. ap is_some (sym (is n)) ∙ some;
    last = ap (λ (l : LeaderState). l.last_session) same;
    fine = λ fine n g some. let old = fine n g (sym (is n) ∙ some) in (
      old.0,
      let low = old.1 in let last = ap (λ (l : LeaderState). l.last_session) same in
          omega (arith, last, low),
    );
  } where
    is : (n : ℕ) → opened q n ≡ opened p n
    is n = ap (λ (l : LeaderState). open_session l n) same

  -- the session is open
  some-gathers : (p q : Process) (number : ℕ) (row block : ℕ → Type 0) (g h : Gathering) → opened p number ≡ Some g → Grows g h row block
      → q.as_leader ≡ gathered s h p.as_leader → q.as_leader.last_session ≡ p.as_leader.last_session → Gathers p q number row block
  some-gathers p q number row block g h opens grows leader last = record {
    rows = λ n r wants. rows n r wants (cases_eq n number);
    blocks = λ n d wants. blocks n d wants (cases_eq n number);
    left = λ n r wants. left n r wants (cases_eq n number);
    opens = λ n some. opens_by n some (cases_eq n number);
    last = last;
    fine = λ fine n k is. fine_by fine n k is (cases_eq n number);
  } where
    is_number : h.number ≡ number
    is_number = grows.number ∙ number-is g number (found-passes (λ x. x.number == number) p.as_leader.sessions g opens)

    here : opened q number ≡ (if is_complete s h then None else Some h)
    here = ap (λ (l : LeaderState). open_session l number) leader ∙ gathered-here s h g p.as_leader number opens is_number (is_complete s h)

    other : (n : ℕ) → n ≢ number → opened q n ≡ opened p n
    other n apart = ap (λ (l : LeaderState). open_session l n) leader ∙ gathered-other s h g p.as_leader number opens is_number (is_complete s h) n apart

    rows : (n r : ℕ) → WantsRow r (opened q n) → (n ≡ number) ⊎ (n ≢ number) → WantsRow r (opened p n) × (n ≡ number → row r → ⊥)
    rows n r wants (inr apart) = (subst (WantsRow r) (other n apart) wants, λ same it. apart same)
    rows n r wants (inl same) = by (is_complete s h) (subst (WantsRow r) (ap (opened q) same ∙ here) wants) where
      by : (b : Bool) → WantsRow r (if b then None else Some h) → WantsRow r (opened p n) × (n ≡ number → row r → ⊥)
      by true wanted = absurd wanted
      by false wanted = let before = grows.rows_before r wanted.1 in (
        subst (WantsRow r) (sym (ap (opened p) same ∙ opens)) (
          subst (Has (λ i. i ≡ r)) grows.rows wanted.0,
          before.0,
        ),
        λ it. before.1,
      )

    blocks : (n d : ℕ) → WantsBlock d (opened q n) → (n ≡ number) ⊎ (n ≢ number) → WantsBlock d (opened p n) × (n ≡ number → block d → ⊥)
    blocks n d wants (inr apart) = (subst (WantsBlock d) (other n apart) wants, λ same it. apart same)
    blocks n d wants (inl same) = by (is_complete s h) (subst (WantsBlock d) (ap (opened q) same ∙ here) wants) where
      by : (b : Bool) → WantsBlock d (if b then None else Some h) → WantsBlock d (opened p n) × (n ≡ number → block d → ⊥)
      by true wanted = absurd wanted
      by false wanted = let before = grows.blocks d wanted in (subst (WantsBlock d) (sym (ap (opened p) same ∙ opens)) before.0, λ it. before.1)

    left : (n r : ℕ) → WantsRow r (opened p n) → (n ≡ number) ⊎ (n ≢ number) → WantsRow r (opened q n) ⊎ ((n ≡ number) × row r)
    left n r wants (inr apart) = inl (subst (WantsRow r) (sym (other n apart)) wants)
    left n r wants (inl same) = by (subst (WantsRow r) (ap (opened p) same ∙ opens) wants) where
      kept : (b : Bool) → is_complete s h ≡ b → Has (λ i. i ≡ r) h.rows → at None h.rows_in r ≡ None → WantsRow r (if b then None else Some h)
      kept false is among none = (among, none)
      kept true is among none =
          let some = one-of-all (λ i. is_some (at None h.rows_in i)) h.rows r (and-split _ (list_all (λ i. is_some (at None h.rows_in i)) h.rows) is).1 among in
          cc (sym some ∙ ap is_some none)

      by : Has (λ i. i ≡ r) g.rows × (at None g.rows_in r ≡ None) → WantsRow r (opened q n) ⊎ ((n ≡ number) × row r)
      by before = turn (grows.rows_after r before.1) where
        turn : (at None h.rows_in r ≡ None) ⊎ row r → WantsRow r (opened q n) ⊎ ((n ≡ number) × row r)
        turn (inr it) = inr (same, it)
        turn (inl none) =
            inl (subst (WantsRow r) (sym (ap (opened q) same ∙ here))
            (kept (is_complete s h) refl (subst (Has (λ i. i ≡ r)) (sym grows.rows) before.0) none))

    opens_by : (n : ℕ) → is_some (opened q n) ≡ true → (n ≡ number) ⊎ (n ≢ number) → is_some (opened p n) ≡ true
    opens_by n some (inl same) = ap is_some (ap (opened p) same ∙ opens)
    opens_by n some (inr apart) = ap is_some (sym (other n apart)) ∙ some

    fine_by : LeaderFine s p → (n : ℕ) (k : Gathering) → opened q n ≡ Some k → (n ≡ number) ⊎ (n ≢ number)
        → (is_complete s k ≡ false) × (n ≤ q.as_leader.last_session)
    fine_by fine n k is (inr apart) = let old = fine n k (sym (other n apart) ∙ is) in (old.0, let low = old.1 in omega (arith, last, low))
    fine_by fine n k is (inl same) = by (is_complete s h) refl (sym (ap (opened q) same ∙ here) ∙ is) where
      by : (b : Bool) → is_complete s h ≡ b → (if b then None else Some h) ≡ Some k → (is_complete s k ≡ false) × (n ≤ q.as_leader.last_session)
      by true all none = absurd (cc none)
      by false all some = let it : h ≡ k = cc some in (
        ap (is_complete s) (sym it) ∙ all,
        let low = (fine n g (ap (opened p) same ∙ opens)).1 in
            omega (arith, last, low),
      )

  put-before : (parts : List (Option (List ℕ))) (i r : ℕ) (bytes : List ℕ) → at None (put None parts i (Some bytes)) r
      ≡ None → (at None parts r ≡ None) × (r ≡ i → ⊥)
  put-before parts i r bytes none = by (cases_eq r i) where
    by : (r ≡ i) ⊎ (r ≢ i) → (at None parts r ≡ None) × (r ≡ i → ⊥)
    by (inl same) = absurd (cc (sym none ∙ ap (at None (put None parts i (Some bytes))) same ∙ at-put None None parts i (Some bytes)))
    by (inr other) = (sym (at-put-other None parts i r (Some bytes) other) ∙ none, other)

  put-after : (parts : List (Option (List ℕ))) (i r : ℕ) (bytes : List ℕ) → at None parts r ≡ None
      → (at None (put None parts i (Some bytes)) r ≡ None) ⊎ (r ≡ i)
  put-after parts i r bytes none = by (cases_eq r i) where
    by : (r ≡ i) ⊎ (r ≢ i) → (at None (put None parts i (Some bytes)) r ≡ None) ⊎ (r ≡ i)
    by (inl same) = inr same
    by (inr other) = inl (at-put-other None parts i r (Some bytes) other ∙ none)

  pub row-gathers : (number i : ℕ) (bytes : List ℕ) (p : Process) → Gathers p (row_comes s number i bytes p) number (λ r. r ≡ i) (λ d. ⊥)
  row-gathers number i bytes p = by (opened p number) refl where
    by : (o : Option Gathering) → opened p number ≡ o → Gathers p (with_leader (row_gathered s i bytes o p.as_leader) p) number (λ r. r ≡ i) (λ d. ⊥)
    by None none = none-gathers p (with_leader p.as_leader p) number (λ r. r ≡ i) (λ d. ⊥) refl none
    by (Some g) opens =
        let h : Gathering = record g { rows_in = put None g.rows_in i (Some bytes) } in
        some-gathers p (with_leader (gathered s h p.as_leader) p) number (λ r. r ≡ i) (λ d. ⊥) g h opens
        (record {
          number = refl;
          rows = refl;
          rows_before = λ r none. put-before g.rows_in i r bytes none;
          rows_after = λ r none. put-after g.rows_in i r bytes none;
          blocks = λ d none. (none, λ it. it);
        })
        refl (row-last s i bytes (Some g) p.as_leader)

  pub block-gathers : (number e : ℕ) (bytes : List ℕ) (p : Process) → Gathers p (block_comes s number e bytes p) number (λ r. ⊥) (λ d. d ≡ e)
  block-gathers number e bytes p = by (opened p number) refl where
    by : (o : Option Gathering) → opened p number ≡ o → Gathers p (with_leader (block_gathered s e bytes o p.as_leader) p) number (λ r. ⊥) (λ d. d ≡ e)
    by None none = none-gathers p (with_leader p.as_leader p) number (λ r. ⊥) (λ d. d ≡ e) refl none
    by (Some g) opens =
        let h : Gathering = record g { blocks_in = put None g.blocks_in e (Some bytes) } in
        some-gathers p (with_leader (gathered s h p.as_leader) p) number (λ r. ⊥) (λ d. d ≡ e) g h opens
        (record {
          number = refl;
          rows = refl;
          rows_before = λ r none. (none, λ it. it);
          rows_after = λ r none. inl none;
          blocks = λ d none. put-before g.blocks_in e d bytes none;
        })
        refl (block-last s e bytes (Some g) p.as_leader)
