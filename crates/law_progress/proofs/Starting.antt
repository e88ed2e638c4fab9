-- What opening a session makes: questions to the data processes that are left, and marks of the lost partitions to the
-- rows, the leader's own among them.
use Rattle.std.proofs.Common.{◌≡◌, ◌≢◌, ℕ, zero, suc, ◌+◌, ◌<◌, ◌≤◌, nat_lt, Bool, true, false, not, List, [], ◌∷◌}
use Rattle.std.proofs.Common.{take, filter, cond, is_some, Option, Some, None, ◌⊎◌, inl, inr, refl, sym, ap, ap₂, subst}
use Rattle.std.proofs.Common.{◌∙◌, arith}
use Rattle.std.proofs.lemmas.Bool.{cases_eq, eq-eqb}
use Rattle.std.proofs.lemmas.Grind.{common_steps}
use Rattle.std.specs.List.{range_with_len}
use Rattle.group_types.specs.Dimensions.{Dimensions}
use Rattle.group_types.specs.Lists.{at}
use Rattle.group_types.specs.declared.process.ProcessId.TheVariants.{ParityNode}
use Rattle.group_types.specs.Each.{Each}
use Rattle.group_types.proofs.Eaches.{each-append}
use Rattle.membership.specs.Members.{knows_dead}
use Rattle.group_run.specs.Applying.{ProcessStep, and_then, for_each, quiet, replica_of, when}
use Rattle.group_run.specs.Leaders.{mark_taken, own_mark}
use Rattle.group_run.specs.Process.{Process}
use Rattle.group_run.specs.Rows.{accepts_mark}
use Rattle.law_bytes.proofs.Finding.{and-join}
use Rattle.law_progress.proofs.Waiting.{Has, Marked, WantsBlock, WantsRow, marks_in}
use Rattle.law_progress.proofs.Marking.{Goes, Outcome, Own, Takes, Waits, mark-takes}
use Rattle.law_progress.proofs.Sides as sides
use Rattle.law_progress.proofs.Sides.{CalmSent, CopyFine, Fair, Fresh, LeaderFine, Leaves, NewBlock, NewRow, RowFine}
use Rattle.law_progress.proofs.Sides.{calm-ask, calm-mark, calm-none, is_full, leaves-each, opened}
use Rattle.law_progress.proofs.Taking.{same-or-not}
use Rattle.law_progress.proofs.Views.{filter-has, range-has}

-- none stands twice
abbrev pub NoRepeat : List ℕ → Type 0
NoRepeat [] = Unit {0}
NoRepeat (e ∷ es) = (Has (λ i. i ≡ e) es → ⊥) × NoRepeat es

pub once : (test : ℕ → Bool) (a n : ℕ) → NoRepeat (filter test (range_with_len a n))
once test a zero = tt
once test a (suc n) = by (test a) (once test (a + 1) n) where
  by : (b : Bool) → NoRepeat (filter test (range_with_len (a + 1) n))
      → NoRepeat (cond b (a ∷ filter test (range_with_len (a + 1) n)) (filter test (range_with_len (a + 1) n)))
  by true rest = ((λ there. let low = (range-has a (a + 1) n (filter-has test a (range_with_len (a + 1) n) there).0).0 in absurd (omega (arith, low))), rest)
  by false rest = rest

-- the first that passes
pub first-passing : (test : ℕ → Bool) (l a n k : ℕ) → a ≤ l → l < a + n → ((j : ℕ) → a ≤ j → j < l → test j ≡ false) → test l ≡ true
    → Has (λ i. i ≡ l) (take (suc k) (filter test (range_with_len a n)))
first-passing test l a zero k low high lower passes = absurd (omega (arith, low, high))
first-passing test l a (suc n) k low high lower passes =
    by (cases_eq a l) (test a) refl (λ above. first-passing test l (a + 1) n k above (omega (arith, high))
    (λ j over under. lower j (omega (arith, over)) under) passes) where
      by : (a ≡ l) ⊎ (a ≢ l) → (b : Bool) → test a ≡ b → (a + 1 ≤ l → Has (λ i. i ≡ l) (take (suc k) (filter test (range_with_len (a + 1) n))))
          → Has (λ i. i ≡ l) (take (suc k) (cond b (a ∷ filter test (range_with_len (a + 1) n)) (filter test (range_with_len (a + 1) n))))
      by (inl same) true is later = inl same
      by (inl same) false is later = cc (sym is ∙ ap test same ∙ passes)
      by (inr other) true is later = cc (sym is ∙ lower a (omega arith) (omega (arith, low, other)))
      by (inr other) false is later = later (omega (arith, low, other))

module _ (s : Dimensions) (l number block : ℕ) where
  -- marks that a leader makes in its own row, one after the other
  pub record Runs (ls : List ℕ) (q : Process) (t : ProcessStep) : Type 0 where
    pub known : t.process.known ≡ q.known
    pub ceased : t.process.as_row.ceased ≡ q.as_row.ceased
    pub last : t.process.as_leader.last_session ≡ q.as_leader.last_session
    pub others : (k j : ℕ) → ((k ≡ l) × (j ≡ number) → ⊥) → marks_in t.process k j ≡ marks_in q k j
    pub rows : (n r : ℕ) → WantsRow r (opened t.process n) → WantsRow r (opened q n)
    pub blocks : (n d : ℕ) → WantsBlock d (opened t.process n) → WantsBlock d (opened q n)
    pub left : (n r : ℕ) → WantsRow r (opened q n) → WantsRow r (opened t.process n) ⊎ ((n ≡ number) × (r ≡ l))
    pub opens : (n : ℕ) → is_some (opened t.process n) ≡ true → is_some (opened q n) ≡ true
    pub fine : LeaderFine s q → LeaderFine s t.process
    pub calm : CalmSent t.sent
    pub copy : RowFine s q → RowFine s t.process
    pub keeps : (e : ℕ) → Marked e (marks_in q l number) ⊎ (WantsRow l (opened q number) → ⊥)
        → Marked e (marks_in t.process l number) ⊎ (WantsRow l (opened t.process number) → ⊥)
    pub done : (e : ℕ) → Has (λ i. i ≡ e) ls → Marked e (marks_in t.process l number) ⊎ (WantsRow l (opened t.process number) → ⊥)
    pub apart : (d : ℕ) → d < s.k → (Has (λ i. i ≡ d) ls → ⊥) → (Marked d (marks_in q l number) → ⊥)
        → (Marked d (marks_in t.process l number) → ⊥) × (WantsRow l (opened q number) → WantsRow l (opened t.process number))
    pub holds : NoRepeat ls → ((e : ℕ) → Has (λ i. i ≡ e) ls → Marked e (marks_in q l number) → ⊥) → WantsRow l (opened q number)
        → is_some (marks_in t.process l number) ≡ true → WantsRow l (opened t.process number)

  runs-none : (q : Process) → Runs [] q (quiet q)
  runs-none q = record {
    known = refl;
    ceased = refl;
    last = refl;
    others = λ k j other. refl;
    rows = λ n r wants. wants;
    blocks = λ n d wants. wants;
    left = λ n r wants. inl wants;
    opens = λ n is. is;
    fine = λ fine. fine;
    calm = tt;
    copy = λ fine. fine;
    keeps = λ e is. is;
    done = λ e has. absurd has;
    apart = λ d low other free. (free, λ wants. wants);
    holds = λ differ free wants some. wants;
  }

  -- one mark
  one-mark : (e : ℕ) (q : Process) (t : ProcessStep) → e < s.k → q.name ≡ ParityNode l → at 0 q.as_row.ceased l < number
      → Takes s q t l number e → Runs (e ∷ []) q t
  one-mark e q t low name above takes = by takes.outcome where
    ceased_same : (i : ℕ) → at 0 t.process.as_row.ceased i ≡ at 0 q.as_row.ceased i
    ceased_same i = ap (λ (ns : List ℕ). at 0 ns i) takes.ceased

    copy_fine : (here : (marks : List (Option ℕ)) → marks_in t.process l number ≡ Some marks → (is_full s marks ≡ false)
        × (is_some (at None marks e) ≡ true)) → RowFine s q → RowFine s t.process
    copy_fine here fine k j marks is = split (same-or-not k j l number) where
      split : ((k ≡ l) × (j ≡ number)) ⊎ (((k ≡ l) × (j ≡ number)) → ⊥) → CopyFine s t.process k j marks
      split (inr other) =
          let old = fine k j marks (sym (takes.others k j other) ∙ is) in
          record { lacks = old.lacks; above = let c = ceased_same k in let a = old.above in omega (arith, c, a); some = old.some }
      split (inl same) =
          let it = here marks (ap₂ (λ (a b : ℕ). marks_in t.process a b) (sym same.0) (sym same.1) ∙ is) in
          record {
            lacks = it.0;
            above = let c = ceased_same k in let where_k : at 0 q.as_row.ceased k ≡ at 0 q.as_row.ceased l =
                ap (at 0 q.as_row.ceased) same.0 in let n = same.1 in omega (arith, c, above, where_k, n);
            some = (e, low, it.1);
          }

    by : Outcome s q t l number e → Runs (e ∷ []) q t
    by (Goes none rest other gathers sends) = absurd (other name)
    by (Waits marks is lacks made kept was gathers) = record {
      known = takes.known;
      ceased = takes.ceased;
      last = gathers.last;
      others = takes.others;
      rows = λ n r wants. (gathers.rows n r wants).0;
      blocks = λ n d wants. (gathers.blocks n d wants).0;
      left = λ n r wants. still n r (gathers.left n r wants);
      opens = gathers.opens;
      fine = gathers.fine;
      calm = takes.calm;
      copy = copy_fine (λ more there. let same : marks ≡ more = cc (sym is ∙ there) in (
        subst (λ (ms : List (Option ℕ)). is_full s ms ≡ false) same lacks,
        subst (λ (ms : List (Option ℕ)). is_some (at None ms e) ≡ true) same made,
      ));
      keeps = λ d held. keep d held;
      done = λ d has. inl (subst (Marked d) (sym is) (at_e d has));
      apart = λ d within other free. ((λ held. absurd (out d other free (was d (subst (Marked d) is held)))), (λ wants. wanted (gathers.left number l wants)));
      holds = λ differ free wants some. wanted (gathers.left number l wants);
    } where
      still : (n r : ℕ) → WantsRow r (opened t.process n) ⊎ ((n ≡ number) × ⊥) → WantsRow r (opened t.process n) ⊎ ((n ≡ number) × (r ≡ l))
      still n r (inl wants) = inl wants
      still n r (inr wrong) = absurd wrong.1

      wanted : WantsRow l (opened t.process number) ⊎ ((number ≡ number) × ⊥) → WantsRow l (opened t.process number)
      wanted (inl wants) = wants
      wanted (inr wrong) = absurd wrong.1

      keep : (d : ℕ) → Marked d (marks_in q l number) ⊎ (WantsRow l (opened q number) → ⊥)
          → Marked d (marks_in t.process l number) ⊎ (WantsRow l (opened t.process number) → ⊥)
      keep d (inl held) = inl (subst (Marked d) (sym is) (kept d held))
      keep d (inr never) = inr (λ wants. never (gathers.rows number l wants).0)

      at_e : (d : ℕ) → (e ≡ d) ⊎ ⊥ → is_some (at None marks d) ≡ true
      at_e d (inl same) = ap (λ (i : ℕ). is_some (at None marks i)) (sym same) ∙ made
      at_e d (inr wrong) = absurd wrong

      out : (d : ℕ) → ((e ≡ d) ⊎ ⊥ → ⊥) → (Marked d (marks_in q l number) → ⊥) → (d ≡ e) ⊎ Marked d (marks_in q l number) → ⊥
      out d other free (inl same) = other (inl (sym same))
      out d other free (inr held) = free held
    by (Own none rest own gathers) = record {
      known = takes.known;
      ceased = takes.ceased;
      last = gathers.last;
      others = takes.others;
      rows = λ n r wants. (gathers.rows n r wants).0;
      blocks = λ n d wants. (gathers.blocks n d wants).0;
      left = gathers.left;
      opens = gathers.opens;
      fine = gathers.fine;
      calm = takes.calm;
      copy = copy_fine (λ more there. absurd (cc (sym none ∙ there)));
      keeps = λ d held. inr never;
      done = λ d has. inr never;
      apart = λ d within other free. absurd (free (rest d within (λ same. other (inl (sym same)))));
      holds = λ differ free wants some. absurd (cc (sym (ap is_some none) ∙ some));
    } where
      never : WantsRow l (opened t.process number) → ⊥
      never wants = (gathers.rows number l wants).1 refl refl

  -- and the others
  more-marks : (e : ℕ) (es : List ℕ) (q : Process) (a : ProcessStep) (f : Process → ProcessStep) → Each (λ d. d < s.k) es
      → (es ≡ [] → (f a.process).process ≡ a.process) → Runs (e ∷ []) q a → Runs es a.process (f a.process) → Runs (e ∷ es) q (and_then a f)
  more-marks e es q a f low ends one rest = record {
    known = rest.known ∙ one.known;
    ceased = rest.ceased ∙ one.ceased;
    last = rest.last ∙ one.last;
    others = λ k j other. rest.others k j other ∙ one.others k j other;
    rows = λ n r wants. one.rows n r (rest.rows n r wants);
    blocks = λ n d wants. one.blocks n d (rest.blocks n d wants);
    left = λ n r wants. left n r (one.left n r wants);
    opens = λ n is. one.opens n (rest.opens n is);
    fine = λ fine. rest.fine (one.fine fine);
    calm = each-append (λ z. sides.Calm z.message) a.sent (f a.process).sent one.calm rest.calm;
    copy = λ fine. rest.copy (one.copy fine);
    keeps = λ d held. rest.keeps d (one.keeps d held);
    done = λ d has. done d has;
    apart =
        λ d within other free. let first = one.apart d within (λ here. other (front d here)) free in let next = rest.apart d within
        (λ there. other (inr there)) first.0 in (next.0, λ wants. next.1 (first.1 wants));
    holds = λ differ free wants some. holds es refl differ free wants some;
  } where
    front : (d : ℕ) → (e ≡ d) ⊎ ⊥ → (e ≡ d) ⊎ Has (λ i. i ≡ d) es
    front d (inl same) = inl same
    front d (inr wrong) = absurd wrong

    left : (n r : ℕ) → WantsRow r (opened a.process n) ⊎ ((n ≡ number) × (r ≡ l)) → WantsRow r (opened (f a.process).process n) ⊎ ((n ≡ number) × (r ≡ l))
    left n r (inl wants) = rest.left n r wants
    left n r (inr own) = inr own

    done : (d : ℕ) → (e ≡ d) ⊎ Has (λ i. i ≡ d) es → Marked d (marks_in (f a.process).process l number) ⊎ (WantsRow l (opened (f a.process).process number) → ⊥)
    done d (inl same) = rest.keeps d (one.done d (inl same))
    done d (inr there) = rest.done d there

    holds : (ds : List ℕ) → es ≡ ds → NoRepeat (e ∷ es) → ((d : ℕ) → Has (λ i. i ≡ d) (e ∷ es) → Marked d (marks_in q l number) → ⊥)
        → WantsRow l (opened q number) → is_some (marks_in (f a.process).process l number) ≡ true → WantsRow l (opened (f a.process).process number)
    holds [] is differ free wants some =
        subst (λ (y : Process). WantsRow l (opened y number)) (sym (ends is))
        (one.holds ((λ wrong. wrong), tt) (λ d here held. free d (front d here) held) wants
        (ap (λ (y : Process). is_some (marks_in y l number)) (sym (ends is)) ∙ some))
    holds (d ∷ ds) is differ free wants some = rest.holds differ.1 (λ i there held. (first i there).0 held) ((first d here).1 wants) some where
      here : Has (λ i. i ≡ d) es
      here = subst (Has (λ i. i ≡ d)) (sym is) (inl refl)

      below : (xs : List ℕ) → Each (λ x. x < s.k) xs → (i : ℕ) → Has (λ x. x ≡ i) xs → i < s.k
      below [] all i has = absurd has
      below (x ∷ xs) all i (inl same) = let first_low = all.0 in omega (arith, first_low, same)
      below (x ∷ xs) all i (inr there) = below xs all.1 i there

      first : (i : ℕ) → Has (λ x. x ≡ i) es → (Marked i (marks_in a.process l number) → ⊥)
          × (WantsRow l (opened q number) → WantsRow l (opened a.process number))
      first i there = one.apart i (below es low i there) (λ same. differ.0 (back i same there)) (free i (inr there)) where
        back : (i : ℕ) → (e ≡ i) ⊎ ⊥ → Has (λ x. x ≡ i) es → Has (λ x. x ≡ e) es
        back i (inl same) there = subst (λ (y : ℕ). Has (λ x. x ≡ y) es) (sym same) there
        back i (inr wrong) there = absurd wrong

  -- the leader's own row accepts its marks
  own-step : (e : ℕ) (q : Process) → knows_dead q.known (ParityNode l) ≡ false → at 0 q.as_row.ceased l < number
      → own_mark s l number block e q ≡ mark_taken s l number block e (replica_of q e).applied q
  own-step e q living above = ap (λ (b : Bool). when b q (mark_taken s l number block e (replica_of q e).applied q)) accepted where
    low : nat_lt (at 0 q.as_row.ceased l) number ≡ true
    low = grind (arith, common_steps)

    accepted : accepts_mark q l number (at 0 q.ranks e) e ≡ true
    accepted = and-join _ _ (and-join _ _ (eq-eqb (at 0 q.ranks e) (at 0 q.ranks e) refl) (ap not living)) low

  pub loop : (ls : List ℕ) (q : Process) → Each (λ e. e < s.k) ls → q.name ≡ ParityNode l → knows_dead q.known (ParityNode l) ≡ false
      → at 0 q.as_row.ceased l < number → Runs ls q (for_each ls (own_mark s l number block) q)
  loop [] q low name living above = runs-none q
  loop (e ∷ es) q low name living above = more-marks e es q (own_mark s l number block e q) (for_each es (own_mark s l number block)) low.1 (ends es) one
      (loop es (own_mark s l number block e q).process low.1 (takes.name ∙ name)
      (ap (λ known. knows_dead known (ParityNode l)) takes.known ∙ living)
      (let c = ap (λ (ns : List ℕ). at 0 ns l) takes.ceased in omega (arith, c, above)))
    where
      takes : Takes s q (own_mark s l number block e q) l number e
      takes = subst (λ (t : ProcessStep). Takes s q t l number e) (sym (own-step e q living above)) (mark-takes s l number block e (replica_of q e).applied q)

      one : Runs (e ∷ []) q (own_mark s l number block e q)
      one = one-mark e q (own_mark s l number block e q) low.0 name above takes

      ends : (ds : List ℕ) → ds ≡ []
          → (for_each ds (own_mark s l number block) (own_mark s l number block e q).process).process
          ≡ (own_mark s l number block e q).process
      ends [] is = refl
      ends (d ∷ ds) is = cc is
