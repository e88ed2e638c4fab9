-- The spaces of k processes determine all columns.
use Rattle.std.proofs.Common.{◌≡◌, ◌≢◌, ℕ, zero, suc, ◌+◌, ◌<◌, ◌≤◌, ◌==◌, ◌||◌, Bool, true, false, not, List, [], ◌∷◌}
use Rattle.std.proofs.Common.{◌++◌, length, map, filter, get_or, All, Contains, ◌⊎◌, inl, inr, sym, ap, ap₂, subst, ◌∙◌}
use Rattle.std.proofs.Common.{refl, arith, cond}
use Rattle.std.proofs.lemmas.Bool.{cases_eq, eq-eqb, ne_eqb}
use Rattle.std.proofs.lemmas.List.{length-map}
use Rattle.std.proofs.lemmas.List.FromFn.{length-range_with_len}
use Rattle.std.proofs.lemmas.Option.{get_or_from_slice_get}
use Rattle.std.specs.List.{list_any, range_with_len}
use Rattle.erasure_code.specs.Code.{Column, coded}
use Rattle.erasure_code.specs.Columns.{Agree, AreDifferent, IsEachBelow, column_numbers}
use Rattle.erasure_code.specs.Laws.{CanDecode}
use Rattle.erasure_code.proofs.Decoding.{only_one_agrees}
use Rattle.erasure_code.proofs.Nodes.{Among}
use Rattle.group_types.specs.Dimensions.{Dimensions, space_of}
use Rattle.group_types.specs.Names.{IsProcess, same_process}
use Rattle.group_types.specs.Shape.{IsShape}
use Rattle.group_types.specs.declared.process.ProcessId.{ProcessId}
use Rattle.group_types.specs.declared.process.ProcessId.TheVariants.{DataNode, ParityNode}
use Rattle.group_types.proofs.Names.{same-eq}
use Rattle.group_types.specs.Each.{Each}
use Rattle.group_types.proofs.Eaches.{each-map}
use Rattle.group_run.specs.Meaning.{AreDistinct}
use Rattle.law_bytes.specs.Decoding.{AreSpaces, SpaceIs, SpacesDetermine}
use Rattle.law_bytes.proofs.Decode.{each-below-of}
use Rattle.law_bytes.proofs.Rising.{all-each, among-each, among-filter, among-range, differ-pairs, differ-rising, filter-among, range-among, rising-filtered}

has-each : (P : ProcessId → Type 0) (ps : List ProcessId) (p : ProcessId) → list_any (λ q. same_process q p) ps ≡ true → Each P ps → P p
has-each P [] p is all = absurd (cc is)
has-each P (q ∷ qs) p is all = by (same_process q p) refl is (λ rest. has-each P qs p rest all.1) where
  by : (b : Bool) → same_process q p ≡ b → (b || list_any (λ x. same_process x p) qs) ≡ true → (list_any (λ x. same_process x p) qs ≡ true → P p) → P p
  by true same _ later = subst P (same-eq q p same) all.0
  by false other rest later = later rest

has-contains : (ps : List ProcessId) (p : ProcessId) → list_any (λ q. same_process q p) ps ≡ true → Contains ps p
has-contains [] p is = absurd (cc is)
has-contains (q ∷ qs) p is = by (same_process q p) refl is (λ rest. has-contains qs p rest) where
  by : (b : Bool) → same_process q p ≡ b → (b || list_any (λ x. same_process x p) qs) ≡ true
      → (list_any (λ x. same_process x p) qs ≡ true → Contains qs p) → Contains (q ∷ qs) p
  by true same _ later = (0, omega arith, same-eq q p same)
  by false other rest later = let deeper = later rest in (suc deeper.0, omega (arith, deeper.1), deeper.2)

has-not : (ps : List ProcessId) (p : ProcessId) → ¬ (Contains ps p) → list_any (λ q. same_process q p) ps ≡ false
has-not ps p out = by (list_any (λ q. same_process q p) ps) refl where
  by : (b : Bool) → list_any (λ q. same_process q p) ps ≡ b → list_any (λ q. same_process q p) ps ≡ false
  by true is = absurd (out (has-contains ps p is))
  by false is = is

-- how many numbers of a range pass a test
filter-same : (f g : ℕ → Bool) (a n : ℕ) → ((x : ℕ) → a ≤ x → f x ≡ g x) → filter f (range_with_len a n) ≡ filter g (range_with_len a n)
filter-same f g a zero same = refl
filter-same f g a (suc n) same = ap₂ (λ (b : Bool) (rest : List ℕ). cond b (a ∷ rest) rest) (same a (omega arith))
    (filter-same f g (a + 1) n (λ x above. same x (omega (arith, above))))

count-more : (test : ℕ → Bool) (e a n : ℕ) → test e ≡ false → a ≤ e → e < a + n
    → length (filter (λ d. e == d || test d) (range_with_len a n)) ≡ suc (length (filter test (range_with_len a n)))
count-more test e a zero fails low high = absurd (omega (arith, low, high))
count-more test e a (suc n) fails low high = by (cases_eq e a) (λ above. count-more test e (a + 1) n fails above (omega (arith, high))) where
  by : (e ≡ a) ⊎ (e ≢ a)
      → (a + 1 ≤ e → length (filter (λ d. e == d || test d) (range_with_len (a + 1) n))
      ≡ suc (length (filter test (range_with_len (a + 1) n))))
      → length (cond (e == a || test a) (a ∷ filter (λ d. e == d || test d) (range_with_len (a + 1) n))
      (filter (λ d. e == d || test d) (range_with_len (a + 1) n)))
      ≡ suc (length (cond (test a) (a ∷ filter test (range_with_len (a + 1) n)) (filter test (range_with_len (a + 1) n))))
  by (inl same) later =
      let head : test a ≡ false = ap test (sym same) ∙ fails in
      let rest : filter (λ d. e == d || test d) (range_with_len (a + 1) n) ≡ filter test (range_with_len (a + 1) n) =
      filter-same (λ d. e == d || test d) test (a + 1) n (λ x above. rw (ne_eqb e x (λ is. absurd (omega (arith, above, is, same)))) refl) in
      rw (eq-eqb e a same, head) (ap (λ (l : List ℕ). suc (length l)) rest)
  by (inr other) later = rw (ne_eqb e a other) (two (test a) (later (omega (arith, low, other)))) where
    two : (b : Bool) → length (filter (λ d. e == d || test d) (range_with_len (a + 1) n)) ≡ suc (length (filter test (range_with_len (a + 1) n)))
        → length (cond b (a ∷ filter (λ d. e == d || test d) (range_with_len (a + 1) n)) (filter (λ d. e == d || test d) (range_with_len (a + 1) n)))
        ≡ suc (length (cond b (a ∷ filter test (range_with_len (a + 1) n)) (filter test (range_with_len (a + 1) n))))
    two true is = ap suc is
    two false is = is

count-none : (test : ℕ → Bool) (a n : ℕ) → ((x : ℕ) → test x ≡ false) → length (filter test (range_with_len a n)) ≡ 0
count-none test a zero none = refl
count-none test a (suc n) none = rw (none a) (count-none test (a + 1) n none)

-- those that pass and those that don't are all
pub count-both : (test : ℕ → Bool) (xs : List ℕ) → length (filter test xs) + length (filter (λ x. not (test x)) xs) ≡ length xs
count-both test [] = refl
count-both test (x ∷ xs) = by (test x) (count-both test xs) where
  by : (b : Bool) → length (filter test xs) + length (filter (λ y. not (test y)) xs) ≡ length xs
      → length (cond b (x ∷ filter test xs) (filter test xs)) + length
      (cond (not b) (x ∷ filter (λ y. not (test y)) xs) (filter (λ y. not (test y)) xs)) ≡ suc (length xs)
  by true is = omega (arith, is)
  by false is = omega (arith, is)

data_in : Dimensions → List ProcessId → List ℕ
data_in s ps = filter (λ d. list_any (λ q. same_process q (DataNode d)) ps) (range_with_len 0 s.k)

parity_in : Dimensions → List ProcessId → List ℕ
parity_in s ps = filter (λ i. list_any (λ q. same_process q (ParityNode i)) ps) (range_with_len 0 s.m)

count-all : (s : Dimensions) (ps : List ProcessId) → AreDistinct ps → Each (IsProcess s) ps → length (data_in s ps) + length (parity_in s ps) ≡ length ps
unfolding data_in parity_in
count-all s [] distinct inside = let a = count-none (λ d. false) 0 s.k (λ x. refl) in let b = count-none (λ d. false) 0 s.m (λ x. refl) in omega (arith, a, b)
count-all s (DataNode e ∷ ps) distinct inside =
    let rest = count-all s ps distinct.1 inside.1 in
    let more = count-more (λ d. list_any (λ q. same_process q (DataNode d)) ps) e 0 s.k
    (has-not ps (DataNode e) distinct.0) (omega arith) (let low = inside.0 in omega (arith, low)) in
    omega (arith, rest, more)
count-all s (ParityNode i ∷ ps) distinct inside =
    let rest = count-all s ps distinct.1 inside.1 in
    let more = count-more (λ j. list_any (λ q. same_process q (ParityNode j)) ps) i 0 s.m
    (has-not ps (ParityNode i) distinct.0) (omega arith) (let low = inside.0 in omega (arith, low)) in
    omega (arith, rest, more)

numbers-map : (f : ℕ → List ℕ) (xs : List ℕ) → column_numbers (map (λ x. record { number = x; bytes = f x }) xs) ≡ xs
numbers-map f [] = refl
numbers-map f (x ∷ xs) = ap (λ (rest : List ℕ). x ∷ rest) (numbers-map f xs)

module _ (s : Dimensions) (ps : List ProcessId) (space : ProcessId → List ℕ) (shaped : IsShape s)
    (many : length ps ≡ s.k) (distinct : AreDistinct ps) (inside : Each (IsProcess s) ps) where
  known : List Column
  known = map (λ d. record { number = d; bytes = space (DataNode d) }) (data_in s ps)

  rows : List Column
  rows = map (λ i. record { number = i; bytes = space (ParityNode i) }) (parity_in s ps)

  lost : List ℕ
  lost = filter (λ d. not (list_any (λ q. same_process q (DataNode d)) ps)) (range_with_len 0 s.k)

  known_are : column_numbers known ≡ data_in s ps
  unfolding known
  known_are = numbers-map (λ d. space (DataNode d)) (data_in s ps)

  rows_are : column_numbers rows ≡ parity_in s ps
  unfolding rows
  rows_are = numbers-map (λ i. space (ParityNode i)) (parity_in s ps)

  filtered-below : (test : ℕ → Bool) (n : ℕ) → Each (λ x. x < n) (filter test (range_with_len 0 n))
  filtered-below test n =
      among-each (λ x. x < n) (filter test (range_with_len 0 n))
      (λ x there. let within = range-among x 0 n (among-filter test x (range_with_len 0 n) there).0 in let high = within.1 in omega (arith, high))

  can : CanDecode s.k s.m lost rows known
  unfolding known rows lost data_in parity_in
  can = record {
    processes = let a = shaped.k in let b = shaped.m in omega (arith, a, b);
    partitions = subst (λ (xs : List ℕ). IsEachBelow s.k (lost ++ xs)) (sym known_are)
        (each-below-of s.k lost (data_in s ps) (differ-rising lost (rising-filtered _ s.k)) (differ-rising (data_in s ps) (rising-filtered _ s.k))
        (λ x out there. let a = (among-filter (λ d. not (list_any (λ q. same_process q (DataNode d)) ps)) x
        (range_with_len 0 s.k) out).1 in
        let b = (among-filter (λ d. list_any (λ q. same_process q (DataNode d)) ps) x (range_with_len 0 s.k) there).1
        in cc (a, ap not b))
        (filtered-below _ s.k) (filtered-below _ s.k) (λ d below. either d below (list_any (λ q. same_process q (DataNode d)) ps) refl));
    different = subst AreDifferent (sym rows_are) (differ-pairs (parity_in s ps) (differ-rising (parity_in s ps) (rising-filtered _ s.m)));
    below = subst (All (λ i. i < s.m)) (sym rows_are) (all-each (λ i. i < s.m) (parity_in s ps) (filtered-below _ s.m));
    as_many =
        let a = count-all s ps distinct inside in
        let b = count-both (λ d. list_any (λ q. same_process q (DataNode d)) ps) (range_with_len 0 s.k) in
        let c = length-range_with_len 0 s.k in
        length-map (parity_in s ps) (λ i. record { number = i; bytes = space (ParityNode i) }) ∙ omega (arith, a, b, c, many);
  } where
    either : (d : ℕ) → d < s.k → (b : Bool) → list_any (λ q. same_process q (DataNode d)) ps ≡ b
        → Among d (filter (λ e. not (list_any (λ q. same_process q (DataNode e)) ps)) (range_with_len 0 s.k)) ⊎ Among d
        (filter (λ e. list_any (λ q. same_process q (DataNode e)) ps) (range_with_len 0 s.k))
    either d below true is =
        inr (filter-among (λ e. list_any (λ q. same_process q (DataNode e)) ps) d (range_with_len 0 s.k)
        (among-range d 0 s.k (omega arith) (omega (arith, below))) is)
    either d below false is =
        inl (filter-among (λ e. not (list_any (λ q. same_process q (DataNode e)) ps)) d (range_with_len 0 s.k)
        (among-range d 0 s.k (omega arith) (omega (arith, below))) (ap not is))

  agrees : (cs : List (List ℕ)) → AreSpaces s cs → Each (λ p. SpaceIs s cs p (space p)) ps → Agree s.k s.m (space_of s) rows known cs
  unfolding known rows data_in parity_in
  agrees cs are fit = record {
    many = are.many;
    long = are.long;
    holds = all-each (λ c. get_or cs c.number [] ≡ c.bytes) known
        (each-map (λ c. get_or cs c.number [] ≡ c.bytes) (λ d. record { number = d; bytes = space (DataNode d) })
        (data_in s ps)
        (among-each (λ d. get_or cs d [] ≡ space (DataNode d)) (data_in s ps) (λ d there.
        get_or_from_slice_get cs d (space (DataNode d)) []
        (has-each (λ p. SpaceIs s cs p (space p)) ps (DataNode d)
        (among-filter (λ e. list_any (λ q. same_process q (DataNode e)) ps) d (range_with_len 0 s.k) there).1 fit))));
    codes =
        all-each (λ c. c.bytes ≡ coded s.m c.number (space_of s) cs) rows
        (each-map (λ c. c.bytes ≡ coded s.m c.number (space_of s) cs) (λ i. record { number = i; bytes = space (ParityNode i) }) (parity_in s ps)
        (among-each (λ i. space (ParityNode i) ≡ coded s.m i (space_of s) cs) (parity_in s ps) (λ i there.
        has-each (λ p. SpaceIs s cs p (space p)) ps (ParityNode i)
        (among-filter (λ e. list_any (λ q. same_process q (ParityNode e)) ps) i (range_with_len 0 s.m) there).1
        fit)));
  }

  pub determined : (cs others : List (List ℕ)) → AreSpaces s cs → AreSpaces s others
      → Each (λ p. SpaceIs s cs p (space p)) ps → Each (λ p. SpaceIs s others p (space p)) ps → others ≡ cs
  determined cs others are others_are fit others_fit =
      only_one_agrees s.k s.m (space_of s) lost rows known cs others can are.bytes others_are.bytes (agrees cs are fit) (agrees others others_are others_fit)

pub spaces_determine : SpacesDetermine
spaces_determine s ps space cs others shaped many distinct inside are others_are fit others_fit =
    determined s ps space shaped many distinct inside cs others are others_are fit others_fit
