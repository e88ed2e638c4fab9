-- Lists of numbers: who is in them, and those in which each number is above those before it.
use Rattle.std.proofs.Common.{◌≡◌, ◌≢◌, ℕ, zero, suc, ◌+◌, ◌<◌, ◌≤◌, ◌==◌, ◌&&◌, Bool, true, false, List, [], ◌∷◌, ◌++◌}
use Rattle.std.proofs.Common.{length, filter, get_or, All, AllPairs, Contains, ◌⊎◌, inl, inr, sym, ap, ap₂, subst, ◌∙◌}
use Rattle.std.proofs.Common.{refl, arith, cond}
use Rattle.std.proofs.lemmas.Bool.{cases_eq, ne_eqb}
use Rattle.std.specs.List.{list_all, list_any, range_with_len}
use Rattle.erasure_code.proofs.Nodes.{Among}
use Rattle.group_types.specs.Each.{Each}
use Rattle.group_types.proofs.Eaches.{each-append, each-weaker, each-filter}
use Rattle.law_bytes.specs.Decoding.{Rising}

-- no number stands twice
abbrev pub Differ : List ℕ → Type 0
Differ [] = Unit {0}
Differ (x ∷ xs) = Each (λ y. y ≢ x) xs × Differ xs

pub among-contains : (xs : List ℕ) (x : ℕ) → Among x xs → Contains xs x
among-contains [] x there = absurd there
among-contains (y ∷ ys) x (inl same) = (0, omega arith, sym same)
among-contains (y ∷ ys) x (inr there) = let deeper = among-contains ys x there in (suc deeper.0, omega (arith, deeper.1), deeper.2)

pub contains-among : (xs : List ℕ) (x : ℕ) → Contains xs x → Among x xs
contains-among [] x there = absurd (omega (arith, there.1))
contains-among (y ∷ ys) x (zero, below, is) = inl (sym is)
contains-among (y ∷ ys) x (suc k, below, is) = inr (contains-among ys x (k, omega (arith, below), is))

pub each-among : (P : ℕ → Type 0) (xs : List ℕ) (x : ℕ) → Each P xs → Among x xs → P x
each-among P [] x all there = absurd there
each-among P (y ∷ ys) x all (inl same) = subst P (sym same) all.0
each-among P (y ∷ ys) x all (inr there) = each-among P ys x all.1 there

pub among-each : (P : ℕ → Type 0) (xs : List ℕ) → ((x : ℕ) → Among x xs → P x) → Each P xs
among-each P [] every = tt
among-each P (x ∷ xs) every = (every x (inl refl), among-each P xs (λ y there. every y (inr there)))

pub all-each : {X : Type 0} (P : X → Type 0) (xs : List X) → Each P xs → All P xs
all-each P [] all k d below = absurd (omega (arith, below))
all-each P (x ∷ xs) all zero d below = all.0
all-each P (x ∷ xs) all (suc k) d below = all-each P xs all.1 k d (omega (arith, below))

pub among-left : (x : ℕ) (xs ys : List ℕ) → Among x xs → Among x (xs ++ ys)
among-left x [] ys there = absurd there
among-left x (z ∷ xs) ys (inl same) = inl same
among-left x (z ∷ xs) ys (inr there) = inr (among-left x xs ys there)

pub among-right : (x : ℕ) (xs ys : List ℕ) → Among x ys → Among x (xs ++ ys)
among-right x [] ys there = there
among-right x (z ∷ xs) ys there = inr (among-right x xs ys there)

pub differ-pairs : (xs : List ℕ) → Differ xs → AllPairs (λ x y. x ≢ y) xs
differ-pairs [] differ i j d before below = absurd (omega (arith, below))
differ-pairs (x ∷ xs) differ zero (suc j) d before below = λ same. each-get xs (λ y. y ≢ x) differ.0 j d (omega (arith, below)) (sym same) where
  each-get : (ys : List ℕ) (P : ℕ → Type 0) → Each P ys → (j e : ℕ) → j < length ys → P (get_or ys j e)
  each-get ys P all j e low = all-each P ys all j e low
differ-pairs (x ∷ xs) differ (suc i) (suc j) d before below = differ-pairs xs differ.1 i j d (omega (arith, before)) (omega (arith, below))
differ-pairs (x ∷ xs) differ zero zero d before below = absurd (omega (arith, before))
differ-pairs (x ∷ xs) differ (suc i) zero d before below = absurd (omega (arith, before))

pub differ-rising : (xs : List ℕ) → Rising xs → Differ xs
differ-rising [] rises = tt
differ-rising (x ∷ xs) rises = (
  each-weaker (λ y. x < y) (λ y. y ≢ x) (λ y above same. absurd (omega (arith, above, same))) xs rises.0,
  differ-rising xs rises.1,
)

pub differ-append : (xs ys : List ℕ) → Differ xs → Differ ys → ((x : ℕ) → Among x xs → ¬ (Among x ys)) → Differ (xs ++ ys)
differ-append [] ys front back apart = back
differ-append (x ∷ xs) ys front back apart = (
  each-append (λ y. y ≢ x) xs ys front.0 (among-each (λ y. y ≢ x) ys (λ y there same. apart x (inl refl) (subst (λ (z : ℕ). Among z ys) same there))),
  differ-append xs ys front.1 back (λ y there. apart y (inr there)),
)

-- two rising lists of the same numbers are one
pub rising-same : (xs ys : List ℕ) → Rising xs → Rising ys → ((x : ℕ) → Among x xs → Among x ys) → ((x : ℕ) → Among x ys → Among x xs) → xs ≡ ys
rising-same [] [] left right to from = refl
rising-same [] (y ∷ ys) left right to from = absurd (from y (inl refl))
rising-same (x ∷ xs) [] left right to from = absurd (to x (inl refl))
rising-same (x ∷ xs) (y ∷ ys) left right to from = ap₂ (λ (a : ℕ) (b : List ℕ). a ∷ b) first (rising-same xs ys left.1 right.1 forth back) where
  least : (a b : ℕ) (bs : List ℕ) → Each (λ z. b < z) bs → Among a (b ∷ bs) → b ≤ a
  least a b bs above (inl same) = omega (arith, same)
  least a b bs above (inr there) = let more = each-among (λ z. b < z) bs a above there in omega (arith, more)

  first : x ≡ y
  first = let one = least x y ys right.0 (to x (inl refl)) in let two = least y x xs left.0 (from y (inl refl)) in omega (arith, one, two)

  forth : (z : ℕ) → Among z xs → Among z ys
  forth z there = by (to z (inr there)) where
    by : Among z (y ∷ ys) → Among z ys
    by (inr deeper) = deeper
    by (inl same) = let above = each-among (λ w. x < w) xs z left.0 there in absurd (omega (arith, above, same, first))

  back : (z : ℕ) → Among z ys → Among z xs
  back z there = by (from z (inr there)) where
    by : Among z (x ∷ xs) → Among z xs
    by (inr deeper) = deeper
    by (inl same) = let above = each-among (λ w. y < w) ys z right.0 there in absurd (omega (arith, above, same, first))

-- ranges rise, and so does what is filtered from a rising list
pub rising-range : (a n : ℕ) → Rising (range_with_len a n)
rising-range a zero = tt
rising-range a (suc n) = (
  each-weaker (λ x. a + 1 ≤ x) (λ x. a < x) (λ x above. omega (arith, above)) (range_with_len (a + 1) n)
      (from (a + 1) (a + 1) n (omega arith)),
  rising-range (a + 1) n,
) where
  from : (b c n : ℕ) → b ≤ c → Each (λ x. b ≤ x) (range_with_len c n)
  from b c zero low = tt
  from b c (suc n) low = (low, from b (c + 1) n (omega (arith, low)))

rising-filter : (test : ℕ → Bool) (xs : List ℕ) → Rising xs → Rising (filter test xs)
rising-filter test [] rises = tt
rising-filter test (x ∷ xs) rises = by (test x) (rising-filter test xs rises.1) where
  by : (b : Bool) → Rising (filter test xs) → Rising (cond b (x ∷ filter test xs) (filter test xs))
  by true rest = (each-filter (λ y. x < y) test xs rises.0, rest)
  by false rest = rest

pub rising-filtered : (test : ℕ → Bool) (n : ℕ) → Rising (filter test (range_with_len 0 n))
rising-filtered test n = rising-filter test (range_with_len 0 n) (rising-range 0 n)

pub among-filter : (test : ℕ → Bool) (x : ℕ) (xs : List ℕ) → Among x (filter test xs) → Among x xs × (test x ≡ true)
among-filter test x [] there = absurd there
among-filter test x (y ∷ ys) there = by (test y) refl there (λ deeper. among-filter test x ys deeper) where
  by : (b : Bool) → test y ≡ b → Among x (cond b (y ∷ filter test ys) (filter test ys))
      → (Among x (filter test ys) → Among x ys × (test x ≡ true)) → Among x (y ∷ ys) × (test x ≡ true)
  by true passes (inl same) later = (inl same, ap test same ∙ passes)
  by true passes (inr deeper) later = (inr (later deeper).0, (later deeper).1)
  by false fails deeper later = (inr (later deeper).0, (later deeper).1)

pub filter-among : (test : ℕ → Bool) (x : ℕ) (xs : List ℕ) → Among x xs → test x ≡ true → Among x (filter test xs)
filter-among test x [] there passes = absurd there
filter-among test x (y ∷ ys) there passes = by (test y) refl there (λ deeper. filter-among test x ys deeper passes) where
  by : (b : Bool) → test y ≡ b → Among x (y ∷ ys) → (Among x ys → Among x (filter test ys)) → Among x (cond b (y ∷ filter test ys) (filter test ys))
  by true is (inl same) later = inl same
  by true is (inr deeper) later = inr (later deeper)
  by false fails (inl same) later = absurd (cc (fails, passes, ap test same))
  by false fails (inr deeper) later = later deeper

pub among-range : (x a n : ℕ) → a ≤ x → x < a + n → Among x (range_with_len a n)
among-range x a zero low high = absurd (omega (arith, low, high))
among-range x a (suc n) low high = by (cases_eq x a) (λ above. among-range x (a + 1) n above (omega (arith, high))) where
  by : (x ≡ a) ⊎ (x ≢ a) → (a + 1 ≤ x → Among x (range_with_len (a + 1) n)) → Among x (range_with_len a (suc n))
  by (inl same) later = inl same
  by (inr other) later = inr (later (omega (arith, low, other)))

pub range-among : (x a n : ℕ) → Among x (range_with_len a n) → (a ≤ x) × (x < a + n)
range-among x a zero there = absurd there
range-among x a (suc n) (inl same) = (omega (arith, same), omega (arith, same))
range-among x a (suc n) (inr there) = let deeper = range-among x (a + 1) n there in (omega (arith, deeper.0), omega (arith, deeper.1))

-- tests of lists
pub all-among : (test : ℕ → Bool) (xs : List ℕ) (x : ℕ) → list_all test xs ≡ true → Among x xs → test x ≡ true
all-among test [] x all there = absurd there
all-among test (y ∷ ys) x all there = by (test y) (list_all test ys) refl refl all there (λ rest deeper. all-among test ys x rest deeper) where
  by : (a b : Bool) → test y ≡ a → list_all test ys ≡ b → (a && b) ≡ true → Among x (y ∷ ys)
      → (list_all test ys ≡ true → Among x ys → test x ≡ true) → test x ≡ true
  by true true is rest both (inl same) later = ap test same ∙ is
  by true true is rest both (inr deeper) later = later rest deeper
  by true false is rest both there later = absurd (cc both)
  by false b is rest both there later = absurd (cc both)

pub any-among : (xs : List ℕ) (d : ℕ) → list_any (λ l. l == d) xs ≡ true → Among d xs
any-among [] d any = absurd (cc any)
any-among (x ∷ xs) d any = by (cases_eq x d) any (λ rest. any-among xs d rest) where
  by : (x ≡ d) ⊎ (x ≢ d) → list_any (λ l. l == d) (x ∷ xs) ≡ true → (list_any (λ l. l == d) xs ≡ true → Among d xs) → Among d (x ∷ xs)
  by (inl same) is later = inl (sym same)
  by (inr other) is later = inr (later (sym (rw (ne_eqb x d other) refl) ∙ is))
