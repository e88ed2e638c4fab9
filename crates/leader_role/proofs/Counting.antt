-- While no more than m are dead, there are rows for what is lost.
use Rattle.std.proofs.Common.{ℕ, zero, suc, ◌≡◌, ◌≢◌, ◌+◌, ◌<◌, ◌≤◌, Bool, true, false, not, List, [], ◌∷◌, length}
use Rattle.std.proofs.Common.{take, drop, filter, cond, if◌then◌else◌, All, Contains, refl, sym, ap, subst, ◌∙◌, arith}
use Rattle.std.proofs.lemmas.Bool.{and_parts}
use Rattle.std.proofs.lemmas.List.{get_or-take}
use Rattle.std.proofs.lemmas.List.Elements.{All-filter}
use Rattle.std.proofs.lemmas.List.FromFn.{get_or-range_with_len, length-range_with_len}
use Rattle.std.proofs.lemmas.List.Kept.{IsStrictlyIncreasing-filter}
use Rattle.std.specs.List.{list_all, range_with_len}
use Rattle.std.specs.List.Sorted.{IsStrictlyIncreasing}
use Rattle.group_types.specs.Lists.{at}
use Rattle.membership.specs.Members.{count_dead_words}

rising-range : (n : ℕ) → IsStrictlyIncreasing (range_with_len 0 n)
rising-range n k below =
    let long = length-range_with_len 0 n in
    omega (arith, get_or-range_with_len 0 n k 0 (omega arith), get_or-range_with_len 0 n (k + 1) 0 (omega arith))

below-range : (n : ℕ) → All (λ x. x < n) (range_with_len 0 n)
below-range n i d below =
    let long = length-range_with_len 0 n in
    omega (arith, get_or-range_with_len 0 n i d (omega arith))

pub rising-filter : (f : ℕ → Bool) (n : ℕ) → IsStrictlyIncreasing (filter f (range_with_len 0 n))
rising-filter f n = IsStrictlyIncreasing-filter f (range_with_len 0 n) (rising-range n)

pub below-filter : (f : ℕ → Bool) (n : ℕ) → All (λ x. x < n) (filter f (range_with_len 0 n))
below-filter f n = All-filter f (λ x. x < n) (range_with_len 0 n) (below-range n)

short-take : {X : Type 0} (n : ℕ) (xs : List X) → (length (take n xs) ≤ n) × (length (take n xs) ≤ length xs)
short-take zero xs = (omega arith, omega arith)
short-take (suc n) [] = (omega arith, omega arith)
short-take (suc n) (x ∷ xs) = let rest = short-take n xs in (omega (arith, rest.0), omega (arith, rest.1))

pub rising-take : (n : ℕ) (xs : List ℕ) → IsStrictlyIncreasing xs → IsStrictlyIncreasing (take n xs)
rising-take n xs rises k below =
    let short = short-take n xs in
    omega (arith, rises k (omega (arith, short.1)), get_or-take n xs k 0 (omega (arith, short.0)), get_or-take n xs (k + 1) 0 (omega (arith, short.0)))

-- the dead behind a place
count-step : (words : List Bool) (a : ℕ) → count_dead_words (drop a words) ≡ (if at false words a then 1 else 0) + count_dead_words (drop (suc a) words)
count-step [] zero = refl
count-step [] (suc a) = refl
count-step (w ∷ ws) zero = refl
count-step (w ∷ ws) (suc a) = count-step ws a

-- no more are found dead than are counted
found-dead : (words : List Bool) (a n : ℕ) → length (filter (at false words) (range_with_len a n)) ≤ count_dead_words (drop a words)
found-dead words a zero = omega arith
found-dead words a (suc n) =
    let next : suc a ≡ a + 1 = omega arith in
    by (at false words a) (found-dead words (a + 1) n)
    (count-step words a ∙ ap (λ (b : ℕ). (if at false words a then 1 else 0) + count_dead_words (drop b words)) next)
  where
    by : (b : Bool) → length (filter (at false words) (range_with_len (a + 1) n)) ≤ count_dead_words (drop (a + 1) words)
        → count_dead_words (drop a words) ≡ (if b then 1 else 0) + count_dead_words (drop (a + 1) words)
        → length (cond b (a ∷ filter (at false words) (range_with_len (a + 1) n))
        (filter (at false words) (range_with_len (a + 1) n))) ≤ count_dead_words (drop a words)
    by true rest step = omega (arith, rest, step)
    by false rest step = omega (arith, rest, step)

-- who passes a test, and who doesn't
both-sides : (f : ℕ → Bool) (xs : List ℕ) → length (filter f xs) + length (filter (λ x. not (f x)) xs) ≡ length xs
both-sides f [] = refl
both-sides f (x ∷ xs) = by (f x) (both-sides f xs) where
  by : (b : Bool) → length (filter f xs) + length (filter (λ z. not (f z)) xs) ≡ length xs
      → length (cond b (x ∷ filter f xs) (filter f xs)) + length (cond (not b) (x ∷ filter (λ z. not (f z)) xs) (filter (λ z. not (f z)) xs)) ≡ suc (length xs)
  by true rest = omega (arith, rest)
  by false rest = omega (arith, rest)

-- there are as many living parity processes as dead data processes
pub enough : (of_data parity : List Bool) (k m : ℕ) → count_dead_words of_data + count_dead_words parity ≤ m
    → length (filter (at false of_data) (range_with_len 0 k)) ≤ length (filter (λ i. not (at false parity i)) (range_with_len 0 m))
enough of_data parity k m few =
    let lost = found-dead of_data 0 k in
    let dead = found-dead parity 0 m in
    let sides = both-sides (at false parity) (range_with_len 0 m) in
    omega (arith, few, lost, dead, sides, length-range_with_len 0 m)

-- where one passes the test, one is found
pub some-found : (f : ℕ → Bool) (n a d : ℕ) → a ≤ d → d < a + n → f d ≡ true → 1 ≤ length (filter f (range_with_len a n))
some-found f zero a d above below passes = absurd (omega (arith, above, below))
some-found f (suc n) a d above below passes = by (f a) refl (λ above. some-found f n (a + 1) d above (omega (arith, below)) passes) where
  by : (b : Bool) → f a ≡ b → (a + 1 ≤ d → 1 ≤ length (filter f (range_with_len (a + 1) n)))
      → 1 ≤ length (cond b (a ∷ filter f (range_with_len (a + 1) n)) (filter f (range_with_len (a + 1) n)))
  by true here later = omega arith
  by false there later =
      let other : d ≢ a = λ same. cc (sym there ∙ ap f (sym same) ∙ passes) in
      later (omega (arith, above, other))

-- where all below a number pass a test and it doesn't, it is the first that doesn't
pub first-left : (f : ℕ → Bool) (n a t i : ℕ) → i ≡ a + n → n < t → list_all f (range_with_len a n) ≡ true → f i ≡ false
    → (rest : List ℕ) × (filter (λ x. not (f x)) (range_with_len a t) ≡ i ∷ rest)
first-left f n a zero i is below lower here = absurd (omega (arith, below))
first-left f zero a (suc t) i is below lower here =
    let same : a ≡ i = omega (arith, is) in
    let rest : List ℕ = filter (λ x. not (f x)) (range_with_len (a + 1) t) in
    let fails : f a ≡ false = ap f same ∙ here in
    (rest, ap (λ (b : Bool). cond (not b) (a ∷ rest) rest) fails ∙ ap (λ (x : ℕ). x ∷ rest) same)
first-left f (suc n) a (suc t) i is below lower here =
    let parts = and_parts (f a) (list_all f (range_with_len (a + 1) n)) lower in
    let later = first-left f n (a + 1) t i (omega (arith, is)) (omega (arith, below)) parts.1 here in
    let rest : List ℕ = filter (λ x. not (f x)) (range_with_len (a + 1) t) in
    (later.0, ap (λ (b : Bool). cond (not b) (a ∷ rest) rest) parts.0 ∙ later.1)

-- it stands in front of as many as are taken
pub front-taken : (n i : ℕ) (xs rest : List ℕ) → 1 ≤ n → xs ≡ i ∷ rest → Contains (take n xs) i
front-taken zero i xs rest some is = absurd (omega (arith, some))
front-taken (suc n) i xs rest some is = subst (λ (ys : List ℕ). Contains (take (suc n) ys) i) (sym is) (0, omega arith, refl)
