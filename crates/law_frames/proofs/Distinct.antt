-- Different numbers below a bound are no more than it.
use Rattle.std.proofs.Common.{◌≡◌, ◌≢◌, ◌<◌, ◌≤◌, ℕ, zero, suc, ◌+◌, ◌^◌, ◌==◌, false, List, [], ◌∷◌, length, ◌⊎◌, inl, inr, refl, sym, ap, ◌∙◌, arith}
use Rattle.std.proofs.lemmas.Bool.{cases_eq, eq-eqb}
use Rattle.std.proofs.lemmas.Bool.Decides.{nat_tests}
use Rattle.std.proofs.lemmas.Grind.{common_steps}
use Rattle.std.specs.Prelude.{All}
use Rattle.std.specs.List.{AllByRecursion}
use Rattle.group_types.specs.Each.{Each}
use Rattle.group_types.specs.Lists.{at}
use Rattle.law_bytes.proofs.Rising.{Differ}
use Rattle.wire_codec.specs.Fits.{IsEight, IsOne}
use Rattle.law_frames.proofs.Addresses.{bit, sum-few, sum-plus, sum-zero, sum_below}

-- how often a number stands there
abbrev count : ℕ → List ℕ → ℕ
count a [] = 0
count a (x ∷ xs) = bit (a == x) + count a xs

not-equal : (a x : ℕ) → a ≢ x → bit (a == x) ≡ 0
not-equal a x other = let is : (a == x) ≡ false = grind (arith, nat_tests, common_steps) in ap bit is

equal : (a : ℕ) → bit (a == a) ≡ 1
equal a = ap bit (eq-eqb a a refl)

-- a number stands once among those below a bound above it, and not among those below one that isn't
alone-none : (x n : ℕ) → n ≤ x → sum_below n (λ a. bit (a == x)) ≡ 0
unfolding sum_below
alone-none x zero low = refl
alone-none x (suc n) low =
    let here = not-equal n x (λ same. omega (arith, same, low)) in
    let rest = alone-none x n (omega (arith, low)) in
    omega (arith, here, rest)

alone-sum : (x n : ℕ) → x < n → sum_below n (λ a. bit (a == x)) ≡ 1
unfolding sum_below
alone-sum x zero low = absurd omega (arith, low)
alone-sum x (suc n) low = by (cases_eq n x) (alone-sum x n) where
  by : (n ≡ x) ⊎ (n ≢ x) → (x < n → sum_below n (λ a. bit (a == x)) ≡ 1) → bit (n == x) + sum_below n (λ a. bit (a == x)) ≡ 1
  by (inl same) before =
      let here : bit (n == x) ≡ 1 = ap (λ (y : ℕ). bit (n == y)) (sym same) ∙ equal n in
      let rest = alone-none x n (omega (arith, same)) in
      omega (arith, here, rest)
  by (inr other) before =
      let here = not-equal n x other in
      let rest = before (omega (arith, low, other)) in
      omega (arith, here, rest)

count-sum : (n : ℕ) (xs : List ℕ) → Each (λ x. x < n) xs → length xs ≡ sum_below n (λ a. count a xs)
count-sum n [] all = sym (sum-zero n)
count-sum n (x ∷ xs) all =
    let one = alone-sum x n all.0 in
    let rest = count-sum n xs all.1 in
    let both = sum-plus n (λ a. bit (a == x)) (λ a. count a xs) in
    omega (arith, one, rest, both)

count-none : (a : ℕ) (xs : List ℕ) → Each (λ y. y ≢ a) xs → count a xs ≡ 0
count-none a [] all = refl
count-none a (x ∷ xs) all =
    let here = not-equal a x (λ same. all.0 (sym same)) in
    let rest = count-none a xs all.1 in
    omega (arith, here, rest)

count-few : (a : ℕ) (xs : List ℕ) → Differ xs → count a xs ≤ 1
count-few a [] differ = omega arith
count-few a (x ∷ xs) differ = by (cases_eq a x) (count-few a xs differ.1) where
  by : (a ≡ x) ⊎ (a ≢ x) → count a xs ≤ 1 → bit (a == x) + count a xs ≤ 1
  by (inl same) rest =
      let here : bit (a == x) ≡ 1 = ap (λ (y : ℕ). bit (a == y)) (sym same) ∙ equal a in
      let none = ap (λ (y : ℕ). count y xs) same ∙ count-none x xs differ.0 in
      omega (arith, here, none)
  by (inr other) rest = let here = not-equal a x other in omega (arith, here, rest)

pub few-distinct : (n : ℕ) (xs : List ℕ) → Each (λ x. x < n) xs → Differ xs → length xs ≤ n
few-distinct n xs all differ =
    let sum = count-sum n xs all in
    let few = sum-few n (λ a. count a xs) (λ a. count-few a xs differ) in
    omega (arith, sum, few)

-- what is said of each member of a list, in the forms in which laws say it
pub all-each : (n : ℕ) (xs : List ℕ) → All (λ x. x < n) xs → Each (λ x. x < n) xs
all-each n [] all = tt
all-each n (x ∷ xs) all = (all 0 0 (omega arith), all-each n xs (λ k d below. all (suc k) d (omega (arith, below))))

pub each-one : (n : ℕ) (xs : List ℕ) → n ≤ 256 → Each (λ x. x < n) xs → AllByRecursion IsOne xs
each-one n [] few all = tt
each-one n (x ∷ xs) few all = ((let here = all.0 in omega (arith, here, few)), each-one n xs few all.1)

pub each-eight : (xs : List ℕ) → ((d : ℕ) → d < length xs → at 0 xs d < 2 ^ 64) → AllByRecursion IsEight xs
each-eight [] all = tt
each-eight (x ∷ xs) all = (all 0 (omega arith), each-eight xs (λ d below. all (suc d) (omega (arith, below))))
