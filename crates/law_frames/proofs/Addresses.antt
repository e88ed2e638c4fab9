-- Sums over the addresses of a space.
use Rattle.std.proofs.Common.{◌≡◌, ◌<◌, ◌≤◌, ℕ, zero, suc, ◌+◌, ◌-◌, Bool, true, false, ◌⊎◌, inl, inr, refl, ap, arith}
use Rattle.std.proofs.lemmas.Bool.Decides.{nat_tests}
use Rattle.std.proofs.lemmas.Grind.{common_steps}
use Rattle.std.proofs.lemmas.Bool.{cases_lt}
use Rattle.group_types.specs.declared.run.Run.{Run}
use Rattle.group_run.specs.Free.{in_run}

abbrev pub bit : Bool → ℕ
bit true = 1
bit false = 0

unfoldable pub sum_below : ℕ → (ℕ → ℕ) → ℕ
sum_below zero f = 0
sum_below (suc n) f = f n + sum_below n f

pub sum-zero : (n : ℕ) → sum_below n (λ a. 0) ≡ 0
unfolding sum_below
sum-zero zero = refl
sum-zero (suc n) = let rest = sum-zero n in omega (arith, rest)

pub sum-plus : (n : ℕ) (f g : ℕ → ℕ) → sum_below n (λ a. f a + g a) ≡ sum_below n f + sum_below n g
unfolding sum_below
sum-plus zero f g = refl
sum-plus (suc n) f g = let rest = sum-plus n f g in omega (arith, rest)

pub sum-few : (n : ℕ) (f : ℕ → ℕ) → ((a : ℕ) → f a ≤ 1) → sum_below n f ≤ n
unfolding sum_below
sum-few zero f few = omega arith
sum-few (suc n) f few = let rest = sum-few n f few in let here = few n in omega (arith, rest, here)

-- whether an address lies in a run
inside : (a : ℕ) (run : Run) → run.at ≤ a → a < run.at + run.len → bit (in_run a run) ≡ 1
inside a run from to = let is : in_run a run ≡ true = grind (arith, nat_tests, common_steps) in ap bit is

outside : (a : ℕ) (run : Run) → (a < run.at) ⊎ (run.at + run.len ≤ a) → bit (in_run a run) ≡ 0
outside a run (inl early) = let is : in_run a run ≡ false = grind (arith, nat_tests, common_steps) in ap bit is
outside a run (inr late) = let is : in_run a run ≡ false = grind (arith, nat_tests, common_steps) in ap bit is

-- how many of the first n addresses lie in a run: none before it, and all of it behind it
sum-early : (run : Run) (n : ℕ) → n ≤ run.at → sum_below n (λ a. bit (in_run a run)) ≡ 0
unfolding sum_below
sum-early run zero early = refl
sum-early run (suc n) early =
    let one = outside n run (inl (omega (arith, early))) in
    let rest = sum-early run n (omega (arith, early)) in
    omega (arith, one, rest)

-- of the first n addresses so many lie in a run
sum-run : (run : Run) (n : ℕ) → run.at ≤ n → n ≤ run.at + run.len → sum_below n (λ a. bit (in_run a run)) ≡ n - run.at
unfolding sum_below
sum-run run zero from to = omega arith
sum-run run (suc n) from to = elim (cases_lt n run.at) [
  | inl early ↦ (let one = outside n run (inl early) in let rest = sum-early run n (omega (arith, early)) in omega (arith, one, rest, early))
  | inr late ↦ (let one = inside n run late (omega (arith, to)) in let rest = sum-run run n late (omega (arith, to)) in omega (arith, one, rest, late))
]

pub sum-run-all : (run : Run) (n : ℕ) → run.at + run.len ≤ n → sum_below n (λ a. bit (in_run a run)) ≡ run.len
unfolding sum_below
sum-run-all run zero there = let none : run.len ≡ 0 = omega (arith, there) in omega (arith, none)
sum-run-all run (suc n) there = elim (cases_lt n (run.at + run.len)) [
  | inl last ↦ (let all = sum-run run (suc n) (omega (arith, there)) (omega (arith, last)) in omega (arith, all, there, last))
  | inr late ↦ (let one = outside n run (inr late) in let rest = sum-run-all run n late in omega (arith, one, rest))
]
