-- Sums over the processes of a group.
use Rattle.std.proofs.Common.{◌≡◌, ◌≢◌, ℕ, zero, suc, ◌+◌, ◌<◌, ◌≤◌, Bool, List, [], ◌∷◌, map, ◌⊎◌, inl, inr, sym, ap}
use Rattle.std.proofs.Common.{subst, ◌∙◌, refl, arith, if◌then◌else◌, true, false}
use Rattle.std.proofs.lemmas.Bool.{cases_eq}
use Rattle.std.specs.List.{range_with_len}
use Rattle.group_types.specs.Dimensions.{Dimensions}
use Rattle.group_types.specs.Names.{IsProcess, index_of, process_at, same_process}
use Rattle.group_types.specs.declared.process.ProcessId.{ProcessId}
use Rattle.group_types.proofs.Names.{index-below, index-process_at, process_at-in, process_at-index, same-cases, same-ne, same-refl}
use Rattle.law_bytes.proofs.Tokens.{everyone, sum_of, one_if}

-- a process is one of some
abbrev pub Within : ProcessId → List ProcessId → Type 0
Within p [] = ⊥
Within p (q ∷ qs) = (p ≡ q) ⊎ Within p qs

-- none stands twice
abbrev pub Once : List ProcessId → Type 0
Once [] = Unit {0}
Once (p ∷ ps) = (¬ (Within p ps)) × Once ps

pub sum-le : (ps : List ProcessId) (f g : ProcessId → ℕ) → ((p : ProcessId) → Within p ps → g p ≤ f p) → sum_of ps g ≤ sum_of ps f
sum-le [] f g less = omega arith
sum-le (p ∷ ps) f g less = let here = less p (inl refl) in let rest = sum-le ps f g (λ q there. less q (inr there)) in omega (arith, here, rest)

pub sum-zero : (ps : List ProcessId) (f : ProcessId → ℕ) → ((p : ProcessId) → Within p ps → f p ≡ 0) → sum_of ps f ≡ 0
sum-zero [] f zeros = refl
sum-zero (p ∷ ps) f zeros = let here = zeros p (inl refl) in let rest = sum-zero ps f (λ q there. zeros q (inr there)) in omega (arith, here, rest)

pub sum-both : (ps : List ProcessId) (f g : ProcessId → ℕ) → sum_of ps (λ p. f p + g p) ≡ sum_of ps f + sum_of ps g
sum-both [] f g = refl
sum-both (p ∷ ps) f g = let rest = sum-both ps f g in omega (arith, rest)

-- a sum that is less by c at one of them
pub sum-less : (ps : List ProcessId) (f g : ProcessId → ℕ) (x : ProcessId) (c : ℕ) → Within x ps
    → ((p : ProcessId) → Within p ps → g p ≤ f p) → g x + c ≤ f x → sum_of ps g + c ≤ sum_of ps f
sum-less [] f g x c there less here = absurd there
sum-less (p ∷ ps) f g x c (inl same) less here =
    let rest = sum-le ps f g (λ q deeper. less q (inr deeper)) in
    let first = subst (λ (q : ProcessId). g q + c ≤ f q) same here in
    omega (arith, rest, first)
sum-less (p ∷ ps) f g x c (inr there) less here =
    let rest = sum-less ps f g x c there (λ q deeper. less q (inr deeper)) here in
    let first = less p (inl refl) in
    omega (arith, rest, first)

-- c at one process, and 0 elsewhere
abbrev pub only_at : ProcessId → ℕ → ProcessId → ℕ
only_at p c q = if same_process p q then c else 0

pub only-here : (p q : ProcessId) (c : ℕ) → q ≡ p → only_at p c q ≡ c
only-here p q c same = ap (λ (b : Bool). if b then c else 0) (ap (same_process p) same ∙ same-refl p)

pub only-other : (p q : ProcessId) (c : ℕ) → q ≢ p → only_at p c q ≡ 0
only-other p q c other = ap (λ (b : Bool). if b then c else 0) (same-ne p q (λ same. other (sym same)))

pub sum-only : (ps : List ProcessId) (p : ProcessId) (c : ℕ) → Once ps → sum_of ps (only_at p c) ≤ c
sum-only [] p c once = omega arith
sum-only (q ∷ qs) p c once = by (same-cases q p) (sum-only qs p c once.1) where
  by : (q ≡ p) ⊎ (q ≢ p) → sum_of qs (only_at p c) ≤ c → only_at p c q + sum_of qs (only_at p c) ≤ c
  by (inl same) rest =
      let here = only-here p q c same in
      let none = sum-zero qs (only_at p c) (λ x there. only-other p x c (λ is. once.0 (subst (λ (y : ProcessId). Within y qs) (is ∙ sym same) there))) in
      omega (arith, here, none)
  by (inr other) rest = let here = only-other p q c other in omega (arith, here, rest)

-- the processes of the group
pub range-within : (s : Dimensions) (x a n : ℕ) → a ≤ x → x < a + n → Within (process_at s x) (map (process_at s) (range_with_len a n))
range-within s x a zero low high = absurd (omega (arith, low, high))
range-within s x a (suc n) low high = by (cases_eq x a) (λ above. range-within s x (a + 1) n above (omega (arith, high))) where
  by : (x ≡ a) ⊎ (x ≢ a) → (a + 1 ≤ x → Within (process_at s x) (map (process_at s) (range_with_len (a + 1) n)))
      → Within (process_at s x) (map (process_at s) (range_with_len a (suc n)))
  by (inl same) later = inl (ap (process_at s) same)
  by (inr other) later = inr (later (omega (arith, low, other)))

pub within-everyone : (s : Dimensions) (p : ProcessId) → IsProcess s p → Within p (everyone s)
within-everyone s p inside =
    subst (λ (q : ProcessId). Within q (everyone s)) (process_at-index s p inside)
    (range-within s (index_of s p) 0 (s.k + s.m) (omega arith) (let low = index-below s p inside in
    omega (arith, low)))

within-range : (s : Dimensions) (p : ProcessId) (a n : ℕ) → Within p (map (process_at s) (range_with_len a n))
    → (a ≤ index_of s p) × (index_of s p < a + n) × (p ≡ process_at s (index_of s p))
within-range s p a zero there = absurd there
within-range s p a (suc n) (inl same) =
    let is : index_of s p ≡ a = ap (index_of s) same ∙ index-process_at s a in
    (omega (arith, is), omega (arith, is), same ∙ sym (ap (process_at s) is))
within-range s p a (suc n) (inr there) = let deeper = within-range s p (a + 1) n there in
    (let low = deeper.0 in omega (arith, low), let high = deeper.1 in omega (arith, high), deeper.2)

pub everyone-inside : (s : Dimensions) (p : ProcessId) → Within p (everyone s) → IsProcess s p
everyone-inside s p there =
    let found = within-range s p 0 (s.k + s.m) there in
    subst (IsProcess s) (sym found.2) (process_at-in s (index_of s p) (let high = found.1 in omega (arith, high)))

range-once : (s : Dimensions) (a n : ℕ) → Once (map (process_at s) (range_with_len a n))
range-once s a zero = tt
range-once s a (suc n) = (
  (λ there. let low = (within-range s (process_at s a) (a + 1) n there).0 in let is = index-process_at s a in absurd (omega (arith, low, is))),
  range-once s (a + 1) n,
)

pub everyone-once : (s : Dimensions) → Once (everyone s)
everyone-once s = range-once s 0 (s.k + s.m)

-- one of them is at most the sum
pub sum-at : (ps : List ProcessId) (f : ProcessId → ℕ) (p : ProcessId) → Within p ps → f p ≤ sum_of ps f
sum-at [] f p there = absurd there
sum-at (q ∷ qs) f p (inl same) = let is = ap f same in omega (arith, is)
sum-at (q ∷ qs) f p (inr there) = let rest = sum-at qs f p there in omega (arith, rest)

pub bit-off : (b : Bool) → one_if b ≤ 0 → b ≡ true → ⊥
bit-off true low is = absurd (omega (arith, low))
bit-off false low is = cc is
