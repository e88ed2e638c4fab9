-- What is read of functions of processes that are changed at one place, and of sets.
use Rattle.std.proofs.Common.{ℕ, ◌≡◌, ◌≢◌, ◌≤◌, ◌+◌, ◌==◌, ◌||◌, ◌⊎◌, inl, inr, Bool, true, false, List, [], ◌∷◌, map}
use Rattle.std.proofs.Common.{refl, sym, ap, subst, ◌∙◌, if◌then◌else◌, arith}
use Rattle.std.proofs.lemmas.Bool.{cases_eq, eq-eqb, ne_eqb}
use Rattle.std.specs.List.{range_with_len}
use Rattle.group_types.specs.Dimensions.{Dimensions}
use Rattle.group_types.specs.Names.{process_at, same_process}
use Rattle.group_types.specs.declared.process.ProcessId.{ProcessId}
use Rattle.group_types.proofs.Names.{same-eq, same-ne, same-refl}
use Rattle.membership.specs.Members.{count_dead_words}
use Rattle.group_wire.specs.Sets.{IsSubset, Processes, changed, changed_at, changed_from, either, one_or, size_of, with_one}

pub changed-here : {X : Type 0} (f : ProcessId → X) (p : ProcessId) (x : X) → changed f p x p ≡ x
changed-here f p x = ap (λ (b : Bool). one_or b x (f p)) (same-refl p)

pub changed-other : {X : Type 0} (f : ProcessId → X) (p q : ProcessId) (x : X) → q ≢ p → changed f p x q ≡ f q
changed-other f p q x other = ap (λ (b : Bool). one_or b x (f q)) (same-ne q p other)

-- what holds of the value at p, and of the others where they were, holds everywhere
pub changed-each : {X : Type 0} (P : ProcessId → X → Type 0) (f : ProcessId → X) (p : ProcessId) (x : X) → P p x
    → ((q : ProcessId) → q ≢ p → P q (f q)) → (q : ProcessId) → P q (changed f p x q)
changed-each P f p x here others q = by (same_process q p) refl where
  by : (b : Bool) → same_process q p ≡ b → P q (one_or b x (f q))
  by true is = subst (λ (y : ProcessId). P y x) (sym (same-eq q p is)) here
  by false is = others q (λ (same : q ≡ p). cc (ap (same_process q) same ∙ is, same-refl q))

-- the same of what is from each process to each
pub changed-pairs : {X : Type 0} (P : ProcessId → ProcessId → X → Type 0) (f : ProcessId → ProcessId → X) (p q : ProcessId) (x : X) → P p q x
    → ((a b : ProcessId) → P a b (f a b)) → (a b : ProcessId) → P a b (changed_from f p q x a b)
changed-pairs P f p q x here others a =
    changed-each (λ a row. (b : ProcessId) → P a b (row b)) f p (changed (f p) q x)
    (changed-each (P p) (f p) q x here (λ b _. others p b)) (λ a _. others a) a

-- the same of what is at each number
pub changed_at-here : {X : Type 0} (f : ℕ → X) (n : ℕ) (x : X) → changed_at f n x n ≡ x
changed_at-here f n x = ap (λ (b : Bool). one_or b x (f n)) (eq-eqb n n refl)

pub changed_at-each : {X : Type 0} (P : ℕ → X → Type 0) (f : ℕ → X) (n : ℕ) (x : X) → P n x → ((i : ℕ) → i ≢ n → P i (f i)) → (i : ℕ) → P i (changed_at f n x i)
changed_at-each P f n x here others i = by (cases_eq i n) where
  by : (i ≡ n) ⊎ (i ≢ n) → P i (one_or (i == n) x (f i))
  by (inl same) = subst (λ (b : Bool). P i (one_or b x (f i))) (sym (eq-eqb i n same)) (subst (λ (j : ℕ). P j x) (sym same) here)
  by (inr other) = subst (λ (b : Bool). P i (one_or b x (f i))) (sym (ne_eqb i n other)) (others i other)

-- a value that is one of two
pub one_or-is : {X : Type 0} (P : X → Type 0) (b : Bool) (x y : X) → (b ≡ true → P x) → (b ≡ false → P y) → P (one_or b x y)
one_or-is P true x y first second = first refl
one_or-is P false x y first second = second refl

-- sets
pub grown-set : (set : Processes) (x : ProcessId) → IsSubset set (with_one set x)
grown-set set x = changed-each (λ p b. set p ≡ true → b ≡ true) set x true (λ _. refl) (λ p _ inn. inn)

pub either-left : (a b : Processes) → IsSubset a (either a b)
either-left a b p inn = ap (λ (c : Bool). c || b p) inn

pub either-right : (a b : Processes) → IsSubset b (either a b)
either-right a b p inn = by (a p) where
  by : (c : Bool) → (c || b p) ≡ true
  by true = refl
  by false = inn

pub either-which : (a b : Processes) (p : ProcessId) → either a b p ≡ true → (a p ≡ true) ⊎ (b p ≡ true)
either-which a b p inn = by (a p) inn where
  by : (c : Bool) → (c || b p) ≡ true → (c ≡ true) ⊎ (b p ≡ true)
  by true inn = inl refl
  by false inn = inr inn

pub either-not : (a b : Processes) (p : ProcessId) → either a b p ≡ false → (a p ≡ false) × (b p ≡ false)
either-not a b p out = by (a p) out where
  by : (c : Bool) → (c || b p) ≡ false → (c ≡ false) × (b p ≡ false)
  by true out = cc out
  by false out = (refl, out)

-- a set within another has no more members
count-within : (a b : Processes) (s : Dimensions) (xs : List ℕ) → IsSubset a b
    → count_dead_words (map (λ x. a (process_at s x)) xs) ≤ count_dead_words (map (λ x. b (process_at s x)) xs)
count-within a b s [] within = omega arith
count-within a b s (x ∷ xs) within = by (a (process_at s x)) (b (process_at s x)) (within (process_at s x)) (count-within a b s xs within) where
  by : (c d : Bool) → (c ≡ true → d ≡ true) → count_dead_words (map (λ x. a (process_at s x)) xs) ≤ count_dead_words (map (λ x. b (process_at s x)) xs)
      → (if c then 1 else 0) + count_dead_words (map (λ x. a (process_at s x)) xs) ≤ (if d then 1 else 0) + count_dead_words (map (λ x. b (process_at s x)) xs)
  by true true inn rest = omega (arith, rest)
  by false true inn rest = omega (arith, rest)
  by false false inn rest = omega (arith, rest)
  by true false inn rest = cc (inn refl)

pub size-within : (s : Dimensions) (a b : Processes) → IsSubset a b → size_of s a ≤ size_of s b
size-within s a b within = count-within a b s (range_with_len 0 (s.k + s.m)) within

pub size-nobody : (s : Dimensions) (a : Processes) → ((p : ProcessId) → a p ≡ false) → size_of s a ≡ 0
size-nobody s a none = by (range_with_len 0 (s.k + s.m)) where
  by : (xs : List ℕ) → count_dead_words (map (λ x. a (process_at s x)) xs) ≡ 0
  by [] = refl
  by (x ∷ xs) =
      let rest = by xs in
      let first : ◌≡◌ {A = ℕ} (if a (process_at s x) then 1 else 0) 0 = ap (λ (c : Bool). if c then 1 else 0) (none (process_at s x)) in
      omega (arith, rest, first)
