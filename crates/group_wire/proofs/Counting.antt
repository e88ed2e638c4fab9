-- Sets that have no member in common within another, and a member that is in no set which is too small.
use Rattle.std.proofs.Common.{ℕ, zero, suc, ◌≡◌, ◌≢◌, ◌<◌, ◌≤◌, ◌+◌, ◌⊎◌, inl, inr, Bool, true, false, ◌||◌, List, []}
use Rattle.std.proofs.Common.{◌∷◌, map, refl, sym, ap, ◌∙◌, if◌then◌else◌, arith}
use Rattle.std.proofs.lemmas.Bool.{cases_eq}
use Rattle.std.specs.List.{range_with_len}
use Rattle.group_types.specs.Dimensions.{Dimensions}
use Rattle.group_types.specs.Names.{IsProcess, index_of, process_at, same_process}
use Rattle.group_types.specs.declared.process.ProcessId.{ProcessId}
use Rattle.group_types.proofs.Names.{index-below, process_at-index, process_at-in, same-refl, same-eq}
use Rattle.membership.specs.Members.{count_dead_words}
use Rattle.group_wire.specs.Sets.{IsSubset, Processes, either, size_of}

abbrev bit : Bool → ℕ
bit b = if b then 1 else 0

count-three : (a t u f : ℕ → Bool) (xs : List ℕ) → ((x : ℕ) → bit (a x) + bit (t x) + bit (u x) ≤ bit (f x))
    → count_dead_words (map a xs) + count_dead_words (map t xs) + count_dead_words (map u xs) ≤ count_dead_words (map f xs)
count-three a t u f [] each = omega arith
count-three a t u f (x ∷ xs) each = let rest = count-three a t u f xs each in let first = each x in omega (arith, rest, first)

one-hit : (u : ℕ → Bool) (i a n : ℕ) → a ≤ i → i < a + n → u i ≡ true → 1 ≤ count_dead_words (map u (range_with_len a n))
one-hit u i a zero low high hit = absurd (omega (arith, low, high))
one-hit u i a (suc n) low high hit = by (cases_eq i a) (λ above. one-hit u i (a + 1) n above (omega (arith, high)) hit) where
  by : (i ≡ a) ⊎ (i ≢ a) → (a + 1 ≤ i → 1 ≤ count_dead_words (map u (range_with_len (a + 1) n)))
      → 1 ≤ bit (u a) + count_dead_words (map u (range_with_len (a + 1) n))
  by (inl same) later = let one : bit (u a) ≡ 1 = ap bit (ap u (sym same) ∙ hit) in omega (arith, one)
  by (inr other) later = let rest = later (omega (arith, low, other)) in omega (arith, rest)

-- two sets apart from one another, and one more process, within a set
pub size-apart : (s : Dimensions) (a t f : Processes) (g : ProcessId) → IsProcess s g → IsSubset a f → IsSubset t f
    → f g ≡ true → ((x : ProcessId) → a x ≡ true → t x ≡ true → ⊥)
    → a g ≡ false → t g ≡ false → size_of s a + size_of s t + 1 ≤ size_of s f
size-apart s a t f g gin aw tw fg apart ag tg =
    let hit : same_process (process_at s (index_of s g)) g ≡ true = ap (λ (x : ProcessId). same_process x g) (process_at-index s g gin) ∙ same-refl g in
    let low = index-below s g gin in
    let one = one-hit (λ x. same_process (process_at s x) g) (index_of s g) 0 (s.k + s.m) (omega arith) (omega (arith, low)) hit in
    let all = count-three (λ x. a (process_at s x)) (λ x. t (process_at s x)) (λ x. same_process (process_at s x) g)
    (λ x. f (process_at s x)) (range_with_len 0 (s.k + s.m)) each in
    omega (arith, one, all)
  where
    by : (b c d e : Bool) → (b ≡ true → e ≡ true) → (c ≡ true → e ≡ true) → (d ≡ true → e ≡ true)
        → (b ≡ true → c ≡ true → ⊥) → (d ≡ true → b ≡ false) → (d ≡ true → c ≡ false)
        → bit b + bit c + bit d ≤ bit e
    by true true d e be ce de bc db dc = absurd (bc refl refl)
    by true false true e be ce de bc db dc = cc (db refl)
    by false true true e be ce de bc db dc = cc (dc refl)
    by true false false e be ce de bc db dc = let is : bit e ≡ 1 = ap bit (be refl) in omega (arith, is)
    by false true false e be ce de bc db dc = let is : bit e ≡ 1 = ap bit (ce refl) in omega (arith, is)
    by false false true e be ce de bc db dc = let is : bit e ≡ 1 = ap bit (de refl) in omega (arith, is)
    by false false false e be ce de bc db dc = omega arith

    each : (x : ℕ) → bit (a (process_at s x)) + bit (t (process_at s x)) + bit (same_process (process_at s x) g) ≤ bit (f (process_at s x))
    each x = by (a (process_at s x)) (t (process_at s x)) (same_process (process_at s x) g) (f (process_at s x)) (aw (process_at s x)) (tw (process_at s x))
        (λ same. ap f (same-eq (process_at s x) g same) ∙ fg) (apart (process_at s x))
        (λ same. ap a (same-eq (process_at s x) g same) ∙ ag) (λ same. ap t (same-eq (process_at s x) g same) ∙ tg)

-- the sizes of two sets are at least that of both
pub size-either : (s : Dimensions) (a b : Processes) → size_of s (either a b) ≤ size_of s a + size_of s b
size-either s a b = by (range_with_len 0 (s.k + s.m)) where
  one : (c d : Bool) → bit (c || d) ≤ bit c + bit d
  one true d = omega arith
  one false d = omega arith

  by : (xs : List ℕ) → count_dead_words (map (λ x. either a b (process_at s x)) xs)
      ≤ count_dead_words (map (λ x. a (process_at s x)) xs) + count_dead_words (map (λ x. b (process_at s x)) xs)
  by [] = omega arith
  by (x ∷ xs) = let rest = by xs in let first = one (a (process_at s x)) (b (process_at s x)) in omega (arith, rest, first)

-- a set that is smaller than the group lacks a member
lacks-from : (u : ℕ → Bool) (a n : ℕ) → count_dead_words (map u (range_with_len a n)) < n → (i : ℕ) × (i < a + n) × (u i ≡ false)
lacks-from u a zero few = absurd (omega (arith, few))
lacks-from u a (suc n) few = by (u a) refl (λ fewer. lacks-from u (a + 1) n fewer) where
  by : (b : Bool) → u a ≡ b → (count_dead_words (map u (range_with_len (a + 1) n)) < n → (i : ℕ) × (i < a + 1 + n)
      × (u i ≡ false)) → (i : ℕ) × (i < a + suc n) × (u i ≡ false)
  by false is later = (a, omega arith, is)
  by true is later =
      let one : bit (u a) ≡ 1 = ap bit is in
      let found = later (omega (arith, few, one)) in
      (found.0, (let low : found.0 < a + 1 + n = found.1 in omega (arith, low)), found.2)

pub lacks : (s : Dimensions) (set : Processes) → size_of s set < s.k + s.m → (x : ProcessId) × IsProcess s x × (set x ≡ false)
lacks s set few =
    let found = lacks-from (λ x. set (process_at s x)) 0 (s.k + s.m) few in
    let low : found.0 < 0 + (s.k + s.m) = found.1 in
    (process_at s found.0, process_at-in s found.0 (omega (arith, low)), found.2)
