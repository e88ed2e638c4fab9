-- Words of which one is written.
use Rattle.std.proofs.Common.{ℕ, ◌≡◌, ◌<◌, ◌≤◌, ◌+◌, ◌||◌, Bool, true, false, List, length, sym, ap, inl, inr, ◌∙◌, arith}
use Rattle.std.specs.Prelude.{set, slice_index_or}
use Rattle.std.proofs.lemmas.Bool.{cases_eq, cases_lt}
use Rattle.group_types.specs.Lists.{at, put}
use Rattle.group_types.proofs.Lists.{at-put, at-put-other, at_behind, at_index, length-put, set_put}

-- the disjunction of equals
either : (a b c d : Bool) → a ≡ b → c ≡ d → (a || c) ≡ (b || d)
either a b c d one other = ap (λ (x : Bool). x || c) one ∙ ap (λ (y : Bool). b || y) other

-- the words before place i have those of others, and the rest are as they were
pub record AreAddedBefore (i : ℕ) (before now others : List Bool) : Type 0 where
  pub long : length now ≡ length before
  pub done : (k : ℕ) → k < i → at false now k ≡ (at false before k || at false others k)
  pub left : (k : ℕ) → i ≤ k → at false now k ≡ at false before k

pub one-more : (i : ℕ) (before now others : List Bool) → i < length now → length now ≡ length others → AreAddedBefore i before now others
    → AreAddedBefore (i + 1) before (set now i (slice_index_or now i false || slice_index_or others i false)) others
one-more i before now others within long added = record {
  long = ap length written ∙ length-put false now i word within ∙ added.long;
  done = λ k below. elim (cases_eq k i) [
    | inl same ↦ ap (λ (xs : List Bool). at false xs k) written ∙ ap (at false (put false now i word)) same ∙ at-put false false now i word
        ∙ either _ _ _ _ (sym (at_index false false now i within) ∙ added.left i (omega arith))
        (sym (at_index false false others i (omega (arith, long, within))))
        ∙ ap (λ (j : ℕ). at false before j || at false others j) (sym same)
    | inr other ↦ elsewhere k other ∙ added.done k (omega (arith, below, other))
  ];
  left = λ k above. elsewhere k (λ same. omega (arith, above, same)) ∙ added.left k (omega (arith, above));
} where
  word : Bool
  word = slice_index_or now i false || slice_index_or others i false

  written : set now i word ≡ put false now i word
  written = set_put false now i word within

  elsewhere : (k : ℕ) → ¬ (k ≡ i) → at false (set now i word) k ≡ at false now k
  elsewhere k other = ap (λ (xs : List Bool). at false xs k) written ∙ at-put-other false now i k word other

pub all-added : (i : ℕ) (before now others : List Bool) → length now ≤ i → length now ≡ length others → AreAddedBefore i before now others
    → (k : ℕ) → at false now k ≡ (at false before k || at false others k)
all-added i before now others end long added k = elim (cases_lt k i) [
  | inl below ↦ added.done k below
  | inr above ↦ at_behind false now k (omega (arith, end, above)) ∙ either _ _ _ _
      (sym (at_behind false before k (let same = added.long in omega (arith, end, above, same))))
      (sym (at_behind false others k (omega (arith, end, above, long))))
]

-- the words that say dead before place i do so among others
abbrev pub AreWithinBefore : ℕ → List Bool → List Bool → Type 0
AreWithinBefore i words others = (k : ℕ) → k < i → at false words k ≡ true → at false others k ≡ true

pub one-within : (i : ℕ) (words others : List Bool) → i < length words → length words ≡ length others
    → (slice_index_or words i false ≡ true → slice_index_or others i false ≡ true) → AreWithinBefore i words others → AreWithinBefore (i + 1) words others
one-within i words others within long here before k below dead = elim (cases_eq k i) [
  | inl same ↦ ap (at false others) same ∙ at_index false false others i (omega (arith, long, within))
      ∙ here (sym (at_index false false words i within) ∙ ap (at false words) (sym same) ∙ dead)
  | inr other ↦ before k (omega (arith, below, other)) dead
]

pub all-within : (i : ℕ) (words others : List Bool) → length words ≤ i → AreWithinBefore i words others → (k : ℕ)
    → at false words k ≡ true → at false others k ≡ true
all-within i words others end before k dead = elim (cases_lt k i) [
  | inl below ↦ before k below dead
  | inr above ↦ absurd (cc (sym dead ∙ at_behind false words k (omega (arith, end, above))))
]

pub one-outside : (i : ℕ) (words others : List Bool) → i < length words → length words ≡ length others → slice_index_or words i false ≡ true
    → slice_index_or others i false ≡ false → ¬ ((k : ℕ) → at false words k ≡ true → at false others k ≡ true)
one-outside i words others within long dead lives are =
    absurd (cc (sym (are i (at_index false false words i within ∙ dead)) ∙ at_index false false others i (omega (arith, long, within)) ∙ lives))
