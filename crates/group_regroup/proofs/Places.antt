-- The entries of logs that stand one behind the other, by their places.
use Rattle.std.proofs.Common.{◌≡◌, ℕ, zero, suc, ◌+◌, ◌-◌, ◌<◌, ◌≤◌, List, [], ◌∷◌, ◌++◌, length, map, drop, Option}
use Rattle.std.proofs.Common.{Some, None, slice_index_or, refl, sym, ap, ◌∙◌, append_assoc, arith}
use Rattle.std.specs.Prelude.{slice_get}
use Rattle.std.specs.Option.{option_map, unwrap_or}
use Rattle.std.proofs.lemmas.Option.{none-some}
use Rattle.group_calls.specs.declared.entry.Entry.{Entry}
use Rattle.group_eras.specs.Eras.{EraEntry}
use Rattle.group_eras.specs.Told.{Bases}
use Rattle.group_regroup.specs.declared.changing.Lowered.{Lowered}
use Rattle.group_regroup.specs.Kept.{entry_of_era, past_from, told_from}

pub get-front : (e : ℕ) (xs : List Entry) (ys : List EraEntry) (i : ℕ) (d : Entry) → i < length xs
    → slice_get xs i ≡ Some d → slice_get (map (λ x. (e, x)) xs ++ ys) i ≡ Some (e, d)
get-front e [] ys i d low is = absurd (omega (arith, low))
get-front e (x ∷ xs) ys zero d low is = ap (option_map (λ y. (e, y))) is
get-front e (x ∷ xs) ys (suc i) d low is = get-front e xs ys i d (omega (arith, low)) is

pub get-behind : (e : ℕ) (xs : List Entry) (ys : List EraEntry) (i : ℕ) → length xs ≤ i
    → slice_get (map (λ x. (e, x)) xs ++ ys) i ≡ slice_get ys (i - length xs)
get-behind e [] ys i high = let same : i ≡ i - 0 = omega arith in ap (slice_get ys) same
get-behind e (x ∷ xs) ys zero high = absurd (omega (arith, high))
get-behind e (x ∷ xs) ys (suc i) high = get-behind e xs ys i (omega (arith, high))
    ∙ (let same : i - length xs ≡ suc i - suc (length xs) = omega arith in ap (slice_get ys) same)

pub told-get : (bases : Bases) (k era : ℕ) (l : List Lowered) (p : ℕ) (xs : List Entry) (i : ℕ) (d : Entry)
    → slice_get xs i ≡ Some d → slice_get (told_from bases k era l p xs) i ≡ Some (era, entry_of_era bases k l (p + i) d)
told-get bases k era l p [] zero d is = absurd (none-some d is)
told-get bases k era l p [] (suc i) d is = absurd (none-some d is)
told-get bases k era l p (x ∷ xs) zero d is =
    let here : p ≡ p + 0 =
    omega arith in ap (option_map (λ y. (era, entry_of_era bases k l p y))) is ∙ ap (λ (n : ℕ). Some (era, entry_of_era bases k l n d)) here
told-get bases k era l p (x ∷ xs) (suc i) d is =
    let there : suc p + i ≡ p + suc i = omega arith in told-get bases k era l (suc p) xs i d is ∙ ap (λ (n : ℕ). Some (era, entry_of_era bases k l n d)) there

pub told-none : (bases : Bases) (k era : ℕ) (l : List Lowered) (p : ℕ) (xs : List Entry) (i : ℕ) → length xs ≤ i
    → slice_get (told_from bases k era l p xs) i ≡ None
told-none bases k era l p [] zero high = refl
told-none bases k era l p [] (suc i) high = refl
told-none bases k era l p (x ∷ xs) zero high = absurd (omega (arith, high))
told-none bases k era l p (x ∷ xs) (suc i) high = told-none bases k era l (suc p) xs i (omega (arith, high))

pub get-index : {X : Type 0} (xs : List X) (i : ℕ) (d : X) → i < length xs → d ≡ slice_index_or xs i d → slice_get xs i ≡ Some d
get-index [] i d low is = absurd (omega (arith, low))
get-index (x ∷ xs) zero d low is = ap (λ y. Some y) (sym is)
get-index (x ∷ xs) (suc i) d low is = get-index xs i d (omega (arith, low)) is

-- the logs of past eras, the first of them taken off
module _ (own : List EraEntry) where
  -- the entry at a place, where so many eras were passed
  abbrev pub entry_past : List (List Entry) → ℕ → ℕ → Option EraEntry
  entry_past past era left = slice_get (past_from era (drop era past) ++ own) left

  front-of : (past : List (List Entry)) (i : ℕ) (xs : List Entry) → slice_get past i ≡ Some xs → drop i past ≡ xs ∷ drop (i + 1) past
  front-of [] zero xs is = absurd (none-some xs is)
  front-of [] (suc i) xs is = absurd (none-some xs is)
  front-of (y ∷ past) zero xs is = ap (λ (o : Option (List Entry)). unwrap_or o xs ∷ past) is
  front-of (y ∷ past) (suc i) xs is = front-of past i xs is ∙ (let same : suc (i + 1) ≡ suc i + 1 = omega arith in ap (λ (n : ℕ). xs ∷ drop n (y ∷ past)) same)

  module _ (past : List (List Entry)) (era : ℕ) (xs : List Entry) (is : slice_get past era ≡ Some xs) (left : ℕ) where
    split : past_from era (drop era past) ++ own ≡ map (λ x. (era, x)) xs ++ (past_from (era + 1) (drop (era + 1) past) ++ own)
    split = ap (λ (p : List (List Entry)). past_from era p ++ own) (front-of past era xs is)
        ∙ append_assoc (map (λ x. (era, x)) xs) (past_from (suc era) (drop (era + 1) past)) own
        ∙ (let same : suc era ≡ era + 1 = omega arith in ap (λ (n : ℕ). map (λ x. (era, x)) xs ++ (past_from n (drop (era + 1) past) ++ own)) same)

    pub here-past : (d : Entry) → left < length xs → slice_get xs left ≡ Some d → entry_past past era left ≡ Some (era, d)
    here-past d low there = ap (λ (ys : List EraEntry). slice_get ys left) split
        ∙ get-front era xs (past_from (era + 1) (drop (era + 1) past) ++ own) left d low there

    pub next-past : length xs ≤ left → entry_past past era left ≡ entry_past past (era + 1) (left - length xs)
    next-past high = ap (λ (ys : List EraEntry). slice_get ys left) split ∙ get-behind era xs (past_from (era + 1) (drop (era + 1) past) ++ own) left high

  pub none-past : (past : List (List Entry)) (era left : ℕ) → length past ≤ era → entry_past past era left ≡ slice_get own left
  none-past past era left high = ap (λ (p : List (List Entry)). slice_get (past_from era p ++ own) left) (all-dropped past era high) where
    all-dropped : (past : List (List Entry)) (era : ℕ) → length past ≤ era → drop era past ≡ []
    all-dropped [] zero high = refl
    all-dropped [] (suc era) high = refl
    all-dropped (x ∷ past) zero high = absurd (omega (arith, high))
    all-dropped (x ∷ past) (suc era) high = all-dropped past era (omega (arith, high))

pub get-part : {X Y : Type 0} (f : X → Y) (xs : List X) (i : ℕ) (d : X) → i < length xs → d ≡ slice_index_or xs i d → slice_get (map f xs) i ≡ Some (f d)
get-part f [] i d low is = absurd (omega (arith, low))
get-part f (x ∷ xs) zero d low is = ap (λ y. Some (f y)) (sym is)
get-part f (x ∷ xs) (suc i) d low is = get-part f xs i d (omega (arith, low)) is

pub long-part : {X Y : Type 0} (f : X → Y) (xs : List X) → length (map f xs) ≡ length xs
long-part f [] = refl
long-part f (x ∷ xs) = ap suc (long-part f xs)

pub told-same : (era : ℕ) (bases bases2 : Bases) (k k2 : ℕ) (l l2 : List Lowered) (log log2 : List Entry) (i : ℕ)
    → bases2 ≡ bases → k2 ≡ k → l2 ≡ l → log2 ≡ log
    → slice_get (told_from bases k era l 0 log) i ≡ slice_get (told_from bases2 k2 era l2 0 log2) i
told-same era bases bases2 k k2 l l2 log log2 i b w x y = sym (λ j. slice_get (told_from (b j) (w j) era (x j) 0 (y j)) i)
