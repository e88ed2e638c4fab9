-- The entries of one era's log, in what is kept of the eras.
use Rattle.std.proofs.Common.{◌≡◌, ◌≢◌, ℕ, zero, suc, ◌+◌, ◌<◌, ◌≤◌, ◌==◌, Bool, true, false, if◌then◌else◌, List, []}
use Rattle.std.proofs.Common.{◌∷◌, ◌++◌, length, map, drop, slice_index_or, refl, sym, ap, ◌∙◌, append-nil, arith}
use Rattle.std.proofs.lemmas.Bool.Decides.{nat_tests}
use Rattle.group_calls.specs.declared.entry.Entry.{Entry}
use Rattle.group_eras.specs.Eras.{EraEntry}
use Rattle.group_eras.specs.Told.{Bases}
use Rattle.group_run.specs.World.{World}
use Rattle.group_regroup.specs.declared.changing.Lowered.{Lowered}
use Rattle.group_regroup.specs.Kept.{entries_from, entry_of_era, eras_of, past_from, told_from}
use Rattle.group_regroup.specs.Last.{entries_of_era}

entries-append : (era : ℕ) (a b : List EraEntry) → entries_of_era era (a ++ b) ≡ entries_of_era era a ++ entries_of_era era b
entries-append era [] b = refl
entries-append era (x ∷ a) b = by (x.0 == era) (entries-append era a b) where
  by : (t : Bool) → entries_of_era era (a ++ b) ≡ entries_of_era era a ++ entries_of_era era b
      → (if t then x.1 ∷ entries_of_era era (a ++ b) else entries_of_era era (a ++ b)) ≡
      (if t then x.1 ∷ entries_of_era era a else entries_of_era era a) ++ entries_of_era era b
  by true rest = ap (λ (xs : List Entry). x.1 ∷ xs) rest
  by false rest = rest

same-number : (n m : ℕ) → n ≡ m → (n == m) ≡ true
same-number n m is = grind (arith, nat_tests)

other-number : (n m : ℕ) → n ≢ m → (n == m) ≡ false
other-number n m is = grind (arith, nat_tests)

tagged-own : (n era : ℕ) (xs : List Entry) → n ≡ era → entries_of_era era (map (λ x. (n, x)) xs) ≡ xs
tagged-own n era [] is = refl
tagged-own n era (x ∷ xs) is =
    ap (λ (t : Bool). if t then x ∷ entries_of_era era (map (λ y. (n, y)) xs) else entries_of_era era (map (λ y. (n, y)) xs))
    (same-number n era is) ∙ ap (λ (ys : List Entry). x ∷ ys) (tagged-own n era xs is)

tagged-other : (n era : ℕ) (xs : List Entry) → n ≢ era → entries_of_era era (map (λ x. (n, x)) xs) ≡ []
tagged-other n era [] is = refl
tagged-other n era (x ∷ xs) is =
    ap (λ (t : Bool). if t then x ∷ entries_of_era era (map (λ y. (n, y)) xs) else entries_of_era era (map (λ y. (n, y)) xs))
    (other-number n era is) ∙ tagged-other n era xs is

told-own : (bases : Bases) (k n era : ℕ) (l : List Lowered) (p : ℕ) (xs : List Entry) → n ≡ era
    → entries_of_era era (told_from bases k n l p xs) ≡ entries_from bases k l p xs
told-own bases k n era l p [] is = refl
told-own bases k n era l p (x ∷ xs) is =
    ap (λ (t : Bool). if t then entry_of_era bases k l p x ∷ entries_of_era era (told_from bases k n l (suc p) xs) else
    entries_of_era era (told_from bases k n l (suc p) xs)) (same-number n era is)
    ∙ ap (λ (ys : List Entry). entry_of_era bases k l p x ∷ ys) (told-own bases k n era l (suc p) xs is)

told-other : (bases : Bases) (k n era : ℕ) (l : List Lowered) (p : ℕ) (xs : List Entry) → n ≢ era → entries_of_era era (told_from bases k n l p xs) ≡ []
told-other bases k n era l p [] is = refl
told-other bases k n era l p (x ∷ xs) is =
    ap (λ (t : Bool). if t then entry_of_era bases k l p x ∷ entries_of_era era (told_from bases k n l (suc p) xs) else
    entries_of_era era (told_from bases k n l (suc p) xs)) (other-number n era is)
    ∙ told-other bases k n era l (suc p) xs is

-- past eras have none of a later one, nor of an earlier one
past-later : (n era : ℕ) (past : List (List Entry)) → n + length past ≤ era → entries_of_era era (past_from n past) ≡ []
past-later n era [] high = refl
past-later n era (xs ∷ past) high =
    entries-append era (map (λ x. (n, x)) xs) (past_from (suc n) past)
    ∙ ap (λ (ys : List Entry). ys ++ entries_of_era era (past_from (suc n) past))
    (tagged-other n era xs (λ same. omega (arith, high, same))) ∙ past-later (suc n) era past (omega (arith, high))

past-earlier : (n era : ℕ) (past : List (List Entry)) → era < n → entries_of_era era (past_from n past) ≡ []
past-earlier n era [] low = refl
past-earlier n era (xs ∷ past) low =
    entries-append era (map (λ x. (n, x)) xs) (past_from (suc n) past)
    ∙ ap (λ (ys : List Entry). ys ++ entries_of_era era (past_from (suc n) past))
    (tagged-other n era xs (λ same. omega (arith, low, same))) ∙ past-earlier (suc n) era past (omega (arith, low))

past-own : (n i era : ℕ) (past : List (List Entry)) → i < length past → era ≡ n + i → entries_of_era era (past_from n past) ≡ slice_index_or past i []
past-own n i era [] low is = absurd (omega (arith, low))
past-own n zero era (xs ∷ past) low is =
    entries-append era (map (λ x. (n, x)) xs) (past_from (suc n) past)
    ∙ ap (λ (ys : List Entry). ys ++ entries_of_era era (past_from (suc n) past))
    (tagged-own n era xs (omega (arith, is)))
    ∙ ap (λ (ys : List Entry). xs ++ ys) (past-earlier (suc n) era past (omega (arith, is))) ∙ append-nil xs
past-own n (suc i) era (xs ∷ past) low is =
    entries-append era (map (λ x. (n, x)) xs) (past_from (suc n) past)
    ∙ ap (λ (ys : List Entry). ys ++ entries_of_era era (past_from (suc n) past))
    (tagged-other n era xs (λ same. omega (arith, is, same))) ∙ past-own (suc n) i era past (omega (arith, low))
    (omega (arith, is))

module _ (w : World) (bases : Bases) (past : List (List Entry)) (lowered : List Lowered) (era : ℕ) where
  pub of-past : era < length past → entries_of_era era (eras_of w bases past lowered).log ≡ slice_index_or past era []
  of-past low =
      entries-append era (past_from 0 past) (told_from bases w.shape.k (length past) lowered 0 w.log)
      ∙ ap (λ (ys : List Entry). entries_of_era era (past_from 0 past) ++ ys)
      (told-other bases w.shape.k (length past) era lowered 0 w.log (λ same. omega (arith, low, same)))
      ∙ append-nil (entries_of_era era (past_from 0 past)) ∙ past-own 0 era era past low (omega arith)

  pub of-current : era ≡ length past → entries_of_era era (eras_of w bases past lowered).log ≡ entries_from bases w.shape.k lowered 0 w.log
  of-current is =
      entries-append era (past_from 0 past) (told_from bases w.shape.k (length past) lowered 0 w.log)
      ∙ ap (λ (ys : List Entry). ys ++ entries_of_era era (told_from bases w.shape.k (length past) lowered 0 w.log)) (past-later 0 era past (omega (arith, is)))
      ∙ told-own bases w.shape.k (length past) era lowered 0 w.log (sym is)

-- entries from a place on are told as those behind that place
pub told-drop : (bases : Bases) (k : ℕ) (l : List Lowered) (p n : ℕ) (xs : List Entry)
    → entries_from bases k l (p + n) (drop n xs) ≡ drop n (entries_from bases k l p xs)
told-drop bases k l p zero xs = let same : p + 0 ≡ p = omega arith in ap (λ (q : ℕ). entries_from bases k l q xs) same
told-drop bases k l p (suc n) [] = refl
told-drop bases k l p (suc n) (x ∷ xs) = let same : p + suc n ≡ suc p + n = omega arith in
    ap (λ (q : ℕ). entries_from bases k l q (drop n xs)) same ∙ told-drop bases k l (suc p) n xs

pub index-part : {X Y : Type 0} (f : X → Y) (d : Y) (e : X) (xs : List X) (i : ℕ) → i < length xs → slice_index_or (map f xs) i d ≡ f (slice_index_or xs i e)
index-part f d e [] i low = absurd (omega (arith, low))
index-part f d e (x ∷ xs) zero low = refl
index-part f d e (x ∷ xs) (suc i) low = index-part f d e xs i (omega (arith, low))

pub long-part : {X Y : Type 0} (f : X → Y) (xs : List X) → length (map f xs) ≡ length xs
long-part f [] = refl
long-part f (x ∷ xs) = ap suc (long-part f xs)
