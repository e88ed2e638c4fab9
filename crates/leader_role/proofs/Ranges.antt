-- What is made of those that are found in a range, one by one.
use Rattle.std.proofs.Common.{ℕ, suc, ◌≡◌, ◌+◌, ◌-◌, ◌<◌, ◌≤◌, Bool, true, false, List, [], ◌∷◌, ◌++◌, length, filter}
use Rattle.std.proofs.Common.{map, take, slice_index_or, cond, sym, ap, ◌∙◌, arith}
use Rattle.std.proofs.lemmas.List.{append_assoc, length-take, take-append-le}
use Rattle.std.specs.List.{range_with_len}
use Rattle.group_types.specs.Lists.{at}
use Rattle.group_types.proofs.Lists.{at-map, at_index}

-- those from a number on that pass a test
abbrev pub found_from : (ℕ → Bool) → ℕ → ℕ → List ℕ
found_from f n i = filter f (range_with_len i (n - i))

module _ (f : ℕ → Bool) (n i : ℕ) (within : i < n) where
  front : range_with_len i (n - i) ≡ i ∷ range_with_len (i + 1) (n - (i + 1))
  front = let e : n - i ≡ suc (n - (i + 1)) = omega (arith, within) in ap (range_with_len i) e

  found-if : (b : Bool) → f i ≡ b → found_from f n i ≡ cond b (i ∷ found_from f n (i + 1)) (found_from f n (i + 1))
  found-if b is = ap (filter f) front ∙ ap (λ (x : Bool). cond x (i ∷ found_from f n (i + 1)) (found_from f n (i + 1))) is

  -- the next doesn't pass
  pub skipped : {X : Type 0} (made : List ℕ → List X) (done all : List X) → f i ≡ false → done ++ made (found_from f n i) ≡ all
      → done ++ made (found_from f n (i + 1)) ≡ all
  skipped made done all fails is = ap (λ (is : List ℕ). done ++ made is) (sym (found-if false fails)) ∙ is

  -- the next passes, and what is made of it is added
  pub added : {X : Type 0} (made : List ℕ → List X) (done now one all : List X) → f i ≡ true → now ≡ done ++ one
      → made (i ∷ found_from f n (i + 1)) ≡ one ++ made (found_from f n (i + 1)) → done ++ made (found_from f n i) ≡ all
      → now ++ made (found_from f n (i + 1)) ≡ all
  added made done now one all passes grown first is =
      ap (λ (xs : List _). xs ++ made (found_from f n (i + 1))) grown
      ∙ append_assoc done one (made (found_from f n (i + 1)))
      ∙ ap (λ (xs : List _). done ++ xs) (sym first)
      ∙ ap (λ (is : List ℕ). done ++ made is) (sym (found-if true passes))
      ∙ is

-- behind the end there are none
pub none-left : (f : ℕ → Bool) (n i : ℕ) → n ≤ i → found_from f n i ≡ []
none-left f n i behind = let e : n - i ≡ 0 = omega (arith, behind) in ap (λ (m : ℕ). filter f (range_with_len i m)) e

-- what stood in front stays there
pub front-kept : {X : Type 0} (front xs now : List X) (x : X) → now ≡ xs ++ x ∷ [] → take (length front) xs ≡ front → take (length front) now ≡ front
front-kept front xs now x is kept =
    let long : length front ≤ length xs = omega (arith, ap length kept, length-take (length front) xs) in
    ap (take (length front)) is ∙ take-append-le (length front) xs (x ∷ []) long ∙ kept

-- the part of an entry of a list
pub part-at : {X Y : Type 0} (f : X → Y) (e : Y) (xs : List X) (i : ℕ) (x : X) → i < length xs → at e (map f xs) i ≡ f (slice_index_or xs i x)
part-at f e xs i x within = at-map x e f xs i within ∙ ap f (at_index x x xs i within)
