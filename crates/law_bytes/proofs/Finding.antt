-- What is found in lists whose members are turned, filtered or exchanged.
use Rattle.std.proofs.Common.{◌≡◌, ◌&&◌, Bool, true, false, List, [], ◌∷◌, ◌++◌, map, filter, find, cond, Option, Some}
use Rattle.std.proofs.Common.{None, option_map, ◌⊎◌, inl, inr, refl, sym, ap, ap₂, subst, ◌∙◌, if◌then◌else◌}

pub and-split : (a b : Bool) → (a && b) ≡ true → (a ≡ true) × (b ≡ true)
and-split true true both = (refl, refl)
and-split true false both = absurd (cc both)
and-split false b both = absurd (cc both)

pub and-join : (a b : Bool) → a ≡ true → b ≡ true → (a && b) ≡ true
and-join a b left right = ap₂ (λ (x y : Bool). x && y) left right

pub true-false : (b : Bool) → ¬ (b ≡ true) → b ≡ false
true-false true other = absurd (other refl)
true-false false other = refl

module _ {X : Type 0} (test : X → Bool) where
  pub found-map : (f : X → X) (xs : List X) → ((x : X) → test (f x) ≡ test x) → find test (map f xs) ≡ option_map f (find test xs)
  found-map f [] same = refl
  found-map f (x ∷ xs) same = by (test x) (test (f x)) (same x) (found-map f xs same) where
    by : (b c : Bool) → c ≡ b → find test (map f xs) ≡ option_map f (find test xs)
        → cond c (Some (f x)) (find test (map f xs)) ≡ option_map f (cond b (Some x) (find test xs))
    by true true is rest = refl
    by false false is rest = rest
    by true false is rest = absurd (cc is)
    by false true is rest = absurd (cc is)

  -- all that pass are kept, or none
  pub found-filter : (keep : X → Bool) (b : Bool) (xs : List X) → ((x : X) → test x ≡ true → keep x ≡ b)
      → find test (filter keep xs) ≡ (if b then find test xs else None)
  found-filter keep true [] all = refl
  found-filter keep false [] all = refl
  found-filter keep b (x ∷ xs) all = by (test x) (keep x) refl refl (found-filter keep b xs all) where
    both : (c k : Bool) → test x ≡ c → c ≡ true → keep x ≡ k → k ≡ b
    both c k is passes kept = sym kept ∙ all x (is ∙ passes)

    kept : (k : Bool) → keep x ≡ k → test x ≡ true → k ≡ b
    kept k is passes = sym is ∙ all x passes

    by : (c k : Bool) → test x ≡ c → keep x ≡ k → find test (filter keep xs) ≡ (if b then find test xs else None)
        → find test (cond k (x ∷ filter keep xs) (filter keep xs)) ≡ (if b then cond c (Some x) (find test xs) else None)
    by true true is k rest =
        let b_is : true ≡ b = kept true k is in
        ap (λ (c : Bool). cond c (Some x) (find test (filter keep xs))) is ∙ ap (λ (c : Bool). if c then Some x else None) b_is
    by true false is k rest =
        let b_is : false ≡ b = kept false k is in
        rest ∙ sym (ap (λ (c : Bool). if c then find test xs else None) b_is) ∙ ap (λ (c : Bool). if c then Some x else None) b_is
    by false true is k rest = ap (λ (c : Bool). cond c (Some x) (find test (filter keep xs))) is ∙ rest
    by false false is k rest = rest

  -- members that don't pass are exchanged for one that doesn't
  pub found-apart : (swap : X → Bool) (y : X) (xs : List X) → test y ≡ false
      → ((x : X) → swap x ≡ true → test x ≡ false) → find test (map (λ x. if swap x then y else x) xs) ≡ find test xs
  found-apart swap y [] out apart = refl
  found-apart swap y (x ∷ xs) out apart = by (swap x) refl (found-apart swap y xs out apart) where
    by : (b : Bool) → swap x ≡ b → find test (map (λ z. if swap z then y else z) xs) ≡ find test xs
        → cond (test (if b then y else x)) (Some (if b then y else x))
        (find test (map (λ z. if swap z then y else z) xs)) ≡ cond (test x) (Some x) (find test xs)
    by true is rest =
        ap (λ (c : Bool). cond c (Some y) (find test (map (λ z. if swap z then y else z) xs))) out ∙ rest
        ∙ sym (ap (λ (c : Bool). cond c (Some x) (find test xs)) (apart x is))
    by false is rest = ap (cond (test x) (Some x)) rest

  -- those that pass are exchanged for one that does
  pub found-exchanged : (y c : X) (xs : List X) → test y ≡ true → find test xs ≡ Some c → find test (map (λ x. if test x then y else x) xs) ≡ Some y
  found-exchanged y c [] passes is = absurd (cc is)
  found-exchanged y c (x ∷ xs) passes is = by (test x) refl is (λ there. found-exchanged y c xs passes there) where
    by : (b : Bool) → test x ≡ b → cond b (Some x) (find test xs) ≡ Some c
        → (find test xs ≡ Some c → find test (map (λ z. if test z then y else z) xs) ≡ Some y)
        → cond (test (if b then y else x)) (Some (if b then y else x)) (find test (map (λ z. if test z then y else z) xs)) ≡ Some y
    by true t here later = ap (λ (k : Bool). cond k (Some y) (find test (map (λ z. if test z then y else z) xs))) passes
    by false t there later = ap (λ (k : Bool). cond k (Some x) (find test (map (λ z. if test z then y else z) xs))) t ∙ later there

  -- one more stands behind
  pub found-behind : (xs : List X) (y : X) → (find test (xs ++ y ∷ []) ≡ find test xs) ⊎ ((find test xs ≡ None) × (find test (xs ++ y ∷ []) ≡ Some y))
  found-behind [] y = by (test y) where
    by : (b : Bool) → (cond b (Some y) None ≡ None) ⊎ ((◌≡◌ {A = Option X} None None) × (cond b (Some y) None ≡ Some y))
    by true = inr (refl, refl)
    by false = inl refl
  found-behind (x ∷ xs) y = by (test x) (found-behind xs y) where
    by : (b : Bool) → (find test (xs ++ y ∷ []) ≡ find test xs) ⊎ ((find test xs ≡ None) × (find test (xs ++ y ∷ []) ≡ Some y))
        → (cond b (Some x) (find test (xs ++ y ∷ [])) ≡ cond b (Some x) (find test xs))
        ⊎ ((cond b (Some x) (find test xs) ≡ None) × (cond b (Some x) (find test (xs ++ y ∷ [])) ≡ Some y))
    by true rest = inl refl
    by false rest = rest

  pub found-passes : (xs : List X) (c : X) → find test xs ≡ Some c → test c ≡ true
  found-passes [] c is = absurd (cc is)
  found-passes (x ∷ xs) c is = by (test x) refl is (λ there. found-passes xs c there) where
    by : (b : Bool) → test x ≡ b → cond b (Some x) (find test xs) ≡ Some c → (find test xs ≡ Some c → test c ≡ true) → test c ≡ true
    by true t here later = let same : x ≡ c = cc here in subst (λ (z : X). test z ≡ true) same t
    by false t there later = later there
