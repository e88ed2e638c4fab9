-- A list around one of its elements, and edits there.
use Rattle.std.proofs.Common.{◌≡◌, ℕ, suc, ◌+◌, ◌-◌, ◌<◌, List, [], ◌∷◌, ◌++◌, length, take, drop, set, get_or, refl, sym, ap, ◌∙◌, add-one, arith}
use Rattle.std.specs.List.{All, insert, remove}
use Rattle.std.proofs.lemmas.List.Elements.{All-nil, All-cons, All-head, All-tail}
use Rattle.std.proofs.Math.Seq.{drop-cons}
use Rattle.std.proofs.lemmas.List.{take-append-drop}

pub around : {X : Type 0} (xs : List X) (i : ℕ) (d : X) → i < length xs → xs ≡ take i xs ++ get_or xs i d ∷ drop (suc i) xs
around {X} xs i d lt = sym (take-append-drop i xs) ∙ ap (λ (l : List X). take i xs ++ l) (drop-cons xs i d lt)

module _ {X : Type 0} where
  pub get-around : (xs ys : List X) (x d : X) → get_or (xs ++ x ∷ ys) (length xs) d ≡ x
  get-around [] ys x d = refl
  get-around (y ∷ xs) ys x d = get-around xs ys x d

  pub get-behind : (xs ys : List X) (x d : X) → get_or (xs ++ x ∷ ys) (suc (length xs)) d ≡ get_or ys 0 d
  get-behind [] ys x d = refl
  get-behind (y ∷ xs) ys x d = get-behind xs ys x d

  pub set-around : (xs ys : List X) (x z : X) → set (xs ++ x ∷ ys) (length xs) z ≡ xs ++ z ∷ ys
  set-around [] ys x z = refl
  set-around (y ∷ xs) ys x z = ap (λ (l : List X). y ∷ l) (set-around xs ys x z)

  pub insert-around : (xs ys : List X) (z : X) → insert (xs ++ ys) (length xs) z ≡ xs ++ z ∷ ys
  insert-around [] [] z = refl
  insert-around [] (y ∷ ys) z = refl
  insert-around (y ∷ xs) ys z = ap (λ (l : List X). y ∷ l) (insert-around xs ys z)

  pub insert-behind : (xs ys : List X) (x z : X) → insert (xs ++ x ∷ ys) (suc (length xs)) z ≡ xs ++ x ∷ z ∷ ys
  insert-behind [] [] x z = refl
  insert-behind [] (y ∷ ys) x z = refl
  insert-behind (y ∷ xs) ys x z = ap (λ (l : List X). y ∷ l) (insert-behind xs ys x z)

  pub remove-around : (xs ys : List X) (x : X) → remove (xs ++ x ∷ ys) (length xs) ≡ xs ++ ys
  remove-around [] [] x = refl
  remove-around [] (y ∷ ys) x = refl
  remove-around (y ∷ xs) ys x = ap (λ (l : List X). y ∷ l) (remove-around xs ys x)

  pub remove-behind : (xs ys : List X) (x y : X) → remove (xs ++ x ∷ y ∷ ys) (suc (length xs)) ≡ xs ++ x ∷ ys
  remove-behind [] [] x y = refl
  remove-behind [] (z ∷ ys) x y = refl
  remove-behind (z ∷ xs) ys x y = ap (λ (l : List X). z ∷ l) (remove-behind xs ys x y)

  pub length-around : (xs ys : List X) (x : X) → length xs < length (xs ++ x ∷ ys)
  length-around [] ys x = omega arith
  length-around (y ∷ xs) ys x = omega (arith, length-around xs ys x)

  pub All-front : (P : X → Type 0) (xs ys : List X) → All P (xs ++ ys) → All P xs
  All-front P [] ys all = All-nil P
  All-front P (x ∷ xs) ys all = All-cons P x xs (All-head P x (xs ++ ys) all) (All-front P xs ys (All-tail P x (xs ++ ys) all))

  pub All-behind : (P : X → Type 0) (xs ys : List X) → All P (xs ++ ys) → All P ys
  All-behind P [] ys all = all
  All-behind P (x ∷ xs) ys all = All-behind P xs ys (All-tail P x (xs ++ ys) all)

  -- a list that begins with what stands at its first place
  pub begins : (xs : List X) (x : X) → 0 < length xs → x ≡ get_or xs 0 x → (rest : List X) × (xs ≡ x ∷ rest)
  begins [] x some is = absurd (omega arith)
  begins (y ∷ xs) x some is = (xs, ap (λ (z : X). z ∷ xs) (sym is))

  pub set_at : (xs front back : List X) (x z : X) (place : ℕ) → xs ≡ front ++ x ∷ back → length front ≡ place → set xs place z ≡ front ++ z ∷ back
  set_at xs front back x z place parts at = rw (parts, ← at) (set-around front back x z)

  pub remove_next : (xs front back : List X) (x y : X) (place : ℕ) → xs ≡ front ++ x ∷ y ∷ back → length front ≡ place
      → remove xs (place + 1) ≡ front ++ x ∷ back
  remove_next xs front back x y place parts at = rw (add-one, parts, ← at) (remove-behind front back x y)

  -- a list that ends with what stands at its last place
  pub ends : (xs : List X) (x : X) → 0 < length xs → x ≡ get_or xs (length xs - 1) x → (front : List X) × (xs ≡ front ++ x ∷ [])
  ends [] x some is = absurd (omega arith)
  ends (y ∷ []) x some is = ([], ap (λ (z : X). z ∷ []) (sym is))
  ends (y ∷ z ∷ xs) x some is =
      let same : suc (length xs) ≡ suc (length (z ∷ xs)) - 1 = omega arith in
      let rest = ends (z ∷ xs) x (omega arith) (is ∙ ap (λ (k : ℕ). get_or (y ∷ z ∷ xs) k x) (sym same)
      ∙ ap (λ (k : ℕ). get_or (z ∷ xs) k x) (last_place (length xs))) in
      (y ∷ rest.0, ap (λ (l : List X). y ∷ l) rest.1)
    where
      last_place : (n : ℕ) → n ≡ suc n - 1
      last_place n = omega arith
