-- Places of lists, as the code and the machine read them.
use Rattle.std.proofs.Common.{◌≡◌, ℕ, zero, suc, ◌+◌, ◌<◌, Bool, ◌||◌, List, [], ◌∷◌, ◌++◌, length, get_or, slice_set}
use Rattle.std.proofs.Common.{take, All, refl, sym, ap, ◌∙◌, subst, arith}
use Rattle.std.proofs.Math.Seq.{take-suc}
use Rattle.std.proofs.lemmas.List.Elements.{All-push}
use Rattle.std.specs.List.{list_any}
use Rattle.std.specs.List.{list_any}
use Rattle.group_types.specs.Lists.{at, put}

module _ {X : Type 0} where
  pub at_read : (e d : X) (xs : List X) (i : ℕ) → i < length xs → get_or xs i d ≡ at e xs i
  at_read e d [] i lt = absurd (omega arith)
  at_read e d (x ∷ xs) zero lt = refl
  at_read e d (x ∷ xs) (suc i) lt = at_read e d xs i (omega arith)

  pub set_put : (e : X) (xs : List X) (i : ℕ) (y : X) → i < length xs → slice_set xs i y ≡ put e xs i y
  set_put e [] i y lt = absurd (omega arith)
  set_put e (x ∷ xs) zero y lt = refl
  set_put e (x ∷ xs) (suc i) y lt = ap (λ (l : List X). x ∷ l) (set_put e xs i y (omega arith))

  pub any_is : (test : X → Bool) (xs : List X) → list_any test xs ≡ list_any test xs
  any_is test [] = refl
  any_is test (x ∷ xs) = ap (λ b. test x || b) (any_is test xs)

  -- one element more of those that are done
  pub all_next : (P : X → Type 0) (xs : List X) (i : ℕ) (x : X) → i < length xs → x ≡ get_or xs i x → All P (take i xs) → P x → All P (take (i + 1) xs)
  all_next P xs i x lt is done here =
      let one : suc i ≡ i + 1 = omega arith in
      subst (λ (n : ℕ). All P (take n xs)) one
      (subst (All P) (sym (take-suc xs i x lt ∙ ap (λ (y : X). take i xs ++ y ∷ []) (sym is)))
      (All-push P (take i xs) x done here))
