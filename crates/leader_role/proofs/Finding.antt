-- What is found of those of which something holds.
use Rattle.std.proofs.Common.{◌≡◌, Bool, true, false, List, [], ◌∷◌, Some, None, find, cond, All, refl, subst}
use Rattle.std.proofs.lemmas.List.Elements.{All-head, All-tail}

-- what holds of all holds of the one that is found
pub found-all : {X : Type 0} (P : X → Type 0) (test : X → Bool) (xs : List X) (x : X) → find test xs ≡ Some x → All P xs → P x
found-all P test [] x found all = absurd (cc found)
found-all P test (y ∷ ys) x found all = by (test y) found (λ there. found-all P test ys x there (All-tail P y ys all)) where
  by : (b : Bool) → cond b (Some y) (find test ys) ≡ Some x → (find test ys ≡ Some x → P x) → P x
  by true here later = let same : y ≡ x = cc here in subst P same (All-head P y ys all)
  by false there later = later there

-- where none of which it holds passes, none is found
pub none-found : {X : Type 0} (P : X → Type 0) (test : X → Bool) (xs : List X) → ((x : X) → P x → test x ≡ true → ⊥) → All P xs → find test xs ≡ None
none-found P test [] fails all = refl
none-found P test (y ∷ ys) fails all = by (test y) (fails y (All-head P y ys all)) (none-found P test ys fails (All-tail P y ys all)) where
  by : (b : Bool) → (b ≡ true → ⊥) → find test ys ≡ None → cond b (Some y) (find test ys) ≡ None
  by true never rest = absurd (never refl)
  by false never rest = rest
