-- What stands behind the first of a list, where a collection took what was left.
use Rattle.std.proofs.Common.{◌≡◌, ◌++◌, ◌<◌, ℕ, List, [], ◌∷◌, length, drop, map, Option, Some, None, IsSome, Result, Ok, Err, IfOk, sym, ap, ◌∙◌, arith}
use Rattle.std.specs.Option.{option_to_list}

module _ {A B : Type 0} (f : A → B) where
  dropped : (first : Option A) (all rest : List A) → all ≡ option_to_list first ++ rest → (0 < length all → IsSome first) → drop 1 (map f all) ≡ map f rest
  dropped (Some x) all rest is some = ap (λ (ys : List A). drop 1 (map f ys)) is
  dropped None [] rest is some = ap (map f) is
  dropped None (x ∷ all) rest is some = cc (some (omega arith))

  pub behind_first : {V E : Type 0} (items : V → List A) (len : V → ℕ) (first : Option A) (all rest : List A)
      (r : Result V E) → all ≡ option_to_list first ++ rest
      → (0 < length all → IsSome first) → IfOk r (λ v. (items v ≡ rest) × (len v ≡ length rest)) → IfOk r (λ v. map f (items v) ≡ drop 1 (map f all))
  behind_first items len first all rest (Ok v) is some given = ap (map f) given.0 ∙ sym (dropped first all rest is some)
  behind_first items len first all rest (Err e) is some given = tt
