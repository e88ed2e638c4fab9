-- Bytes that are equal have equal hashes, so a test of both says the same.
use Rattle.std.proofs.Common.{◌≡◌, ℕ, List, Bool, true, false, ◌&&◌, ◌==◌, refl, ap}
use Rattle.std.proofs.lemmas.Bool.{eq-eqb}
use Rattle.std.specs.Cmp.Lexicographic.{pointwise, bytes_decides}
use Rattle.std.specs.Prelude.{nat_eq}
use Rattle.group_types.specs.Hash.{fnv1a}

behind : (b c : Bool) → (c ≡ true → b ≡ true) → (b && c) ≡ c
behind true c implied = refl
behind false false implied = refl
behind false true implied = implied refl

pub by_hash : (x y : List ℕ) → ((fnv1a x == fnv1a y) && pointwise nat_eq x y) ≡ pointwise nat_eq x y
by_hash x y = behind (fnv1a x == fnv1a y) (pointwise nat_eq x y) (λ same. eq-eqb (fnv1a x) (fnv1a y) (ap fnv1a ((bytes_decides x y).0 same)))
