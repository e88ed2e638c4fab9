-- Keys that are the same.
use Rattle.std.proofs.Common.{◌≡◌, ℕ, true, List, refl, ◌∙◌}
use Rattle.std.proofs.lemmas.Map.Text.{is_eq-slice_cmp}
use Rattle.std.proofs.lemmas.Slice.Eq.{bytes_eq-Decides}
use Rattle.std.specs.Cmp.{Equal-is}
use Rattle.std.specs.Cmp.Lexicographic.{slice_cmp}
use Rattle.std.specs.FinMap as map
use Rattle.std.specs.Ordering.{nat_cmp}
use Rattle.group_types.specs.Lists.{same_key}

tied : map.IsAntisymmetric (slice_cmp nat_cmp)
tied = map.slice_cmp-IsAntisymmetric map.nat_cmp-IsAntisymmetric

pub key_is : (a b : List ℕ) → same_key a b ≡ true → a ≡ b
key_is a b same = tied a b ((Equal-is (slice_cmp nat_cmp a b)).0 same)

pub same_key-refl : (key : List ℕ) → same_key key key ≡ true
same_key-refl key = is_eq-slice_cmp key key ∙ (bytes_eq-Decides key key).1 refl
