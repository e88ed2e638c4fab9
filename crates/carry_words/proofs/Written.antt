-- Reading places that were written.
use Rattle.std.proofs.Common.{ℕ, zero, suc, ◌≡◌, ◌≢◌, ◌<◌, nat_lt, Bool, true, false, ◌&&◌, List, [], ◌∷◌, length}
use Rattle.std.proofs.Common.{Option, Some, None, refl, sym, ap, ◌∙◌, arith}
use Rattle.std.proofs.lemmas.Bool.{ltb-true}
use Rattle.std.specs.Option.{is_none}
use Rattle.std.specs.Prelude.{slice_set}
use Rattle.carry_words.specs.Carrying.{are_free, is_free_place, place_at}
use Rattle.carry_words.specs.declared.transfer.Transfer.{Transfer}

-- what is written where an item is stands there
pub at-written : (at : ℕ) (places : List (Option Transfer)) (t : Transfer) (place : Option Transfer)
    → place_at at places ≡ Some t → place_at at (slice_set places at place) ≡ place
at-written at [] t place is = absurd (cc is)
at-written zero (p ∷ ps) t place is = refl
at-written (suc at) (p ∷ ps) t place is = at-written at ps t place is

-- what is written twice stands as it was written last
pub at-rewritten : (at : ℕ) (places : List (Option Transfer)) (t : Transfer) (one two : Option Transfer)
    → place_at at places ≡ Some t → place_at at (slice_set (slice_set places at one) at two) ≡ two
at-rewritten at [] t one two is = absurd (cc is)
at-rewritten zero (p ∷ ps) t one two is = refl
at-rewritten (suc at) (p ∷ ps) t one two is = at-rewritten at ps t one two is

-- other places stay
pub at-other : (at other : ℕ) (places : List (Option Transfer)) (place : Option Transfer) → at ≢ other
    → place_at at (slice_set places other place) ≡ place_at at places
at-other at other [] place apart = refl
at-other zero zero (p ∷ ps) place apart = absurd (apart refl)
at-other zero (suc other) (p ∷ ps) place apart = refl
at-other (suc at) zero (p ∷ ps) place apart = refl
at-other (suc at) (suc other) (p ∷ ps) place apart = at-other at other ps place (λ same. apart (ap suc same))

-- where an item is not all places are free
pub not-free : (at : ℕ) (places : List (Option Transfer)) (t : Transfer) → place_at at places ≡ Some t → are_free places ≡ true → ⊥
not-free at [] t is free = absurd (cc is)
not-free zero (None ∷ ps) t is free = absurd (cc is)
not-free zero (Some u ∷ ps) t is free = absurd (cc free)
not-free (suc at) (None ∷ ps) t is free = not-free at ps t is free
not-free (suc at) (Some u ∷ ps) t is free = absurd (cc free)

pub both : (a b : Bool) → a && b ≡ true → b ≡ true
both true b is = is
both false b is = absurd (cc is)

none-of : (o : Option Transfer) (t : Transfer) → o ≡ Some t → is_none o ≡ true → ⊥
none-of None t is none = absurd (cc is)
none-of (Some u) t is none = absurd (cc none)

-- and it isn't free
pub taken-not-free : (at : ℕ) (places : List (Option Transfer)) (t : Transfer) → place_at at places ≡ Some t → is_free_place at places ≡ true → ⊥
taken-not-free at places t is free = none-of (place_at at places) t is (both _ (is_none (place_at at places)) free)

front : (a b : Bool) → a && b ≡ true → a ≡ true
front true b is = refl
front false b is = absurd (cc is)

-- a free place is among them
pub free-within : (at : ℕ) (places : List (Option Transfer)) → is_free_place at places ≡ true → at < length places
free-within at places free = ltb-true at (length places) (front (nat_lt at (length places)) (is_none (place_at at places)) free)
