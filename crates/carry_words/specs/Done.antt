-- Where all is done, each item that was listed was read, set and read back equal, or has ended.
use Rattle.std.specs.Prelude.{ℕ, ◌≡◌, ◌≢◌, ◌⊎◌, true, Bool, List, [], ◌∷◌, ◌++◌, ⊤}
use Rattle.group_types.specs.Each.{Each}
use Rattle.carry_words.specs.Carrying.{Carrying, heard_at, is_done, listed_at, listed_out}
use Rattle.carry_words.specs.Courses.{has_ended}
use Rattle.carry_words.specs.declared.heard.Heard.{Heard}
use Rattle.carry_words.specs.declared.heard.Heard.TheVariants as heard
use Rattle.carry_words.specs.declared.listed.Listed.{Listed}

-- what comes: an item is listed at a place, a list ends, or something is heard of the item at a place, at a moment
pub data Event : Type 0 where
  Lists : ℕ → Listed → Event
  Ends : Event
  Hears : ℕ → ℕ → Heard → Event

abbrev pub step : Carrying → Event → Carrying
step c (Lists at item) = listed_at at item c
step c Ends = listed_out c
step c (Hears now at h) = heard_at now at h c

abbrev pub after : Carrying → List Event → Carrying
after c [] = c
after c (e ∷ es) = after (step c e) es

-- another item is listed at this place
abbrev pub LeavesPlace : ℕ → Event → Type 0
LeavesPlace at e = (item : Listed) → e ≢ Lists at item

-- before another item has the place this is heard of it, and then the rest holds of what follows
pub record Then (at : ℕ) (h : Heard) (Rest : ℕ → List Event → Type 0) (es : List Event) : Type 0 where
  pub before : List Event
  pub later : List Event
  pub now : ℕ
  pub is : es ≡ before ++ Hears now at h ∷ later
  pub own : Each (LeavesPlace at) before
  pub rest : Rest now later

abbrev pub Nothing : ℕ → List Event → Type 0
Nothing now es = ⊤

-- the item has a value that was read, set, and read back
pub record IsCarried (at : ℕ) (es : List Event) : Type 0 where
  pub value : List ℕ
  pub read : Then at (heard.Found value) (λ _. Then at heard.Stored (λ _. Then at (heard.Found value) Nothing)) es

-- it wasn't there at a moment by which it had ended
abbrev pub IsGone : ℕ → Listed → List Event → Type 0
IsGone at item es = Then at heard.Missing (λ now _. has_ended now item.until ≡ true) es

abbrev pub DoneMeansCarried : Type 0
DoneMeansCarried = (c : Carrying) (before later : List Event) (at : ℕ) (item : Listed) → is_done (after c (before ++ Lists at item ∷ later)) ≡ true
    → IsCarried at later ⊎ IsGone at item later
