-- The places that a transcript tells, and the runs that are found among them.
use Rattle.std.specs.Prelude.{ℕ, ◌≡◌, ◌≢◌, ◌<◌, ◌+◌, ◌*◌, ◌^◌, ◌⊎◌, List, [], ◌∷◌, Option, Some, None}
use Rattle.group_types.specs.Dimensions.{Dimensions}
use Rattle.group_types.specs.declared.run.Run.{Run}
use Rattle.transcript_text.specs.Texts.{FitsPlace, text_of_place}
use Rattle.transcript_text.specs.declared.place.Place.{Place}
use Rattle.run_verify.specs.Passing.{RunFitsValue}

-- the places are those of the lines that tell one, in order
abbrev pub ArePlacesOf : List (List ℕ) → List Place → Type 0
ArePlacesOf [] places = places ≡ []
ArePlacesOf (line ∷ lines) places =
    ((place : Place) × (more : List Place) × (places ≡ place ∷ more) × FitsPlace place × (text_of_place place ≡ line) × ArePlacesOf lines more)
    ⊎ (((place : Place) → FitsPlace place → text_of_place place ≢ line) × ArePlacesOf lines places)

-- a place names an update, and can be the run of its value
pub record Names (s : Dimensions) (d number len : ℕ) (place : Place) : Type 0 where
  pub partition : place.partition ≡ d
  pub number_is : place.number ≡ number
  pub fits : RunFitsValue s len place.run

-- the run of the first that does
abbrev pub IsRunAmong : List Place → Dimensions → ℕ → ℕ → ℕ → Option Run → Type 0
IsRunAmong [] s d number len found = found ≡ None
IsRunAmong (place ∷ places) s d number len found =
    (Names s d number len place × (found ≡ Some place.run)) ⊎ ((¬ (Names s d number len place)) × IsRunAmong places s d number len found)

-- a number by which places are in the order of their partitions, and then of their own numbers
abbrev pub rank_of : ℕ → ℕ → ℕ
rank_of d number = d * 2 ^ 64 + number

-- each place is behind the one before
abbrev pub Rise : List Place → Type 0
Rise [] = Unit {0}
Rise (place ∷ []) = Unit {0}
Rise (place ∷ next ∷ places) = (rank_of place.partition place.number < rank_of next.partition next.number) × Rise (next ∷ places)
