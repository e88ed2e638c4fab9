-- Differences that are added to lists of bytes, address by address.
use Rattle.std.proofs.Common.{◌≡◌, ℕ, ◌+◌, ◌-◌, ◌<◌, ◌≤◌, nat_le, Bool, true, false, List, [], ◌∷◌, ◌++◌, length, take}
use Rattle.std.proofs.Common.{drop, get_or, replicate, bit_xor, ◌⊎◌, inl, inr, sym, ap, ap₂, ◌∙◌, refl, arith}
use Rattle.std.proofs.Common.{if◌then◌else◌}
use Rattle.std.specs.Int.Bits.{xor_zero_r}
use Rattle.std.proofs.lemmas.Bool.{cases_lt}
use Rattle.std.proofs.lemmas.Grind.{common_steps}
use Rattle.std.proofs.lemmas.List.{append-nil, length-replicate, length-take, get_or-take, get_or-drop, get_or_append_left, get_or-append-add, take-append-drop}
use Rattle.field_byte.specs.Vectors.{add_bytes}
use Rattle.erasure_code.specs.Spaces.{added_at}
use Rattle.erasure_code.proofs.Lists.{get_or-zeros}
use Rattle.erasure_code.proofs.Sums.{byte_added, length-added}
use Rattle.group_run.specs.Applying.{area_added}
use Rattle.law_bytes.specs.Areas.{shifted}

-- before its place a difference adds nothing
pub shifted-before : (at : ℕ) (delta : List ℕ) (x : ℕ) → x < at → shifted at delta x ≡ 0
shifted-before at delta x early = get_or_append_left (replicate at 0) delta 0 x (omega (arith, length-replicate {A = ℕ} at 0, early)) ∙ get_or-zeros at x

-- from there on it adds its bytes
pub shifted-from : (at : ℕ) (delta : List ℕ) (i : ℕ) → shifted at delta (at + i) ≡ get_or delta i 0
shifted-from at delta i = ap (λ k. get_or (replicate at 0 ++ delta) (k + i) 0) (sym (length-replicate {A = ℕ} at 0))
    ∙ get_or-append-add (replicate at 0) delta i 0

-- a difference that lies in the list, or is empty, leaves its length
pub added-long : (at : ℕ) (delta space : List ℕ) → at + length delta ≤ length space → length (added_at at delta space) ≡ length space
added-long at delta space within = length-added at delta space within

-- nothing is added
added-none : (at : ℕ) (delta space : List ℕ) → length delta ≡ 0 → added_at at delta space ≡ space
unfolding add_bytes
added-none at [] space none = ap₂ (λ (a b : List ℕ). a ++ b) (append-nil (take at space)) (ap (λ (n : ℕ). drop n space) at_is) ∙ take-append-drop at space where
  at_is : at + 0 ≡ at
  at_is = omega arith
added-none at (x ∷ xs) space none = absurd (omega (arith, none))

-- what of a difference meets an area is added to it
module _ (from at : ℕ) (delta area : List ℕ) where
  early : List ℕ
  early = take (length area) (drop (from - at) delta)

  late : List ℕ
  late = take (length area - (at - from)) delta

  early_within : 0 + length early ≤ length area
  unfolding early
  early_within = omega (arith, length-take (length area) (drop (from - at) delta))

  pub area_long : length (area_added from at delta area) ≡ length area
  unfolding early late
  area_long = by (nat_le at from) where
    by : (b : Bool)
        → length (if b then added_at 0 (take (length area) (drop (from - at) delta)) area else added_at (at - from)
        (take (length area - (at - from)) delta) area) ≡ length area
    by true = length-added 0 (take (length area) (drop (from - at) delta)) area early_within
    by false = fits (cases_lt (length area) (at - from)) where
      fits : (length area < at - from) ⊎ (at - from ≤ length area) → length (added_at (at - from) (take (length area - (at - from)) delta) area) ≡ length area
      fits (inl behind) =
          ap length (added-none (at - from) (take (length area - (at - from)) delta) area
          (omega (arith, length-take (length area - (at - from)) delta, behind)))
      fits (inr reach) = length-added (at - from) (take (length area - (at - from)) delta) area
          (omega (arith, length-take (length area - (at - from)) delta, reach))

  pub area_byte : (x : ℕ) → x < length area → get_or (area_added from at delta area) x 0 ≡ bit_xor (get_or area x 0) (shifted at delta (from + x))
  unfolding early late
  area_byte x below = by (nat_le at from) refl where
    by : (b : Bool) → nat_le at from ≡ b
        → get_or
        (if b then added_at 0 (take (length area) (drop (from - at) delta)) area else added_at (at - from)
        (take (length area - (at - from)) delta) area) x 0 ≡ bit_xor
        (get_or area x 0) (shifted at delta (from + x))
    by true test =
        let order : at ≤ from = grind (arith, common_steps) in
        let place : at + (from - at + x) ≡ from + x = omega (arith, order) in
        byte_added 0 (take (length area) (drop (from - at) delta)) area early_within x
        ∙ ap (bit_xor (get_or area x 0))
        (get_or-take (length area) (drop (from - at) delta) x 0 below ∙ get_or-drop (from - at) delta x 0
        ∙ sym (shifted-from at delta (from - at + x)) ∙ ap (shifted at delta) place)
    by false test = fits (cases_lt x (at - from)) (cases_lt (length area) (at - from)) where
      order : from < at
      order = grind (arith, common_steps)

      part : List ℕ
      part = take (length area - (at - from)) delta

      fits : (x < at - from) ⊎ (at - from ≤ x) → (length area < at - from) ⊎ (at - from ≤ length area)
          → get_or (added_at (at - from) part area) x 0 ≡ bit_xor (get_or area x 0) (shifted at delta (from + x))
      fits first (inl behind) =
          ap (λ (l : List ℕ). get_or l x 0) (added-none (at - from) part area (omega (arith, length-take (length area - (at - from)) delta, behind)))
          ∙ sym (ap (bit_xor (get_or area x 0)) (shifted-before at delta (from + x) (omega (arith, below, behind, order))) ∙ xor_zero_r (get_or area x 0))
      fits (inl before) (inr reach) =
          byte_added (at - from) part area (omega (arith, length-take (length area - (at - from)) delta, reach)) x
          ∙ ap (bit_xor (get_or area x 0)) (shifted-before (at - from) part x before ∙ sym (shifted-before at delta (from + x) (omega (arith, before, order))))
      fits (inr after) (inr reach) =
          let place : at - from + (x - (at - from)) ≡ x = omega (arith, after) in
          let there : at + (x - (at - from)) ≡ from + x = omega (arith, after, order) in
          byte_added (at - from) part area (omega (arith, length-take (length area - (at - from)) delta, reach)) x
          ∙ ap (bit_xor (get_or area x 0)) (ap (shifted (at - from) part) (sym place) ∙ shifted-from (at - from) part (x - (at - from))
          ∙ get_or-take (length area - (at - from)) delta (x - (at - from)) 0 (omega (arith, after, below))
          ∙ sym (shifted-from at delta (x - (at - from))) ∙ ap (shifted at delta) there)
