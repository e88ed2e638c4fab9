-- A space to which differences were added is their sum.
use Rattle.std.proofs.Common.{◌≡◌, ℕ, ◌+◌, ◌-◌, ◌<◌, ◌≤◌, List, [], ◌∷◌, ◌++◌, All, length, take, drop, get_or}
use Rattle.std.proofs.Common.{replicate, bit_xor, inl, inr, sym, ap, ap₂, ◌∙◌, refl, arith}
use Rattle.std.specs.Int.Bits.{xor_assoc, xor_zero_l, xor_zero_r}
use Rattle.std.proofs.lemmas.Bool.{cases_lt}
use Rattle.std.proofs.lemmas.List.{length-append, length-replicate, length-take, length-drop, get_or-take, get_or-drop}
use Rattle.std.proofs.lemmas.List.{get_or_append_left, get_or-append-add, get_or_past}
use Rattle.std.proofs.lemmas.List.Elements.{All-head, All-tail}
use Rattle.field_byte.specs.Vectors.{add_bytes}
use Rattle.field_byte.proofs.Vectors.{get_or-add_bytes, length-add_bytes}
use Rattle.erasure_code.specs.Spaces.{Difference, SpacesAreSums, added_at, all_added, sum_at}
use Rattle.erasure_code.proofs.Lists.{get_or-zeros}

module _ (at : ℕ) (bytes space : List ℕ) (within : at + length bytes ≤ length space) where
  front : List ℕ
  front = take at space

  part : List ℕ
  part = take (length bytes) (drop at space)

  part_long : length part ≡ length bytes
  unfolding part
  part_long = omega (arith, length-take (length bytes) (drop at space), length-drop at space)

  sum : List ℕ
  sum = add_bytes part bytes

  sum_long : length sum ≡ length bytes
  unfolding sum
  sum_long = length-add_bytes part bytes part_long ∙ part_long

  front_long : length front ≡ at
  unfolding front
  front_long = omega (arith, length-take at space)

  back : List ℕ
  back = drop (at + length bytes) space

  both_long : length (front ++ sum) ≡ at + length bytes
  both_long = length-append front sum ∙ ap₂ (λ x y. x + y) front_long sum_long

  added_is : added_at at bytes space ≡ (front ++ sum) ++ back
  unfolding front part sum back
  added_is = refl

  pub length-added : length (added_at at bytes space) ≡ length space
  unfolding back
  length-added = ap length added_is ∙ omega (arith, length-append (front ++ sum) back, both_long, length-drop (at + length bytes) space)

  before : (a : ℕ) → a < at → get_or ((front ++ sum) ++ back) a 0 ≡ get_or space a 0
  unfolding front
  before a early =
      get_or_append_left (front ++ sum) back 0 a (omega (arith, both_long, early))
      ∙ (get_or_append_left front sum 0 a (omega (arith, front_long, early)) ∙ get_or-take at space a 0 early)

  inside : (i : ℕ) → i < length bytes → get_or ((front ++ sum) ++ back) (at + i) 0 ≡ bit_xor (get_or space (at + i) 0) (get_or bytes i 0)
  unfolding part sum
  inside i below =
      get_or_append_left (front ++ sum) back 0 (at + i) (omega (arith, both_long, below))
      ∙ (ap (λ k. get_or (front ++ sum) (k + i) 0) (sym front_long)
      ∙ (get_or-append-add front sum i 0
      ∙ (get_or-add_bytes part bytes i part_long
      ∙ ap (λ x. bit_xor x (get_or bytes i 0)) (get_or-take (length bytes) (drop at space) i 0 below ∙ get_or-drop at space i 0))))

  behind : (j : ℕ) → get_or ((front ++ sum) ++ back) (at + length bytes + j) 0 ≡ get_or space (at + length bytes + j) 0
  unfolding back
  behind j =
      ap (λ k. get_or ((front ++ sum) ++ back) (k + j) 0) (sym both_long)
      ∙ (get_or-append-add (front ++ sum) back j 0 ∙ get_or-drop (at + length bytes) space j 0)

  own : (i : ℕ) → get_or (replicate at 0 ++ bytes) (at + i) 0 ≡ get_or bytes i 0
  own i = ap (λ k. get_or (replicate at 0 ++ bytes) (k + i) 0) (sym (length-replicate at 0)) ∙ get_or-append-add (replicate at 0) bytes i 0

  pub byte_added : (a : ℕ) → get_or (added_at at bytes space) a 0 ≡ bit_xor (get_or space a 0) (get_or (replicate at 0 ++ bytes) a 0)
  byte_added a = ap (λ (l : List ℕ). get_or l a 0) added_is ∙ elim (cases_lt a at) [
    | inl early ↦ before a early
        ∙ sym (ap (bit_xor (get_or space a 0))
        (get_or_append_left (replicate at 0) bytes 0 a (omega (arith, length-replicate {A = ℕ} at 0, early))
        ∙ get_or-zeros at a) ∙ xor_zero_r (get_or space a 0))
    | inr from ↦ elim (cases_lt a (at + length bytes)) [
      | inl to ↦
          let place : at + (a - at) ≡ a = omega (arith, from) in
          ap (λ k. get_or ((front ++ sum) ++ back) k 0) (sym place)
          ∙ (inside (a - at) (omega (arith, from, to))
          ∙ (ap (bit_xor (get_or space (at + (a - at)) 0)) (sym (own (a - at)))
          ∙ ap (λ k. bit_xor (get_or space k 0) (get_or (replicate at 0 ++ bytes) k 0)) place))
      | inr past ↦
          let place : at + length bytes + (a - (at + length bytes)) ≡ a = omega (arith, past) in
          ap (λ k. get_or ((front ++ sum) ++ back) k 0) (sym place)
          ∙ (behind (a - (at + length bytes)) ∙ (ap (λ k. get_or space k 0) place
          ∙ sym (ap (bit_xor (get_or space a 0))
          (get_or_past (replicate at 0 ++ bytes) a 0
          (omega (arith, length-append (replicate at 0) bytes, length-replicate {A = ℕ} at 0, past)))
          ∙ xor_zero_r (get_or space a 0))))
    ]
  ]

sums_from : (ds : List Difference) (space : List ℕ) → All (λ d. d.at + length d.bytes ≤ length space) ds → (a : ℕ)
    → get_or (all_added ds space) a 0 ≡ bit_xor (get_or space a 0) (sum_at ds a)
sums_from [] space within a = sym (xor_zero_r (get_or space a 0))
sums_from (d ∷ ds) space within a =
    let here = All-head (λ (d : Difference). d.at + length d.bytes ≤ length space) d ds within in
    let rest = All-tail (λ (d : Difference). d.at + length d.bytes ≤ length space) d ds within in
    let next = added_at d.at d.bytes space in
    sums_from ds next (rw (length-added d.at d.bytes space here) rest) a
    ∙ (ap (λ x. bit_xor x (sum_at ds a)) (byte_added d.at d.bytes space here a)
    ∙ xor_assoc (get_or space a 0) (get_or (replicate d.at 0 ++ d.bytes) a 0) (sum_at ds a))

pub spaces_are_sums : SpacesAreSums
spaces_are_sums n ds within a below =
    sums_from ds (replicate n 0) (rw (length-replicate {A = ℕ} n 0) within) a
    ∙ (ap (λ x. bit_xor x (sum_at ds a)) (get_or-zeros n a) ∙ xor_zero_l (sum_at ds a))
