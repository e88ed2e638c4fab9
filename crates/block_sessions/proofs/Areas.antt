-- What of a difference lies in an area.
use Rattle.std.proofs.Common.{◌≡◌, ℕ, ◌+◌, ◌-◌, ◌<◌, ◌≤◌, ◌⊎◌, min, List, [], ◌∷◌, length, take, drop, sym, ap, ◌∙◌, inl, inr, arith}
use Rattle.std.specs.Prelude.{if◌then◌else◌}
use Rattle.std.proofs.lemmas.Bool.{le-leb, lt-leb, cases_lt}
use Rattle.std.proofs.lemmas.List.{length-take, length-drop, take_min, take-append-drop, nil_from_length, append_assoc}
use Rattle.field_byte.specs.Vectors.{add_bytes}
use Rattle.field_byte.proofs.Vectors.{length-add_bytes}
use Rattle.erasure_code.specs.Spaces.{added_at}
use Rattle.group_run.specs.Applying.{area_added}

-- no bytes are added
nothing : (n : ℕ) (bytes area : List ℕ) → length bytes ≡ 0 → added_at n bytes area ≡ area
nothing n (x ∷ xs) area none = absurd (omega arith)
nothing n [] area none =
    let sum : add_bytes (take 0 (drop n area)) [] ≡ [] = nil_from_length (add_bytes (take 0 (drop n area)) [])
    (length-add_bytes (take 0 (drop n area)) [] (length-take 0 (drop n area) ∙ omega arith)
    ∙ (length-take 0 (drop n area) ∙ omega arith)) in
    let rest : drop (n + 0) area ≡ drop n area = ap (λ k. drop k area) (omega arith) in
    rw (sum, rest, append_assoc) (take-append-drop n area)

module _ (from at : ℕ) (delta area : List ℕ) where
  pub area_before : at ≤ from → area_added from at delta area ≡ added_at 0 (take (length area) (drop (from - at) delta)) area
  area_before le =
      ap (λ t. if t then added_at 0 (take (length area) (drop (from - at) delta)) area else added_at (at - from)
      (take (length area - (at - from)) delta) area) (le-leb at from le)

  pub area_behind : from < at → area_added from at delta area ≡ added_at (at - from) (take (length area - (at - from)) delta) area
  area_behind lt =
      ap (λ t. if t then added_at 0 (take (length area) (drop (from - at) delta)) area else added_at (at - from)
      (take (length area - (at - from)) delta) area) (lt-leb at from lt)

  -- a difference that doesn't meet the area changes nothing
  pub area_apart : (at + length delta ≤ from) ⊎ (from + length area ≤ at) → area_added from at delta area ≡ area
  area_apart apart = elim (cases_lt from at) [
    | inl behind ↦ area_behind behind ∙ nothing (at - from) (take (length area - (at - from)) delta) area (elim apart [
      | inl past ↦ absurd (omega arith)
      | inr early ↦ length-take (length area - (at - from)) delta ∙ omega arith
    ])
    | inr before ↦ area_before before ∙ nothing 0 (take (length area) (drop (from - at) delta)) area
        (length-take (length area) (drop (from - at) delta) ∙ elim apart [
          | inl past ↦ omega (arith, length-drop (from - at) delta)
          | inr early ↦ omega arith
        ])
  ]

  -- nor does an empty one
  pub area_empty : length delta ≡ 0 → area_added from at delta area ≡ area
  area_empty none = elim (cases_lt from at) [
    | inl behind ↦ area_behind behind ∙ nothing (at - from) (take (length area - (at - from)) delta) area
        (length-take (length area - (at - from)) delta ∙ omega arith)
    | inr before ↦ area_before before ∙ nothing 0 (take (length area) (drop (from - at) delta)) area
        (length-take (length area) (drop (from - at) delta) ∙ omega (arith, length-drop (from - at) delta))
  ]

  -- what of it lies in the area
  pub part_before : (len : ℕ) → at ≤ from → len ≡ min (length area) (length delta - (from - at))
      → added_at 0 (take (from - at + len - (from - at)) (drop (from - at) delta)) area ≡ area_added from at delta area
  part_before len le is =
      let same : from - at + len - (from - at) ≡ min (length area) (length (drop (from - at) delta)) = omega (arith, is, length-drop (from - at) delta) in
      ap (λ bs. added_at 0 bs area) (ap (λ n. take n (drop (from - at) delta)) same ∙ take_min (length area) (drop (from - at) delta)) ∙ sym (area_before le)

  pub part_behind : (len : ℕ) → from < at → len ≡ min (length delta) (length area - (at - from))
      → added_at (at - from) (take len delta) area ≡ area_added from at delta area
  part_behind len lt is =
      let same : len ≡ min (length area - (at - from)) (length delta) = omega (arith, is) in
      ap (λ bs. added_at (at - from) bs area) (ap (λ n. take n delta) same ∙ take_min (length area - (at - from)) delta) ∙ sym (area_behind lt)
