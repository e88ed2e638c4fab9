-- What of a difference meets an area.
use Rattle.std.proofs.Common.{◌≡◌, ℕ, ◌+◌, ◌-◌, nat_le, min, List, ◌++◌, length, take, drop, Bool, true, false, if◌then◌else◌, sym, ap, ap₂, ◌∙◌, arith}
use Rattle.std.proofs.lemmas.List.{append_assoc, append-nil, drop_all, length-take, length-drop, drop_min, take_min, take_all, drop-drop, drop-map}
use Rattle.field_byte.specs.Field.{product}
use Rattle.field_byte.specs.Vectors.{add_bytes, scale}
use Rattle.field_byte.proofs.Vectors.{chunk-scale, length-scale}
use Rattle.erasure_code.specs.Spaces.{added_at}
use Rattle.group_run.specs.Applying.{area_added}

module _ (coef : ℕ) (delta area : List ℕ) (n : ℕ) (is : n ≡ min (length area) (length delta)) where
  -- as much of the product as the area has bytes
  as_much : take (length area) (scale coef delta) ≡ scale coef (take n delta)
  as_much = chunk-scale coef 0 (length area) delta ∙ ap (scale coef) (sym (ap (λ (k : ℕ). take k delta) is ∙ take_min (length area) delta))

  pub front_none : n ≡ 0 → area ≡ added_at 0 (take (length area) (scale coef delta)) area
  unfolding scale add_bytes
  front_none none = ap (λ (ds : List ℕ). added_at 0 ds area) (sym (as_much ∙ ap (λ (k : ℕ). scale coef (take k delta)) none))

  pub front_added : (into : List ℕ) → into ≡ add_bytes (take n area) (scale coef (take n delta))
      → into ++ drop n area ≡ added_at 0 (take (length area) (scale coef delta)) area
  front_added into sum =
      let ds : List ℕ = scale coef (take n delta) in
      let short = length-take n delta in
      let long : n ≡ length ds = omega (arith, is, short) ∙ sym (length-scale coef (take n delta)) in
      let end : n ≡ 0 + length ds = long ∙ omega arith in
      ap (λ (front : List ℕ). front ++ drop n area) sum
      ∙ (ap₂ (λ (j k : ℕ). add_bytes (take j area) ds ++ drop k area) long end
      ∙ ap (λ (all : List ℕ). added_at 0 all area) (sym as_much))

module _ (coef from at before : ℕ) (delta area : List ℕ) where
  pub met_behind : nat_le at from ≡ true → before ≡ min (from - at) (length delta) → (now : List ℕ)
      → now ≡ added_at 0 (take (length area) (scale coef (take (length delta - before) (drop before delta)))) area
      → now ≡ area_added from at (scale coef delta) area
  unfolding scale
  met_behind test is now sum =
      let long = length-drop before delta in
      let rest : scale coef (take (length delta - before) (drop before delta)) ≡ drop (from - at) (scale coef delta) =
      ap (scale coef) (take_all (length delta - before) (drop before delta) (omega (arith, long)))
      ∙ (ap (λ (k : ℕ). scale coef (drop k delta)) is ∙ (ap (scale coef) (drop_min (from - at) delta) ∙ sym (drop-map (product coef) (from - at) delta))) in
      sum
      ∙ (ap (λ (ds : List ℕ). added_at 0 (take (length area) ds) area) rest
      ∙ ap (λ (b : Bool). if b then added_at 0 (take (length area) (drop (from - at) (scale coef delta))) area else
      added_at (at - from) (take (length area - (at - from)) (scale coef delta)) area) (sym test))

  pub met_before : nat_le at from ≡ false → before ≡ min (at - from) (length area) → (now part : List ℕ)
      → part ≡ take (length area - before) (drop before area) → now ≡ added_at 0 (take (length part) (scale coef delta))
      part
      → take before area ++ (now ++ drop (length area - before) (drop before area)) ≡ area_added from at (scale coef delta) area
  met_before test is now part here sum =
      let n : ℕ = at - from in
      let ds : List ℕ = take (length area - n) (scale coef delta) in
      let sums : List ℕ = add_bytes (take (length ds) (drop n area)) ds in
      let front : take before area ≡ take n area = ap (λ (k : ℕ). take k area) is ∙ take_min n area in
      let long = length-drop before area in
      let back : part ≡ drop n area = here ∙ (take_all (length area - before) (drop before area) (omega (arith, long))
      ∙ (ap (λ (k : ℕ). drop k area) is ∙ drop_min n area)) in
      let met : now ≡ sums ++ drop (0 + length ds) (drop n area) =
      sum ∙ (ap (λ (rest : List ℕ). added_at 0 (take (length rest) (scale coef delta)) rest) back
      ∙ ap (λ (k : ℕ). added_at 0 (take k (scale coef delta)) (drop n area)) (length-drop n area)) in
      let end : n + (0 + length ds) ≡ n + length ds = omega arith in
      ap (λ (rest : List ℕ). take before area ++ (now ++ rest)) (drop_all (length area - before) (drop before area) (omega (arith, long)))
      ∙ (ap (λ (x : List ℕ). take before area ++ x) (append-nil now)
      ∙ (ap₂ (λ (x y : List ℕ). x ++ y) front met
      ∙ (sym (append_assoc (take n area) sums (drop (0 + length ds) (drop n area)))
      ∙ (ap (λ (rest : List ℕ). take n area ++ sums ++ rest) (drop-drop (0 + length ds) n area ∙ ap (λ (k : ℕ). drop k area) end)
      ∙ ap (λ (b : Bool). if b then added_at 0 (take (length area) (drop (from - at) (scale coef delta))) area else added_at n ds area) (sym test)))))
