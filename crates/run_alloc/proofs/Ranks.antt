-- Runs whose ranks rise.
use Rattle.std.proofs.Common.{◌≡◌, ℕ, zero, suc, ◌+◌, ◌<◌, ◌≤◌, true, false, List, [], ◌∷◌, ◌++◌, length, take, drop}
use Rattle.std.proofs.Common.{get_or, sym, ap, subst, ◌∙◌, inl, inr, arith}
use Rattle.std.specs.List.{All, Contains}
use Rattle.std.specs.List.Sorted.{IsNonDecreasingBy, IsPartitionPoint}
use Rattle.std.proofs.Math.Dec.{ltb}
use Rattle.std.proofs.lemmas.Bool.{ltb-true, ltb-false}
use Rattle.std.proofs.lemmas.List.{take-append-drop, length-take-le, length-drop, get_or-take, get_or-drop}
use Rattle.std.proofs.lemmas.List.Elements.{All-nil, All-cons, All-contains, Contains-append_cases}
use Rattle.std.specs.List.{insert, remove}
use Rattle.run_alloc.proofs.Around.{insert-around, remove-around, length-around}
use Rattle.run_alloc.specs.declared.order.Run.{Run}
use Rattle.run_alloc.specs.Shelves.{Rises, IsPlaceOf, Adds, Puts}

pub only : (x y : Run) → Contains (x ∷ []) y → x ≡ y
only x y is = let first : is.0 ≡ 0 = omega (arith, is.1) in subst (λ (k : ℕ). get_or (x ∷ []) k y ≡ y) first is.2

module _ (rank : Run → ℕ) where
  pub rises-bounds : (runs : List Run) (low high : ℕ) → Rises rank low runs high → low ≤ high
  rises-bounds [] low high rises = rises
  rises-bounds (run ∷ runs) low high rises = omega (arith, rises.0, rises-bounds runs _ high rises.1)

  pub rises-lower : (runs : List Run) (low from high : ℕ) → low ≤ from → Rises rank from runs high → Rises rank low runs high
  rises-lower [] low from high le rises = omega arith
  rises-lower (run ∷ runs) low from high le rises = (omega (arith, rises.0), rises.1)

  pub rises-append : (xs ys : List Run) (low mid high : ℕ) → Rises rank low xs mid → Rises rank mid ys high → Rises rank low (xs ++ ys) high
  rises-append [] ys low mid high first second = rises-lower ys low mid high first second
  rises-append (run ∷ xs) ys low mid high first second = (first.0, rises-append xs ys _ mid high first.1 second)

  pub rises-front : (xs ys : List Run) (run : Run) (low high : ℕ) → Rises rank low (xs ++ run ∷ ys) high → Rises rank low xs (rank run)
  rises-front [] ys run low high rises = rises.0
  rises-front (x ∷ xs) ys run low high rises = (rises.0, rises-front xs ys run _ high rises.1)

  pub rises-behind : (xs ys : List Run) (low high : ℕ) → Rises rank low (xs ++ ys) high → Rises rank low ys high
  rises-behind [] ys low high rises = rises
  rises-behind (x ∷ xs) ys low high rises = rises-lower ys low _ high (omega (arith, rises.0)) (rises-behind xs ys _ high rises.1)

  -- the runs from one on
  pub rises-rest : (xs ys : List Run) (run : Run) (low high : ℕ) → Rises rank low (xs ++ run ∷ ys) high → Rises rank (rank run) (run ∷ ys) high
  rises-rest xs ys run low high rises = (omega arith, (rises-behind xs (run ∷ ys) low high rises).1)

  pub rises-above : (runs : List Run) (low high : ℕ) → Rises rank low runs high → All (λ (r : Run). low ≤ rank r) runs
  rises-above [] low high rises = All-nil (λ (r : Run). low ≤ rank r)
  rises-above (run ∷ runs) low high rises = All-cons (λ (r : Run). low ≤ rank r) run runs rises.0
      (rises-above runs low high (rises-lower runs low _ high (omega (arith, rises.0)) rises.1))

  pub rises-below : (runs : List Run) (low high : ℕ) → Rises rank low runs high → All (λ (r : Run). rank r < high) runs
  rises-below [] low high rises = All-nil (λ (r : Run). rank r < high)
  rises-below (run ∷ runs) low high rises = All-cons (λ (r : Run). rank r < high) run runs (omega (arith, rises-bounds runs _ high rises.1))
      (rises-below runs _ high rises.1)

  -- a run between those of lower and of higher rank
  pub rises-between : (xs ys : List Run) (run : Run) (low high : ℕ) → Rises rank low (xs ++ ys) high → All (λ (r : Run). rank r < rank run) xs
      → All (λ (r : Run). rank run < rank r) ys → low ≤ rank run → rank run < high → Rises rank low (xs ++ run ∷ ys) high
  rises-between [] [] run low high rises below above from to = (from, omega arith)
  rises-between [] (y ∷ ys) run low high rises below above from to = (from, (omega (arith, above 0 y (omega arith)), rises.1))
  rises-between (x ∷ xs) ys run low high rises below above from to = (
    rises.0,
    rises-between xs ys run _ high rises.1 (λ k d lt. below (suc k) d (omega arith)) above (omega (arith, below 0 x (omega arith))) to,
  )

  pub rises-without : (xs ys : List Run) (run : Run) (low high : ℕ) → Rises rank low (xs ++ run ∷ ys) high → Rises rank low (xs ++ ys) high
  rises-without [] ys run low high rises = rises-lower ys low _ high (omega (arith, rises.0)) rises.1
  rises-without (x ∷ xs) ys run low high rises = (rises.0, rises-without xs ys run _ high rises.1)

  pub rises-steady : (runs : List Run) (low high : ℕ) → Rises rank low runs high → IsNonDecreasingBy rank runs
  rises-steady [] low high rises i j d le lt = absurd (omega arith)
  rises-steady (run ∷ runs) low high rises i zero d le lt = let same : i ≡ 0 = omega arith in rw same (omega arith)
  rises-steady (run ∷ runs) low high rises zero (suc j) d le lt = omega (arith, rises-above runs _ high rises.1 j d (omega arith))
  rises-steady (run ∷ runs) low high rises (suc i) (suc j) d le lt = rises-steady runs _ high rises.1 i j d (omega arith) (omega arith)

  -- from what a search by halves answers
  pub is_place_of : (runs : List Run) (to place : ℕ) → place ≤ length runs
      → IsPartitionPoint (λ run. ltb (rank run) to ≡ true) (λ run. ltb (rank run) to ≡ false) runs place
      → IsPlaceOf rank runs to place
  is_place_of runs to place le parted = record {
    before = take place runs;
    after = drop place runs;
    parts = sym (take-append-drop place runs);
    at = length-take-le place runs le;
    below = λ k d lt.
        let short : k < place = omega (arith, length-take-le place runs le) in
        rw (get_or-take place runs k d) (ltb-true _ _ (parted.0 k d (omega arith) short));
    above = λ k d lt.
        rw (get_or-drop place runs k d) (ltb-false _ _ (parted.1 (place + k) d (omega arith) (omega (arith, length-drop place runs))));
  }

  pub rises-higher : (runs : List Run) (low high to : ℕ) → high ≤ to → Rises rank low runs high → Rises rank low runs to
  rises-higher [] low high to le rises = omega arith
  rises-higher (run ∷ runs) low high to le rises = (rises.0, rises-higher runs _ high to le rises.1)

  pub put_at : (runs : List Run) (run : Run) (place : ℕ) → IsPlaceOf rank runs (rank run) place → Puts rank runs (insert runs place run) run
  put_at runs run place is = record {
    before = is.before;
    after = is.after;
    was = is.parts;
    is = rw (is.parts, ← is.at) (insert-around is.before is.after run);
    below = is.below;
    above = is.above;
  }

  -- the run that is there is the first behind those of a lower rank
  first_is : (before after : List Run) (run : Run) (high : ℕ) → Rises rank 0 (before ++ after) high → Contains (before ++ after) run
      → All (λ (r : Run). rank r < rank run) before → All (λ (r : Run). rank run ≤ rank r) after → (rest : List Run) × (after ≡ run ∷ rest)
  first_is before [] run high rises kept below above =
      elim (Contains-append_cases before [] run kept) [
        | inl is ↦ absurd (omega (arith, All-contains (λ (r : Run). rank r < rank run) before run below is))
        | inr is ↦ absurd (omega (arith, is.1))
      ]
  first_is before (y ∷ rest) run high rises kept below above =
      elim (Contains-append_cases before (y ∷ rest) run kept) [
        | inl is ↦ absurd (omega (arith, All-contains (λ (r : Run). rank r < rank run) before run below is))
        | inr is ↦ elim (Contains-append_cases (y ∷ []) rest run is) [
          | inl at ↦ (rest, ap (λ (r : Run). r ∷ rest) (only y run at))
          | inr later ↦ absurd (omega (
            arith,
            above 0 y (omega arith),
            All-contains (λ (r : Run). rank y + 1 ≤ rank r) rest run (rises-above rest _ high (rises-behind before (y ∷ rest) 0 high rises).1) later,
          ))
        ]
      ]

  pub pulled : (runs : List Run) (run : Run) (place high : ℕ) → Rises rank 0 runs high → Contains runs run → IsPlaceOf rank runs (rank run) place
      → (place < length runs) × Adds (remove runs place) runs run
  pulled runs run place high rises kept is =
      let first = first_is is.before is.after run high (subst (λ (l : List Run). Rises rank 0 l high) is.parts rises)
      (subst (λ (l : List Run). Contains l run) is.parts kept) is.below is.above in
      let parts : runs ≡ is.before ++ run ∷ first.0 = is.parts ∙ ap (λ (l : List Run). is.before ++ l) first.1 in (
        rw (parts, ← is.at) (length-around is.before first.0 run),
        record { before = is.before; after = first.0; was = rw (parts, ← is.at) (remove-around is.before first.0 run); is = parts },
      )
