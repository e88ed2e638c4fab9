-- There is at most one best run, so the allocator's place is the machine's.
use Rattle.std.proofs.Common.{◌≡◌, ℕ, ◌≤◌, Bool, Option, Some, None, refl, sym, subst, ◌∙◌, arith}
use Rattle.group_types.specs.declared.run.Run.{Run}
use Rattle.run_alloc.specs.Free.{AllFree, IsFreeRun, IsBestRun, IsPlace, NoPlace}
use Rattle.group_run.specs.Free.{is_free, place_for}
use Rattle.group_run.specs.Replica.{Replica}
use Rattle.law_updates.specs.Placing.{IsPlaced}
use Rattle.group_run.specs.Fitting.{IsRunOf}
use Rattle.law_updates.proofs.Placing.{places_are_best}

module _ (space : ℕ) (r : Replica) (len : ℕ) where
  none_found : (found : Option Run) → IsPlaced space r len found → NoPlace space (is_free space r) len → None ≡ found
  none_found None placed none = refl
  none_found (Some run) placed none = absurd (omega (arith, placed.1.1.fits, none run.at placed.1.0 placed.1.1.run))

  same_best : (at at' l l' : ℕ) → IsBestRun space (is_free space r) len at l → IsBestRun space (is_free space r) len at' l' → at ≡ at'
  same_best at at' l l' best best' =
      let long : l ≡ l' = omega (arith, best.shortest at' l' best'.run best'.fits, best'.shortest at l best.run best.fits) in
      let other : IsFreeRun space (is_free space r) at' l = subst (λ (n : ℕ). IsFreeRun space (is_free space r) at' n) (sym long) best'.run in
      let own : IsFreeRun space (is_free space r) at l' = subst (λ (n : ℕ). IsFreeRun space (is_free space r) at n) long best.run in
      omega (arith, best.lowest at' other, best'.lowest at own)

  place_found : (found : Option Run) (at : ℕ) → IsPlaced space r len found → IsPlace space (is_free space r) len at
      → Some (record { at = at; len = len }) ≡ found
  place_found None at placed place = absurd (omega (arith, place.1.fits, placed at place.0 place.1.run))
  place_found (Some run) at placed place =
      let same : at ≡ run.at = same_best at run.at place.0 placed.1.0 place.1 placed.1.1 in
      λ i. Some (record { at = same i; len = sym placed.0 i })

  module _ (free : ℕ → Bool) (same : (a : ℕ) → free a ≡ is_free space r a) (some : 1 ≤ len) where
    as_free : free ≡ is_free space r
    as_free = λ i a. same a i

    pub no_place : NoPlace space free len → None ≡ place_for space r len
    no_place none = none_found _ (places_are_best space r len some) (subst (λ (f : ℕ → Bool). NoPlace space f len) as_free none)

    pub place_is : (at : ℕ) → IsPlace space free len at → Some (record { at = at; len = len }) ≡ place_for space r len
    place_is at place = place_found _ at (places_are_best space r len some) (subst (λ (f : ℕ → Bool). IsPlace space f len at) as_free place)

    pub place_run : (at : ℕ) → IsPlace space free len at → IsRunOf space len (record { at = at; len = len })
    place_run at place = record { long = refl; inside = omega (arith, place.1.run.inside, place.1.fits) }

    pub place_free : (at : ℕ) → IsPlace space free len at → AllFree (is_free space r) at len
    place_free at place a low high = sym (same a) ∙ place.1.run.all_free a low (omega (arith, place.1.fits))
