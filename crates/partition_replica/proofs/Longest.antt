-- Lengths of values that have no place.
use Rattle.std.proofs.Common.{◌≡◌, ℕ, ◌-◌, ◌<◌, false, Option, Some, None, is_some, sym, refl, arith}
use mathlib.Core.Bool.{true≢false}
use Rattle.group_types.specs.declared.run.Run.{Run}
use Rattle.run_alloc.specs.Free.{NoPlace}
use Rattle.group_run.specs.Free.{is_free, place_for}
use Rattle.group_run.specs.Replica.{Replica}
use Rattle.law_updates.specs.Placing.{IsPlaced}
use Rattle.law_updates.proofs.Placing.{places_are_best}
use Rattle.partition_replica.proofs.Places.{no_place}

module _ (space : ℕ) (r : Replica) where
  -- no value that is longer has a place
  abbrev pub NoneAbove : ℕ → Type 0
  NoneAbove len = (n : ℕ) → len < n → place_for space r n ≡ None

  -- none is longer than the space
  pub none-above_space : NoneAbove space
  none-above_space n more = sym (no_place space r n (is_free space r) (λ a. refl) (omega arith) (λ at len run. omega (arith, run.inside)))

  no_run : (len : ℕ) (found : Option Run) → is_some found ≡ false → IsPlaced space r len found → NoPlace space (is_free space r) len
  no_run len None none placed = placed
  no_run len (Some run) none placed = absurd (true≢false none)

  -- where a length has no place, a longer one has none
  pub none-above : (len : ℕ) → 0 < len → is_some (place_for space r len) ≡ false → NoneAbove (len - 1)
  none-above len some none n more =
      let no = no_run len (place_for space r len) none (places_are_best space r len (omega arith)) in
      sym (no_place space r n (is_free space r) (λ a. refl) (omega arith) (λ at l run. omega (arith, no at l run)))
