-- The next era: what was told of the one that ends stands behind the logs before it, and all numbers begin anew.
use Rattle.std.proofs.Common.{◌≡◌, ℕ, suc, ◌+◌, List, [], ◌∷◌, ◌++◌, length, map, refl, sym, ap, ◌∙◌, append_assoc, append-nil, length-append, arith}
use Rattle.group_types.specs.Dimensions.{Dimensions}
use Rattle.group_calls.specs.declared.entry.Entry.{Entry}
use Rattle.group_run.specs.World.{World, opening}
use Rattle.group_eras.specs.Eras.{EraEntry, next_bases, next_era}
use Rattle.group_eras.specs.Told.{Bases}
use Rattle.group_regroup.specs.declared.changing.Lowered.{Lowered}
use Rattle.group_regroup.specs.Kept.{entries_from, entry_of_era, eras_of, past_from, told_from}

told-tagged : (bases : Bases) (k era : ℕ) (l : List Lowered) (p : ℕ) (xs : List Entry)
    → map (λ x. (era, x)) (entries_from bases k l p xs) ≡ told_from bases k era l p xs
told-tagged bases k era l p [] = refl
told-tagged bases k era l p (x ∷ xs) = ap (λ (ys : List EraEntry). (era, entry_of_era bases k l p x) ∷ ys) (told-tagged bases k era l (suc p) xs)

past-push : (era : ℕ) (past : List (List Entry)) (xs : List Entry) → past_from era (past ++ xs ∷ [])
    ≡ past_from era past ++ map (λ x. (era + length past, x)) xs
past-push era [] xs = let here : era ≡ era + 0 = omega arith in append-nil (map (λ x. (era, x)) xs) ∙ ap (λ (n : ℕ). map (λ x. (n, x)) xs) here
past-push era (y ∷ past) xs =
    let next : suc era + length past ≡ era + suc (length past) = omega arith in
    ap (λ (ys : List EraEntry). map (λ x. (era, x)) y ++ ys) (past-push (suc era) past xs
    ∙ ap (λ (n : ℕ). past_from (suc era) past ++ map (λ x. (n, x)) xs) next)
    ∙ sym (append_assoc (map (λ x. (era, x)) y) (past_from (suc era) past) (map (λ x. (era + suc (length past), x)) xs))

module _ (w : World) (bases : Bases) (past : List (List Entry)) (l : List Lowered) (s : Dimensions) where
  abbrev told : List Entry
  told = entries_from bases w.shape.k l 0 w.log

  era-is : suc (length past) ≡ length (past ++ told ∷ [])
  era-is = let long = length-append past (told ∷ []) in omega (arith, long)

  log-is : past_from 0 past ++ told_from bases w.shape.k (length past) l 0 w.log ≡ past_from 0 (past ++ told ∷ []) ++ []
  log-is =
      let front : 0 + length past ≡ length past = omega arith in
      ap (λ (ys : List EraEntry). past_from 0 past ++ ys) (sym (told-tagged bases w.shape.k (length past) l 0 w.log)
      ∙ sym (ap (λ (n : ℕ). map (λ x. (n, x)) told) front))
      ∙ sym (past-push 0 past told) ∙ sym (append-nil (past_from 0 (past ++ told ∷ [])))

  pub renewed : next_era (eras_of w bases past l) s ≡ eras_of (opening s) (next_bases (eras_of w bases past l)) (past ++ told ∷ []) []
  renewed = λ i. record { era = era-is i; world = opening s; bases = next_bases (eras_of w bases past l); log = log-is i }
