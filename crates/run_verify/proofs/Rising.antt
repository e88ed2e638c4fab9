-- Places that rise, and what is found among them by halving.
use Rattle.std.proofs.Common.{◌≡◌, ◌<◌, ◌≤◌, ◌⊎◌, inl, inr, ℕ, zero, suc, true, false, List, [], ◌∷◌, Some, None, get_or, length, refl, ap, subst, arith}
use Rattle.std.proofs.Math.Dec.{ltb}
use Rattle.std.proofs.lemmas.Bool.{cases_lt, ltb-false, ltb-true}
use Rattle.std.specs.List.Sorted.{IsNonDecreasingBy, IsPartitionPoint}
use Rattle.group_types.specs.Dimensions.{Dimensions}
use Rattle.transcript_text.specs.declared.place.Place.{Place}
use Rattle.run_verify.specs.Runs.{IsRunAmong, Names, Rise, rank_of}

abbrev pub rank : Place → ℕ
rank place = rank_of place.partition place.number

rise-more : (p : Place) (ps : List Place) → Rise (p ∷ ps) → Rise ps
rise-more p [] rise = tt
rise-more p (q ∷ ps) rise = rise.1

-- the first is before every other
rise-first : (p : Place) (ps : List Place) (j : ℕ) (d : Place) → Rise (p ∷ ps) → j < length ps → rank p < rank (get_or ps j d)
rise-first p [] j d rise below = absurd (omega arith)
rise-first p (q ∷ ps) zero d rise below = rise.0
rise-first p (q ∷ ps) (suc j) d rise below = let next = rise-first q ps j d rise.1 (omega arith) in let here = rise.0 in omega (arith, next, here)

rise-at : (ps : List Place) (i j : ℕ) (d : Place) → Rise ps → i < j → j < length ps → rank (get_or ps i d) < rank (get_or ps j d)
rise-at [] i j d rise less below = absurd (omega arith)
rise-at (p ∷ ps) i zero d rise less below = absurd (omega arith)
rise-at (p ∷ ps) zero (suc j) d rise less below = rise-first p ps j d rise (omega arith)
rise-at (p ∷ ps) (suc i) (suc j) d rise less below = rise-at ps i j d (rise-more p ps rise) (omega arith) (omega arith)

pub rise_ranks : (ps : List Place) → Rise ps → IsNonDecreasingBy rank ps
rise_ranks ps rise i j d least below = by (cases_lt i j) where
  by : (i < j) ⊎ (j ≤ i) → rank (get_or ps i d) ≤ rank (get_or ps j d)
  by (inl less) = let e = rise-at ps i j d rise less below in omega (arith, e)
  by (inr more) = let same : i ≡ j = omega (arith, least, more) in let e = ap (λ (k : ℕ). rank (get_or ps k d)) same in omega (arith, e)

get_or-default : (ps : List Place) (i : ℕ) (d e : Place) → i < length ps → get_or ps i d ≡ get_or ps i e
get_or-default [] i d e below = absurd (omega arith)
get_or-default (p ∷ ps) zero d e below = refl
get_or-default (p ∷ ps) (suc i) d e below = get_or-default ps i d e (omega arith)

module _ (s : Dimensions) (d number len : ℕ) where
  -- no place names the update
  among-none : (ps : List Place) → ((i : ℕ) (e : Place) → i < length ps → ¬ (Names s d number len (get_or ps i e))) → IsRunAmong ps s d number len None
  among-none [] none = refl
  among-none (p ∷ ps) none = inr (none zero p (omega arith), among-none ps (λ i e below. none (suc i) e (omega arith)))

  -- the one at a place is the first that does
  among-at : (ps : List Place) (r : ℕ) (p : Place) → r < length ps → p ≡ get_or ps r p
      → ((i : ℕ) (e : Place) → i < r → ¬ (Names s d number len (get_or ps i e))) → Names s d number len p
      → IsRunAmong ps s d number len (Some p.run)
  among-at [] r p below here none names = absurd (omega arith)
  among-at (q ∷ ps) zero p below here none names = inl (subst (Names s d number len) here names, ap (λ (x : Place). Some x.run) here)
  among-at (q ∷ ps) (suc r) p below here none names =
      inr (
        none zero p (omega arith),
        among-at ps r p (omega arith) here (λ i e less. none (suc i) e (omega arith))
            names,
      )

  rank-is : (p : Place) → Names s d number len p → rank p ≡ rank_of d number
  rank-is p names = cc (names.partition, names.number_is)

  module _ (ps : List Place) (rise : Rise ps) (r : ℕ)
      (parted : IsPartitionPoint (λ (p : Place). ltb (rank p) (rank_of d number) ≡ true)
      (λ (p : Place). ltb (rank p) (rank_of d number) ≡ false) ps r) where
    below-not : (i : ℕ) (e : Place) → i < r → ¬ (Names s d number len (get_or ps i e))
    below-not i e less names = let low = ltb-true _ _ (parted.0 i e (omega arith) less) in let same = rank-is (get_or ps i e) names in omega (arith, low, same)

    at-not : (i : ℕ) (e : Place) → r < i → i < length ps → ¬ (Names s d number len (get_or ps i e))
    at-not i e more below names =
        let high = ltb-false _ _ (parted.1 r e (omega arith) (omega (arith, more, below))) in
        let less = rise-at ps r i e rise more below in
        let same = rank-is (get_or ps i e) names in
        omega (arith, high, less, same)

    pub found_at : (e : Place) → r < length ps → Names s d number len (get_or ps r e) → IsRunAmong ps s d number len (Some (get_or ps r e).run)
    found_at e below names = among-at ps r (get_or ps r e) below (get_or-default ps r e (get_or ps r e) below) below-not names

    found-not : ((e : Place) → r < length ps → ¬ (Names s d number len (get_or ps r e))) → IsRunAmong ps s d number len None
    found-not not = among-none ps (λ i e below. by i e below (cases_lt i r) (cases_lt r i)) where
      by : (i : ℕ) (e : Place) → i < length ps → (i < r) ⊎ (r ≤ i) → (r < i) ⊎ (i ≤ r) → ¬ (Names s d number len (get_or ps i e))
      by i e below (inl less) _ = below-not i e less
      by i e below (inr least) (inl more) = at-not i e more below
      by i e below (inr least) (inr most) = let same : i ≡ r = omega (arith, least, most) in
          λ names. not e (omega (arith, same, below)) (subst (λ (k : ℕ). Names s d number len (get_or ps k e)) same
          names)

    pub found_end : r ≡ length ps → IsRunAmong ps s d number len None
    found_end end = found-not (λ e below. absurd (omega (arith, end, below)))

    pub found_other : (e : Place) → ¬ (Names s d number len (get_or ps r e)) → IsRunAmong ps s d number len None
    found_other e other = found-not (λ f below names. other (subst (Names s d number len) (get_or-default ps r f e below) names))

-- fewer than two places rise
pub few_rise : (ps : List Place) → length ps < 2 → Rise ps
few_rise [] few = tt
few_rise (p ∷ []) few = tt
few_rise (p ∷ q ∷ ps) few = absurd (omega (arith, few))
