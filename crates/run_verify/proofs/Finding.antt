-- The run of an update's value, found among the places.
use Rattle.std.proofs.Common.{◌≡◌, ◌≢◌, ◌<◌, ◌^◌, ℕ, List, [], ◌∷◌, ◌++◌, codes, length, Option, None, inl, inr, refl, sym, ap, ◌∙◌, subst, append_assoc, arith}
use Rattle.std.proofs.lemmas.List.{append_cancel_left}
use Rattle.std.proofs.lemmas.Fmt.{decimal_injective}
use Rattle.std.specs.Fmt.{decimal}
use Rattle.group_types.specs.Dimensions.{Dimensions, space_of}
use Rattle.group_types.specs.declared.run.Run.{Run}
use Rattle.scenario_run.specs.Lines.{lines_of}
use Rattle.scenario_text.specs.Texts.{place_text}
use Rattle.transcript_text.specs.Texts.{FitsPlace, text_of_place}
use Rattle.transcript_text.specs.declared.place.Place.{Place}
use Rattle.transcript_text.proofs.Cuts.{cut_same}
use Rattle.transcript_text.proofs.Numbers.{Lacks-decimal}
use Rattle.run_verify.specs.Passing.{IsRunIn, RunFitsValue}
use Rattle.run_verify.specs.Runs.{ArePlacesOf, IsRunAmong, Names}

abbrev pub numbers : ℕ → ℕ → Run → List ℕ
numbers d n run = decimal d ++ 32 ∷ (decimal n ++ 32 ∷ (decimal run.at ++ 32 ∷ decimal run.len))

pub place-line : (d n : ℕ) (run : Run) → place_text d n run ≡ codes "place " ++ numbers d n run
place-line d n run = ap (λ (t : List ℕ). codes "place " ++ t)
    (append_assoc (decimal d ++ 32 ∷ decimal n) (32 ∷ decimal run.at) (32 ∷ decimal run.len)
    ∙ append_assoc (decimal d) (32 ∷ decimal n) (32 ∷ (decimal run.at ++ 32 ∷ decimal run.len)))

-- a number in front of a space
pub first : (n m : ℕ) (r s : List ℕ) → n < 2 ^ 64 → m < 2 ^ 64 → decimal n ++ 32 ∷ r ≡ decimal m ++ 32 ∷ s → (n ≡ m) × (r ≡ s)
first n m r s fn fm same =
    let both = cut_same 32 (decimal n) (decimal m) r s (Lacks-decimal 32 n (omega arith) fn) (Lacks-decimal 32 m (omega arith) fm) same in
    (decimal_injective n m fn fm both.0, both.1)

-- a place's text is that of one place
record IsPlace (p : Place) (d n : ℕ) (run : Run) : Type 0 where
  partition : p.partition ≡ d
  number : p.number ≡ n
  at_is : p.run.at ≡ run.at
  len_is : p.run.len ≡ run.len

place_same : (p : Place) (d n : ℕ) (run : Run) → FitsPlace p → d < 2 ^ 32 → n < 2 ^ 64 → run.at < 2 ^ 32
    → run.len < 2 ^ 32 → text_of_place p ≡ place_text d n run → IsPlace p d n run
place_same p d n run (fd, fn, fa, fl) gd gn ga gl same =
    let all : codes "place " ++ numbers p.partition p.number p.run ≡ codes "place " ++ numbers d n run =
    sym (place-line p.partition p.number p.run) ∙ same ∙ place-line d n run in
    let a = first p.partition d _ _ (omega (arith, fd)) (omega (arith, gd)) (append_cancel_left (codes "place ") _ _ all) in
    let b = first p.number n _ _ fn gn a.1 in
    let c = first p.run.at run.at _ _ (omega (arith, fa)) (omega (arith, ga)) b.1 in
    record { partition = a.0; number = b.0; at_is = c.0; len_is = decimal_injective p.run.len run.len (omega (arith, fl)) (omega (arith, gl)) c.1 }

module _ (s : Dimensions) (d number len : ℕ) (low : d < 2 ^ 32) (few : number < 2 ^ 64) (small : space_of s < 2 ^ 32) where
  -- a fitting run in the line of a place is that place's
  names-of : (p : Place) (run : Run) → FitsPlace p → text_of_place p ≡ place_text d number run → RunFitsValue s len run → Names s d number len p
  names-of p run fits same fit =
      let is = place_same p d number run fits low few (let f = fit.1 in omega (arith, f, small)) (let f = fit.1 in omega (arith, f, small)) same in
      let a = is.at_is in let l = is.len_is in let f0 = fit.0 in let f1 = fit.1 in
      record { partition = is.partition; number_is = is.number; fits = (l ∙ f0, omega (arith, a, l, f1)) }

  no_place : (line : List ℕ) → ((p : Place) → FitsPlace p → text_of_place p ≢ line) → (run : Run) → line ≡ place_text d number run → ¬ (RunFitsValue s len run)
  no_place line none run same fit =
      let f = fit.1 in
      none (record { partition = d; number = number; run = run }) (low, few, omega (arith, f, small), omega (arith, f, small)) (sym same)

  found-by : (line : List ℕ) (lines : List (List ℕ)) (p : Place) (more : List Place) (found : Option Run) → FitsPlace p
      → text_of_place p ≡ line → (IsRunAmong more s d number len found → IsRunIn lines s d number len found)
      → IsRunAmong (p ∷ more) s d number len found → IsRunIn (line ∷ lines) s d number len found
  found-by line lines p more found fits text rest (inl (names, same)) =
      inl (
        p.run,
        sym text ∙ ap (λ (n : ℕ). place_text n p.number p.run) names.partition
            ∙ ap (λ (n : ℕ). place_text d n p.run) names.number_is,
        names.fits,
        same,
      )
  found-by line lines p more found fits text rest (inr (other, is)) = inr ((λ run same fit. other (names-of p run fits (text ∙ same) fit)), rest is)

  none-in : (places : List Place) (found : Option Run) → places ≡ [] → IsRunAmong places s d number len found → found ≡ None
  none-in [] found same is = is
  none-in (p ∷ ps) found same is = absurd (cc same)

  pub run_found : (lines : List (List ℕ)) (places : List Place) (found : Option Run) → ArePlacesOf lines places
      → IsRunAmong places s d number len found → IsRunIn lines s d number len found
  run_found [] places found are is = none-in places found are is
  run_found (line ∷ lines) places found (inr (none, are)) is = inr (no_place line none, run_found lines places found are is)
  run_found (line ∷ lines) places found (inl (p, more, split, fits, text, are)) is =
      found-by line lines p more found fits text (run_found lines more found are) (subst (λ (ps : List Place). IsRunAmong ps s d number len found) split is)

-- the places of lines, and of those behind a line
pub place_more : (line : List ℕ) (lines : List (List ℕ)) (place : Place) (more : List Place) → FitsPlace place
    → text_of_place place ≡ line → ArePlacesOf lines more → ArePlacesOf (line ∷ lines) (place ∷ more)
place_more line lines place more fits text are = inl (place, more, refl, fits, text, are)

pub place_none : (line : List ℕ) (lines : List (List ℕ)) (more : List Place)
    → ((place : Place) → FitsPlace place → text_of_place place ≢ line) → ArePlacesOf lines more
    → ArePlacesOf (line ∷ lines) more
place_none line lines more none are = inr (none, are)

pub no_lines : (text : List ℕ) → length text ≡ 0 → lines_of text ≡ []
no_lines [] none = refl
no_lines (b ∷ bs) none = absurd (omega (arith, none))
