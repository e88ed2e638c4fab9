-- A line leads to one state alone.
use Rattle.std.proofs.Common.{◌≡◌, inl, inr, ◌<◌, ◌^◌, ℕ, List, [], ◌∷◌, ◌++◌, ◌∙◌, Option, Some, codes, sym, ap, arith}
use Rattle.std.proofs.lemmas.Fmt.{decimal_injective}
use Rattle.std.proofs.lemmas.List.{append_cancel_left}
use Rattle.group_types.specs.Dimensions.{Dimensions, space_of}
use Rattle.group_types.specs.declared.run.Run.{Run}
use Rattle.scenario_text.specs.Texts.{place_text}
use Rattle.run_verify.specs.Passing.{IsRunIn}
use Rattle.run_verify.proofs.Finding.{first, numbers, place-line}

-- a place line is of one update alone
pub place_once : (d n e m : ℕ) (run other : Run) → d < 2 ^ 64 → n < 2 ^ 64 → e < 2 ^ 64 → m < 2 ^ 64
    → place_text d n run ≡ place_text e m other → (d ≡ e) × (n ≡ m)
place_once d n e m run other fd fn fe fm same =
    let all : codes "place " ++ numbers d n run ≡ codes "place " ++ numbers e m other = sym (place-line d n run) ∙ same ∙ place-line e m other in
    let a = first d e _ _ fd fe (append_cancel_left (codes "place ") _ _ all) in
    let b = first n m _ _ fn fm a.1 in
    (a.0, b.0)

-- and tells one run, where the run is short
pub run_once : (d n : ℕ) (run other : Run) → d < 2 ^ 64 → n < 2 ^ 64 → run.at < 2 ^ 64 → run.len < 2 ^ 64
    → other.at < 2 ^ 64 → other.len < 2 ^ 64 → place_text d n run ≡ place_text d n other → run ≡ other
run_once d n run other fd fn fa fl ga gl same =
    let all : codes "place " ++ numbers d n run ≡ codes "place " ++ numbers d n other = sym (place-line d n run) ∙ same ∙ place-line d n other in
    let a = first d d _ _ fd fd (append_cancel_left (codes "place ") _ _ all) in
    let b = first n n _ _ fn fn a.1 in
    let c = first run.at other.at _ _ fa ga b.1 in
    let at_is = c.0 in
    let len_is = decimal_injective run.len other.len fl gl c.1 in
    let eq : record { at = run.at; len = run.len } ≡ record { at = other.at; len = other.len } = cc (at_is, len_is) in
    eq

-- the run that is found is one
pub found_once : (lines : List (List ℕ)) (s : Dimensions) (d n len : ℕ) (one other : Option Run) → space_of s < 2 ^ 32
    → d < 2 ^ 64 → n < 2 ^ 64 → IsRunIn lines s d n len one → IsRunIn lines s d n len other → one ≡ other
found_once [] s d n len one other small fd fn is also = is ∙ sym also
found_once (line ∷ lines) s d n len one other small fd fn (inl (run, text, fits, found)) (inl (run', text', fits', found')) =
    let f = fits.1 in
    let g = fits'.1 in
    let same = run_once d n run run' fd fn (omega (arith, f, small)) (omega (arith, f, small)) (omega (arith, g, small))
    (omega (arith, g, small)) (sym text ∙ text') in
    found ∙ ap (λ (r : Run). Some r) same ∙ sym found'
found_once (line ∷ lines) s d n len one other small fd fn (inl (run, text, fits, found)) (inr (none, rest)) = absurd (none run text fits)
found_once (line ∷ lines) s d n len one other small fd fn (inr (none, rest)) (inl (run, text, fits, found)) = absurd (none run text fits)
found_once (line ∷ lines) s d n len one other small fd fn (inr (none, rest)) (inr (none', rest')) = found_once lines s d n len one other small fd fn rest rest'
