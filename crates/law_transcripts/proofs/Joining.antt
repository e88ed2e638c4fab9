-- Lines that are joined, each with its line end, and cut again.
use Rattle.std.proofs.Common.{◌≡◌, ◌≢◌, ◌<◌, ◌==◌, ℕ, Bool, false, List, [], ◌∷◌, ◌++◌, ◌∙◌, append_assoc, length, refl, sym, ap, arith}
use Rattle.std.proofs.lemmas.Bool.Decides.{nat_tests}
use Rattle.std.proofs.lemmas.List.Elements.{All-head, All-tail, All-weaker}
use Rattle.std.proofs.lemmas.List.Splits.{length-slice_split, slice_split_at}
use Rattle.std.specs.List.{slice_split}
use Rattle.std.specs.Prelude.{All}
use Rattle.scenario_run.specs.Lines.{lines_of, without_empty_last}
use Rattle.law_transcripts.proofs.Plain.{Plain}

abbrev pub joined : List (List ℕ) → List ℕ
joined [] = []
joined (line ∷ lines) = line ++ 10 ∷ joined lines

pub joined-append : (xs ys : List (List ℕ)) → joined (xs ++ ys) ≡ joined xs ++ joined ys
joined-append [] ys = refl
joined-append (x ∷ xs) ys = ap (λ (t : List ℕ). x ++ 10 ∷ t) (joined-append xs ys) ∙ sym (append_assoc x (10 ∷ joined xs) (joined ys))

without_empty_last-cons : (line : List ℕ) (lines : List (List ℕ)) → 0 < length lines → without_empty_last (line ∷ lines) ≡ line ∷ without_empty_last lines
without_empty_last-cons line [] none = absurd (omega arith)
without_empty_last-cons [] (next ∷ lines) some = refl
without_empty_last-cons (b ∷ bs) (next ∷ lines) some = refl

not-end : (b : ℕ) → b ≢ 10 → (b == 10) ≡ false
not-end b other = grind (arith, nat_tests, other)

pub lines-joined : (lines : List (List ℕ)) → All Plain lines → lines_of (joined lines) ≡ lines
lines-joined [] plain = refl
lines-joined (line ∷ lines) plain =
    let is_end : ℕ → Bool = λ b. b == 10 in
    let pieces : slice_split is_end (joined (line ∷ lines)) ≡ line ∷ slice_split is_end (joined lines)
    = slice_split_at is_end line 10 (joined lines) (All-weaker (λ b. b ≢ 10) (λ b. (b == 10) ≡ false) not-end line (All-head Plain line lines plain)) refl in
    let some : 0 < length (slice_split is_end (joined lines)) = omega (arith, length-slice_split is_end (joined lines)) in
    ap without_empty_last pieces ∙ without_empty_last-cons line (slice_split is_end (joined lines)) some
    ∙ ap (λ (ls : List (List ℕ)). line ∷ ls) (lines-joined lines (All-tail Plain line lines plain))
