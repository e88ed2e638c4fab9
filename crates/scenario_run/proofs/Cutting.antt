use Rattle.std.proofs.Common.{◌≡◌, ℕ, ◌+◌, ◌<◌, ◌≤◌, ◌==◌, Bool, true, false, List, [], ◌∷◌, ◌++◌, length, take, drop}
use Rattle.std.proofs.Common.{get_or, slice_index, All, add-one, refl, sym, ap, ◌∙◌, subst, arith}
use Rattle.std.proofs.Math.Seq.{drop-cons, take-length}
use Rattle.std.proofs.lemmas.Grind.{get_or_default_zero}
use Rattle.std.proofs.lemmas.List.{take-append-drop, length-take-le, get_or-take}
use Rattle.std.proofs.lemmas.List.Splits.{slice_split_at, slice_split_none, length-slice_split}
use Rattle.std.specs.List.{onto_first, slice_split}
use Rattle.std.specs.Prelude.{cond}
use Rattle.scenario_run.specs.Lines.{lines_of, without_empty_last}

without_empty_last-cons : (line : List ℕ) (lines : List (List ℕ)) → 0 < length lines → without_empty_last (line ∷ lines) ≡ line ∷ without_empty_last lines
without_empty_last-cons line [] none = absurd (omega arith)
without_empty_last-cons [] (next ∷ lines) some = refl
without_empty_last-cons (b ∷ bs) (next ∷ lines) some = refl

without_empty_last-one : (line : List ℕ) → 0 < length line → without_empty_last (line ∷ []) ≡ line ∷ []
without_empty_last-one [] none = absurd (omega arith)
without_empty_last-one (b ∷ bs) some = refl

false_of : (b : Bool) → (b ≡ true → ⊥) → b ≡ false
false_of true differs = absurd (differs refl)
false_of false _ = refl

-- none of the first bytes ends a line
is_plain : (text : List ℕ) (end : ℕ) → end ≤ length text → ((k : ℕ) → k < end → (slice_index text k == 10) ≡ true → ⊥)
    → All (λ b. (b == 10) ≡ false) (take end text)
is_plain text end within before k d below =
    let low : k < end = omega (arith, length-take-le end text within) in
    let high : k < length text = omega arith in
    let same : get_or (take end text) k d ≡ slice_index text k = get_or-take end text k d low ∙ get_or_default_zero text k d high in
    subst (λ (b : ℕ). (b == 10) ≡ false) (sym same) (false_of (slice_index text k == 10) (before k low))

-- a line that ends at this place is the first
pub lines_of-cut : (text : List ℕ) (end : ℕ) → end < length text
    → ((k : ℕ) → k < end → (slice_index text k == 10) ≡ true → ⊥) → (slice_index text end == 10) ≡ true
    → lines_of text ≡ take end text ∷ lines_of (drop (end + 1) text)
lines_of-cut text end within before here =
    let is_end : ℕ → Bool = λ b. b == 10 in
    let rest : List ℕ = drop (end + 1) text in
    let tail : drop end text ≡ slice_index text end ∷ rest = rw add-one (drop-cons text end 0 within) in
    let whole : text ≡ take end text ++ slice_index text end ∷ rest = sym (take-append-drop end text) ∙ ap (λ (xs : List ℕ). take end text ++ xs) tail in
    let pieces : slice_split is_end text ≡ take end text ∷ slice_split is_end rest = ap (slice_split is_end) whole
    ∙ slice_split_at is_end (take end text) (slice_index text end) rest (is_plain text end (omega arith) before)
    here in
    let some : 0 < length (slice_split is_end rest) = omega (arith, length-slice_split is_end rest) in
    ap without_empty_last pieces ∙ without_empty_last-cons (take end text) (slice_split is_end rest) some

-- a text without a line end is one line
pub lines_of-last : (text : List ℕ) → 0 < length text → ((k : ℕ) → k < length text → (slice_index text k == 10) ≡ true → ⊥) → lines_of text ≡ text ∷ []
lines_of-last text some none =
    let plain = subst (All (λ b. (b == 10) ≡ false)) (take-length text) (is_plain text (length text) (omega arith) none) in
    ap without_empty_last (slice_split_none (λ b. b == 10) text plain) ∙ without_empty_last-one text some

first-of : (b : ℕ) (ends : Bool) (pieces : List (List ℕ)) → 0 < length pieces → (line : List ℕ)
    × (lines : List (List ℕ)) × (without_empty_last (cond ends ([] ∷ pieces) (onto_first b pieces)) ≡ line ∷ lines)
first-of b ends [] some = absurd (omega arith)
first-of b true (p ∷ ps) some = ([], without_empty_last (p ∷ ps), refl)
first-of b false (p ∷ []) some = (b ∷ p, [], refl)
first-of b false (p ∷ q ∷ ps) some = (b ∷ p, without_empty_last (q ∷ ps), refl)

-- a text that isn't empty has a line
pub some_lines : (text : List ℕ) → 0 < length text → (line : List ℕ) × (lines : List (List ℕ)) × (lines_of text ≡ line ∷ lines)
some_lines [] none = absurd (omega arith)
some_lines (b ∷ bs) some = first-of b (b == 10) (slice_split (λ c. c == 10) bs) (let long = length-slice_split (λ c. c == 10) bs in omega (arith, long))
