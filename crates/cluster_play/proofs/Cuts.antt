-- Where a line has its first space.
use Rattle.std.proofs.Common.{ℕ, zero, suc, ◌≡◌, ◌+◌, ◌<◌, ◌==◌, Bool, true, false, List, [], ◌∷◌, length, take, drop}
use Rattle.std.proofs.Common.{slice_index, Some, None, if◌then◌else◌, refl, ap, ◌∙◌, arith}
use Rattle.cluster_run.specs.Meaning.{behind, cut_at_space}

false_of : (b : Bool) → (b ≡ true → ⊥) → b ≡ false
false_of true differs = absurd (differs refl)
false_of false _ = refl

pub cut-at : (line : List ℕ) (end : ℕ) → end < length line → ((k : ℕ) → k < end → (slice_index line k == 32) ≡ true → ⊥) → (slice_index line end == 32) ≡ true
    → cut_at_space line ≡ Some (take end line, drop (end + 1) line)
cut-at [] end within before here = absurd (omega (arith, within))
cut-at (b ∷ bs) zero within before here = ap (λ (t : Bool). if t then Some ([], bs) else behind b (cut_at_space bs)) here
cut-at (b ∷ bs) (suc end) within before here =
    ap (λ (t : Bool). if t then Some ([], bs) else behind b (cut_at_space bs)) (false_of (b == 32) (before 0 (omega arith)))
    ∙ ap (behind b) (cut-at bs end (omega (arith, within)) (λ k below. before (suc k) (omega (arith, below))) here)
    ∙ ap (λ (n : ℕ). Some (b ∷ take end bs, drop n (b ∷ bs))) one
  where
    one : suc (end + 1) ≡ suc end + 1
    one = omega arith

pub cut-none : (line : List ℕ) → ((k : ℕ) → k < length line → (slice_index line k == 32) ≡ true → ⊥) → cut_at_space line ≡ None
cut-none [] none = refl
cut-none (b ∷ bs) none =
    ap (λ (t : Bool). if t then Some ([], bs) else behind b (cut_at_space bs)) (false_of (b == 32) (none 0 (omega arith)))
    ∙ ap (behind b) (cut-none bs (λ k below. none (suc k) (omega (arith, below))))
