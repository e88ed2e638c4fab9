-- Entries that are written one behind the other.
use Rattle.std.proofs.Common.{ℕ, ◌≡◌, List, [], ◌∷◌, ◌++◌, refl, sym, ap, ◌∙◌, append_assoc}
use Rattle.scenario_run.specs.Marks.{entries_by}

pub entries-append : {E : Type 0} (text : E → List ℕ) (a b : List E) → entries_by text (a ++ b) ≡ entries_by text a ++ entries_by text b
entries-append text [] b = refl
entries-append text (x ∷ a) b = ap (λ (ys : List ℕ). text x ++ 10 ∷ ys) (entries-append text a b)
    ∙ sym (append_assoc (text x) (10 ∷ entries_by text a) (entries_by text b))
