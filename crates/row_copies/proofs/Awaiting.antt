-- A copy that a mark comes for.
use Rattle.std.proofs.Common.{ℕ, ◌≡◌, ◌↔◌, Bool, true, false, not, Option, Some, None, IsTrue, is_some, refl}

-- there is no number
pub is_bare : (b : Bool) (o : Option ℕ) → is_some o ≡ not b → IsTrue b ↔ (o ≡ None)
is_bare true None is = (λ yes. refl, λ none. refl)
is_bare true (Some n) is = absurd (cc is)
is_bare false None is = absurd (cc is)
is_bare false (Some n) is = (λ yes. absurd (cc yes), λ none. absurd (cc none))
