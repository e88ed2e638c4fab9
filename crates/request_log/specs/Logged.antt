-- A log of numbered updates, as contracts see it.
use Rattle.std.specs.Prelude.{◌≡◌, ℕ, ◌+◌, Bool, List, [], ◌∷◌, length, ⊤, Option, Some, None, if◌then◌else◌}
use Rattle.std.specs.Option.{option_or}

-- the number up to which updates are applied, the updates above it in order, and how many more fit without memory
pub record LogState (U : Type 0) : Type 0 where
  pub applied : ℕ
  pub updates : List U
  pub spare : ℕ

-- the number of the last update, or the applied number where there is none
abbrev pub last_number : {U : Type 0} → LogState U → ℕ
last_number log = log.applied + length log.updates

-- the updates are numbered one by one from above `base` on
abbrev pub IsNumbered : {U : Type 0} → (U → ℕ) → ℕ → List U → Type 0
IsNumbered number base [] = ⊤
IsNumbered number base (update ∷ rest) = (number update ≡ base + 1) × IsNumbered number (base + 1) rest

-- the last update that passes the test
abbrev pub find_last : {U : Type 0} → (U → Bool) → List U → Option U
find_last test [] = None
find_last test (update ∷ rest) = option_or (find_last test rest) (if test update then Some update else None)
