-- How many connections were served, and why no more.
use Rattle.std.specs.Prelude.{ℕ, ◌≡◌, ◌≢◌, ◌+◌, ◌≤◌, ◌⊎◌, Bool, true}

-- a count within a limit, where 0 is no limit
abbrev pub IsWithinLimit : ℕ → ℕ → Type 0
IsWithinLimit limit n = limit ≢ 0 → n ≤ limit

-- this many connections were accepted in between, and not more than the limit
pub record HasAccepted (before now limit n : ℕ) : Type 0 where
  pub count : now ≡ before + n
  pub within : IsWithinLimit limit n

-- no further connection is to be served: the limit was reached, or the listener said that none comes
abbrev pub IsDone : ℕ → ℕ → Bool → Type 0
IsDone limit n over = ((limit ≢ 0) × (n ≡ limit)) ⊎ (over ≡ true)
