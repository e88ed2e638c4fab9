-- Free addresses of a space, and the free run that serves a length.
use Rattle.std.specs.Prelude.{◌≡◌, ℕ, suc, ◌+◌, ◌<◌, ◌≤◌, Bool, true, false, ◌&&◌, nat_le, nat_lt, refl}
use Rattle.std.specs.Coded.{Coded, code_by, coded×, coded_ℕ}
use Rattle.std.specs.Ordering.{nat_cmp}
use Rattle.std.specs.FinSet as set

-- a space of `size` addresses, those of them that are free, and how many runs can be given back or cut without memory
pub record AddressSpace : Type 0 where
  pub size : ℕ
  pub free : set.FinSet nat_cmp
  pub spare : ℕ

-- a space is stored as its three parts
abbrev pub space_code : Coded AddressSpace
space_code =
    code_by (ℕ × (set.FinSet nat_cmp × ℕ)) (coded× coded_ℕ (coded× (set.code coded_ℕ) coded_ℕ))
    (λ s. (s.size, (s.free, s.spare))) (λ p. record { size = p.0; free = p.1.0; spare = p.1.1 }) (λ _. refl)

-- whether the address is free
abbrev pub is_free_address : AddressSpace → ℕ → Bool
is_free_address s a = set.contains s.free a

-- whether the address lies in the run of `len` addresses from `at` on
abbrev pub in_run_at : ℕ → ℕ → ℕ → Bool
in_run_at at len a = nat_le at a && nat_lt a (at + len)

-- each address of the run is free
abbrev pub AllFree : (ℕ → Bool) → ℕ → ℕ → Type 0
AllFree free at len = (a : ℕ) → at ≤ a → a < at + len → free a ≡ true

-- no address of the run is free
abbrev pub NoneFree : (ℕ → Bool) → ℕ → ℕ → Type 0
NoneFree free at len = (a : ℕ) → at ≤ a → a < at + len → free a ≡ false

-- a maximal free run: its addresses are free, and neither neighbour in the space is
pub record IsFreeRun (size : ℕ) (free : ℕ → Bool) (at len : ℕ) : Type 0 where
  pub some : 0 < len
  pub inside : at + len ≤ size
  pub all_free : AllFree free at len
  pub below : (a : ℕ) → suc a ≡ at → free a ≡ false
  pub above : at + len < size → free (at + len) ≡ false

-- the shortest maximal free run that has `want` addresses, the lowest of them on a tie
pub record IsBestRun (size : ℕ) (free : ℕ → Bool) (want at len : ℕ) : Type 0 where
  pub run : IsFreeRun size free at len
  pub fits : want ≤ len
  pub shortest : (b l : ℕ) → IsFreeRun size free b l → want ≤ l → len ≤ l
  pub lowest : (b : ℕ) → IsFreeRun size free b len → at ≤ b

-- the best run for `want` addresses begins at `at`
abbrev pub IsPlace : ℕ → (ℕ → Bool) → ℕ → ℕ → Type 0
IsPlace size free want at = (len : ℕ) × IsBestRun size free want at len

-- no free run has `want` addresses
abbrev pub NoPlace : ℕ → (ℕ → Bool) → ℕ → Type 0
NoPlace size free want = (at len : ℕ) → IsFreeRun size free at len → len < want
