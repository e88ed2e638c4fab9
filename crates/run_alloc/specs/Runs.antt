-- The maximal free runs as a list in the order of their addresses.
use Rattle.std.specs.Prelude.{◌≡◌, ℕ, zero, suc, ◌+◌, ◌<◌, ◌≤◌, ◌⊎◌, Bool, ◌&&◌, ◌||◌, not, List, [], ◌∷◌, ◌++◌, length, slice_index_or}
use Rattle.std.specs.Ordering.{nat_cmp}
use Rattle.std.specs.FinSet as set
use Rattle.std.specs.List.{Contains, list_any}
use Rattle.run_alloc.specs.Free.{in_run_at}
use Rattle.run_alloc.specs.declared.order.Run.{Run}

-- the addresses from `at` on, `len` of them
abbrev pub addresses_from : ℕ → ℕ → List ℕ
addresses_from at zero = []
addresses_from at (suc len) = at ∷ addresses_from (suc at) len

-- the addresses of all runs
abbrev pub addresses : List Run → List ℕ
addresses [] = []
addresses (run ∷ runs) = addresses_from run.at run.len ++ addresses runs

-- the set of the addresses of all runs
abbrev pub free_set : List Run → set.FinSet nat_cmp
free_set runs = set.from_list (addresses runs)

-- whether the address lies in one of the runs
abbrev pub in_runs : List Run → ℕ → Bool
in_runs runs a = list_any (λ run. in_run_at run.at run.len a) runs

-- the runs rise from `low` on, with a gap behind each, and the last gap ends at or before `high`
abbrev pub IsSpread : ℕ → List Run → ℕ → Type 0
IsSpread low [] high = low ≤ high
IsSpread low (run ∷ runs) high = (low ≤ run.at) × ((0 < run.len) × IsSpread (run.at + run.len + 1) runs high)

-- the run at the place
abbrev pub run_at : List Run → ℕ → Run
run_at runs place = slice_index_or runs place (record { at = 0; len = 0 })

-- the run was taken out: the runs lie within the same bounds, and have its addresses no more
pub record IsCut (old new : List Run) (at len : ℕ) : Type 0 where
  pub spread : (high : ℕ) → IsSpread 0 old high → IsSpread 0 new high
  pub taken : (a : ℕ) → in_runs new a ≡ (in_runs old a && not (in_run_at at len a))

-- the run was added: the runs lie within the same bounds, and have its addresses besides
pub record IsJoined (old new : List Run) (at len : ℕ) : Type 0 where
  pub spread : (high : ℕ) → at + len < high → IsSpread 0 old high → IsSpread 0 new high
  pub given : (a : ℕ) → in_runs new a ≡ (in_runs old a || in_run_at at len a)

-- no address of one run is in the other, nor beside it
abbrev pub IsApart : Run → Run → Type 0
IsApart run other = (other.at + other.len < run.at) ⊎ (run.at + run.len < other.at)

-- no address of one run is in the other
abbrev pub IsClear : Run → Run → Type 0
IsClear run other = (other.at + other.len ≤ run.at) ⊎ (run.at + run.len ≤ other.at)

-- the wider run has the addresses of the run and of those that were taken out
pub record IsWidened (old new : List Run) (run wide : Run) : Type 0 where
  pub spread : (high : ℕ) → IsSpread 0 old high → IsSpread 0 new high
  pub given : (a : ℕ) → (in_runs new a || in_run_at wide.at wide.len a) ≡ (in_runs old a || in_run_at run.at run.len a)
  pub some : run.len ≤ wide.len
  pub inside : (high : ℕ) → run.at + run.len < high → IsSpread 0 old high → wide.at + wide.len < high

-- the run has `want` addresses, and each other that has as many is longer, or as long and not below it
pub record IsShortest (runs : List Run) (want : ℕ) (run : Run) : Type 0 where
  pub kept : Contains runs run
  pub fits : want ≤ run.len
  pub least : (other : Run) → Contains runs other → want ≤ other.len → (run.len < other.len) ⊎ ((run.len ≡ other.len) × (run.at ≤ other.at))

-- both lists have the same runs
pub record IsSame (xs ys : List Run) : Type 0 where
  pub long : length ys ≡ length xs
  pub there : (run : Run) → Contains xs run → Contains ys run
  pub back : (run : Run) → Contains ys run → Contains xs run
