-- Free runs after some were taken or given back.
use Rattle.std.specs.Prelude.{◌≡◌, ℕ, ◌+◌, ◌≤◌, Bool, not, ◌&&◌, ◌||◌}
use Rattle.run_alloc.specs.Free.{AddressSpace, is_free_address}

-- these addresses are free no longer, which took room for `cost` runs at most
pub record TakesAddresses (old new : AddressSpace) (gone : ℕ → Bool) (cost : ℕ) : Type 0 where
  pub size : new.size ≡ old.size
  pub free : (a : ℕ) → is_free_address new a ≡ (is_free_address old a && not (gone a))
  pub spare : old.spare ≤ new.spare + cost

-- these addresses are free again
pub record GivesAddresses (old new : AddressSpace) (back : ℕ → Bool) (cost : ℕ) : Type 0 where
  pub size : new.size ≡ old.size
  pub free : (a : ℕ) → is_free_address new a ≡ (is_free_address old a || back a)
  pub spare : old.spare ≤ new.spare + cost
