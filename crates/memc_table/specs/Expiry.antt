use Rattle.std.specs.Prelude.{ℕ, ℤ, pos, negsuc, ◌+◌, ◌==◌, nat_le, nat_lt, Bool, true, Option, Some, None, if◌then◌else◌}
use Rattle.memc_table.specs.declared.holding.Holding.{Holding}

-- 30 days: an exptime up to this many seconds is counted from the moment of the call
abbrev pub longest_offset : ℕ
longest_offset = 2592000

-- the second until which an item lives whose exptime is e, asked at the moment t
abbrev pub until_of : ℤ → ℕ → Option ℕ
until_of (negsuc _) t = Some 0
until_of (pos e) t = if e == 0 then None else (if nat_le e longest_offset then Some (t + e) else Some e)

-- an item is live at t where it has no end, or a later one
abbrev pub is_live : ℕ → Option ℕ → Bool
is_live t None = true
is_live t (Some until) = nat_lt t until

-- what is held, if it is live at t
abbrev pub live_at : ℕ → Option Holding → Option Holding
live_at t None = None
live_at t (Some holding) = if is_live t holding.until then Some holding else None
