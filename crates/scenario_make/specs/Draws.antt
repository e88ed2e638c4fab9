-- The numbers that a state of 64 bits gives, one after the other.
use Rattle.std.specs.Prelude.{ℕ, zero, suc, ◌+◌, ◌*◌, ◌/◌, ◌%◌, ◌^◌}

-- the state after a draw
abbrev pub drawn : ℕ → ℕ
drawn s = (s * 6364136223846793005 + 1442695040888963407) % 2 ^ 64

-- the state after n draws
abbrev pub after_draws : ℕ → ℕ → ℕ
after_draws s zero = s
after_draws s (suc n) = after_draws (drawn s) n

-- the n-th number that is drawn from a state on, below a limit
abbrev pub draw : ℕ → ℕ → ℕ → ℕ
draw s n limit = after_draws s n / 2 ^ 33 % limit
