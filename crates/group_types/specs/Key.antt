use Rattle.std.specs.Prelude.{ℕ, ◌≢◌, ◌<◌, ◌≤◌, List, length, All}

-- a byte that may stand in a key: no control character, no space, no 7F
abbrev pub IsKeyByte : ℕ → Type 0
IsKeyByte b = (32 < b) × (b ≢ 127)

-- memcached's limits of a key
pub record IsKey (bytes : List ℕ) : Type 0 where
  pub some : 1 ≤ length bytes
  pub short : length bytes ≤ 250
  pub plain : All IsKeyByte bytes
