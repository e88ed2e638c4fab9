use Rattle.std.specs.Prelude.{ℕ, ◌*◌, ◌%◌, List, [], ◌∷◌, bit_xor}

-- FNV-1a of 32 bits, of the bytes that follow a hash
abbrev pub fnv1a_from : ℕ → List ℕ → ℕ
fnv1a_from hash [] = hash
fnv1a_from hash (byte ∷ bytes) = fnv1a_from (bit_xor hash byte * 16777619 % 4294967296) bytes

-- FNV-1a of 32 bits
abbrev pub fnv1a : List ℕ → ℕ
fnv1a bytes = fnv1a_from 2166136261 bytes

-- the partition that a key lives in, of k
abbrev pub home_of : List ℕ → ℕ → ℕ
home_of key k = fnv1a key % k
