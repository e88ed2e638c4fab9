use Rattle.std.specs.Prelude.{ℕ, List, []}
use Rattle.memc_table.specs.declared.act.Act.{Act}
use Rattle.memc_table.specs.declared.act.Act.TheVariants.{Get, Set, Add, Replace, Cas, Delete, Touch, Append, Prepend, Incr, Decr}

-- the key that is asked
abbrev pub key_of : Act → List ℕ
key_of (Get key) = key
key_of (Set key _ _ _) = key
key_of (Add key _ _ _) = key
key_of (Replace key _ _ _) = key
key_of (Cas key _ _ _ _) = key
key_of (Delete key) = key
key_of (Touch key _) = key
key_of (Append key _) = key
key_of (Prepend key _) = key
key_of (Incr key _) = key
key_of (Decr key _) = key

-- the value that is brought, which has no byte where the act brings none
abbrev pub act_value : Act → List ℕ
act_value (Set _ _ _ value) = value
act_value (Add _ _ _ value) = value
act_value (Replace _ _ _ value) = value
act_value (Cas _ _ _ _ value) = value
act_value (Append _ value) = value
act_value (Prepend _ value) = value
act_value _ = []
