-- The key of an op stays as its cas number changes, and so does its value.
use Rattle.std.proofs.Common.{◌≡◌, ℕ, refl}
use Rattle.memc_table.specs.Act.{act_value, key_of}
use Rattle.memc_table.specs.declared.act.Act.{Act}
use Rattle.memc_table.specs.declared.act.Act.TheVariants.{Add, Append, Cas, Decr, Delete, Get, Incr, Prepend, Replace, Set, Touch}
use Rattle.group_eras.specs.Told.{with_cas}

pub key-same : (f : ℕ → ℕ) (act : Act) → key_of (with_cas f act) ≡ key_of act
key-same f (Cas key flags expiry cas value) = refl
key-same f (Get key) = refl
key-same f (Set key flags expiry value) = refl
key-same f (Add key flags expiry value) = refl
key-same f (Replace key flags expiry value) = refl
key-same f (Delete key) = refl
key-same f (Touch key expiry) = refl
key-same f (Append key value) = refl
key-same f (Prepend key value) = refl
key-same f (Incr key n) = refl
key-same f (Decr key n) = refl

pub value-same : (f : ℕ → ℕ) (act : Act) → act_value (with_cas f act) ≡ act_value act
value-same f (Cas key flags expiry cas value) = refl
value-same f (Get key) = refl
value-same f (Set key flags expiry value) = refl
value-same f (Add key flags expiry value) = refl
value-same f (Replace key flags expiry value) = refl
value-same f (Delete key) = refl
value-same f (Touch key expiry) = refl
value-same f (Append key value) = refl
value-same f (Prepend key value) = refl
value-same f (Incr key n) = refl
value-same f (Decr key n) = refl
