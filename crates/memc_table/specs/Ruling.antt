use Rattle.std.specs.Prelude.{ℕ, ℤ, ◌+◌, ◌-◌, ◌%◌, ◌^◌, ◌==◌, nat_le, List, ◌++◌, length, Option, Some, None, if◌then◌else◌, ⊤}
use Rattle.std.specs.Fmt.{decimal}
use Rattle.memc_table.specs.declared.act.Act.{Act}
use Rattle.memc_table.specs.declared.act.Act.TheVariants.{Get, Set, Add, Replace, Cas, Delete, Touch, Append, Prepend, Incr, Decr}
use Rattle.memc_table.specs.declared.holding.Holding.{Holding}
use Rattle.memc_table.specs.declared.reply.Reply.TheVariants.{Value, Miss, Stored, NotStored, Exists, NotFound, Deleted, Touched, Number, NotNumber, TooLarge}
use Rattle.memc_table.specs.declared.ruling.Ruling.{Ruling}
use Rattle.memc_table.specs.declared.ruling.Ruling.TheVariants.{Refused, Accepted}
use Rattle.memc_table.specs.Expiry.{until_of}
use Rattle.memc_table.specs.Numeral.{number_of}

-- the longest value, in bytes
abbrev pub longest_value : ℕ
longest_value = 1048576

-- stored anew, as update n at the moment t
abbrev pub anew : ℕ → ℕ → ℕ → ℤ → List ℕ → Ruling
anew t n flags expiry value = Accepted Stored (Some (record {
  item = record { flags = flags; cas = n; value = value };
  until = until_of expiry t;
}))

-- the item with another end
abbrev pub touched : ℕ → Holding → ℤ → Ruling
touched t h expiry = Accepted Touched (Some (record { item = h.item; until = until_of expiry t }))

-- the item with another value, as update n
abbrev pub changed : ℕ → Holding → List ℕ → Option Holding
changed n h value = Some (record { item = record { flags = h.item.flags; cas = n; value = value }; until = h.until })

-- append and prepend: the value that both make, where it isn't too long
abbrev pub joined : ℕ → Holding → List ℕ → Ruling
joined n h value = if nat_le (length value) longest_value then Accepted Stored (changed n h value) else Refused TooLarge

-- incr and decr: the number r in decimal digits
abbrev pub counted : ℕ → Holding → ℕ → Ruling
counted n h r = Accepted (Number r) (changed n h (decimal r))

-- incr: the number of the value and `by` more, modulo 2^64
abbrev pub raised : ℕ → Holding → ℕ → Option ℕ → Ruling
raised n h by None = Refused NotNumber
raised n h by (Some v) = counted n h ((v + by) % 2 ^ 64)

-- decr: the number of the value and `by` less, or 0
abbrev pub lowered : ℕ → Holding → ℕ → Option ℕ → Ruling
lowered n h by None = Refused NotNumber
lowered n h by (Some v) = counted n h (v - by)

-- the reply table: what comes of an act at the moment t on a key with this live item, where an
-- accepted act is update n of the key's partition
abbrev pub ruling_of : ℕ → ℕ → Act → Option Holding → Ruling
ruling_of t n (Get _) None = Refused Miss
ruling_of t n (Get _) (Some h) = Refused (Value h.item)
ruling_of t n (Set _ flags expiry value) _ = anew t n flags expiry value
ruling_of t n (Add _ flags expiry value) None = anew t n flags expiry value
ruling_of t n (Add _ _ _ _) (Some _) = Refused NotStored
ruling_of t n (Replace _ _ _ _) None = Refused NotStored
ruling_of t n (Replace _ flags expiry value) (Some _) = anew t n flags expiry value
ruling_of t n (Cas _ _ _ _ _) None = Refused NotFound
ruling_of t n (Cas _ flags expiry cas value) (Some h) = if h.item.cas == cas then anew t n flags expiry value else Refused Exists
ruling_of t n (Delete _) None = Refused NotFound
ruling_of t n (Delete _) (Some _) = Accepted Deleted None
ruling_of t n (Touch _ _) None = Refused NotFound
ruling_of t n (Touch _ expiry) (Some h) = touched t h expiry
ruling_of t n (Append _ _) None = Refused NotStored
ruling_of t n (Append _ value) (Some h) = joined n h (h.item.value ++ value)
ruling_of t n (Prepend _ _) None = Refused NotStored
ruling_of t n (Prepend _ value) (Some h) = joined n h (value ++ h.item.value)
ruling_of t n (Incr _ _) None = Refused NotFound
ruling_of t n (Incr _ by) (Some h) = raised n h by (number_of h.item.value)
ruling_of t n (Decr _ _) None = Refused NotFound
ruling_of t n (Decr _ by) (Some h) = lowered n h by (number_of h.item.value)

-- a ruling that hands out a value or leaves an item
abbrev pub HoldsItem : Ruling → Type 0
HoldsItem (Refused (Value item)) = ⊤
HoldsItem (Refused Miss) = ⊥
HoldsItem (Refused Stored) = ⊥
HoldsItem (Refused NotStored) = ⊥
HoldsItem (Refused Exists) = ⊥
HoldsItem (Refused NotFound) = ⊥
HoldsItem (Refused Deleted) = ⊥
HoldsItem (Refused Touched) = ⊥
HoldsItem (Refused (Number n)) = ⊥
HoldsItem (Refused NotNumber) = ⊥
HoldsItem (Refused TooLarge) = ⊥
HoldsItem (Accepted reply None) = ⊥
HoldsItem (Accepted reply (Some holding)) = ⊤
