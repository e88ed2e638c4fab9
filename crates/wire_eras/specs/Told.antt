-- How the log of a later group is told: its cas numbers go on from the updates that each partition had logged before.
use Rattle.std.specs.Prelude.{ℕ, ◌≡◌, List, [], ◌∷◌, ⊤}
use Rattle.group_types.specs.Hash.{home_of}
use Rattle.memc_table.specs.Act.{key_of}
use Rattle.memc_table.specs.Contents.{Contents, empty_table}
use Rattle.group_calls.specs.Log.{table_of}
use Rattle.group_calls.specs.Turns.{name_of}
use Rattle.group_calls.specs.declared.entry.Entry.{Entry}
use Rattle.group_eras.specs.Told.{Bases, based_reply, op_for_era}

-- the table that a log leaves
abbrev pub table_left : ℕ → List Entry → Contents
table_left k log = table_of (empty_table k) log

-- the base of each partition: how many updates of it the log has
abbrev pub bases_of : ℕ → List Entry → Bases
bases_of k log = (table_left k log).counts

-- an entry as it is told: of the same call, with the op as its client asked it, and with the base added to its cas number
pub record IsToldAs (bases : Bases) (k : ℕ) (entry told : Entry) : Type 0 where
  pub name : name_of told ≡ name_of entry
  pub op : entry.op ≡ op_for_era bases k told.op
  pub reply : told.reply ≡ based_reply bases (home_of (key_of told.op.act) k) entry.reply

-- entry by entry
abbrev pub AreToldAs : Bases → ℕ → List Entry → List Entry → Type 0
AreToldAs bases k [] [] = ⊤
AreToldAs bases k (x ∷ xs) (y ∷ ys) = IsToldAs bases k x y × AreToldAs bases k xs ys
AreToldAs bases k [] (y ∷ ys) = ⊥
AreToldAs bases k (x ∷ xs) [] = ⊥
