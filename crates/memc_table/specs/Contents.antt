use Rattle.std.specs.Prelude.{ℕ, ◌+◌, List, length, replicate, slice_index, slice_set, Option, None, if◌then◌else◌}
use Rattle.std.specs.Ordering.{is_eq, nat_cmp}
use Rattle.std.specs.Cmp.Lexicographic.{slice_cmp}
use Rattle.group_types.specs.Hash.{home_of}
use Rattle.memc_table.specs.Act.{key_of}
use Rattle.memc_table.specs.Asked.{Asked}
use Rattle.memc_table.specs.Expiry.{live_at}
use Rattle.memc_table.specs.Ruling.{ruling_of}
use Rattle.memc_table.specs.declared.holding.Holding.{Holding}
use Rattle.memc_table.specs.declared.reply.Reply.{Reply}
use Rattle.memc_table.specs.declared.ruling.Ruling.{Ruling}
use Rattle.memc_table.specs.declared.ruling.Ruling.TheVariants.{Refused, Accepted}

-- a table: what is held for each key, and for each partition the number of its updates
pub record Contents : Type 0 where
  pub items : List ℕ → Option Holding
  pub counts : List ℕ

-- the table of k partitions that holds nothing
abbrev pub empty_table : ℕ → Contents
empty_table k = record { items = λ _. None; counts = replicate k 0 }

-- the partition of a key
abbrev pub partition_of : Contents → List ℕ → ℕ
partition_of t key = home_of key (length t.counts)

-- the number of the partition's updates
abbrev pub count_of : Contents → List ℕ → ℕ
count_of t key = slice_index t.counts (partition_of t key)

-- the items, but for one key that now holds this
abbrev pub holding_at : List ℕ → Option Holding → (List ℕ → Option Holding) → List ℕ → Option Holding
holding_at key now items other = if is_eq (slice_cmp nat_cmp key other) then now else items other

-- what comes of an op on the table
abbrev pub ruling_on : Contents → Asked → Ruling
ruling_on t op = ruling_of op.moment (count_of t (key_of op.act) + 1) op.act (live_at op.moment (t.items (key_of op.act)))

-- the reply that a ruling gives
abbrev pub reply_in : Ruling → Reply
reply_in (Refused reply) = reply
reply_in (Accepted reply _) = reply

-- the table after a ruling on a key: a refused op leaves it, an accepted one changes the key's item
-- and raises the partition's count
abbrev pub after_ruling : Contents → List ℕ → Ruling → Contents
after_ruling t key (Refused _) = t
after_ruling t key (Accepted _ leaves) = record {
  items = holding_at key leaves t.items;
  counts = slice_set t.counts (partition_of t key) (count_of t key + 1);
}

-- the reply to an op
abbrev pub reply_of : Contents → Asked → Reply
reply_of t op = reply_in (ruling_on t op)

-- the table after an op
abbrev pub table_after : Contents → Asked → Contents
table_after t op = after_ruling t (key_of op.act) (ruling_on t op)
