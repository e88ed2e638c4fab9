-- A legal log of a cluster: one memcached table over all keys, with a count for each group and partition.
use Rattle.std.specs.Prelude.{ℕ, ◌≡◌, ◌==◌, List, [], ◌∷◌, Option, None, replicate, if◌then◌else◌}
use Rattle.memc_table.specs.Contents.{Contents, reply_of, table_after}
use Rattle.memc_table.specs.declared.holding.Holding.{Holding}
use Rattle.group_layout.specs.Cluster.{ClusterEntry}

-- what is held for each key, and for each group the number of updates of each of its partitions
pub record ClusterTable : Type 0 where
  pub items : List ℕ → Option Holding
  pub counts : ℕ → List ℕ

-- the table that holds nothing, for groups of k partitions
abbrev pub no_items : ℕ → ClusterTable
no_items k = record { items = λ _. None; counts = λ _. replicate k 0 }

-- the table as a group has it: with the counts of its own partitions
abbrev pub seen_by : ClusterTable → ℕ → Contents
seen_by t j = record { items = t.items; counts = t.counts j }

-- the table after an entry: its op is done on the table as its group has it
abbrev pub after_entry : ClusterTable → ClusterEntry → ClusterTable
after_entry t e =
    let next : Contents = table_after (seen_by t e.0) e.1.op in
    record { items = next.items; counts = λ i. if i == e.0 then next.counts else t.counts i }

-- each entry has the reply of the table that the entries before it leave, from this table on
abbrev pub IsClusterLegalFrom : ClusterTable → List ClusterEntry → Type 0
IsClusterLegalFrom t [] = Unit {0}
IsClusterLegalFrom t (e ∷ es) = (e.1.reply ≡ reply_of (seen_by t e.0) e.1.op) × IsClusterLegalFrom (after_entry t e) es

-- a legal log: each entry's reply is the one that the table gives, which begins empty
abbrev pub IsClusterLegal : ℕ → List ClusterEntry → Type 0
IsClusterLegal k log = IsClusterLegalFrom (no_items k) log
