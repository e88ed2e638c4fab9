use Rattle.std.specs.BTreeMap.{get}
use Rattle.std.specs.Ordering.{nat_cmp}
use Rattle.std.specs.Cmp.Lexicographic.{slice_cmp}
use Rattle.memc_table.specs.Contents.{Contents}
use Rattle.memc_table.specs.declared.table.Table.{Table}

-- the table that a value stands for
abbrev pub contents : Table → Contents
contents t = record { items = λ key. get (slice_cmp nat_cmp) t.items key; counts = t.counts.items }
