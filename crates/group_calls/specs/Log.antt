use Rattle.std.specs.Prelude.{ℕ, ◌≡◌, List, [], ◌∷◌}
use Rattle.memc_table.specs.Contents.{Contents, empty_table, reply_of, table_after}
use Rattle.group_calls.specs.declared.entry.Entry.{Entry}

-- the table that the entries of a log leave, from this table on
abbrev pub table_of : Contents → List Entry → Contents
table_of t [] = t
table_of t (entry ∷ entries) = table_of (table_after t entry.op) entries

-- each entry has the reply of the table that the entries before it leave, from this table on
abbrev pub IsLegalFrom : Contents → List Entry → Type 0
IsLegalFrom t [] = Unit {0}
IsLegalFrom t (entry ∷ entries) = (entry.reply ≡ reply_of t entry.op) × IsLegalFrom (table_after t entry.op) entries

-- a legal log: each entry's reply is the one that the table gives, which begins empty
abbrev pub IsLegal : ℕ → List Entry → Type 0
IsLegal k log = IsLegalFrom (empty_table k) log
