-- Rows of one process: the table, spaces and moments. Each is a script, by lines, and what it writes.
use Rattle.std.specs.Prelude.{pos, negsuc, [], ◌∷◌, codes, replicate}
use Rattle.group_types.specs.declared.process.ProcessId.TheVariants.{DataNode}
use Rattle.memc_table.specs.declared.act.Act.TheVariants.{Get, Set, Add, Replace, Cas, Delete, Touch, Append, Prepend, Incr, Decr}
use Rattle.scenario_text.specs.declared.line.Line.TheVariants.{Ask, Time}
use Rattle.group_rows.specs.Script.{shape, writes}

-- the smallest script
abbrev pub SmallestScript : Type 0
SmallestScript = writes (shape 2 0 4 16) (
    Ask 0 (DataNode 0) (Set (codes "a") 0 (pos 0) (65 ∷ [])) ∷
    Ask 0 (DataNode 0) (Get (codes "a")) ∷ [])
    (
    codes "reply stored" ∷
    codes "= 0.0 set a 0 41 stored" ∷
    codes "reply value 0 1 41" ∷
    codes "= 0.1 get a value 0 1 41" ∷ [])

-- a value of no bytes in a full space
abbrev pub FullSpace : Type 0
FullSpace = writes (shape 1 0 1 16) (
    Ask 0 (DataNode 0) (Set (codes "b") 0 (pos 0) (replicate 16 97)) ∷
    Ask 0 (DataNode 0) (Set (codes "a") 0 (pos 0) []) ∷
    Ask 0 (DataNode 0) (Get (codes "a")) ∷
    Ask 0 (DataNode 0) (Set (codes "c") 0 (pos 0) (99 ∷ [])) ∷ [])
    (
    codes "reply stored" ∷
    codes "= 0.0 set b 0 61616161616161616161616161616161 stored" ∷
    codes "reply stored" ∷
    codes "= 0.1 set a 0 - stored" ∷
    codes "reply value 0 2 -" ∷
    codes "= 0.2 get a value 0 2 -" ∷
    codes "no_space" ∷ [])

-- a touch in a full space takes none of it
abbrev pub TouchInFullSpace : Type 0
TouchInFullSpace = writes (shape 1 0 1 16) (
    Ask 0 (DataNode 0) (Set (codes "b") 0 (pos 0) (replicate 16 97)) ∷
    Ask 0 (DataNode 0) (Touch (codes "b") (pos 100)) ∷
    Ask 0 (DataNode 0) (Set (codes "c") 0 (pos 0) (99 ∷ [])) ∷ [])
    (
    codes "reply stored" ∷
    codes "= 0.0 set b 0 61616161616161616161616161616161 stored" ∷
    codes "reply touched" ∷
    codes "= 0.1 touch b 100 touched" ∷
    codes "no_space" ∷ [])

-- the table's cases
abbrev pub TableCases : Type 0
TableCases = writes (shape 1 0 1 16) (
    Ask 0 (DataNode 0) (Set (codes "a") 0 (pos 0) (1 ∷ [])) ∷
    Ask 1 (DataNode 0) (Set (codes "a") 0 (pos 0) (2 ∷ [])) ∷
    Ask 0 (DataNode 0) (Cas (codes "a") 0 (pos 0) 1 (3 ∷ [])) ∷
    Ask 0 (DataNode 0) (Cas (codes "a") 7 (pos 0) 2 (3 ∷ [])) ∷
    Ask 0 (DataNode 0) (Get (codes "a")) ∷
    Ask 0 (DataNode 0) (Cas (codes "z") 0 (pos 0) 1 (4 ∷ [])) ∷
    Ask 0 (DataNode 0) (Add (codes "a") 0 (pos 0) (5 ∷ [])) ∷
    Ask 0 (DataNode 0) (Replace (codes "z") 0 (pos 0) (5 ∷ [])) ∷
    Ask 0 (DataNode 0) (Delete (codes "z")) ∷
    Ask 0 (DataNode 0) (Delete (codes "a")) ∷
    Ask 0 (DataNode 0) (Get (codes "a")) ∷ [])
    (
    codes "reply stored" ∷
    codes "= 0.0 set a 0 01 stored" ∷
    codes "reply stored" ∷
    codes "= 1.0 set a 0 02 stored" ∷
    codes "reply exists" ∷
    codes "= 0.1 cas a 0 1 03 exists" ∷
    codes "reply stored" ∷
    codes "= 0.2 cas a 7 2 03 stored" ∷
    codes "reply value 7 3 03" ∷
    codes "= 0.3 get a value 7 3 03" ∷
    codes "reply not_found" ∷
    codes "= 0.4 cas z 0 1 04 not_found" ∷
    codes "reply not_stored" ∷
    codes "= 0.5 add a 0 05 not_stored" ∷
    codes "reply not_stored" ∷
    codes "= 0.6 replace z 0 05 not_stored" ∷
    codes "reply not_found" ∷
    codes "= 0.7 delete z not_found" ∷
    codes "reply deleted" ∷
    codes "= 0.8 delete a deleted" ∷
    codes "reply miss" ∷
    codes "= 0.9 get a miss" ∷ [])

-- expiry and touch
abbrev pub Expiry : Type 0
Expiry = writes (shape 1 0 1 16) (
    Time 100 ∷
    Ask 0 (DataNode 0) (Set (codes "a") 0 (pos 10) (65 ∷ [])) ∷
    Time 109 ∷
    Ask 0 (DataNode 0) (Touch (codes "a") (pos 5)) ∷
    Time 113 ∷
    Ask 0 (DataNode 0) (Get (codes "a")) ∷
    Time 114 ∷
    Ask 0 (DataNode 0) (Get (codes "a")) ∷
    Time 114 ∷
    Ask 0 (DataNode 0) (Add (codes "a") 0 (negsuc 0) (66 ∷ [])) ∷
    Time 114 ∷
    Ask 0 (DataNode 0) (Get (codes "a")) ∷ [])
    (
    codes "reply stored" ∷
    codes "= 0.0 @100 set a 0 41 10 stored" ∷
    codes "reply touched" ∷
    codes "= 0.1 @109 touch a 5 touched" ∷
    codes "reply value 0 1 41" ∷
    codes "= 0.2 @113 get a value 0 1 41" ∷
    codes "reply miss" ∷
    codes "= 0.3 @114 get a miss" ∷
    codes "reply stored" ∷
    codes "= 0.4 @114 add a 0 42 -1 stored" ∷
    codes "reply miss" ∷
    codes "= 0.5 @114 get a miss" ∷ [])

-- append, prepend, incr and decr
abbrev pub Numerals : Type 0
Numerals = writes (shape 1 0 4 16) (
    Ask 0 (DataNode 0) (Set (codes "n") 0 (pos 0) (57 ∷ 57 ∷ [])) ∷
    Ask 0 (DataNode 0) (Incr (codes "n") 1) ∷
    Ask 0 (DataNode 0) (Decr (codes "n") 200) ∷
    Ask 0 (DataNode 0) (Append (codes "n") (120 ∷ [])) ∷
    Ask 0 (DataNode 0) (Incr (codes "n") 1) ∷
    Ask 0 (DataNode 0) (Get (codes "n")) ∷
    Ask 0 (DataNode 0) (Prepend (codes "z") (65 ∷ [])) ∷ [])
    (
    codes "reply stored" ∷
    codes "= 0.0 set n 0 3939 stored" ∷
    codes "reply number 100" ∷
    codes "= 0.1 incr n 1 number 100" ∷
    codes "reply number 0" ∷
    codes "= 0.2 decr n 200 number 0" ∷
    codes "reply stored" ∷
    codes "= 0.3 append n 78 stored" ∷
    codes "reply not_number" ∷
    codes "= 0.4 incr n 1 not_number" ∷
    codes "reply value 0 4 3078" ∷
    codes "= 0.5 get n value 0 4 3078" ∷
    codes "reply not_stored" ∷
    codes "= 0.6 prepend z 41 not_stored" ∷ [])
