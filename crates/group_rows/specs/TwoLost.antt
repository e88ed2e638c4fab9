-- Rows with two lost data processes. Each is a script, by lines, and what it writes.
use Rattle.std.specs.Prelude.{pos, [], ◌∷◌, codes}
use Rattle.group_types.specs.declared.process.ProcessId.TheVariants.{DataNode, ParityNode}
use Rattle.memc_table.specs.declared.act.Act.TheVariants.{Get, Set}
use Rattle.scenario_text.specs.declared.line.Line.TheVariants.{Ask, Fail, Flush, Drain, Show}
use Rattle.group_rows.specs.Script.{shape, writes}

-- two data processes are lost
abbrev pub TwoLost : Type 0
TwoLost = writes (shape 3 2 1 16) (
    Ask 0 (DataNode 0) (Set (codes "g") 0 (pos 0) (1 ∷ [])) ∷
    Ask 0 (DataNode 1) (Set (codes "a") 0 (pos 0) (2 ∷ [])) ∷
    Ask 0 (DataNode 2) (Set (codes "c") 0 (pos 0) (3 ∷ [])) ∷
    Drain ∷
    Flush (DataNode 0) ∷
    Flush (DataNode 1) ∷
    Flush (DataNode 2) ∷
    Drain ∷
    Show (ParityNode 0) (record { at = 0; len = 1 }) ∷
    Show (ParityNode 1) (record { at = 0; len = 1 }) ∷
    Fail (DataNode 0) 0 ∷
    Fail (DataNode 1) 0 ∷
    Drain ∷
    Ask 0 (ParityNode 0) (Get (codes "g")) ∷
    Drain ∷
    Ask 0 (ParityNode 0) (Get (codes "g")) ∷
    Ask 0 (ParityNode 0) (Get (codes "a")) ∷ [])
    (
    codes "ticket 1" ∷
    codes "ticket 1" ∷
    codes "ticket 1" ∷
    codes "= 0.0 set g 0 01 stored" ∷
    codes "= 0.1 set a 0 02 stored" ∷
    codes "= 0.2 set c 0 03 stored" ∷
    codes "drained 12" ∷
    codes "done" ∷
    codes "done" ∷
    codes "done" ∷
    codes "drained 6" ∷
    codes "shown 1,1,1 b2" ∷
    codes "shown 1,1,1 01" ∷
    codes "done" ∷
    codes "done" ∷
    codes "drained 10" ∷
    codes "retry block 0" ∷
    codes "drained 7" ∷
    codes "reply value 0 1 01" ∷
    codes "= 0.4 get g value 0 1 01" ∷
    codes "reply value 0 1 02" ∷
    codes "= 0.5 get a value 0 1 02" ∷ [])

-- a second loss during an open session
abbrev pub SecondLoss : Type 0
SecondLoss = writes (shape 3 2 1 16) (
    Ask 0 (DataNode 0) (Set (codes "g") 0 (pos 0) (1 ∷ [])) ∷
    Ask 0 (DataNode 1) (Set (codes "a") 0 (pos 0) (2 ∷ [])) ∷
    Ask 0 (DataNode 2) (Set (codes "c") 0 (pos 0) (3 ∷ [])) ∷
    Drain ∷
    Flush (DataNode 0) ∷
    Flush (DataNode 1) ∷
    Flush (DataNode 2) ∷
    Drain ∷
    Show (ParityNode 0) (record { at = 0; len = 1 }) ∷
    Show (ParityNode 1) (record { at = 0; len = 1 }) ∷
    Fail (DataNode 0) 0 ∷
    Drain ∷
    Ask 0 (ParityNode 0) (Get (codes "g")) ∷
    Fail (DataNode 1) 0 ∷
    Drain ∷
    Ask 0 (ParityNode 0) (Get (codes "a")) ∷
    Drain ∷
    Ask 0 (ParityNode 0) (Get (codes "g")) ∷
    Ask 0 (ParityNode 0) (Get (codes "a")) ∷ [])
    (
    codes "ticket 1" ∷
    codes "ticket 1" ∷
    codes "ticket 1" ∷
    codes "= 0.0 set g 0 01 stored" ∷
    codes "= 0.1 set a 0 02 stored" ∷
    codes "= 0.2 set c 0 03 stored" ∷
    codes "drained 12" ∷
    codes "done" ∷
    codes "done" ∷
    codes "done" ∷
    codes "drained 6" ∷
    codes "shown 1,1,1 b2" ∷
    codes "shown 1,1,1 01" ∷
    codes "done" ∷
    codes "drained 6" ∷
    codes "retry block 0" ∷
    codes "done" ∷
    codes "drained 9" ∷
    codes "retry block 0" ∷
    codes "drained 7" ∷
    codes "reply value 0 1 01" ∷
    codes "= 0.5 get g value 0 1 01" ∷
    codes "reply value 0 1 02" ∷
    codes "= 0.6 get a value 0 1 02" ∷ [])
