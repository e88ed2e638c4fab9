-- Rows that decode lost blocks. Each is a script, by lines, and what it writes.
use Rattle.std.specs.Prelude.{pos, [], ◌∷◌, codes}
use Rattle.group_types.specs.declared.process.ProcessId.TheVariants.{DataNode, ParityNode}
use Rattle.memc_table.specs.declared.act.Act.TheVariants.{Get, Set, Touch}
use Rattle.scenario_text.specs.declared.line.Line.TheVariants.{Ask, Collect, Deliver, Fail, Flush, Drain, Show}
use Rattle.group_rows.specs.Script.{shape, writes}

-- the code by hand
abbrev pub CodeByHand : Type 0
CodeByHand = writes (shape 2 1 4 16) (
    Ask 0 (DataNode 0) (Set (codes "a") 0 (pos 0) (65 ∷ [])) ∷
    Ask 1 (DataNode 1) (Set (codes "b") 0 (pos 0) (66 ∷ [])) ∷
    Drain ∷
    Show (ParityNode 0) (record { at = 0; len = 2 }) ∷
    Flush (DataNode 0) ∷
    Flush (DataNode 1) ∷
    Drain ∷
    Show (ParityNode 0) (record { at = 0; len = 2 }) ∷
    Show (DataNode 1) (record { at = 0; len = 2 }) ∷
    Fail (DataNode 1) 0 ∷
    Ask 1 (ParityNode 0) (Get (codes "b")) ∷
    Drain ∷
    Ask 1 (ParityNode 0) (Get (codes "b")) ∷
    Drain ∷
    Ask 1 (ParityNode 0) (Get (codes "b")) ∷ [])
    (
    codes "ticket 1" ∷
    codes "ticket 1" ∷
    codes "= 0.0 set a 0 41 stored" ∷
    codes "= 1.0 set b 0 42 stored" ∷
    codes "drained 4" ∷
    codes "shown 0,0 0000" ∷
    codes "done" ∷
    codes "done" ∷
    codes "drained 2" ∷
    codes "shown 1,1 6000" ∷
    codes "shown 1 4200" ∷
    codes "done" ∷
    codes "moved" ∷
    codes "drained 2" ∷
    codes "retry block 0" ∷
    codes "drained 3" ∷
    codes "reply value 0 1 42" ∷
    codes "= 1.3 get b value 0 1 42" ∷ [])

-- a touch needs no block of a lost partition, and a get does
abbrev pub TouchWithoutBlock : Type 0
TouchWithoutBlock = writes (shape 2 1 4 16) (
    Ask 0 (DataNode 0) (Set (codes "a") 0 (pos 0) (65 ∷ [])) ∷
    Drain ∷
    Collect 0 0 (DataNode 0) ∷
    Fail (DataNode 0) 0 ∷
    Drain ∷
    Ask 0 (ParityNode 0) (Touch (codes "a") (pos 50)) ∷
    Ask 0 (ParityNode 0) (Get (codes "a")) ∷
    Drain ∷
    Ask 0 (ParityNode 0) (Get (codes "a")) ∷ [])
    (
    codes "ticket 1" ∷
    codes "= 0.0 set a 0 41 stored" ∷
    codes "drained 2" ∷
    codes "reply stored" ∷
    codes "done" ∷
    codes "drained 2" ∷
    codes "reply touched" ∷
    codes "= 0.1 touch a 50 touched" ∷
    codes "retry block 0" ∷
    codes "drained 3" ∷
    codes "reply value 0 1 41" ∷
    codes "= 0.3 get a value 0 1 41" ∷ [])

-- an update is settled, its settling isn't sent, and its head fails
abbrev pub SettledUnsent : Type 0
SettledUnsent = writes (shape 2 2 4 16) (
    Ask 0 (DataNode 0) (Set (codes "a") 0 (pos 0) (65 ∷ [])) ∷
    Drain ∷
    Collect 0 0 (DataNode 0) ∷
    Fail (DataNode 0) 0 ∷
    Ask 1 (ParityNode 0) (Get (codes "a")) ∷
    Deliver (DataNode 0) (ParityNode 0) ∷
    Ask 1 (ParityNode 0) (Get (codes "a")) ∷
    Drain ∷
    Show (ParityNode 0) (record { at = 0; len = 1 }) ∷
    Ask 1 (ParityNode 0) (Get (codes "a")) ∷
    Drain ∷
    Ask 1 (ParityNode 0) (Get (codes "a")) ∷ [])
    (
    codes "ticket 1" ∷
    codes "= 0.0 set a 0 41 stored" ∷
    codes "drained 4" ∷
    codes "reply stored" ∷
    codes "done" ∷
    codes "moved" ∷
    codes "done" ∷
    codes "retry pending 0 1" ∷
    codes "drained 4" ∷
    codes "shown 1,0 ae" ∷
    codes "retry block 0" ∷
    codes "drained 3" ∷
    codes "reply value 0 1 41" ∷
    codes "= 1.3 get a value 0 1 41" ∷ [])

-- an update comes to a row between a mark and the end of the session
abbrev pub MarkedRow : Type 0
MarkedRow = writes (shape 3 1 1 16) (
    Ask 0 (DataNode 1) (Set (codes "a") 0 (pos 0) (16 ∷ [])) ∷
    Drain ∷
    Flush (DataNode 1) ∷
    Drain ∷
    Fail (DataNode 1) 0 ∷
    Drain ∷
    Ask 0 (ParityNode 0) (Get (codes "a")) ∷
    Deliver (ParityNode 0) (DataNode 0) ∷
    Ask 1 (DataNode 0) (Set (codes "g") 0 (pos 0) (7 ∷ [])) ∷
    Deliver (DataNode 0) (ParityNode 0) ∷
    Deliver (DataNode 0) (ParityNode 0) ∷
    Deliver (DataNode 0) (ParityNode 0) ∷
    Deliver (ParityNode 0) (DataNode 0) ∷
    Flush (DataNode 0) ∷
    Deliver (DataNode 0) (ParityNode 0) ∷
    Show (ParityNode 0) (record { at = 0; len = 1 }) ∷
    Drain ∷
    Ask 0 (ParityNode 0) (Get (codes "a")) ∷ [])
    (
    codes "ticket 1" ∷
    codes "= 0.0 set a 0 10 stored" ∷
    codes "drained 2" ∷
    codes "done" ∷
    codes "drained 1" ∷
    codes "done" ∷
    codes "drained 3" ∷
    codes "retry block 0" ∷
    codes "done" ∷
    codes "ticket 1" ∷
    codes "done" ∷
    codes "done" ∷
    codes "done" ∷
    codes "done" ∷
    codes "= 1.0 set g 0 07 stored" ∷
    codes "done" ∷
    codes "done" ∷
    codes "shown 1,1,0 0f" ∷
    codes "drained 3" ∷
    codes "reply value 0 1 10" ∷
    codes "= 0.2 get a value 0 1 10" ∷ [])
