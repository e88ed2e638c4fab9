-- Rows of processes that fail while they take over. Each is a script, by lines, and what it writes.
use Rattle.std.specs.Prelude.{pos, [], ◌∷◌, codes}
use Rattle.group_types.specs.declared.process.ProcessId.TheVariants.{DataNode, ParityNode}
use Rattle.memc_table.specs.declared.act.Act.TheVariants.{Get, Set}
use Rattle.scenario_text.specs.declared.line.Line.TheVariants.{Ask, Collect, Deliver, Fail, Trace, Drain}
use Rattle.group_rows.specs.Script.{shape, writes}

-- a new head tells one process alone, and fails
abbrev pub PartialAdoption : Type 0
PartialAdoption = writes (shape 2 3 4 16) (
    Ask 0 (DataNode 0) (Set (codes "a") 0 (pos 0) (1 ∷ [])) ∷
    Deliver (DataNode 0) (ParityNode 0) ∷
    Fail (DataNode 0) 0 ∷
    Deliver (DataNode 0) (ParityNode 0) ∷
    Deliver (ParityNode 0) (ParityNode 2) ∷
    Fail (ParityNode 0) 0 ∷
    Drain ∷
    Collect 0 0 (DataNode 0) ∷
    Ask 1 (ParityNode 1) (Get (codes "a")) ∷
    Ask 1 (ParityNode 1) (Set (codes "a") 0 (pos 0) (2 ∷ [])) ∷
    Drain ∷
    Ask 1 (ParityNode 1) (Set (codes "a") 0 (pos 0) (2 ∷ [])) ∷
    Drain ∷ [])
    (
    codes "ticket 1" ∷
    codes "done" ∷
    codes "done" ∷
    codes "done" ∷
    codes "done" ∷
    codes "done" ∷
    codes "drained 8" ∷
    codes "lost" ∷
    codes "reply miss" ∷
    codes "= 1.0 get a miss" ∷
    codes "retry block 0" ∷
    codes "drained 3" ∷
    codes "ticket 1" ∷
    codes "= 1.2 set a 0 02 stored" ∷
    codes "drained 2" ∷ [])

-- the fate of a call: gone
abbrev pub FateGone : Type 0
FateGone = writes (shape 2 2 4 16) (
    Ask 0 (DataNode 0) (Set (codes "a") 0 (pos 0) (1 ∷ [])) ∷
    Deliver (DataNode 0) (ParityNode 1) ∷
    Fail (DataNode 0) 0 ∷
    Deliver (DataNode 0) (ParityNode 0) ∷
    Trace 0 0 (record { 0 = 0 }) (ParityNode 0) ∷
    Drain ∷
    Trace 0 0 (record { 0 = 0 }) (ParityNode 0) ∷
    Ask 0 (ParityNode 0) (Get (codes "a")) ∷ [])
    (
    codes "ticket 1" ∷
    codes "done" ∷
    codes "done" ∷
    codes "done" ∷
    codes "not_yet" ∷
    codes "drained 4" ∷
    codes "gone" ∷
    codes "reply miss" ∷
    codes "= 0.1 get a miss" ∷ [])

-- the fate of a call whose update was cut off
abbrev pub FateCutBefore : Type 0
FateCutBefore = writes (shape 2 1 4 16) (
    Ask 0 (DataNode 0) (Set (codes "a") 0 (pos 0) (65 ∷ [])) ∷
    Fail (DataNode 0) 0 ∷
    Drain ∷
    Collect 0 0 (DataNode 0) ∷
    Ask 1 (ParityNode 0) (Get (codes "a")) ∷
    Trace 0 0 (record { 0 = 0 }) (ParityNode 0) ∷ [])
    (
    codes "ticket 1" ∷
    codes "done" ∷
    codes "drained 2" ∷
    codes "lost" ∷
    codes "reply miss" ∷
    codes "= 1.0 get a miss" ∷
    codes "gone" ∷ [])

-- the fate of a call whose update lived
abbrev pub FateCutBehind : Type 0
FateCutBehind = writes (shape 2 1 4 16) (
    Ask 0 (DataNode 0) (Set (codes "a") 0 (pos 0) (65 ∷ [])) ∷
    Fail (DataNode 0) 4294967295 ∷
    Drain ∷
    Trace 0 0 (record { 0 = 0 }) (ParityNode 0) ∷ [])
    (
    codes "ticket 1" ∷
    codes "done" ∷
    codes "= 0.0 set a 0 41 stored" ∷
    codes "drained 3" ∷
    codes "reply stored" ∷ [])
